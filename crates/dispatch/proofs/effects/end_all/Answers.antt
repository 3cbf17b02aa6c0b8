use Rattle.std.proofs.Common.{ℕ, Bool, refl, sym, List, [], ◌∷◌, ◌++◌, ◌∙◌, ap, rules}
use Rattle.connection.specs.Line.{PlainLine}
use Rattle.events.specs.Selection.{PlainSelection}
use Rattle.dispatch.specs.declared.scene.Tally.{Tally}
use Rattle.dispatch.specs.Effects.{scene, dismissed, is_among}
use Rattle.events.specs.Plain.{told, one_more}
use Rattle.dispatch.proofs.ActLemmas.{told-is}
use Rattle.dispatch.proofs.effects.end_all.Goals as goal
use Rattle.dispatch.proofs.effects.end_all.Goals.{then-tally, else-tally}

pub returns : goal.returns
returns c =
    let sid = c.args.who.now.sid in
    let client = c.args.who.now.client in
    let old = c.args.scene.now.tally.now in
    let counted = told-is old c.count.new.self _ _ _ _ c.push.new.self.lists client c.in_ok-ended.field-0.told.items c.retain_others.new.ids.items c.tally.view_is c.count.ensures
    (c.push.ensures ∙ ap (λ (lists : List (List ℕ)). lists ++ c.retain_others.new.ids.items ∷ []) c.reserve.ensures.same)
    c.retain_others.ensures in
    let answered = rw (c.as_str-space.ensures ∙ ap (λ (m : PlainSelection). m.space) c.selection.view_is, ap (λ (m : PlainSelection). m.rooms) c.selection.view_is, ap (λ (m : PlainSelection). m.excepted) c.selection.view_is) at c.in_ok-ended.ensures in
    let among = c.is_among-tally.ensures ∙ ap (is_among sid) (c.as_slice.ensures.value ∙ answered.done.0) in
    let finished = λ (line : PlainLine).
    let at = λ (t : Tally). scene c.disconnect_sockets.new.self line t in
    ap at (ap (λ (t : Tally). record t { ended = c.is_among-tally.result }) counted)
    ∙ ap (λ (ids : List ℕ). at (record old { done = told client ids (one_more old.done); ended = c.is_among-tally.result })) answered.done.1
    ∙ ap (λ (b : Bool). at (record old { done = told client (dismissed c.args.selection c.args.scene.now.state.now).told (one_more old.done); ended = b })) among in
    elim c.if-tally.branch [
      | then-tally w ↦ rw w.scene-is (record {
        same = search rules;
        ok = (answered.does, finished w.disconnect.new.self, rw (sym among ∙ w.if-tally.true) w.disconnect.ensures);
        err = tt;
      })
      | else-tally w ↦ rw w.scene-is (record {
        same = search rules;
        ok = (answered.does, finished c.args.scene.now.line.now, rw (sym among ∙ w.if-tally.false) refl);
        err = tt;
      })
    ]
