use Rattle.std.proofs.Common.{◌≡◌, ℕ, List, inr, inl, refl, sym, ◌∙◌, ap, subst, Option, Some, Ok, Err, rules}
use Rattle.journal.specs.Journal.{History}
use Rattle.hub_state.specs.Recovering.{recovery_asked}
use Rattle.dispatch.specs.Commands.{Recovers}
use Rattle.dispatch.specs.Effects.{scene}
use Rattle.dispatch.specs.Scene.{seen, visit_of}
use Rattle.dispatch.specs.declared.scene.Tally.{Tally}
use Rattle.dispatch.proofs.ActLemmas.{stands-seated}
use Rattle.dispatch.specs.Packets.{course, socket_in, Names, AsksApp}
use Rattle.dispatch.proofs.ConnectLemmas.{seated-back}
use Rattle.dispatch.proofs.packets.recover_or_ask.Goals as goal

pub returns-in_err-sid : goal.returns-in_err-sid
returns-in_err-sid g c =
    let old = c.args.scene.now in
    let fault = c.in_err-sid.field-0.0 in
    let names : Names c.args.header.payload (Some c.in-Some.named) = search rules in
    let failed : c.from_residual-in_err-sid.result ≡ Err (record { fault = fault; effects = 0 }) = search rules in
    let stops = subst (λ (x : List ℕ). Recovers (recovery_asked old.visit.client x c.in-Some.named.0 c.in-Some.named.1 old.state.now) old.state.now old.visit.moment (Err fault) c.recover.new.state) c.as_str-space.ensures c.in_err-sid.ensures in
    let same = ap (λ (h : History). scene h old.line.now old.tally.now) stops.1 in
    rw failed (
      search rules,
      inr (inr (c.in-Some.named, names, inr (inr (record { fault = fault; effects = 0 }, refl, stops.0, (refl, same), refl)))),
    )

pub returns-in_default-2 : goal.returns-in_default-2
returns-in_default-2 g c =
    let old = c.args.scene.now in
    let ids = g.I.IdSource.stream c.args.ids.now in
    let names : Names c.args.header.payload (Some c.in-Some.named) = search rules in
    let back = subst (λ (x : List ℕ). Recovers (recovery_asked old.visit.client x c.in-Some.named.0 c.in-Some.named.1 old.state.now) old.state.now old.visit.moment (Ok c.in_ok-sid.field-0) c.recover.new.state) c.as_str-space.ensures c.in_ok-sid.ensures in
    let gone = subst (λ (o : Option ℕ). Recovers (recovery_asked old.visit.client c.args.header.space c.in-Some.named.0 c.in-Some.named.1 old.state.now) old.state.now old.visit.moment (Ok o) c.recover.new.state) c.in_default-2.is back in
    let asks = subst (λ (h : History). AsksApp (g.A.App.policy c.args.app.now) c.args.header.space c.args.header.payload (visit_of old.visit) (course (scene h old.line.now old.tally.now) ids)
    c.ask_app-in_default-2.result (course (seen c.ask_app-in_default-2.new.scene) (g.I.IdSource.stream c.ask_app-in_default-2.new.ids))) gone.1 c.ask_app-in_default-2.ensures.1 in (
      search rules,
      inr (inr (c.in-Some.named, names, inr (inl (gone.0, asks)))),
    )

pub welcome-requires : goal.welcome-requires
welcome-requires g c =
    let old = c.args.scene.now in
    let client = old.visit.client in
    let space = c.args.header.space in
    let r = recovery_asked client space c.in-Some.named.0 c.in-Some.named.1 old.state.now in
    let back = subst (λ (o : Option ℕ). Recovers r old.state.now old.visit.moment (Ok o) c.recover.new.state) c.in-Some-2.is
    (subst (λ (x : List ℕ). Recovers (recovery_asked client x c.in-Some.named.0 c.in-Some.named.1 old.state.now) old.state.now old.visit.moment (Ok c.in_ok-sid.field-0) c.recover.new.state) c.as_str-space.ensures c.in_ok-sid.ensures) in
    let who = socket_in client space c.in-Some-2.sid in
    rw c.socket_in.ensures (
      refl,
      stands-seated who old.visit.moment (scene c.recover.new.state c.connect.new.self c.count.new.self) (ap (λ (t : Tally). t.done.closed) c.count.ensures ∙ c.requires.ready.1)
          (seated-back who old.visit.moment r old.state.now c.recover.new.state refl (sym back.1) back.0 c.requires.ready.0 c.requires.free.0),
    )

pub returns : goal.returns
returns g c =
    let old = c.args.scene.now in
    let client = old.visit.client in
    let space = c.args.header.space in
    let r = recovery_asked client space c.in-Some.named.0 c.in-Some.named.1 old.state.now in
    let names : Names c.args.header.payload (Some c.in-Some.named) = search rules in
    let back = subst (λ (o : Option ℕ). Recovers r old.state.now old.visit.moment (Ok o) c.recover.new.state) c.in-Some-2.is
    (subst (λ (x : List ℕ). Recovers (recovery_asked client x c.in-Some.named.0 c.in-Some.named.1 old.state.now) old.state.now old.visit.moment (Ok c.in_ok-sid.field-0) c.recover.new.state) c.as_str-space.ensures c.in_ok-sid.ensures) in
    let who = c.socket_in.ensures ∙ ap (socket_in client space) back.1 in
    let between = scene c.recover.new.state c.connect.new.self c.count.new.self in
    let counted = ap (λ (t : Tally). scene c.recover.new.state c.connect.new.self t) c.count.ensures in
    let welcomes = rw who at c.welcome.ensures.1 in
    let advances = rw back.1 at c.connect.ensures in (
      search rules,
      inr (inr (c.in-Some.named, names, inl ((between, back.0, advances, counted, welcomes), refl))),
    )
