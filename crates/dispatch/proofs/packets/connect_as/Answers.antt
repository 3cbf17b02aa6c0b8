use Rattle.std.proofs.Common.{inl, ap, ◌∙◌, rules}
use Rattle.dispatch.specs.declared.scene.Tally.{Tally}
use Rattle.dispatch.specs.Effects.{scene}
use Rattle.dispatch.proofs.ActLemmas.{stands-seated}
use Rattle.dispatch.proofs.ConnectLemmas.{does-all, seated-new}
use Rattle.dispatch.proofs.packets.connect_as.Goals as goal

pub act_all-requires-clause-acting : goal.act_all-requires-clause-acting
act_all-requires-clause-acting c =
    let old = c.args.scene.now in
    let who = c.args.who.now in (
      c.requires.own,
      stands-seated who old.visit.moment (scene c.attach.new.state c.connect.new.self c.count.new.self) (ap (λ (t : Tally). t.done.closed) c.count.ensures ∙ c.requires.ready.1)
          (seated-new who c.args.pid old.visit.moment old.state.now c.attach.new.state (rw c.if-not-branch.false at c.in_ok-attach.ensures) (rw c.requires.own c.requires.ready.0) c.requires.free.0),
    )

pub returns : goal.returns
returns c =
    let old = c.args.scene.now in
    let who = c.args.who.now in (
      search rules,
      inl (
        scene c.attach.new.state c.connect.new.self c.count.new.self,
        rw c.if-not-branch.false at c.in_ok-attach.ensures,
        c.connect.ensures,
        ap (λ (t : Tally). scene c.attach.new.state c.connect.new.self t) c.count.ensures,
        does-all who old.visit.moment 1 c.args.wanted.items _ c.act_all.result _ c.act_all.ensures.ok c.act_all.ensures.err,
      ),
    )
