use Rattle.std.proofs.Common.{refl, sym, ◌∙◌, rules}
use Rattle.dispatch.specs.Scene.{seen}
use Rattle.dispatch.specs.Packets.{course}
use Rattle.dispatch.proofs.ConnectLemmas.{asks-nowhere, asks-free}
use Rattle.dispatch.proofs.packets.connect.Goals as goal

pub returns-then-not-has_space : goal.returns-then-not-has_space
returns-then-not-has_space g c =
    let ids = g.I.IdSource.stream c.args.ids.now in (
      search rules,
      asks-nowhere (g.A.App.policy c.args.app.now) c.args.scene.now.visit.client c.args.header.space c.args.header.payload c.args.scene.now.visit.moment (course (seen c.args.scene.now) ids) c.refuse.result
          (course (seen c.refuse.new.scene) ids)
          (sym (rw c.as_str-space.ensures at c.has_space.ensures) ∙ c.if-not-has_space.true)
          (rw c.as_str-space.ensures at c.refuse.ensures.1, refl),
    )

pub returns : goal.returns
returns g c =
    let old = c.args.scene.now in
    let ids = g.I.IdSource.stream in (
      search rules,
      asks-free (g.A.App.policy c.args.app.now) old.visit.client c.args.header.space c.args.header.payload old.visit.moment (course (seen old) (ids c.args.ids.now)) c.recover_or_ask.result
          (course (seen c.recover_or_ask.new.scene) (ids c.recover_or_ask.new.ids))
          (sym (rw c.as_str-space.ensures at c.has_space.ensures) ∙ c.if-not-has_space.false)
          (sym (rw c.as_str-space.ensures at c.socket_of.ensures) ∙ c.in_default.is)
          c.recover_or_ask.ensures.1,
    )
