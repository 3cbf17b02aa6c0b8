use Rattle.std.proofs.Common.{rules}
use Rattle.dispatch.specs.Scene.{seen}
use Rattle.dispatch.specs.Packets.{course}
use Rattle.dispatch.proofs.PacketLemmas.{takes-text}
use Rattle.dispatch.proofs.packets.handle.Goals as goal

pub returns-in-Message : goal.returns-in-Message
returns-in-Message g c =
    let took = rw c.as_str.ensures at c.text-given.ensures in (
      search rules,
      rw c.in-Message.is
          (takes-text (g.A.App.policy c.args.app.now) c.args.scene.now.visit.client c.in-Message.text c.args.scene.now.visit.moment
          (course (seen c.args.scene.now) (g.I.IdSource.stream c.args.ids.now))
          c.text-given.new.self
          c.text-given.result
          c.go_on.result
          (course (seen c.go_on.new.scene) (g.I.IdSource.stream c.go_on.new.ids))
          took.given
          took.advances
          took.fault
          c.go_on.ensures.1),
    )
