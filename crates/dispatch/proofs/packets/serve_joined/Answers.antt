use Rattle.std.proofs.Common.{refl, rules}
use Rattle.events.specs.declared.app.Who.{Who}
use Rattle.dispatch.specs.Scene.{seen}
use Rattle.dispatch.proofs.ActLemmas.{stands-seated}
use Rattle.dispatch.proofs.PacketLemmas.{seated-at, joined}
use Rattle.dispatch.proofs.packets.serve_joined.Goals as goal

pub serve-requires-clause-seated : goal.serve-requires-clause-seated
serve-requires-clause-seated g c =
    seated-at c.args.scene.now.state.now (record { client = c.args.scene.now.visit.client; space = c.args.packet.header.space; sid = c.in-Some.sid }) c.facts.ensures.sound.in_spaces c.requires.0 (rw c.as_str.ensures at c.in-Some.ensures)

pub serve-requires-clause-acting : goal.serve-requires-clause-acting
serve-requires-clause-acting g c =
    let who : Who = record { client = c.args.scene.now.visit.client; space = c.args.packet.header.space; sid = c.in-Some.sid } in (
      refl,
      stands-seated who c.args.scene.now.visit.moment (seen c.args.scene.now) c.requires.1
          (seated-at c.args.scene.now.state.now who c.facts.ensures.sound.in_spaces c.requires.0 (rw c.as_str.ensures at c.in-Some.ensures)),
    )

pub returns : goal.returns
returns g c =
    let who : Who = record { client = c.args.scene.now.visit.client; space = c.args.packet.header.space; sid = c.in-Some.sid } in (
      search rules,
      joined (g.A.App.policy c.args.app.now) c.args.scene.now.visit.client c.args.packet c.args.scene.now.visit.moment (seen c.args.scene.now) c.serve.result
          (seen c.serve.new.scene) c.in-Some.sid (rw c.as_str.ensures at c.in-Some.ensures)
          (seated-at c.args.scene.now.state.now who c.facts.ensures.sound.in_spaces c.requires.0 (rw c.as_str.ensures at c.in-Some.ensures))
          c.serve.ensures.1,
    )
