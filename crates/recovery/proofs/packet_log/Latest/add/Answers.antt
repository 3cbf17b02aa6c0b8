use Rattle.std.proofs.Common.{◌∷◌, [], ◌++◌, ap, ◌∙◌}
use Rattle.circular_buffer.specs.Buffer.{Buffer}
use Rattle.recovery.specs.declared.packet_log.Logged.{Logged}
use Rattle.recovery.specs.PacketLog.{PlainLogged}
use Rattle.recovery.specs.Latest.{Shelf, shelf}
use Rattle.recovery.proofs.LatestLemmas.{added_beside, left_out}
use Rattle.recovery.proofs.packet_log.Latest.add.Goals as goal

pub returns-in-Ok : goal.returns-in-Ok
returns-in-Ok c =
    let e : PlainLogged = c.args.logged in
    ap (λ (b : Buffer Logged). shelf b.capacity c.self.inside.bytes b.items) c.in-Ok.ensures.ok
    ∙ ap (λ (s : Shelf). shelf s.limit s.bytes (s.entries ++ e ∷ [])) c.self.view_is
    ∙ added_beside c.args.self.now c.make_space.new.self e c.make_space.ensures.limits c.make_space.ensures.newest c.in-Some.ensures.space

pub returns-in_default : goal.returns-in_default
returns-in_default c =
    left_out c.args.self.now c.make_space.new.self c.args.logged c.make_space.ensures.limits c.make_space.ensures.newest c.make_space.ensures.enough c.in_default.ensures.none
