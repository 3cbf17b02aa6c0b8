use Rattle.std.proofs.Common.{refl}
use Rattle.journal.specs.Membership.{place_of}
use Rattle.hub_state.proofs.SpaceLemmas.{no-socket}
use Rattle.hub_state.proofs.state.State.socket_of.Goals as goal

pub returns-in-Err : goal.returns-in-Err
returns-in-Err c =
    let h = c.args.self.now in
    rw (no-socket h c.args.client (place_of h.limits c.args.space.now) c.facts.ensures.sound.in_spaces c.in-Err.ensures.unknown) refl
