use Rattle.std.proofs.Common.{subst}
use Rattle.room_maps.specs.Mirror.{IsMirrored}
use Rattle.room_maps.proofs.MirrorLemmas.{mirrored_of}
use Rattle.room_maps.proofs.rooms.Rooms.mirrors.Goals as goal

pub returns : goal.returns
returns c =
    let a = c.self.inside.by_socket in
    let b = c.self.inside.by_room in
    subst (λ v. IsMirrored v a b) c.self.view_is (mirrored_of a b c.self.invariant.0)
