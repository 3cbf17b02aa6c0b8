use Rattle.std.proofs.Common.{subst}
use Rattle.room_maps.specs.Membership.{AreConsistent}
use Rattle.room_maps.proofs.MirrorLemmas.{consistent_of}
use Rattle.room_maps.proofs.rooms.Rooms.kept_facts.Goals as goal

pub returns : goal.returns
returns c = subst AreConsistent c.self.view_is (consistent_of c.self.inside.by_socket c.self.inside.by_room c.self.invariant.0 c.self.invariant.1)
