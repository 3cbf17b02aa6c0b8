use Rattle.std.proofs.Common.{◌≡◌, ◌<◌, ◌≤◌, ℕ, [], ◌∷◌, nat_lt, false, arith}
use Rattle.std.specs.FinSet as set
use Rattle.std.proofs.lemmas.Bool.Decides.{nat_tests}
use Rattle.terms.specs.Room.{room_cmp, own_room}
use Rattle.room_maps.specs.Membership.{are_too_many, with_socket}
use Rattle.room_maps.proofs.MembershipLemmas.{with_pairs-none}
use Rattle.room_maps.proofs.OrderLemmas.{len-from_list}
use Rattle.room_maps.proofs.rooms.Rooms.enter.Goals as goal

few : (n m : ℕ) → n ≤ m → m < 257 → nat_lt 256 n ≡ false
few n m h k = grind (arith, nat_tests)

-- a socket that is in its own room alone isn't in too many
one_room : (sid : ℕ) → are_too_many sid [] ≡ false
one_room sid = few (set.len (set.from_list {R = room_cmp} (own_room sid ∷ []))) 1 (len-from_list (own_room sid ∷ [])) (omega arith)

pub returns-clause-refused : goal.returns-clause-refused
returns-clause-refused c = let one = one_room c.args.sid in rw one at c.enter_all.ensures.refused

pub returns-clause-memory_alone : goal.returns-clause-memory_alone
returns-clause-memory_alone c = let one = one_room c.args.sid in rw one at c.enter_all.ensures.memory_alone

pub returns-clause-entered : goal.returns-clause-entered
returns-clause-entered c = rw (with_pairs-none (with_socket c.args.self.now c.args.sid) c.args.sid) at c.enter_all.ensures.entered
