-- What the worked history says of heard and due, by computing it.
use Rattle.std.proofs.Common.{◌≡◌, [], ◌∷◌, refl}
use Rattle.std.specs.Cmp.{nat_cmp_total}
use Rattle.std.specs.FinSet.{contains-insert, contains-union, contains-from_list}
use Rattle.terms.specs.Hexadecimal.{hex_digits}
use Rattle.terms.specs.Room.{own_room}
use Rattle.room_maps.proofs.OrderLemmas.{pair_cmp_total}
use Rattle.room_maps.proofs.MembershipLaws.{is_socket-without_socket, is_in-without_socket}
use Rattle.recovery.specs.PacketLog as packets
use Rattle.journal.specs.Membership.{sockets, socket_with, sockets_of, without_sockets, rooms}
use Rattle.journal.specs.Sessions.{sessions}
use Rattle.journal.specs.Log.{log, log_calls}
use Rattle.continuity.specs.Session.{kept}
use Rattle.continuity.specs.Heard.{all_given, up_to, heard, due_casts}
use Rattle.continuity.specs.Worked.{limits, new_hub, first_break, named_4, named_3, sealed}
use Rattle.continuity.proofs.KeptLemmas.{members}

pub heard-once : heard new_hub limits first_break 6 ≡ 1 ∷ 2 ∷ 3 ∷ []
unfolding heard all_given up_to sockets sockets_of without_sockets rooms log log_calls packets.unswept packets.newest packets.logged_bytes own_room hex_digits
heard-once = simp (is_in-without_socket, is_socket-without_socket, contains-insert pair_cmp_total, contains-insert nat_cmp_total) refl

pub due-once : due_casts new_hub limits first_break 6 ≡ 1 ∷ 2 ∷ 3 ∷ []
unfolding due_casts kept socket_with sockets sockets_of without_sockets rooms sessions own_room hex_digits
due-once = simp (members, contains-insert pair_cmp_total) refl

pub heard-twice : heard new_hub limits (named_4 first_break) 6 ≡ 1 ∷ 2 ∷ 3 ∷ 4 ∷ 5 ∷ []
unfolding heard all_given up_to sockets sockets_of without_sockets rooms log log_calls packets.unswept packets.newest packets.logged_bytes own_room hex_digits
heard-twice = simp (is_in-without_socket, is_socket-without_socket, contains-insert pair_cmp_total, contains-insert nat_cmp_total, contains-union pair_cmp_total) refl

pub due-twice : due_casts new_hub limits (named_4 first_break) 6 ≡ 1 ∷ 2 ∷ 3 ∷ 4 ∷ 5 ∷ []
unfolding due_casts kept socket_with sockets sockets_of without_sockets rooms sessions own_room hex_digits
due-twice = simp (members, is_in-without_socket, contains-insert pair_cmp_total, contains-union pair_cmp_total) refl

pub heard-again : heard new_hub limits (named_3 first_break) 6 ≡ 1 ∷ 2 ∷ 3 ∷ 4 ∷ 5 ∷ []
unfolding heard all_given up_to sockets sockets_of without_sockets rooms log log_calls packets.unswept packets.newest packets.logged_bytes own_room hex_digits
heard-again = simp (is_in-without_socket, is_socket-without_socket, contains-insert pair_cmp_total, contains-insert nat_cmp_total, contains-union pair_cmp_total) refl

pub due-again : due_casts new_hub limits (named_3 first_break) 6 ≡ 1 ∷ 2 ∷ 3 ∷ 4 ∷ 5 ∷ []
unfolding due_casts kept socket_with sockets sockets_of without_sockets rooms sessions own_room hex_digits
due-again = simp (members, is_in-without_socket, contains-insert pair_cmp_total, contains-union pair_cmp_total) refl

pub heard-sealed : heard sealed limits (named_4 []) 6 ≡ 4 ∷ 5 ∷ []
unfolding heard all_given up_to sockets sockets_of without_sockets rooms log log_calls packets.unswept packets.newest packets.logged_bytes own_room hex_digits
heard-sealed = simp (is_in-without_socket, is_socket-without_socket, contains-insert pair_cmp_total, contains-insert nat_cmp_total) refl

pub due-sealed : due_casts sealed limits (named_4 []) 6 ≡ 4 ∷ 5 ∷ []
unfolding due_casts kept socket_with sockets sockets_of without_sockets rooms sessions own_room hex_digits
due-sealed = simp (members, contains-from_list pair_cmp_total) refl

pub heard-sealed-again : heard sealed limits (named_3 []) 6 ≡ 4 ∷ 5 ∷ []
unfolding heard all_given log log_calls packets.unswept packets.newest packets.logged_bytes
heard-sealed-again = refl

pub due-sealed-again : due_casts sealed limits (named_3 []) 6 ≡ 4 ∷ 5 ∷ []
unfolding due_casts kept socket_with sockets sockets_of without_sockets rooms sessions own_room hex_digits
due-sealed-again = simp (members, contains-from_list pair_cmp_total) refl
