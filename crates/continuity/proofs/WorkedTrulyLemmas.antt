-- The worked history is true to what B heard.
use Rattle.std.proofs.Common.{◌≡◌, true, refl}
use Rattle.std.specs.Cmp.{nat_cmp_total}
use Rattle.std.specs.FinSet.{contains-insert, contains-union}
use Rattle.terms.specs.Hexadecimal.{hex_digits}
use Rattle.terms.specs.Room.{own_room}
use Rattle.room_maps.proofs.OrderLemmas.{pair_cmp_total}
use Rattle.room_maps.proofs.MembershipLaws.{is_socket-without_socket, is_in-without_socket}
use Rattle.recovery.specs.PacketLog as packets
use Rattle.journal.specs.Membership.{sockets, socket_with, sockets_of, without_sockets, rooms}
use Rattle.journal.specs.Log.{log, log_calls}
use Rattle.continuity.specs.Session.{kept}
use Rattle.continuity.specs.Heard.{all_given, up_to, heard}
use Rattle.continuity.specs.Truly.{has_begun, is_true_name, until_lost, KeepsSince, KeepsItsRooms, NamesTruly}
use Rattle.continuity.specs.Worked.{limits, new_hub, first_loss, first_break, second_loss, named_4}

names-1 : is_true_name new_hub limits first_loss 6 1 ≡ true
unfolding heard has_begun all_given up_to sockets sockets_of without_sockets rooms log log_calls packets.unswept packets.newest packets.logged_bytes own_room hex_digits
names-1 = simp (is_in-without_socket, is_socket-without_socket, contains-insert pair_cmp_total, contains-insert nat_cmp_total) refl

names-4 : is_true_name new_hub limits (second_loss first_break) 6 4 ≡ true
unfolding heard has_begun all_given up_to sockets sockets_of without_sockets rooms log log_calls packets.unswept packets.newest packets.logged_bytes own_room hex_digits
names-4 = simp (is_in-without_socket, is_socket-without_socket, contains-insert pair_cmp_total, contains-insert nat_cmp_total, contains-union pair_cmp_total) refl

keeps-1 : KeepsItsRooms new_hub limits first_loss 6 1
unfolding KeepsSince until_lost sockets sockets_of socket_with rooms kept
keeps-1 = (λ room. refl, λ e. (λ room. refl, λ e. (λ room. refl, λ e. absurd (cc e))))

keeps-4 : KeepsItsRooms new_hub limits (second_loss first_break) 6 4
unfolding KeepsSince until_lost sockets sockets_of socket_with rooms kept
keeps-4 = (λ room. refl, λ e. (λ room. refl, λ e. absurd (cc e)))

truly-once : NamesTruly new_hub limits first_break 6
unfolding NamesTruly sockets
truly-once =
    λ e. (
      (λ same. record { named = names-1; same_rooms = keeps-1 }),
      λ e. (tt, λ e. (refl, λ e. (tt, λ e. (refl, λ e. (tt, λ e. (refl, λ e. (tt, λ e. (tt, λ e. (tt, λ e. (tt, λ e. absurd (cc e))))))))))),
    )

pub truly-twice : NamesTruly new_hub limits (named_4 first_break) 6
unfolding NamesTruly sockets
truly-twice =
    λ e. (
      (λ same. record { named = names-4; same_rooms = keeps-4 }),
      λ e. (tt, λ e. (refl, λ e. (tt, λ e. (tt, λ e. (refl, λ e. (tt, truly-once)))))),
    )
