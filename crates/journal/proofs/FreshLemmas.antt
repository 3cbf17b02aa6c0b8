-- A hub that has just been made.
use Rattle.std.proofs.Common.{◌≡◌, ℕ, ◌<◌, ◌≤◌, ◌^◌, length, Bool, true, false, [], refl, sym, ◌∙◌, ap, subst, arith, Option, None, Some, nat_lt}
use Rattle.std.proofs.lemmas.Bool.Decides.{nat_tests}
use Rattle.std.specs.List.{IsDistinct}
use Rattle.room_maps.specs.Membership.{RoomSets, no_sockets, AreConsistent}
use Rattle.room_maps.proofs.MembershipLaws.{is_socket-no_sockets}
use Rattle.recovery.specs.PacketLog.{LogContents, newest, unswept, IsRun, Rises, latest}
use Rattle.recovery.specs.SavedTable.{TableContents}
use Rattle.journal.specs.declared.socket.Socket.{Socket}
use Rattle.journal.specs.Plain.{Limits, PlainClient}
use Rattle.journal.specs.Config.{empty_base}
use Rattle.journal.specs.Journal.{moment, total}
use Rattle.journal.specs.Membership.{open_clients, is_open, sockets, socket_with, rooms}
use Rattle.journal.specs.Sessions.{sessions}
use Rattle.journal.specs.Log.{log_calls, log, next_number, next}
use Rattle.journal.specs.Totals.{commands, placed, dropped, handed_out, discarded, waiting_in_all, IsConserved}
use Rattle.journal.specs.Legal.{EachTwo, IsSound, IsLegal}
use Rattle.journal.specs.Fields.{Fields, Counted, client_at}
use Rattle.journal.proofs.CommandLemmas.{IsHub}

module _ (limits : Limits) (first : ℕ) where
  fresh_conserved : IsConserved (empty_base first) limits []
  unfolding placed handed_out discarded total waiting_in_all open_clients
  fresh_conserved = refl

  fresh_sound : length limits.spaces ≤ 65536 → AreConsistent no_sockets → IsSound (empty_base first) limits []
  unfolding open_clients sockets socket_with rooms sessions log log_calls moment unswept newest latest IsRun Rises IsDistinct EachTwo
  fresh_sound few agree = record {
    few_spaces = few;
    clients_once = tt;
    sockets_apart = tt;
    of_open_clients = tt;
    in_spaces = tt;
    seated = is_socket-no_sockets;
    rooms_agree = agree;
    apart = tt;
    sessions_differ = tt;
    few_rooms = tt;
    offsets_rise = tt;
    log_rises = tt;
    log_late = omega arith;
    conserved = fresh_conserved;
  }

  fresh_legal : IsSound (empty_base first) limits [] → IsLegal (empty_base first) limits []
  unfolding IsLegal
  fresh_legal sound = sound

  fresh_counted : Counted (empty_base first) limits (record { commands = 0; placed = 0; dropped = 0; taken = 0; discarded = 0 }) []
  unfolding commands placed dropped handed_out discarded total
  fresh_counted = record { commands = refl; placed = refl; dropped = refl; taken = refl; discarded = refl }

  first_offset_at : first < 2 ^ 64 → Some first ≡ next (empty_base first) []
  unfolding next_number total
  first_offset_at small = let e : nat_lt first (2 ^ 64) ≡ true = grind (arith, nat_tests, small) in rw e refl

  fresh_client : (c : ℕ) → client_at (empty_base first) limits [] c ≡ None
  unfolding is_open open_clients
  fresh_client c = refl

  fresh_fields : (find : ℕ → Option PlainClient) (seat : ℕ → Option Socket) (is_pid : ℕ → Bool) (sets : RoomSets) (table : TableContents) (packets : LogContents) → first < 2 ^ 64
      → ((c : ℕ) → find c ≡ None) → ((s : ℕ) → seat s ≡ None) → ((p : ℕ) → is_pid p ≡ false) → sets ≡ no_sockets
      → table ≡ record { limit = limits.saved; sessions = [] } → packets ≡ record { limit = limits.log; bytes = limits.log_bytes; next = Some first; last = 0; entries = [] }
      → Fields (empty_base first) limits find seat is_pid sets table packets 0 []
  unfolding sockets socket_with rooms sessions log log_calls unswept newest moment
  fresh_fields find seat is_pid sets table packets small no_client no_seat no_pid no_room no_session no_packet = record {
    clients = λ c. no_client c ∙ sym (fresh_client c);
    seats = no_seat;
    pids = no_pid;
    rooms_are = no_room;
    saved_is = no_session;
    log_is = rw no_packet (ap (λ n. record { limit = limits.log; bytes = limits.log_bytes; next = n; last = 0; entries = [] }) (first_offset_at small));
    log_last = rw no_packet (omega arith);
    last = refl;
  }

  pub fresh : (find : ℕ → Option PlainClient) (seat : ℕ → Option Socket) (is_pid : ℕ → Bool) (sets : RoomSets) (table : TableContents) (packets : LogContents) → first < 2 ^ 64 → length limits.spaces ≤ 65536
      → ((c : ℕ) → find c ≡ None) → ((s : ℕ) → seat s ≡ None) → ((p : ℕ) → is_pid p ≡ false) → sets ≡ no_sockets → AreConsistent sets
      → table ≡ record { limit = limits.saved; sessions = [] } → packets ≡ record { limit = limits.log; bytes = limits.log_bytes; next = Some first; last = 0; entries = [] }
      → IsHub (empty_base first) limits find seat is_pid sets table packets 0 (record { commands = 0; placed = 0; dropped = 0; taken = 0; discarded = 0 }) []
  fresh find seat is_pid sets table packets small few no_client no_seat no_pid no_room agree no_session no_packet =
      let sound = fresh_sound few (subst AreConsistent no_room agree) in
      (fresh_fields find seat is_pid sets table packets small no_client no_seat no_pid no_room no_session no_packet, fresh_legal sound, sound, fresh_counted)
