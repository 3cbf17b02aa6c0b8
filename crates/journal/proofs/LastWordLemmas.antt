-- The running set of pairs is what the last words say.
use Rattle.std.proofs.Common.{◌≡◌, ℕ, ◌==◌, Bool, true, false, ◌&&◌, ◌||◌, not, List, [], ◌∷◌, filter, refl, ◌∙◌, ap, if◌then◌else◌, Some, None, unwrap_or}
use Rattle.std.specs.List.{list_any}
use Rattle.terms.specs.Room.{same_room, own_room}
use Rattle.room_maps.specs.Membership.{RoomSets, is_in, without_socket}
use Rattle.room_maps.proofs.MembershipLaws.{is_in-with_pair, is_in-without_pair, is_in-with_members, is_in-without_members, is_in-with_socket, is_in-with_socket_in, is_in-without_socket}
use Rattle.journal.specs.declared.socket.Socket.{Socket}
use Rattle.journal.specs.declared.step.Step.{Step}
use Rattle.journal.specs.declared.step.What.{What}
use Rattle.journal.specs.declared.step.What.TheVariants.{Opened, Attached, Recovered, Joined, Left, AllJoined, AllLeft, Cast, Told, Took, Parked, Ended, AllEnded, Closed, Swept}
use Rattle.journal.specs.Plain.{PlainBase}
use Rattle.journal.specs.Membership.{ends, sockets, rooms, rooms_after, sockets_of, without_sockets}
use Rattle.journal.specs.LastWord.{is_among, word, is_last_in}

adds : (b o : Bool) → (b || o) ≡ unwrap_or (if b then Some true else None) o
adds true o = refl
adds false o = refl

removes : (b o : Bool) → (not b && o) ≡ unwrap_or (if b then Some false else None) o
removes true o = refl
removes false o = refl

-- ended sockets are in no room
pub is_in-without_sockets : (ks : List Socket) (sets : RoomSets) (s : ℕ) (room : List ℕ) → is_in (without_sockets sets ks) s room ≡ (not (is_among ks s) && is_in sets s room)
unfolding without_sockets
is_in-without_sockets [] sets s room = refl
is_in-without_sockets (k ∷ ks) sets s room =
    is_in-without_sockets ks (without_socket sets k.sid) s room
    ∙ ap (λ b. not (is_among ks s) && b) (is_in-without_socket sets k.sid s room)
    ∙ both (k.sid == s) (is_among ks s) (is_in sets s room)
  where
    both : (a b o : Bool) → (not b && (not a && o)) ≡ (not (a || b) && o)
    both true true o = refl
    both true false o = refl
    both false true o = refl
    both false false o = refl

after : (base : PlainBase) (before : List Step) (sets : RoomSets) (what : What) (s : ℕ) (room : List ℕ)
    → is_in (rooms_after base before sets what) s room ≡ unwrap_or (word base before s room what) (is_in sets s room)
after base before sets (Attached k) s room = is_in-with_socket sets k.sid s room ∙ adds (k.sid == s && same_room (own_room k.sid) room) (is_in sets s room)
after base before sets (Recovered r) s room =
    is_in-with_socket_in sets r.socket.sid r.rooms s room ∙ adds (r.socket.sid == s && list_any (same_room room) (own_room r.socket.sid ∷ r.rooms)) (is_in sets s room)
after base before sets (Joined t other) s room = is_in-with_pair sets t other s room ∙ adds (t == s && same_room other room) (is_in sets s room)
after base before sets (Left t other) s room = is_in-without_pair sets t other s room ∙ removes (t == s && same_room other room) (is_in sets s room)
after base before sets (AllJoined m) s room = is_in-with_members sets m.changed m.room s room ∙ adds (list_any (λ t. s == t) m.changed && same_room m.room room) (is_in sets s room)
after base before sets (AllLeft m) s room = is_in-without_members sets m.changed m.room s room ∙ removes (list_any (λ t. s == t) m.changed && same_room m.room room) (is_in sets s room)
after base before sets (AllEnded d) s room =
    is_in-without_sockets (filter (ends (AllEnded d)) (sockets base before)) sets s room ∙ removes (is_among (filter (ends (AllEnded d)) (sockets base before)) s) (is_in sets s room)
after base before sets (Ended t by) s room = is_in-without_socket sets t s room ∙ removes (t == s) (is_in sets s room)
after base before sets (Parked c) s room = is_in-without_sockets (sockets_of base before c) sets s room ∙ removes (is_among (sockets_of base before c) s) (is_in sets s room)
after base before sets (Closed c) s room = is_in-without_sockets (sockets_of base before c) sets s room ∙ removes (is_among (sockets_of base before c) s) (is_in sets s room)
after base before sets (Opened c) s room = refl
after base before sets (Cast b) s room = refl
after base before sets (Told m) s room = refl
after base before sets (Took c m n) s room = refl
after base before sets Swept s room = refl

pub last-words : (base : PlainBase) (journal : List Step) (s : ℕ) (room : List ℕ) → is_in (rooms base journal) s room ≡ is_last_in base journal s room
unfolding rooms is_last_in
last-words base [] s room = refl
last-words base (step ∷ before) s room =
    after base before (rooms base before) step.what s room ∙ ap (λ b. unwrap_or (word base before s room step.what) b) (last-words base before s room)
