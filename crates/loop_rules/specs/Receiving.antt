-- Who is read on, where much of what a loop receives isn't whole.
use Rattle.std.specs.Prelude.{◌≡◌, ℕ, ◌+◌, ◌++◌, Bool, false, ◌&&◌, ◌||◌, not, cond, nat_eq, nat_lt, Option, None, Some, is_none, List, [], ◌∷◌}
use Rattle.std.specs.List.{list_any}
use Rattle.loop_rules.specs.Deadlines.{has_had_its_turn}
use Rattle.loop_rules.specs.Rotas as rotas
use Rattle.loop_rules.specs.declared.receiving.Receiving.{Receiving}
use Rattle.loop_rules.specs.declared.receiving.Sender.{Sender}
use Rattle.loop_rules.specs.declared.receiving.Sender.TheVariants as sender
use Rattle.loop_rules.specs.declared.receiving.Turn.{Turn}

-- less is unfinished than the loop's share
abbrev pub has_room : Receiving → Bool
has_room r = nat_lt (r.messages.sum + r.attachments.sum) r.share

-- fewer bytes than 16 KiB don't count
abbrev pub counted_of : ℕ → ℕ
counted_of bytes = cond (nat_lt bytes 16384) 0 bytes

abbrev pub is_same : Sender → Sender → Bool
is_same (sender.Connection key) (sender.Connection other) = nat_eq key other
is_same (sender.Client client) (sender.Client other) = nat_eq client other
is_same _ _ = false

-- it goes on beyond the share
abbrev pub is_ahead : Sender → Option Turn → Bool
is_ahead s None = false
is_ahead s (Some turn) = is_same turn.sender s

-- a sender is read on that has less than 16 KiB, where there is room, or where it is the one that goes on
-- beyond the share
abbrev pub goes_on : Bool → Sender → ℕ → Option Turn → Bool
goes_on room s bytes ahead = nat_lt bytes 16384 || (room || is_ahead s ahead)

-- so up to how many bytes
abbrev pub limit_of : Bool → Sender → Option Turn → ℕ
limit_of room s ahead = cond (room || is_ahead s ahead) 18446744073709551615 16384

-- who goes on beyond the share is done where it has less than 16 KiB
abbrev pub done_ahead : Sender → ℕ → Option Turn → Option Turn
done_ahead s bytes ahead = cond (nat_lt bytes 16384 && is_ahead s ahead) None ahead

-- who is held is listed once, in the order in which they were held
abbrev pub listed : Bool → ℕ → List ℕ → List ℕ
listed held key keys = cond (held && not (list_any (λ k. nat_eq k key) keys)) (keys ++ key ∷ []) keys

-- the first one that is held is next where there is room, or where nobody goes on beyond the share
abbrev pub next_of : Bool → Option Turn → List ℕ → Option ℕ
next_of room ahead keys = cond (room || is_none ahead) (rotas.next_of keys) None

-- without room its sender is the one that goes on, from this moment on
abbrev pub ahead_after : Bool → Option ℕ → Sender → ℕ → Option Turn → Option Turn
ahead_after room None s now ahead = ahead
ahead_after room (Some key) s now ahead = cond room ahead (Some (record { sender = s; since = now }))

-- who goes on for 30 s
abbrev pub overdue_of : ℕ → Option Turn → Option Sender
overdue_of now None = None
overdue_of now (Some turn) = cond (has_had_its_turn turn.since now) (Some turn.sender) None

-- nothing more or less is unfinished
pub record SameBytes (old new : Receiving) : Type 0 where
  pub share : new.share ≡ old.share
  pub messages : new.messages ≡ old.messages
  pub attachments : new.attachments ≡ old.attachments

-- a sender has so many bytes: with few it goes on beyond the share no more
pub record IsDone (s : Sender) (bytes : ℕ) (old new : Receiving) : Type 0 where
  pub ahead : new.ahead ≡ done_ahead s bytes old.ahead
  pub same : SameBytes old new
