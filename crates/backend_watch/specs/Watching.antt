-- Which backends are pressed, and of which clients they are told.
use Rattle.std.specs.Prelude.{◌≡◌, ◌⊎◌, ℕ, ◌==◌, ◌&&◌, not, ◌||◌, Bool, true, false, List, [], ◌∷◌, ◌++◌, length, filter, Option, Some, is_some, unwrap_or, option_map, if◌then◌else◌}
use Rattle.std.specs.Option.{option_map_or}
use Rattle.std.specs.List.{list_any, FoldsTo}
use Rattle.journal.specs.Journal.{History}
use Rattle.journal.specs.Membership.{place_of, sid_of, socket_of}
use Rattle.journal.specs.Outboxes.{total_size}
use Rattle.journal.specs.Sessions.{rooms_rising}
use Rattle.hub_state.specs.Words.{rooms_now, waits, when_open}
use Rattle.loop_rules.specs.declared.pressure.Backlog.{Backlog}
use Rattle.loop_rules.specs.Pressures.{is_low, is_much}
use Rattle.events.specs.Answer.{Answer}
use Rattle.events.specs.declared.event.Event.{Event}
use Rattle.events.specs.declared.event.Event.TheVariants as event
use Rattle.backend_watch.specs.Digits.{first_digit, named_digit, together}
use Rattle.backend_watch.specs.Receivers.{is_empty, lists_of}
use Rattle.backend_watch.specs.declared.sight.Pressed.{Pressed}

-- the client's session in the namespace with this name
abbrev pub session : History → (client : ℕ) → (name : List ℕ) → Option ℕ
session h c name = option_map sid_of (socket_of h.base h.journal c (place_of h.limits name))

-- the digit with which the client's session in this namespace begins, if it has one there
abbrev pub digit_in : History → (client : ℕ) → (name : List ℕ) → ℕ
digit_in h c name = option_map_or first_digit (session h c name) 0

-- the digits with which the client's sessions in these namespaces begin
abbrev pub digits_of : History → (client : ℕ) → (names : List (List ℕ)) → ℕ
digits_of h c names = together (digit_in h c) names

-- the digits of a backend's rooms, or all
abbrev pub IsToldOf : History → (backend digits : ℕ) → Type 0
IsToldOf h sid digits =
    (digits ≡ together named_digit (rooms_rising (rooms_now h) sid)) ⊎ (digits ≡ 65535)

-- what waits for the client, where so much may
abbrev pub backlog : History → (most_entries most_bytes client : ℕ) → Backlog
backlog h most_entries most_bytes c =
    record {
      entries = unwrap_or (when_open h c (length (waits h c))) 0;
      bytes = unwrap_or (when_open h c (total_size (waits h c))) 0;
      most_entries = most_entries;
      most_bytes = most_bytes;
    }

-- the client is among those that are listed
abbrev pub is_listed : (client : ℕ) → List Pressed → Bool
is_listed c listed = list_any (λ p. p.client == c) listed

-- the digits of those that are listed
abbrev pub digits_listed : List Pressed → ℕ
digits_listed listed = together (λ p. p.digits) listed

-- those but for the client
abbrev pub without : (client : ℕ) → List Pressed → List Pressed
without c listed = filter (λ p. not (p.client == c)) listed

-- the event brings messages of its client
abbrev pub brings : Event → Bool
brings (event.Post c body) = true
brings (event.Frame c frame) = true
brings _ = false

module _ (h : History) (space : List ℕ) where
  -- a client that has a session in the namespace of the backends is one
  abbrev pub is_backend : (client : ℕ) → Bool
  is_backend c = is_some (session h c space)

  -- a backend has no digits of its own, and another client those of its sessions in the other namespaces
  abbrev pub own_digits : (others : List (List ℕ)) → (client : ℕ) → ℕ
  own_digits others c = if is_backend c then 0 else digits_of h c others

  -- how many broadcasts of the client's event got to nobody but itself, but where a backend brought it
  abbrev pub unheard : (client : ℕ) → Answer → ℕ
  unheard c got = if is_backend c then 0 else length (filter is_empty (lists_of got))

module _ (h : History) (space : List ℕ) (most_entries most_bytes : ℕ) where
  -- it is listed no more once it is no backend, or less than half waits for it of what may
  abbrev pub is_over : (client : ℕ) → Bool
  is_over c = not (is_backend h space c) || is_low (backlog h most_entries most_bytes c)

  -- a backend is pressed once three quarters wait for it of what may
  abbrev pub is_pressed : (client : ℕ) → Bool
  is_pressed c = is_much (backlog h most_entries most_bytes c) && is_backend h space c

  -- a client is listed behind the others, with the digits that it is told of, or isn't
  abbrev pub ListsIf : Bool → (before : List Pressed) → (client : ℕ) → (after : List Pressed) → Type 0
  ListsIf false before c after = after ≡ before
  ListsIf true before c after =
      (sid digits : ℕ) × (session h c space ≡ Some sid) × IsToldOf h sid digits
      × (after ≡ before ++ record { client = c; digits = digits } ∷ [])

  -- one that is pressed is listed, where it isn't yet
  abbrev pub Lists : (before : List Pressed) → (client : ℕ) → (after : List Pressed) → Type 0
  Lists before c after = ListsIf (not (is_listed c before) && is_pressed c) before c after

  -- so is each of these clients, in turn
  abbrev pub ListsAll : (before : List Pressed) → (clients : List ℕ) → (after : List Pressed) → Type 0
  ListsAll before cs after = FoldsTo Lists before cs after

  -- so is each that got something of an event, in turn, but where a backend brought it
  abbrev pub ListsReceivers : (client : ℕ) → Answer → (before after : List Pressed) → Type 0
  ListsReceivers c got before after =
      FoldsTo ListsAll before (if is_backend h space c then [] else lists_of got) after
