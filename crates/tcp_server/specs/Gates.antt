-- What a gate looks at after an event, and what it shows.
use Rattle.std.specs.Prelude.{◌≡◌, ℕ, ◌==◌, ◌&&◌, ◌||◌, Bool, false, List, length, is_none, is_some, Option, None, Some, Ok, if◌then◌else◌}
use Rattle.std.specs.Option.{option_map_or}
use Rattle.journal.specs.Journal.{History}
use Rattle.hub_state.specs.Words.{waits, when_open}
use Rattle.backend_watch.specs.Watching as watching
use Rattle.backend_watch.specs.declared.sight.Pressed.{Pressed}
use Rattle.backend_watch.specs.declared.sight.Sight.{Sight}
use Rattle.events.specs.Answer.{Answer}
use Rattle.events.specs.declared.event.Event.{Event}
use Rattle.events.specs.declared.event.Event.TheVariants as event
use Rattle.events.specs.declared.outcome.Outcome.TheVariants as outcome
use Rattle.events.specs.Event.{client_of}
use Rattle.guarded.specs.Telling.{EXPIRY}
use Rattle.tcp_streams.specs.declared.shared.Backends.{Backends}
use Rattle.tcp_streams.specs.declared.shared.Sign.{Sign}

abbrev pub goes_on : Answer → Bool
goes_on (Ok (outcome.Done done)) = is_none done.closed
goes_on _ = false

-- a message over a WebSocket was worked on, whose client goes on
abbrev pub is_served : Event → Answer → Bool
is_served (event.Frame client frame) got = goes_on got
is_served _ got = false

-- where there may be backends each event of a client is looked at, and else such a message
abbrev pub looked_at : (has_backends : Bool) → Event → Answer → Option ℕ
looked_at has_backends ev got = if has_backends || is_served ev got then client_of ev else None

-- such a message was worked on, after which nothing waits for its client
abbrev pub rests : History → (client : ℕ) → Event → Answer → Bool
rests h c ev got = is_served ev got && option_map_or (λ n. n == 0) (when_open h c (length (waits h c))) false

-- a message that was worked on is shown, and what messages backends hear of
abbrev pub sign_of : (client : ℕ) → (served rests : Bool) → (digits : Option ℕ) → Option Sign
sign_of c served rests digits =
    if served || is_some digits then Some (record { client = c; rests = rests; digits = digits }) else None

-- it has what is known of the backends, and what the history says
pub record IsSightOf (backends : Backends) (h : History) (sight : Sight) : Type 0 where
  pub state : sight.state.now ≡ h
  pub space : sight.space.now ≡ backends.space
  pub others : sight.others.now ≡ backends.others.items
  pub capacity : sight.capacity ≡ backends.capacity
  pub bytes : sight.bytes ≡ backends.bytes

-- the client is a backend that was pressed, and is no more
abbrev pub is_relieved : Sight → (client : ℕ) → List Pressed → Bool
is_relieved sight c pressed =
    watching.is_listed c pressed && watching.is_over sight.state.now sight.space.now sight.capacity sight.bytes c

-- those that were listed are listed on, but for a client that is relieved; and then those that its event pressed
abbrev pub Lists : Sight → (client : ℕ) → Answer → (before after : List Pressed) → Type 0
Lists sight c got before after =
    watching.ListsReceivers sight.state.now sight.space.now sight.capacity sight.bytes c got
    (if is_relieved sight c before then watching.without c before else before) after

-- how many broadcasts went to no backend, but for those of the warden
abbrev pub unheard : History → (space : List ℕ) → (client : ℕ) → Answer → (has_warden : Bool) → ℕ
unheard h space c got has_warden =
    if has_warden && is_some (watching.session h c EXPIRY) then 0 else watching.unheard h space c got
