-- Which settings options ask for, by what a parse found of them.
use Rattle.std.specs.Prelude.{◌≡◌, ◌+◌, ◌-◌, ◌^◌, min, ◌<◌, ◌==◌, ◌++◌, ℕ, Bool, List, [], ◌∷◌, Option, None, Some, codes, if◌then◌else◌, is_some, map, option_map, string_bytes, unwrap_or}
use Rattle.std.specs.Option.{SomeIff, option_map_or}
use Rattle.std.specs.Str.Parse.{IsNumeral, digits_value, without_leading_plus}
use Rattle.clap.specs.Matches.{first_value, matched_of, one_text, raw_values}
use Rattle.clap.specs.declared.parser.matches.Found.{Found}
use Rattle.connection.specs.declared.clock.Timing.{Timing}
use Rattle.journal.specs.Plain.{Limits}
use Rattle.settings.specs.Usual as usual
use Rattle.settings.specs.declared.settings.Pace.{Pace}
use Rattle.settings.specs.declared.settings.Settings.{Settings}
use Rattle.settings.specs.declared.usual.UsualLimits.{UsualLimits}

-- the number of so many bits that an option says, if it says one
pub record Says (bits : ℕ) (f : Found) (name : List ℕ) (said : Option ℕ) : Type 0 where
  pub unsaid : one_text f name ≡ None → said ≡ None
  pub number : (text : List ℕ) → one_text f name ≡ Some text
      → SomeIff said (IsNumeral 10 (without_leading_plus text) × (digits_value 10 (without_leading_plus text) < 2 ^ bits)) (digits_value 10 (without_leading_plus text))

-- the number that an option says, or this one where it says none
abbrev pub IsSaidIn : ℕ → Found → List ℕ → ℕ → ℕ → Type 0
IsSaidIn bits f name other n = (said : Option ℕ) × Says bits f name said × (n ≡ unwrap_or said other)

abbrev pub IsSaid : Found → List ℕ → ℕ → ℕ → Type 0
IsSaid = IsSaidIn 64

-- the texts that an option says
abbrev pub texts_of : Found → List ℕ → List (List ℕ)
texts_of f name = option_map_or raw_values (matched_of f name) []

-- each limit is what its option says
pub record AsksLimits (f : Found) (l : UsualLimits) : Type 0 where
  pub clients : IsSaid f (codes "clients") usual.hub.clients l.clients
  pub capacity : IsSaid f (codes "capacity") usual.hub.capacity l.capacity
  pub bytes : IsSaid f (codes "bytes") usual.hub.bytes l.bytes
  pub log : IsSaid f (codes "log") usual.hub.log l.log
  pub log_bytes : IsSaid f (codes "log-bytes") usual.hub.log_bytes l.log_bytes
  pub saved : IsSaid f (codes "saved") usual.hub.saved l.saved
  pub keep : IsSaid f (codes "keep") usual.hub.keep l.keep
  pub first_offset : l.first_offset ≡ 1

-- each time is what its option says
pub record AsksTiming (f : Found) (t : Timing) : Type 0 where
  pub ping_interval : IsSaid f (codes "ping-interval") usual.timing.ping_interval t.ping_interval
  pub ping_timeout : IsSaid f (codes "ping-timeout") usual.timing.ping_timeout t.ping_timeout
  pub connect_timeout : IsSaid f (codes "connect-timeout") usual.timing.connect_timeout t.connect_timeout

-- a number of which 0 says never
abbrev pub unless_0 : ℕ → Option ℕ
unless_0 n = if n == 0 then None else Some n

abbrev pub IsSaidUnless0 : Found → List ℕ → Option ℕ → Type 0
IsSaidUnless0 f name r = (n : ℕ) × IsSaid f name 0 n × (r ≡ unless_0 n)

-- so many events a second, where that is said, and as many at once where that isn't
abbrev pub pace_of : Option ℕ → Option ℕ → Option Pace
pace_of None burst = None
pace_of (Some r) burst = Some (record { rate = r; burst = unwrap_or burst r })

abbrev pub AsksPace : Found → Option Pace → Type 0
AsksPace f pace =
    (rate : Option ℕ) × (burst : Option ℕ) × Says 64 f (codes "pace") rate × Says 64 f (codes "burst") burst
    × (pace ≡ pace_of rate burst)

-- the clients that there may be at a time: a warden has one more
abbrev pub clients_with : Bool → ℕ → ℕ
clients_with has_warden n = if has_warden then min (n + 1) (2 ^ 64 - 1) else n

-- the namespace, where there is one
abbrev pub one_if : Bool → List ℕ → List (List ℕ)
one_if there name = if there then name ∷ [] else []

-- the namespace of the backends, where there may be some
abbrev pub backend_space : Bool → Option (List ℕ)
backend_space there = if there then Some (codes "/backend") else None

-- `/`, the named ones, that of the backends and that of the warden
abbrev pub spaces_of : List (List ℕ) → Bool → Bool → List (List ℕ)
spaces_of named has_backends has_warden =
    (codes "/" ∷ named) ++ one_if has_backends (codes "/backend") ++ one_if has_warden (codes "/expiry")

-- the limits with the warden's client, and the namespaces
pub record AsksHub (f : Found) (has_warden : Bool) (hub : Limits) : Type 0 where
  pub limits : (l : UsualLimits) × AsksLimits f l
      × (hub ≡ usual.with_spaces (record l { clients = clients_with has_warden l.clients }) (spaces_of (texts_of f (codes "space")) (is_some (first_value f (codes "backend-token"))) has_warden))

-- each number is what its option says
pub record AsksNumbers (f : Found) (s : Settings) : Type 0 where
  pub connections : IsSaidUnless0 f (codes "connections") s.connections
  pub timing : AsksTiming f s.timing
  pub max_payload : IsSaid f (codes "max-payload") usual.max_payload s.max_payload
  pub receiving : IsSaid f (codes "receiving") usual.receiving s.receiving
  pub together : IsSaid f (codes "together") usual.together s.together
  pub poll_entries : IsSaid f (codes "poll-entries") usual.poll_entries s.poll_entries
  pub report : IsSaidUnless0 f (codes "report") s.report
  pub pace : AsksPace f s.pace
  pub connections_from : Says 64 f (codes "connections-from") s.connections_from

-- each text is what its option says; the namespace of the backends is there where they have a token
pub record AsksTexts (f : Found) (s : Settings) : Type 0 where
  pub host : string_bytes s.host ≡ unwrap_or (first_value f (codes "host")) usual.host
  pub origins : map string_bytes s.origins.items ≡ texts_of f (codes "origin")
  pub metrics : option_map string_bytes s.metrics ≡ first_value f (codes "metrics")
  pub backends : s.backends ≡ backend_space (is_some (first_value f (codes "backend-token")))
