-- What a server goes by where nothing else is said.
use Rattle.std.specs.Prelude.{◌≡◌, ℕ, List, [], ◌∷◌, None, codes, string_bytes}
use Rattle.connection.specs.declared.clock.Timing.{Timing}
use Rattle.journal.specs.Plain.{Limits}
use Rattle.settings.specs.declared.usual.UsualLimits.{UsualLimits}
use Rattle.settings.specs.declared.settings.Settings.{Settings}

-- pings each 25 s, 20 s for the answer, 45 s to join a namespace
abbrev pub timing : Timing
timing = record { ping_interval = 25000; ping_timeout = 20000; connect_timeout = 45000 }

-- the most bytes of a payload, and of all that is being received; how many connections in a row one
-- loop is given; the most entries of one answer to a GET
abbrev pub max_payload : ℕ
max_payload = 1000000

abbrev pub receiving : ℕ
receiving = 268435456

abbrev pub together : ℕ
together = 8

abbrev pub poll_entries : ℕ
poll_entries = 15

abbrev pub host : List ℕ
host = codes "127.0.0.1"

abbrev pub spaces : List (List ℕ)
spaces = codes "/" ∷ codes "/admin" ∷ []

abbrev pub hub : Limits
hub =
    record {
      clients = 10000;
      capacity = 4096;
      bytes = 8388608;
      log = 1024;
      log_bytes = 67108864;
      saved = 4096;
      keep = 120000;
      first_offset = 1;
      spaces = spaces;
    }

-- limits with these namespaces
abbrev pub with_spaces : UsualLimits → List (List ℕ) → Limits
with_spaces l names =
    record {
      clients = l.clients;
      capacity = l.capacity;
      bytes = l.bytes;
      log = l.log;
      log_bytes = l.log_bytes;
      saved = l.saved;
      keep = l.keep;
      first_offset = l.first_offset;
      spaces = names;
    }

-- the settings of a server with so many loops at this port, where nothing else is said. It listens to the machine itself, ends after no
-- number of connections, serves all pages and has no files, tells no counts and no totals, has no backends and no warden, and
-- bounds neither how fast a client sends nor how many connections an address has
pub record IsUsual (its_port loops : ℕ) (s : Settings) : Type 0 where
  pub host : string_bytes s.host ≡ host
  pub port : s.port ≡ its_port
  pub workers : s.workers ≡ loops
  pub connections : s.connections ≡ None
  pub hub : s.hub ≡ hub
  pub timing : s.timing ≡ timing
  pub max_payload : s.max_payload ≡ max_payload
  pub receiving : s.receiving ≡ receiving
  pub together : s.together ≡ together
  pub poll_entries : s.poll_entries ≡ poll_entries
  pub origins : s.origins.items ≡ []
  pub page : s.page ≡ []
  pub metrics : s.metrics ≡ None
  pub report : s.report ≡ None
  pub backends : s.backends ≡ None
  pub pace : s.pace ≡ None
  pub connections_from : s.connections_from ≡ None
  pub warding : s.warding ≡ None
