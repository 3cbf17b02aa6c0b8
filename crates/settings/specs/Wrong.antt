-- Which settings allow no server.
use Rattle.std.specs.Prelude.{◌==◌, ℕ, ◌-◌, Bool, false, ◌||◌, List, [], ◌∷◌, Option, None, Some, codes, nat_lt}
use Rattle.terms.specs.Refusal.{first_refusal}
use Rattle.connection.specs.declared.clock.Timing.{Timing}
use Rattle.journal.specs.Config.{is_bad_config}
use Rattle.settings.specs.declared.settings.Pace.{Pace}
use Rattle.settings.specs.declared.settings.Setting.{Setting}
use Rattle.settings.specs.declared.settings.Setting.TheVariants as setting
use Rattle.settings.specs.declared.settings.Settings.{Settings}
use Rattle.settings.specs.declared.settings.Warding.{Warding}

-- some time of the heartbeat is 0
abbrev pub has_no_time : Timing → Bool
has_no_time t = t.ping_interval == 0 || t.ping_timeout == 0 || t.connect_timeout == 0

-- it lets nothing through, or has more than 1,000,000 events a second
abbrev pub is_bad_pace : Pace → Bool
is_bad_pace p = p.rate == 0 || nat_lt 1000000 p.rate || p.burst == 0

abbrev pub has_bad_pace : Option Pace → Bool
has_bad_pace None = false
has_bad_pace (Some p) = is_bad_pace p

-- it is bounded, and none is allowed
abbrev pub allows_none : Option ℕ → Bool
allows_none None = false
allows_none (Some n) = n == 0

-- the workers beside the loops: the keeper, and a warden where there is one
abbrev pub aides : Option Warding → ℕ
aides None = 1
aides (Some warding) = 2

-- the first setting that is wrong: with these there are as many workers as an id can tell, no more than
-- 1,000,000 bytes are taken, and what is received has at least 1 MiB
abbrev pub wrong_setting : Settings → Option Setting
wrong_setting s =
    first_refusal
    ((s.workers == 0 || nat_lt (1024 - aides s.warding) s.workers, setting.Workers)
    ∷ (s.together == 0, setting.Together)
    ∷ (s.poll_entries == 0, setting.PollEntries)
    ∷ (has_no_time s.timing, setting.Timing)
    ∷ (s.max_payload == 0 || nat_lt 1000000 s.max_payload, setting.MaxPayload)
    ∷ (nat_lt s.receiving 1048576, setting.Receiving)
    ∷ (has_bad_pace s.pace, setting.Pace)
    ∷ (allows_none s.connections_from, setting.ConnectionsFrom)
    ∷ (is_bad_config s.hub, setting.Limits)
    ∷ [])

-- how a wrong setting is told
abbrev pub told : Setting → List ℕ
told setting.Workers = codes "number of workers"
told setting.Together = codes "number of connections together"
told setting.PollEntries = codes "number of entries in a payload"
told setting.Timing = codes "timing"
told setting.MaxPayload = codes "size of payloads"
told setting.Receiving = codes "bound of what is received"
told setting.Pace = codes "pace"
told setting.ConnectionsFrom = codes "number of connections from an address"
told setting.Limits = codes "limits"
