-- What the loops go by, as the settings say.
use Rattle.std.specs.Prelude.{◌≡◌, ◌*◌, ◌/◌}
use Rattle.settings.specs.declared.settings.Settings.{Settings}
use Rattle.tcp_streams.specs.Rules.{pace_of}
use Rattle.tcp_streams.specs.declared.rules.Rules.{Rules}

-- clients are told of the timing and of payloads as they are set, and may send at the pace that comes of both
pub record GoesBy (s : Settings) (r : Rules) : Type 0 where
  pub loops : r.loops ≡ s.workers
  pub poll_entries : r.poll_entries ≡ s.poll_entries
  pub share : r.share ≡ s.receiving / s.workers
  pub origins : r.origins ≡ s.origins
  pub page : r.page ≡ s.page
  pub metrics : r.metrics ≡ s.metrics
  pub report : r.report ≡ s.report
  pub timing : r.timing ≡ s.timing
  pub stretch : r.stretch ≡ s.timing.ping_timeout / 4 * 3
  pub numbers : r.numbers ≡ record { ping_interval = s.timing.ping_interval; ping_timeout = s.timing.ping_timeout; max_payload = s.max_payload }
  pub pace : r.pace ≡ pace_of s.timing.ping_timeout s.pace
  pub warding : r.warding ≡ s.warding
  pub keep : r.keep ≡ s.hub.keep
