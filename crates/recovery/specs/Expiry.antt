-- When a lost session or a logged broadcast is too old (Socket.IO server documentation, "Connection
-- state recovery": maxDisconnectionDuration). Moments are milliseconds.
use Rattle.std.specs.Prelude.{ℕ, ◌+◌, Bool, nat_lt}

-- what came at this moment is outdated: more than `keep` has passed since
abbrev pub is_outdated : (keep now at : ℕ) → Bool
is_outdated keep now at = nat_lt (at + keep) now
