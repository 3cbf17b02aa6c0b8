-- What is told, and how the end of a client is.
use Rattle.std.specs.Prelude.{ℕ, Bool, true, List, [], codes, if◌then◌else◌}
use Rattle.events.specs.Cause.{cause_name}
use Rattle.tcp_streams.specs.declared.log.Ending.{Ending}
use Rattle.tcp_streams.specs.declared.log.Ending.TheVariants as ending
use Rattle.tcp_streams.specs.declared.log.News.{News}
use Rattle.tcp_streams.specs.declared.log.News.TheVariants as news

-- who hears of clients is told all, and anybody else the totals, and that the warden lost its client
abbrev pub is_told : (verbose : Bool) → News → Bool
is_told verbose news.WardenLost = true
is_told verbose (news.Totals totals) = true
is_told verbose _ = verbose

-- the transport over which a client spoke last
abbrev pub transport_name : (socket : Bool) → List ℕ
transport_name socket = if socket then codes "websocket" else codes "polling"

-- how it ended
abbrev pub ending_words : Ending → List ℕ
ending_words (ending.Closed cause) = codes "closed: "
ending_words ending.Saved = codes "lost"
ending_words ending.Unsaved = codes "lost, not saved"
ending_words ending.Gone = codes "gone"

-- and for which cause, where it was closed for one
abbrev pub ending_cause : Ending → List ℕ
ending_cause (ending.Closed cause) = cause_name cause
ending_cause _ = []
