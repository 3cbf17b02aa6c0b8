-- What became of clients, as far as the log is told.
use Rattle.std.specs.Prelude.{◌≡◌, ◌⊎◌, ℕ, Bool, true, Option, None, Some, option_map}
use Rattle.events.specs.Answer.{Answer}
use Rattle.loop_rules.specs.declared.heard.Concern.{Concern}
use Rattle.loop_rules.specs.declared.heard.Concern.TheVariants as concern
use Rattle.tcp_streams.specs.Ending.{ending_of}
use Rattle.tcp_loops.specs.declared.base.Fate.{Fate}
use Rattle.tcp_loops.specs.declared.base.Fate.TheVariants as fate

abbrev pub fate_of : Concern → (socket : Bool) → Answer → Option Fate
fate_of concern.Opens socket got = Some (fate.Opened socket)
fate_of concern.ComesOver socket got = Some fate.ComesOver
fate_of concern.Ends socket got = option_map fate.Ended (ending_of got)
fate_of (concern.Gone has_done) socket got = option_map fate.Ended (ending_of got)
fate_of _ socket got = None

-- one that was opened is there from now on, or without memory for it as before; one that came over speaks over a
-- WebSocket; one that has ended isn't there
abbrev pub Becomes : Fate → (now : ℕ) → (old new : Option (ℕ × Bool)) → Type 0
Becomes (fate.Opened socket) now old new = (new ≡ Some (now, socket)) ⊎ (new ≡ old)
Becomes fate.ComesOver now old new = new ≡ option_map (λ life. (life.0, true)) old
Becomes (fate.Ended ending) now old new = new ≡ None

-- what was known of one that has ended
abbrev pub life_ended : Fate → Option (ℕ × Bool) → Option (ℕ × Bool)
life_ended (fate.Ended ending) life = life
life_ended _ life = None
