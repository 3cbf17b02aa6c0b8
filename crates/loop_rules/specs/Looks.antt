-- When a connection may rest.
use Rattle.std.specs.Prelude.{◌≡◌, ◌≢◌, ℕ, Bool, true, false, ◌&&◌, List, [], ◌∷◌, cond}
use Rattle.loop_rules.specs.declared.looks.LookState.{LookState}
use Rattle.loop_rules.specs.declared.looks.LookState.TheVariants as state
use Rattle.loop_rules.specs.declared.looks.Found.{Found}
use Rattle.loop_rules.specs.declared.looks.Found.TheVariants as found
use Rattle.loop_rules.specs.declared.looks.Pause.{Pause}
use Rattle.loop_rules.specs.declared.looks.Pause.TheVariants as pause
use Rattle.loop_rules.specs.declared.looks.Decision.{Decision}
use Rattle.loop_rules.specs.declared.looks.Decision.TheVariants as decision
use Rattle.loop_rules.specs.Decisions.{decision_for}

-- ## The table

-- nothing came yet
abbrev pub first : LookState
first = state.Rests

-- something came: one that rested is called, one in its stint looks once more, and any other goes on with
-- its look, and then looks once more
abbrev pub called : LookState → LookState
called state.Rests = state.Called
called state.Called = state.Called
called (state.Looks dry) = state.Stirred dry
called (state.Stirred dry) = state.Stirred dry
called _ = state.Again

-- it is its stint, nothing came since it began to look, and its look has yet to find that all was taken. It
-- rests after an answer that says so, which is to an event after what was put by now, since answers are heard
-- in the order of their events; or by a pause, where it serves its client no more
abbrev pub takes_yet : LookState → Bool
takes_yet (state.Looks false) = true
takes_yet _ = false

-- something was put for its client: one whose look has yet to find that all was taken takes that, too
abbrev pub put_for : LookState → LookState
put_for s = cond (takes_yet s) s (called s)

-- it stands in the queue
abbrev pub is_queued : LookState → Bool
is_queued state.Called = true
is_queued state.Again = true
is_queued _ = false

-- something came for one that is to be put into the queue: it stands there not, and it isn't its stint
abbrev pub is_to_queue : LookState → Bool
is_to_queue state.Rests = true
is_to_queue state.Full = true
is_to_queue state.Early = true
is_to_queue _ = false

-- its stint begins: so does a look, unless one is under way; then it looks once more after it
abbrev pub begun : LookState → LookState
begun state.Rests = state.Looks false
begun state.Called = state.Looks false
begun _ = state.Stirred false

abbrev pub is_dry : LookState → Bool
is_dry (state.Looks dry) = dry
is_dry (state.Stirred dry) = dry
is_dry _ = false

abbrev pub is_calm : LookState → Bool
is_calm (state.Looks dry) = true
is_calm _ = false

-- a look is over where nothing was due after a stream was found dry, or where there is nothing to do
abbrev pub has_looked : Bool → Found → Bool
has_looked dry found.Idle = true
has_looked dry found.Quiet = dry
has_looked dry _ = false

abbrev pub finds_dry : Found → Bool
finds_dry found.Dry = true
finds_dry _ = false

-- one may rest whose look is over, and for which nothing came since it began
abbrev pub may_rest : LookState → Found → Bool
may_rest s f = is_calm s && has_looked (is_dry s) f

-- one that goes on: where its look is over, another begins
abbrev pub going_on : LookState → Found → LookState
going_on s f =
    cond (has_looked (is_dry s) f) (state.Looks false)
    (cond (is_calm s) (state.Looks (finds_dry f)) (state.Stirred (finds_dry f)))

-- an event was answered, and this follows
abbrev pub followed : LookState → Found → Decision → LookState
followed s f decision.Rests = state.Rests
followed s f decision.Held = state.Full
followed s f decision.Again = state.Again
followed s f decision.GoesOn = going_on s f

-- a stint is over in which no event was answered last
abbrev pub paused : LookState → Pause → LookState
paused s pause.Full = state.Full
paused s pause.Early = state.Early
paused s pause.More = state.Called
paused s pause.Done = cond (is_calm s) state.Rests state.Called

-- ## The law

-- it is called, or has more to look at
abbrev pub is_awake : LookState → Bool
is_awake state.Rests = false
is_awake (state.Looks dry) = false
is_awake _ = true

-- what may happen to a connection: something comes over its stream, say, or is put for its client; at an
-- answer, how many events its stint has left, and whether it has too much unsent
pub data Step : Type 0 where
  Comes : Step
  Puts : Step
  Begins : Step
  Follows : Found → ℕ → Bool → Step
  Pauses : Pause → Step

-- how a connection stands after such a history, of which the newest step is the first
unfoldable pub state_after : List Step → LookState
state_after [] = first
state_after (Comes ∷ h) = called (state_after h)
state_after (Puts ∷ h) = put_for (state_after h)
state_after (Begins ∷ h) = begun (state_after h)
state_after (Follows f left full ∷ h) =
    followed (state_after h) f (decision_for left (may_rest (state_after h) f) full)
state_after (Pauses p ∷ h) = paused (state_after h) p

-- in its present stint the last answer but for what came has found the stream dry
unfoldable pub was_dry : List Step → Bool
was_dry (Follows f left full ∷ h) = finds_dry f
was_dry (Comes ∷ h) = was_dry h
was_dry (Puts ∷ h) = was_dry h
was_dry _ = false

-- a look is cut in two where its stint ends before its bytes have gone, or its moment has come
abbrev pub cuts : Pause → Bool
cuts pause.Full = true
cuts pause.Early = true
cuts _ = false

-- a look is under way: some of its events were answered, and it isn't over. Only then does a stint go on
-- with one, and else a look begins with it
unfoldable pub is_under_way : List Step → Bool
is_under_way [] = false
is_under_way (Comes ∷ h) = is_under_way h
is_under_way (Puts ∷ h) = is_under_way h
is_under_way (Begins ∷ h) = is_under_way h
is_under_way (Follows f left full ∷ h) = cond (has_looked (was_dry h) f) false true
is_under_way (Pauses p ∷ h) = cuts p && is_under_way h

-- something came since the last look began that this doesn't take: one begins with a stint, and where one
-- is over
unfoldable pub came_since_look : List Step → Bool
came_since_look [] = false
came_since_look (Comes ∷ h) = true
came_since_look (Puts ∷ h) = cond (takes_yet (state_after h)) (came_since_look h) true
came_since_look (Begins ∷ h) = is_under_way h && came_since_look h
came_since_look (Follows f left full ∷ h) = cond (has_looked (was_dry h) f) false (came_since_look h)
came_since_look (Pauses p ∷ h) = came_since_look h

-- after whatever history: what stood so and for which something came since its last look began doesn't
-- rest
abbrev pub NeverRests : LookState → LookState → Type 0
NeverRests old new =
    (h : List Step) → state_after h ≡ old → came_since_look h ≡ true → new ≢ state.Rests
