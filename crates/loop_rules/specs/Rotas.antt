-- The connections of a loop that have something to do, by their keys.
use Rattle.std.specs.Prelude.{◌≡◌, ℕ, zero, suc, ◌≤◌, Bool, true, false, ◌||◌, cond, nat_eq, nat_lt, Option, None, Some, List, [], ◌∷◌, ◌++◌, length, count_by, slice_index_or, slice_set}
use Rattle.loop_rules.specs.declared.looks.LookState.{LookState}
use Rattle.loop_rules.specs.declared.looks.LookState.TheVariants as state
use Rattle.loop_rules.specs.declared.looks.Pause.{Pause}
use Rattle.loop_rules.specs.declared.looks.Found.{Found}
use Rattle.loop_rules.specs.declared.looks.Decision.{Decision}
use Rattle.loop_rules.specs.declared.looks.Decision.TheVariants as decision
use Rattle.loop_rules.specs.Looks.{called, takes_yet, begun, paused, followed, is_queued, is_to_queue, may_rest}
use Rattle.loop_rules.specs.Decisions.{decision_for}

-- how each connection stands; the keys of those that have something to do in this round of the loop, and
-- of those that have more to do in its next one, each in the order in which they came
pub record Waiting : Type 0 where
  pub looks : List LookState
  pub ready : List ℕ
  pub again : List ℕ

abbrev pub nobody : Waiting
nobody = record { looks = []; ready = []; again = [] }

-- how the connection with a key stands; where there is none it rests
abbrev pub look_of : List LookState → ℕ → LookState
look_of looks key = slice_index_or looks key state.Rests

-- one where a test holds, and else none
abbrev pub one_if : Bool → ℕ
one_if b = cond b 1 0

-- how often a key stands in a queue
abbrev pub times : ℕ → List ℕ → ℕ
times key keys = count_by (λ k. nat_eq k key) keys

-- how many stand so that they are queued
abbrev pub queued_count : List LookState → ℕ
queued_count looks = count_by is_queued looks

-- who is called, or goes on with its look, stands in the queue once, and nobody else does; and each of the
-- two queues has space for all
pub record IsOrderly (looks : List LookState) (keys : List ℕ) (count ready_most again_most : ℕ) : Type 0 where
  pub once : (key : ℕ) → times key keys ≡ one_if (is_queued (look_of looks key))
  pub all : count ≡ queued_count looks
  pub ready_fits : length looks ≤ ready_most
  pub again_fits : length looks ≤ again_most

-- it is its stint
abbrev pub has_stint : LookState → Bool
has_stint (state.Looks dry) = true
has_stint (state.Stirred dry) = true
has_stint _ = false

abbrev pub stint_of : LookState → Option LookState
stint_of s = cond (has_stint s) (Some s) None

-- it stands in the queue, or it is its stint and it looks once more
abbrev pub will_look : LookState → Bool
will_look state.Called = true
will_look state.Again = true
will_look (state.Stirred dry) = true
will_look _ = false

-- so it is, or its look has yet to find that all was taken
abbrev pub will_take : LookState → Bool
will_take s = takes_yet s || will_look s

-- the connection with this key stands so now
abbrev pub with_look : ℕ → LookState → Waiting → Waiting
with_look key s w = record w { looks = slice_set w.looks key s }

-- something came for a connection: it is called, and stands at the end of the queue from now on
abbrev pub called_at : ℕ → Waiting → Waiting
called_at key w =
    let s : LookState = look_of w.looks key in
    cond (nat_lt key (length w.looks))
    (cond (is_to_queue s)
    (record { looks = slice_set w.looks key (called s); ready = w.ready ++ key ∷ []; again = w.again })
    (with_look key (called s) w))
    w

-- something was put for the client of a connection: it is called, unless its look takes that
abbrev pub put_for_at : ℕ → Waiting → Waiting
put_for_at key w = cond (takes_yet (look_of w.looks key)) w (called_at key w)

-- the connections with keys below this were called, one after another
abbrev pub called_below : ℕ → Waiting → Waiting
called_below zero w = w
called_below (suc n) w = called_at n (called_below n w)

-- whose stint is next
abbrev pub next_of : List ℕ → Option ℕ
next_of [] = None
next_of (key ∷ keys) = Some key

-- the stint of the first one begins
abbrev pub begun_at : List ℕ → Waiting → Waiting
begun_at [] w = w
begun_at (key ∷ keys) w =
    record { looks = slice_set w.looks key (begun (look_of w.looks key)); ready = keys; again = w.again }

-- a stint is over: where the connection is queued, it stands at the end of those of the loop's next round
abbrev pub left_so : ℕ → LookState → Waiting → Waiting
left_so key s w =
    cond (is_queued s)
    (record { looks = slice_set w.looks key s; ready = w.ready; again = w.again ++ key ∷ [] })
    (with_look key s w)

-- so it is where it was its stint
abbrev pub paused_at : ℕ → Pause → Waiting → Waiting
paused_at key p w = cond (has_stint (look_of w.looks key)) (left_so key (paused (look_of w.looks key) p) w) w

abbrev pub followed_at : ℕ → Found → Decision → Waiting → Waiting
followed_at key f v w =
    cond (has_stint (look_of w.looks key)) (left_so key (followed (look_of w.looks key) f v) w) w

-- what follows an answer in its stint
abbrev pub decision_at : ℕ → ℕ → Found → Bool → Waiting → Decision
decision_at key left f full w =
    cond (has_stint (look_of w.looks key)) (decision_for left (may_rest (look_of w.looks key) f) full) decision.Rests

-- a connection is gone: its key stays in the queue, if it stands there
abbrev pub dismissed_at : ℕ → Waiting → Waiting
dismissed_at key w = cond (is_queued (look_of w.looks key)) w (with_look key state.Rests w)

-- the next round of the loop begins
abbrev pub next_round : Waiting → Waiting
next_round w = record { looks = w.looks; ready = w.ready ++ w.again; again = [] }

-- nobody stands in the queue
abbrev pub IsQuiet : Waiting → Type 0
IsQuiet w = (w.ready ≡ []) × (w.again ≡ [])
