-- A line stands for each open client after an event, too.
use Rattle.std.proofs.Common.{◌≡◌, ℕ, ◌+◌, ◌==◌, Bool, true, false, ◌&&◌, ◌||◌, List, [], ◌∷◌, ◌++◌, refl, sym, ◌∙◌, ap, subst, arith, nat_eq, Option, None, Some, is_some, Err, inr}
use Rattle.std.specs.Set.{is_member}
use Rattle.std.proofs.lemmas.Bool.Decides.{nat_tests}
use Rattle.eio_wire.specs.declared.packet.Packet.{Packet}
use Rattle.connection.specs.Line.{PlainLine}
use Rattle.journal.specs.declared.error.HubError.TheVariants as hub
use Rattle.journal.specs.declared.step.Step.{Step}
use Rattle.journal.specs.declared.step.What.{What}
use Rattle.journal.specs.declared.step.What.TheVariants.{Opened, Attached, Recovered, Joined, Left, AllJoined, AllLeft, Cast, Told, Took, Parked, Ended, AllEnded, Closed, Swept}
use Rattle.journal.specs.Plain.{PlainBase}
use Rattle.journal.specs.Journal.{History, history, with_step}
use Rattle.journal.specs.Membership.{opens, closes, is_open}
use Rattle.journal.proofs.EpochsSocketsLemmas.{is_open-step}
use Rattle.journal.specs.Entries.{AllPass, own_entries}
use Rattle.events.specs.declared.fault.CoreError.{CoreError}
use Rattle.events.specs.declared.fault.CoreFault.TheVariants.{IdTaken}
use Rattle.events.specs.App.{Policy}
use Rattle.dispatch.specs.Commands.{StopsAt}
use Rattle.dispatch.specs.Following.{is_clean, is_cast, is_turn, is_work, AreMade, Follows, Spares, WorksFor}
use Rattle.dispatch.proofs.StepLemmas.{follows-on, spares-on, Goes, goes-of, Working, working-of}
use Rattle.dispatch.specs.Scene.{visit_at}
use Rattle.dispatch.specs.Machine.{opening, WorksOn}
use Rattle.dispatch.specs.Packets.{Course, course, BreaksAfter}
use Rattle.dispatch.specs.Holding.{Holding, line_of, holding, KeepsOthers, Agree, with_ids}

-- the steps of an event that puts nothing for other clients
pub record Leads (c : ℕ) (h g : History) : Type 0 where
  pub follows : Follows (is_turn c) h g
  pub spares : Spares c h g []

pub follows-none : (kind : History → What → Bool) (h : History) → Follows kind h h
follows-none kind h = record { steps = []; base = refl; limits = refl; journal = refl; own = tt; clean = tt }

pub leads-none : (c : ℕ) (h g : History) → g ≡ h → Leads c h g
leads-none c h g same = subst (Leads c h) (sym same) (record { follows = follows-none (is_turn c) h; spares = λ d other out. refl })

pub leads-on : (c : ℕ) (f h g : History) (now : ℕ) (w : What) → g ≡ with_step h now w → is_turn c h w ≡ true → is_cast w ≡ false → AllPass is_clean (own_entries h.limits w) → Leads c f h → Leads c f g
leads-on c f h g now w made turn isnt clean was =
    record { follows = follows-on (is_turn c) now w f h g was.follows made turn clean; spares = spares-on c now w h g made turn isnt f [] was.spares }

pub works-none : (c : ℕ) (h : History) (lists : List (List ℕ)) → WorksFor c h h lists
works-none c h lists = record { follows = follows-none (is_work c) h; spares = λ d other out. refl }

pub working-none : (c : ℕ) (h : History) (lists : List (List ℕ)) → Working c h h lists
working-none c h lists = working-of c h h lists (works-none c h lists)

-- work for a client is of its event
work-turn : (c : ℕ) (h : History) (what : What) → is_work c h what ≡ true → is_turn c h what ≡ true
work-turn c h (Opened d) work = absurd (cc work)
work-turn c h (Took d most n) work = absurd (cc work)
work-turn c h (Attached k) work = work
work-turn c h (Recovered r) work = work
work-turn c h (Joined s room) work = work
work-turn c h (Left s room) work = work
work-turn c h (AllJoined m) work = work
work-turn c h (AllLeft m) work = work
work-turn c h (Cast b) work = work
work-turn c h (Told m) work = work
work-turn c h (Parked d) work = work
work-turn c h (Ended s by) work = work
work-turn c h (AllEnded d) work = work
work-turn c h (Closed d) work = work
work-turn c h Swept work = work

all-turns : (c : ℕ) (h : History) (steps : List Step) → AreMade (is_work c) h steps → AreMade (is_turn c) h steps
all-turns c h [] work = tt
all-turns c h (step ∷ steps) work = (work-turn c (history h.base h.limits (steps ++ h.journal)) step.what work.0, all-turns c h steps work.1)

pub turns-of : (c : ℕ) (h g : History) → Follows (is_work c) h g → Follows (is_turn c) h g
turns-of c h g f = record { steps = f.steps; base = f.base; limits = f.limits; journal = f.journal; own = all-turns c h f.steps f.own; clean = f.clean }

-- the same of steps that bring in whatever they do
pub goes-turn : (c : ℕ) (h g : History) → Goes (is_work c) h g → Goes (is_turn c) h g
goes-turn c h g f = record { steps = f.steps; base = f.base; limits = f.limits; journal = f.journal; own = all-turns c h f.steps f.own }

pub goes-work : (c : ℕ) (h g : History) (lists : List (List ℕ)) → WorksFor c h g lists → Goes (is_turn c) h g
goes-work c h g lists works = goes-turn c h g (goes-of (is_work c) h g works.follows)

-- ---- the other clients

apart : (c d e : ℕ) → (e == c) ≡ true → (c == d) ≡ false → (e == d) ≡ false
apart c d e own other = grind (arith, nat_tests, own, other)

swapped : (c d e : ℕ) → (e == c) ≡ true → (c == d) ≡ false → nat_eq d e ≡ false
swapped c d e own other = grind (arith, nat_tests, own, other)

closes-none : (c d : ℕ) (h : History) (what : What) → is_turn c h what ≡ true → (c == d) ≡ false → closes what d ≡ false
closes-none c d h (Parked e) own other = apart c d e own other
closes-none c d h (Closed e) own other = apart c d e own other
closes-none c d h _ own other = refl

opens-none : (c d : ℕ) (h : History) (what : What) → is_turn c h what ≡ true → (c == d) ≡ false → is_member nat_eq (opens what) d ≡ false
opens-none c d h (Opened e) own other = rw (swapped c d e own other) refl
opens-none c d h _ own other = refl

pub as-before : (b : Bool) → ((b && true) || false) ≡ b
as-before true = refl
as-before false = refl

others-after : (c d : ℕ) (h : History) (steps : List Step) → AreMade (is_turn c) h steps → (c == d) ≡ false
    → is_open h.base (steps ++ h.journal) d ≡ is_open h.base h.journal d
others-after c d h [] own other = refl
others-after c d h (step ∷ steps) own other =
    let at = history h.base h.limits (steps ++ h.journal) in
    is_open-step h.base step (steps ++ h.journal) d
    ∙ rw (closes-none c d at step.what own.0 other, opens-none c d at step.what own.0 other) (as-before (is_open h.base (steps ++ h.journal) d))
    ∙ others-after c d h steps own.1 other

-- another client is open as it was before an event of this one
pub open-others : (c : ℕ) (h g : History) → Goes (is_turn c) h g → (d : ℕ) → (c == d) ≡ false → is_open g.base g.journal d ≡ is_open h.base h.journal d
open-others c h g goes d other =
    ap (λ (base : PlainBase). is_open base g.journal d) goes.base
    ∙ ap (λ (journal : List Step). is_open h.base journal d) goes.journal
    ∙ others-after c d h goes.steps goes.own other

-- ---- the lines

-- where the client of the event has a line just where it is open, all clients have
pub agree-after : (c : ℕ) (h g : History) (old new : List (ℕ × PlainLine)) → Agree h old → Goes (is_turn c) h g → KeepsOthers c (holding h old) (holding g new)
    → is_some (line_of new c) ≡ is_open g.base g.journal c → Agree g new
agree-after c h g old new agree goes others own d = on (c == d) refl
  where
    on : (b : Bool) → (c == d) ≡ b → is_some (line_of new d) ≡ is_open g.base g.journal d
    on true is = subst (λ (e : ℕ). is_some (line_of new e) ≡ is_open g.base g.journal e) (same is) own
      where
        same : (c == d) ≡ true → c ≡ d
        same e = grind (arith, nat_tests, e)
    on false is = ap (λ (o : Option PlainLine). is_some o) (others d is) ∙ agree d ∙ sym (open-others c h g goes d is)

-- where the client isn't open any more and has no line
pub agree-gone : (c : ℕ) (h g : History) (old new : List (ℕ × PlainLine)) → Agree h old → Goes (is_turn c) h g → KeepsOthers c (holding h old) (holding g new)
    → line_of new c ≡ None → is_open g.base g.journal c ≡ false → Agree g new
agree-gone c h g old new agree goes others gone closed =
    agree-after c h g old new agree goes others (ap (λ (o : Option PlainLine). is_some o) gone ∙ sym closed)

-- where it is open still and has one
pub agree-still : (c : ℕ) (h g : History) (old new : List (ℕ × PlainLine)) → Agree h old → Goes (is_turn c) h g → KeepsOthers c (holding h old) (holding g new)
    → is_some (line_of new c) ≡ true → is_open g.base g.journal c ≡ true → Agree g new
agree-still c h g old new agree goes others has open_still = agree-after c h g old new agree goes others (has ∙ sym open_still)

-- after steps that are of each client
pub agree-each : (h g : History) → ((c : ℕ) → Follows (is_turn c) h g) → (lines : List (ℕ × PlainLine)) → Agree h lines → Agree g lines
agree-each h g follows lines agree d = agree d ∙ sym (open-others (d + 1) h g (goes-of (is_turn (d + 1)) h g (follows (d + 1))) d (next d))
  where
    next : (d : ℕ) → (d + 1 == d) ≡ false
    next d = grind (arith, nat_tests)

-- a client that is open isn't opened
pub not-again : (h : History) (now c : ℕ) → is_open h.base h.journal c ≡ true → StopsAt h now (Opened c) IdTaken
not-again h now c is = inr (hub.IdTaken, rw is refl, tt, refl)

-- a client's line that was put and forgotten again leaves the lines as they were
pub put-forgotten : (c : ℕ) (old with_line new : List (ℕ × PlainLine)) → line_of old c ≡ None → line_of new c ≡ None
    → ((d : ℕ) → c == d ≡ false → line_of with_line d ≡ line_of old d) → ((d : ℕ) → c == d ≡ false → line_of new d ≡ line_of with_line d)
    → (d : ℕ) → line_of new d ≡ line_of old d
put-forgotten c old with_line new none gone put forgotten d = on (c == d) refl
  where
    on : (b : Bool) → (c == d) ≡ b → line_of new d ≡ line_of old d
    on true is = let same : c ≡ d = grind (arith, nat_tests, is) in subst (λ (e : ℕ). line_of new e ≡ line_of old e) same (gone ∙ sym none)
    on false is = forgotten d is ∙ put d is

-- an event that ends with an error between two of its packets
pub ends-with : (policy : Policy) (now c : ℕ) (packets : List Packet) (line : PlainLine)
    (s t : Holding) (ids left : ℕ → ℕ) (e : CoreError) (m : Course)
    → BreaksAfter policy (visit_at c now) packets (course (opening s.history line) ids) e m
    → t.history ≡ m.scene.history → t.lines c ≡ Some m.scene.line → KeepsOthers c s t → left ≡ m.ids
    → WorksOn policy (visit_at c now) packets line (with_ids s ids) (Err e) (with_ids t left)
ends-with policy now c packets line s t ids left e m breaks history has others drawn = (m, breaks, history, (rw has refl, others), drawn)
