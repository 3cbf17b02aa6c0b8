-- What an event adds to what a client was handed.
use Rattle.std.proofs.Common.{inl, inr, ◌≡◌, ℕ, zero, suc, ◌+◌, ◌≤◌, ◌==◌, Bool, true, false, List, [], ◌∷◌, ◌++◌, length, take, drop, refl, sym, ◌∙◌, ap, subst, arith, append-nil, append_assoc, length-append, Option, None, Some, Result, Ok, Err, OnOk}
use Rattle.std.proofs.lemmas.Bool.Decides.{nat_tests}
use Rattle.std.proofs.lemmas.List.{drop-append-le, drop-drop}
use Rattle.eio_wire.specs.declared.packet.Packet.{Packet}
use Rattle.connection.specs.declared.clock.Transport.{Transport}
use Rattle.connection.specs.declared.clock.Transport.TheVariants.{Polling, Probing, Socket}
use Rattle.terms.specs.declared.entry.Entry.{Entry}
use Rattle.connection.specs.Line.{PlainLine}
use Rattle.journal.specs.declared.error.HubError.{HubError}
use Rattle.journal.specs.declared.step.Step.{Step}
use Rattle.journal.specs.declared.step.What.{What}
use Rattle.journal.specs.declared.step.What.TheVariants.{Opened, Took}
use Rattle.journal.specs.Config.{empty_base}
use Rattle.journal.specs.Plain.{Limits, PlainBase}
use Rattle.journal.specs.Journal.{History, history, moment_at}
use Rattle.journal.specs.Membership.{is_open}
use Rattle.journal.specs.Seal.{PlainEpoch, Seals}
use Rattle.journal.proofs.EpochsSocketsLemmas.{is_open-step}
use Rattle.journal.specs.Outboxes.{put, entries_for, begins, taken_by, placements, taken, waiting}
use Rattle.events.specs.declared.fault.CoreFault.{CoreFault}
use Rattle.events.specs.declared.fault.CoreFault.TheVariants.{UnknownClient, WrongTransport}
use Rattle.dispatch.specs.Commands.{Makes}
use Rattle.dispatch.specs.Following.{is_work, AreMade, Follows}
use Rattle.events.specs.declared.event.Event.{Event}
use Rattle.events.specs.declared.event.Event.TheVariants as event
use Rattle.events.specs.declared.outcome.Outcome.TheVariants as outcome
use Rattle.events.specs.Answer.{Answer}
use Rattle.dispatch.specs.Scene.{visit_at}
use Rattle.dispatch.specs.declared.clients.Handshake.{Handshake}
use Rattle.dispatch.specs.Answers.{Refused, ForClient}
use Rattle.dispatch.specs.Frames.{Sends, SendsFirst, SendsWaiting, SendsOn, SendsFor}
use Rattle.dispatch.specs.Machine.{Opens, Takes, TakesFrames}
use Rattle.dispatch.specs.Holding.{Holding, HasLine}
use Rattle.dispatch.specs.Takes.{Take, handed, carried, Counts, IsShort, TellsNoop, Carries, FindsNothing, TakesFirst, TakesWaiting, TakesOn, TakesFor}
use Rattle.dispatch.specs.Handed.{Turn, opens, takes, Holds, HandsOut, HandedOut, AreHanded, is_begun_in, Handed}
use Rattle.dispatch.proofs.TurnLemmas.{Leads, leads-none, leads-on, as-before}

-- entries that are handed out are no more than were put
within : (es p : List Entry) (t : ℕ) → es ++ drop t p ≡ p → t ≡ length es → t ≤ length p
within es p t whole count = let long = ap length whole in omega (arith, long, count, length-append es (drop t p))

-- more is put at the end
put-more : (es p more : List Entry) (t : ℕ) → es ++ drop t p ≡ p → t ≡ length es → es ++ drop t (p ++ more) ≡ p ++ more
put-more es p more t whole count =
    ap (λ (xs : List Entry). es ++ xs) (drop-append-le t p more (within es p t whole count))
    ∙ sym (append_assoc es (drop t p) more)
    ∙ ap (λ (xs : List Entry). xs ++ more) whole

module _ (base : PlainBase) (limits : Limits) (before : List Step) (step : Step) (c : ℕ) (es : List Entry)
    (whole : es ++ waiting base limits before c ≡ placements base limits before c) (count : taken base before c ≡ length es) where
  -- a step that takes nothing of the client and doesn't open it
  quiet-whole : begins c step.what ≡ false → taken_by c step.what ≡ 0 → es ++ waiting base limits (step ∷ before) c ≡ placements base limits (step ∷ before) c
  unfolding waiting taken placements
  quiet-whole old none =
      let t = taken base before c in
      let same : t + 0 ≡ t = omega arith in
      rw (old, none, same) (put-more es (placements base limits before c) (entries_for c (put base limits before step.what)) t whole count)

  quiet-count : begins c step.what ≡ false → taken_by c step.what ≡ 0 → taken base (step ∷ before) c ≡ length es
  unfolding taken
  quiet-count old none = let same : taken base before c + 0 ≡ taken base before c = omega arith in rw (old, none, same) count

-- ---- an event's work

opens-none : (c d : ℕ) (h : History) (what : What) → is_work c h what ≡ true → begins d what ≡ false
opens-none c d h (Opened e) work = absurd (cc work)
opens-none c d h _ work = refl

takes-none : (c d : ℕ) (h : History) (what : What) → is_work c h what ≡ true → taken_by d what ≡ 0
takes-none c d h (Took e most n) work = absurd (cc work)
takes-none c d h _ work = refl

abbrev Out : PlainBase → Limits → List Step → ℕ → List Entry → Type 0
Out base limits journal c es = (es ++ waiting base limits journal c ≡ placements base limits journal c) × (taken base journal c ≡ length es)

work-on : (base : PlainBase) (limits : Limits) (d c : ℕ) (es : List Entry) (steps before : List Step) → AreMade (is_work d) (history base limits before) steps
    → Out base limits before c es → Out base limits (steps ++ before) c es
work-on base limits d c es [] before work out = out
work-on base limits d c es (step ∷ steps) before work out =
    let was = work-on base limits d c es steps before work.1 out in
    let at = history base limits (steps ++ before) in
    let old = opens-none d c at step.what work.0 in
    let none = takes-none d c at step.what work.0 in
    (quiet-whole base limits (steps ++ before) step c es was.0 was.1 old none, quiet-count base limits (steps ++ before) step c es was.0 was.1 old none)

pub work-hands-nothing : (d : ℕ) (h g : History) → Follows (is_work d) h g → (c : ℕ) (es : List Entry) → AreHanded c h es → AreHanded c g es
work-hands-nothing d h g follows c es handed =
    let out = work-on h.base h.limits d c es follows.steps h.journal follows.own (handed.whole, handed.count) in
    rw (follows.base, follows.limits, follows.journal) (record { whole = out.0; count = out.1 })

-- and opens nobody
none-begun : (d c : ℕ) (h : History) (steps : List Step) → AreMade (is_work d) h steps → is_begun_in c (steps ++ h.journal) ≡ is_begun_in c h.journal
none-begun d c h [] work = refl
none-begun d c h (step ∷ steps) work = rw (opens-none d c (history h.base h.limits (steps ++ h.journal)) step.what work.0) (none-begun d c h steps work.1)

pub work-begins-none : (d : ℕ) (h g : History) → Follows (is_work d) h g → (c : ℕ) → is_begun_in c g.journal ≡ is_begun_in c h.journal
work-begins-none d h g follows c = rw follows.journal (none-begun d c h follows.steps follows.own)

-- nothing changed
same-handed : (h g : History) → g ≡ h → (c : ℕ) (es : List Entry) → AreHanded c h es → AreHanded c g es
same-handed h g same c es handed = subst (λ (k : History). AreHanded c k es) (sym same) handed

-- ---- a client that is opened

fresh : (base : PlainBase) (limits : Limits) (before : List Step) (step : Step) (c : ℕ) → begins c step.what ≡ true → Out base limits (step ∷ before) c []
unfolding waiting taken placements
fresh base limits before step c is = rw is (refl, refl)

opened-fresh : (h g : History) (now c : ℕ) → Makes h now (Opened c) g → (d : ℕ) → (c == d) ≡ true → AreHanded d g []
opened-fresh h g now c made d is =
    let out = fresh h.base h.limits h.journal (record { at = moment_at h now; what = Opened c }) d is in
    rw made.1 (record { whole = out.0; count = out.1 })

opened-others : (h g : History) (now c : ℕ) → Makes h now (Opened c) g → (d : ℕ) → (c == d) ≡ false → (es : List Entry) → AreHanded d h es → AreHanded d g es
opened-others h g now c made d other es was =
    let step : Step = record { at = moment_at h now; what = Opened c } in
    rw made.1 (record {
      whole = quiet-whole h.base h.limits h.journal step d es was.whole was.count other refl;
      count = quiet-count h.base h.limits h.journal step d es was.whole was.count other refl;
    })

-- ---- a take

itself : (c : ℕ) → (c == c) ≡ true
itself c = grind (arith, nat_tests)

-- what a take leaves behind it
rest-of : (most : ℕ) (w : List Entry) → take most w ++ drop (length (take most w)) w ≡ w
rest-of zero w = refl
rest-of (suc most) [] = refl
rest-of (suc most) (x ∷ w) = ap (λ (xs : List Entry). x ∷ xs) (rest-of most w)

took-whole : (base : PlainBase) (limits : Limits) (before : List Step) (at c most n : ℕ) (es : List Entry) → es ++ waiting base limits before c ≡ placements base limits before c
    → n ≡ length (take most (waiting base limits before c))
    → (es ++ take most (waiting base limits before c)) ++ waiting base limits (record { at = at; what = Took c most n } ∷ before) c ≡ placements base limits (record { at = at; what = Took c most n } ∷ before) c
unfolding waiting taken placements put
took-whole base limits before at c most n es whole long =
    let t = taken base before c in
    let p = placements base limits before c in
    let w = drop t p in
    rw (itself c, append-nil p)
    (append_assoc es (take most w) (drop (t + n) p)
    ∙ ap (λ (xs : List Entry). es ++ (take most w ++ xs)) (sym (drop-drop n t p))
    ∙ ap (λ (k : ℕ). es ++ (take most w ++ drop k w)) long
    ∙ ap (λ (xs : List Entry). es ++ xs) (rest-of most w)
    ∙ whole)

took-count : (base : PlainBase) (before : List Step) (at c most n : ℕ) (es more : List Entry) → taken base before c ≡ length es → n ≡ length more
    → taken base (record { at = at; what = Took c most n } ∷ before) c ≡ length (es ++ more)
unfolding taken
took-count base before at c most n es more count long = rw (itself c) (omega (arith, count, long, length-append es more))

took-none : (c d most n : ℕ) → (c == d) ≡ false → taken_by d (Took c most n) ≡ 0
took-none c d most n other = rw other refl

-- these entries more are handed out to a client, and none to others, by steps of an event of the client
pub record Gives (c : ℕ) (h g : History) (more : List Entry) : Type 0 where
  pub leads : Leads c h g
  pub stays : (d : ℕ) → is_open g.base g.journal d ≡ is_open h.base h.journal d
  begun : (d : ℕ) → is_begun_in d g.journal ≡ is_begun_in d h.journal
  own : (es : List Entry) → AreHanded c h es → AreHanded c g (es ++ more)
  others : (d : ℕ) → (c == d) ≡ false → (es : List Entry) → AreHanded d h es → AreHanded d g es

gives-none : (c : ℕ) (h g : History) → g ≡ h → Gives c h g []
gives-none c h g same = record {
  leads = leads-none c h g same;
  stays = λ d. ap (λ (k : History). is_open k.base k.journal d) same;
  begun = λ d. ap (λ (k : History). is_begun_in d k.journal) same;
  own = λ es handed. subst (λ (xs : List Entry). AreHanded c g xs) (sym (append-nil es)) (same-handed h g same c es handed);
  others = λ d other es handed. same-handed h g same d es handed;
}

took-gives : (h g : History) (now c most n : ℕ) → Makes h now (Took c most n) g → n ≡ length (handed h c most) → Gives c h g (handed h c most)
took-gives h g now c most n made long =
    let step : Step = record { at = moment_at h now; what = Took c most n } in
    record {
      leads = leads-on c h h g now (Took c most n) made.1 (itself c) refl tt (leads-none c h h refl);
      stays = λ d. rw made.1 (is_open-step h.base step h.journal d ∙ as-before (is_open h.base h.journal d));
      begun = λ d. ap (λ (k : History). is_begun_in d k.journal) made.1;
      own = λ es was. rw made.1 (record {
        whole = took-whole h.base h.limits h.journal (moment_at h now) c most n es was.whole long;
        count = took-count h.base h.journal (moment_at h now) c most n es (handed h c most) was.count long;
      });
      others = λ d other es was. rw made.1 (record {
        whole = quiet-whole h.base h.limits h.journal step d es was.whole was.count refl (took-none c d most n other);
        count = quiet-count h.base h.limits h.journal step d es was.whole was.count refl (took-none c d most n other);
      });
    }

abbrev CountsOf : (c most now : ℕ) → (h g : History) → List Entry → Type 0
CountsOf c most now h g es = elim es [ [] ↦ g ≡ h | entry ∷ entries ↦ Makes h now (Took c most (length (entry ∷ entries))) g ]

counts-gives : (c most now : ℕ) (h g : History) → Counts c most now h g → Gives c h g (handed h c most)
counts-gives c most now h g counts = on (handed h c most) refl counts
  where
    on : (es : List Entry) → handed h c most ≡ es → CountsOf c most now h g es → Gives c h g (handed h c most)
    on [] none same = rw none (gives-none c h g same)
    on (entry ∷ entries) some made = took-gives h g now c most (length (entry ∷ entries)) made (ap length (sym some))

-- what the answer holds is what is given
abbrev HoldsTaken : Take → List Entry → Type 0
HoldsTaken (Ok outcome) entries = Holds outcome entries
HoldsTaken (Err e) entries = entries ≡ []

abbrev Hands : ℕ → Take → (h g : History) → Type 0
Hands c r h g = (more : List Entry) × HoldsTaken r more × Gives c h g more

short-hands : (c : ℕ) (r : Take) (h g : History) (old new : PlainLine) → IsShort r h g old new → Hands c r h g
short-hands c (Ok outcome) h g old new short = absurd short
short-hands c (Err e) h g old new short = ([], refl, gives-none c h g short.1)

noop-hands : (c : ℕ) (r : Take) (h g : History) (old new : PlainLine) → TellsNoop r h g old new → Hands c r h g
noop-hands c (Ok (outcome.Payload text)) h g old new tells = ([], inl (tells.0, refl), gives-none c h g tells.1)
noop-hands c (Ok _) h g old new tells = absurd tells
noop-hands c (Err e) h g old new tells = ([], refl, gives-none c h g tells.1)

nothing-hands : (c : ℕ) (r : Take) (h g : History) → r ≡ Ok outcome.Nothing → g ≡ h → Hands c r h g
nothing-hands c r h g is same = rw is ([], refl, gives-none c h g same)

refused-hands : (c : ℕ) (r : Take) (h g : History) (fault : CoreFault) → r ≡ Err fault → g ≡ h → Hands c r h g
refused-hands c r h g fault is same = rw is ([], refl, gives-none c h g same)

finds-hands : (on : Transport) (c : ℕ) (r : Take) (h g : History) (old new : PlainLine) → FindsNothing on r h g old new → Hands c r h g
finds-hands Probing c r h g old new finds = noop-hands c r h g old new finds
finds-hands Polling c r h g old new finds = nothing-hands c r h g finds.0 finds.1
finds-hands Socket c r h g old new finds = nothing-hands c r h g finds.0 finds.1

carries-hands : (c most now : ℕ) (ping : Bool) (r : Take) (h g : History) (old new : PlainLine) → Carries c most now ping r h g old new → Hands c r h g
carries-hands c most now ping (Ok (outcome.Payload text)) h g old new carries = (handed h c most, inr (ping, carries.0), counts-gives c most now h g carries.1)
carries-hands c most now ping (Ok _) h g old new carries = absurd carries
carries-hands c most now ping (Err e) h g old new carries = ([], refl, gives-none c h g carries.2.1)

sends-hands : (c most now : ℕ) (ping : Bool) (r : Take) (h g : History) (old new : PlainLine) → Sends c most now ping r h g old new → Hands c r h g
sends-hands c most now ping (Ok (outcome.Frames frames)) h g old new sends = (handed h c most, (ping, sends.0), counts-gives c most now h g sends.1)
sends-hands c most now ping (Ok _) h g old new sends = absurd sends
sends-hands c most now ping (Err e) h g old new sends = ([], refl, gives-none c h g sends.2.1)

abbrev WaitsOf : (on : Transport) (ping : Bool) (c most now : ℕ) (r : Take) (h g : History) (old new : PlainLine) → List Packet → Type 0
WaitsOf on ping c most now r h g old new packets = elim packets [ [] ↦ FindsNothing on r h g old new | packet ∷ others ↦ Carries c most now ping r h g old new ]

first-hands : (on : Transport) (ping : Bool) (c n now : ℕ) (r : Take) (h g : History) (old new : PlainLine) → TakesFirst on ping c n now r h g old new → Hands c r h g
first-hands on ping c n now r h g old new (inl short) = short-hands c r h g old new short
first-hands on ping c n now r h g old new (inr row) = by (carried ping (handed h c n)) row
  where
    by : (packets : List Packet) → WaitsOf on ping c n now r h g old new packets → Hands c r h g
    by [] row = finds-hands on c r h g old new row
    by (packet ∷ others) row = carries-hands c n now ping r h g old new row

waiting-hands : (on : Transport) (ping : Bool) (c most now : ℕ) (r : Take) (h g : History) (old new : PlainLine) → TakesWaiting on ping c most now r h g old new → Hands c r h g
waiting-hands on ping c most now r h g old new (n, fitting, row) = first-hands on ping c n now r h g old new row

abbrev SendsOf : (ping : Bool) (c most now : ℕ) (r : Take) (h g : History) (old new : PlainLine) → List Packet → Type 0
SendsOf ping c most now r h g old new packets = elim packets [ [] ↦ (r ≡ Ok outcome.Nothing) × (g ≡ h) × (new ≡ old) | packet ∷ others ↦ Sends c most now ping r h g old new ]

first-sent : (ping : Bool) (c n now : ℕ) (r : Take) (h g : History) (old new : PlainLine) → SendsFirst ping c n now r h g old new → Hands c r h g
first-sent ping c n now r h g old new (inl short) = short-hands c r h g old new short
first-sent ping c n now r h g old new (inr row) = by (carried ping (handed h c n)) row
  where
    by : (packets : List Packet) → SendsOf ping c n now r h g old new packets → Hands c r h g
    by [] row = nothing-hands c r h g row.0 row.1
    by (packet ∷ others) row = sends-hands c n now ping r h g old new row

sending-hands : (ping : Bool) (c most now : ℕ) (r : Take) (h g : History) (old new : PlainLine) → SendsWaiting ping c most now r h g old new → Hands c r h g
sending-hands ping c most now r h g old new (n, fitting, row) = first-sent ping c n now r h g old new row

takes-hands : (c most now : ℕ) (r : Take) (h g : History) (old new : PlainLine) → TakesFor c most now r h g old new → Hands c r h g
takes-hands c most now r h g old new row = by row.0 row.1 row.2 row.6
  where
    by : (on : Transport) (getting ping : Bool) → TakesOn on getting ping c most now r h g old new → Hands c r h g
    by Socket true ping row = noop-hands c r h g old new row
    by Socket false ping row = refused-hands c r h g WrongTransport row.0 row.1
    by Polling getting ping row = waiting-hands Polling ping c most now r h g old new row
    by Probing getting ping row = waiting-hands Probing ping c most now r h g old new row

frames-hands : (c most now : ℕ) (r : Take) (h g : History) (old new : PlainLine) → SendsFor c most now r h g old new → Hands c r h g
frames-hands c most now r h g old new row = by row.0 row.1 row.4
  where
    by : (on : Transport) (ping : Bool) → SendsOn on ping c most now r h g old new → Hands c r h g
    by Socket ping row = sending-hands ping c most now r h g old new row
    by Polling ping row = refused-hands c r h g WrongTransport row.0 row.1
    by Probing ping row = refused-hands c r h g WrongTransport row.0 row.1

-- ---- a turn

abbrev pub Given : ℕ → Answer → (h g : History) → Type 0
Given c answer h g = (more : List Entry) × HandsOut answer more × Gives c h g more

abbrev RowOf : (row : PlainLine → Type 0) (s : Holding) (answer : Answer) (t : Holding) → Option PlainLine → Type 0
RowOf row s answer t o = elim o [ None ↦ Refused UnknownClient s answer t | Some line ↦ row line ]

abbrev AfterOf : (row : PlainLine → Type 0) → Option PlainLine → Type 0
AfterOf row o = elim o [ None ↦ ⊥ | Some line ↦ row line ]

by-client : (c : ℕ) (row : PlainLine → Holding → Answer → Holding → Type 0) (s : Holding) (answer : Answer) (t : Holding)
    → ((line : PlainLine) → row line s answer t → Given c answer s.history t.history) → ForClient c row s answer t → Given c answer s.history t.history
by-client c row s answer t each does = by (s.lines c) does
  where
    by : (o : Option PlainLine) → RowOf (λ line. row line s answer t) s answer t o → Given c answer s.history t.history
    by None refused = rw refused.0 ([], refl, gives-none c s.history t.history refused.1)
    by (Some line) does = each line does

by-line : (c : ℕ) (row : PlainLine → Type 0) (X : Type 0) (s t : Holding) → ((after : PlainLine) → row after → X) → HasLine c row s t → X
by-line c row X s t each has = by (t.lines c) has.0
  where
    by : (o : Option PlainLine) → AfterOf row o → X
    by None none = absurd none
    by (Some after) is = each after is

take-given : (now c most : ℕ) (line : PlainLine) (s : Holding) (answer : Answer) (t : Holding) → Takes most (visit_at c now) line s answer t → Given c answer s.history t.history
take-given now c most line s (Ok o) t does =
    by-line c (λ after. TakesFor c most now (Ok o) s.history t.history line after) (Given c (Ok o) s.history t.history) s t (λ after row. takes-hands c most now (Ok o) s.history t.history line after row) does
take-given now c most line s (Err e) t does =
    by-line c (λ after. TakesFor c most now (Err e.fault) s.history t.history line after) (Given c (Err e) s.history t.history) s t (λ after row. takes-hands c most now (Err e.fault) s.history t.history line after row) does.1

frames-given : (now c most : ℕ) (line : PlainLine) (s : Holding) (answer : Answer) (t : Holding) → TakesFrames most (visit_at c now) line s answer t → Given c answer s.history t.history
frames-given now c most line s (Ok o) t does =
    by-line c (λ after. SendsFor c most now (Ok o) s.history t.history line after) (Given c (Ok o) s.history t.history) s t (λ after row. frames-hands c most now (Ok o) s.history t.history line after row) does
frames-given now c most line s (Err e) t does =
    by-line c (λ after. SendsFor c most now (Err e.fault) s.history t.history line after) (Given c (Err e) s.history t.history) s t (λ after row. frames-hands c most now (Err e.fault) s.history t.history line after row) does.1

-- an event that neither opens a client nor takes anything
pub handed-work : (named : Event) (c : ℕ) (answer : Answer) (h g : History) → ((d : ℕ) → opens d named answer ≡ false) → ((d : ℕ) → takes d named ≡ false) → Follows (is_work c) h g
    → (d : ℕ) (turns : List Turn) → Handed d turns h → Handed d ((named, answer) ∷ turns) g
unfolding HandedOut
handed-work named c answer h g opened none follows d turns was =
    record {
      entries = was.entries;
      out = rw (opened d, none d, HandedOut) was.out;
      are = work-hands-nothing c h g follows d was.entries was.are;
      opened = rw (opened d) (work-begins-none c h g follows d ∙ was.opened);
    }

pub given-turn : (named : Event) (c : ℕ) (answer : Answer) (h g : History) → ((d : ℕ) → opens d named answer ≡ false) → ((d : ℕ) → takes d named ≡ (c == d)) → Given c answer h g
    → (d : ℕ) (turns : List Turn) → Handed d turns h → Handed d ((named, answer) ∷ turns) g
unfolding HandedOut
given-turn named c answer h g opened none given d turns was = by (c == d) refl
  where
    by : (b : Bool) → (c == d) ≡ b → Handed d ((named, answer) ∷ turns) g
    by true same =
        let one : c ≡ d = grind (arith, nat_tests, same) in
        record {
          entries = was.entries ++ given.0;
          out = rw (opened d, none d, same, HandedOut) (was.entries, given.0, was.out, given.1, refl);
          are = subst (λ (e : ℕ). AreHanded e h was.entries → AreHanded e g (was.entries ++ given.0)) one (given.2.own was.entries) was.are;
          opened = rw (opened d) (given.2.begun d ∙ was.opened);
        }
    by false other = record {
      entries = was.entries;
      out = rw (opened d, none d, other, HandedOut) was.out;
      are = given.2.others d other was.entries was.are;
      opened = rw (opened d) (given.2.begun d ∙ was.opened);
    }

pub taken-given : (now c most : ℕ) (s : Holding) (answer : Answer) (t : Holding) → ForClient c (Takes most (visit_at c now)) s answer t → Given c answer s.history t.history
taken-given now c most s answer t does = by-client c (Takes most (visit_at c now)) s answer t (λ line row. take-given now c most line s answer t row) does

pub sent-given : (now c most : ℕ) (s : Holding) (answer : Answer) (t : Holding) → ForClient c (TakesFrames most (visit_at c now)) s answer t → Given c answer s.history t.history
sent-given now c most s answer t does = by-client c (TakesFrames most (visit_at c now)) s answer t (λ line row. frames-given now c most line s answer t row) does

pub handed-open : (told : Handshake) (now : ℕ) (socket : Bool) (c : ℕ) (s : Holding) (answer : Answer) (t : Holding)
    → Opens told socket (visit_at c now) s answer t → (d : ℕ) (turns : List Turn) → Handed d turns s.history → Handed d ((event.Opened socket, answer) ∷ turns) t.history
unfolding HandedOut
handed-open told now socket c s (Ok (outcome.Opened o)) t does d turns was = by (c == d) refl
  where
    by : (b : Bool) → (c == d) ≡ b → Handed d ((event.Opened socket, Ok (outcome.Opened o)) ∷ turns) t.history
    by true same = record {
      entries = [];
      out = rw (does.0, same, HandedOut) refl;
      are = opened-fresh s.history t.history now c does.2 d same;
      opened = rw (does.2.1, does.0, same) refl;
    }
    by false other = record {
      entries = was.entries;
      out = rw (does.0, other, HandedOut) was.out;
      are = opened-others s.history t.history now c does.2 d other was.entries was.are;
      opened = rw (does.2.1, does.0, other) was.opened;
    }
handed-open told now socket c s (Ok _) t does d turns was = absurd does
handed-open told now socket c s (Err e) t does d turns was =
    record { entries = was.entries; out = was.out; are = same-handed s.history t.history does.1.1 d was.entries was.are; opened = ap (λ (k : History). is_begun_in d k.journal) does.1.1 ∙ was.opened }

-- ---- a new core, and one whose account begins anew

nothing-out : (base : PlainBase) (limits : Limits) (c : ℕ) → base.clients ≡ [] → Out base limits [] c []
unfolding waiting taken placements
nothing-out base limits c none = rw none (refl, refl)

pub handed-fresh : (limits : Limits) (h : History) → h ≡ record { base = empty_base limits.first_offset; limits = limits; journal = [] } → (c : ℕ) → Handed c [] h
unfolding HandedOut
handed-fresh limits h is c =
    let out = nothing-out (empty_base limits.first_offset) limits c refl in
    rw is (record { entries = []; out = refl; are = record { whole = out.0; count = out.1 }; opened = refl })

-- after a seal what waits is all that was put
pub handed-sealed : (r : Result PlainEpoch HubError) (h g : History) → Seals h r g → OnOk r ((c : ℕ) → Handed c [] g)
unfolding HandedOut waiting taken placements
handed-sealed (Ok epoch) h g seals = λ c.
    let none = seals.sealed.no_steps in
    record { entries = []; out = refl; are = record { whole = rw none refl; count = rw none refl }; opened = rw none refl }
handed-sealed (Err e) h g seals = tt
