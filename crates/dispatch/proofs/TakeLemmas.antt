-- The packets that a take carries, and that they have a payload.
use Rattle.std.proofs.Common.{◌≡◌, ◌≢◌, ℕ, zero, suc, ◌+◌, ◌<◌, ◌≤◌, min, max, ◌==◌, Bool, true, false, not, List, [], ◌∷◌, ◌++◌, length, map, take, refl, sym, ◌∙◌, ap, subst, rules, arith, inl, inr, All, None, Some, Err, slice_get, append_assoc, if◌then◌else◌}
use Rattle.std.specs.List.{flat_map, list_any, sum_by}
use Rattle.std.proofs.lemmas.Bool.Decides.{nat_tests}
use Rattle.std.proofs.lemmas.Grind.{flat_map-append}
use Rattle.std.proofs.lemmas.List.Concat.{flat_map-cons}
use Rattle.std.proofs.lemmas.List.{take_all, take-take, length-take}
use Rattle.std.proofs.lemmas.List.Sums.{sum_by_push, sum_by-take-le}
use Rattle.std.proofs.lemmas.List.Elements.{All-nil, All-cons, All-append}
use Rattle.std.proofs.lemmas.Option.{slice_get_cases, slice_get_within}
use Rattle.eio_wire.specs.declared.packet.Packet.{Packet}
use Rattle.eio_wire.specs.declared.packet.Packet.TheVariants.{Ping, Message, Binary}
use Rattle.eio_wire.specs.Payload.{HasWholeData}
use Rattle.connection.specs.declared.clock.Transport.{Transport}
use Rattle.connection.specs.Line.{PlainLine}
use Rattle.terms.specs.declared.entry.Entry.{Entry}
use Rattle.terms.specs.Entry.{entry_size}
use Rattle.journal.specs.declared.step.What.TheVariants.{Took}
use Rattle.journal.specs.Plain.{PlainOutbox}
use Rattle.journal.specs.Entries.{AllPass}
use Rattle.journal.specs.Journal.{History}
use Rattle.journal.specs.Outboxes.{total_size, waiting}
use Rattle.journal.proofs.EntriesLemmas.{what-waits}
use Rattle.journal.proofs.OutboxesLemmas.{take_next}
use Rattle.journal.proofs.SocketsLemmas.{neither}
use Rattle.hub_state.specs.Words.{outbox_for, took}
use Rattle.events.specs.declared.fault.CoreFault.{CoreFault}
use Rattle.dispatch.specs.Commands.{Makes, StopsAt}
use Rattle.dispatch.specs.Following.{is_clean}
use Rattle.dispatch.specs.Holding.{IsClean}
use Rattle.dispatch.specs.Takes.{most_taken, IsFitting, IsTaken, packets_of, handed, carried, Take, Counts, FailsToCount, Carries, FindsNothing, TakesFirst}

-- one entry more is carried
pub carried-more : (ping : Bool) (w : List Entry) (i : ℕ) (e : Entry) → slice_get w i ≡ Some e → carried ping (take i w) ++ packets_of e ≡ carried ping (take (i + 1) w)
carried-more ping w i e is =
    let first = if ping then Ping [] ∷ [] else [] in
    let rest = flat_map packets_of (take i w) in
    append_assoc first rest (packets_of e)
    ∙ ap (λ (ps : List Packet). first ++ (rest ++ ps)) (sym (one packets_of e))
    ∙ ap (λ (ps : List Packet). first ++ ps) (sym (flat_map-append packets_of (take i w) (e ∷ [])))
    ∙ ap (λ (es : List Entry). carried ping es) (sym (take_next w i e (sym is)))
  where
    one : {X A : Type 0} (f : X → List A) (x : X) → flat_map f (x ∷ []) ≡ f x
    one f x = search rules

-- where nothing is, the list has ended
pub past-end : {X : Type 0} (w : List X) (i : ℕ) → slice_get w i ≡ None → length w ≤ i
past-end w i none = elim (slice_get_cases w i).1 [
  | inl there ↦ absurd (cc (there.2, none))
  | inr past ↦ past.0
]

-- the entries up to one that isn't there are all that may be taken
pub all-taken : {X : Type 0} (w : List X) (i most : ℕ) → slice_get w i ≡ None → i < most → take i w ≡ take most w
all-taken w i most none less =
    let past = past-end w i none in
    take_all i w past ∙ sym (take_all most w (omega (arith, past)))

-- ---- how many fit

-- no entry has no bytes
pub size-none : (w : List Entry) → total_size (take 0 w) ≡ 0
unfolding total_size
size-none w = refl

-- one entry more has its bytes more
pub size-more : (w : List Entry) (i : ℕ) (e : Entry) → slice_get w i ≡ Some e → total_size (take (i + 1) w) ≡ total_size (take i w) + entry_size e
unfolding total_size
size-more w i e is = ap (λ (es : List Entry). sum_by entry_size es) (take_next w i e (sym is)) ∙ sum_by_push entry_size (take i w) e

-- a longer front has no fewer bytes
size-longer : (w : List Entry) (j k : ℕ) → j ≤ k → total_size (take j w) ≤ total_size (take k w)
unfolding total_size
size-longer w j k longer = subst (λ (es : List Entry). sum_by entry_size es ≤ sum_by entry_size (take k w)) (take-take j k w longer) (sum_by-take-le entry_size (take k w) j)

-- all that may be taken fits
pub all-fit : (most : ℕ) (w : List Entry) (n : ℕ) → n ≡ min most (length w) → total_size (take n w) ≤ most_taken → IsFitting most w n
all-fit most w n is small = record {
  within = omega (arith, is);
  some = λ more. omega (arith, is, more);
  fits = λ many. small;
  longest = λ k past within. absurd (omega (arith, is, past, within));
}

-- where all that wait fit
pub small-fit : (most : ℕ) (w : List Entry) (n : ℕ) → n ≡ min most (length w) → total_size w ≤ most_taken → IsFitting most w n
unfolding total_size
small-fit most w n is small = all-fit most w n is (omega (arith, sum_by-take-le entry_size w n, small))

-- the entry at an index doesn't fit
pub front-fits : (most : ℕ) (w : List Entry) (i : ℕ) (e : Entry) → slice_get w i ≡ Some e → i < most → total_size (take i w) ≤ most_taken
    → most_taken < total_size (take i w) + entry_size e → IsFitting most w (max i 1)
front-fits most w i e is less small large =
    let there = slice_get_within w i e is in
    record {
      within = omega (arith, there, less);
      some = λ more. omega arith;
      fits = λ many. let same : i ≡ max i 1 = omega (arith, many) in subst (λ (n : ℕ). total_size (take n w) ≤ most_taken) same small;
      longest = λ k past within. let more = size-longer w (i + 1) k (omega (arith, past)) in omega (arith, more, large, size-more w i e is);
    }

-- as many of a client's outbox
pub taken : (h : History) (c most n : ℕ) (outbox : PlainOutbox) → outbox ≡ outbox_for h c → IsFitting most outbox.waiting n → IsTaken h c most n
taken h c most n outbox is fits = subst (λ (o : PlainOutbox). IsFitting most o.waiting n) is fits

-- ---- what a take hands out is counted

-- some of those that wait
some-taken : {X : Type 0} (w : List X) (n : ℕ) → n ≤ length w → 0 < n → 0 < length (take n w)
some-taken w n within more = omega (arith, length-take n w, within, more)

counts-some : (c most now : ℕ) (h g : History) → 0 < length (handed h c most) → Makes h now (took h c most) g → Counts c most now h g
counts-some c most now h g some made = on (handed h c most) refl some
  where
    on : (es : List Entry) → handed h c most ≡ es → 0 < length es → elim es as (λ (es : List Entry). Type 0) [ [] ↦ g ≡ h | e ∷ rest ↦ Makes h now (Took c most (length (e ∷ rest))) g ]
    on [] is more = absurd (omega (arith, more))
    on (e ∷ rest) is more =
        subst (λ (n : ℕ). Makes h now (Took c most n) g) (sym (length-take most (waiting h.base h.limits h.journal c)) ∙ ap (λ (es : List Entry). length es) is) made

counts-none : (c most now : ℕ) (h g : History) → handed h c most ≡ [] → g ≡ h → Counts c most now h g
counts-none c most now h g none same = rw (none, Counts) same

-- so many of those that wait are taken, or none are
pub counted : (c n now : ℕ) (h g : History) → n ≤ length (waiting h.base h.limits h.journal c) → (n ≡ 0 → g ≡ h) → (0 < n → Makes h now (took h c n) g) → Counts c n now h g
counted c zero now h g within none some = counts-none c 0 now h g refl (none refl)
counted c (suc n) now h g within none some =
    let more : 0 < suc n = omega arith in
    counts-some c (suc n) now h g (some-taken (waiting h.base h.limits h.journal c) (suc n) within more) (some more)

-- the error of a take of some of those that wait
pub fails-to-count : (c n now : ℕ) (h : History) (fault : CoreFault) → n ≤ length (waiting h.base h.limits h.journal c) → 0 < n → StopsAt h now (took h c n) fault → FailsToCount c n now h fault
fails-to-count c n now h fault within more stops =
    let w = waiting h.base h.limits h.journal c in
    inr (some-taken w n within more, subst (λ (m : ℕ). StopsAt h now (Took c n m) fault) (sym (length-take n w)) stops)

-- some are carried, and their take stops
pub stops-first : (on : Transport) (ping : Bool) (c n now : ℕ) (answer : Take) (fault : CoreFault) (h g : History) (old new : PlainLine) → answer ≡ Err fault → 0 < length (carried ping (handed h c n))
    → FailsToCount c n now h fault → g ≡ h → new ≡ old → TakesFirst on ping c n now answer h g old new
stops-first on ping c n now answer fault h g old new is some fails same line =
    subst (λ (r : Take). TakesFirst on ping c n now r h g old new) (sym is) (inr (by (carried ping (handed h c n)) some))
  where
    by : (packets : List Packet) → 0 < length packets → elim packets as (λ (packets : List Packet). Type 0) [ [] ↦ FindsNothing on (Err fault) h g old new | packet ∷ others ↦ Carries c n now ping (Err fault) h g old new ]
    by [] more = absurd (omega (arith, more))
    by (packet ∷ others) more = (fault, fails, (refl, same, line))

-- ---- no packet holds a separator

-- where a text lacks the separator, it stands nowhere in it
whole-text : (text : List ℕ) → list_any (λ b. b == 30) text ≡ false → All (λ b. b ≢ 30) text
whole-text [] none = All-nil (λ (b : ℕ). b ≢ 30)
whole-text (x ∷ text) none =
    let both = neither (x == 30) (list_any (λ (b : ℕ). b == 30) text) none in
    All-cons (λ (b : ℕ). b ≢ 30) x text (λ is. apart x both.0 is) (whole-text text both.1)
  where
    apart : (x : ℕ) → (x == 30) ≡ false → x ≢ 30
    apart x other is = absurd (grind (arith, nat_tests, other, is))

clean-text : (b : Bool) → not b ≡ true → b ≡ false
clean-text true e = absurd (cc e)
clean-text false e = refl

whole-parts : (parts : List (List ℕ)) → All HasWholeData (map Binary parts)
whole-parts [] = All-nil HasWholeData
whole-parts (attachment ∷ parts) = All-cons HasWholeData (Binary attachment) (map Binary parts) tt (whole-parts parts)

whole-entries : (entries : List Entry) → AllPass is_clean entries → All HasWholeData (flat_map packets_of entries)
whole-entries [] all = All-nil HasWholeData
whole-entries (e ∷ entries) all =
    subst (λ (ps : List Packet). All HasWholeData ps) (sym (flat_map-cons packets_of e entries))
    (All-append HasWholeData (packets_of e) (flat_map packets_of entries)
    (All-cons HasWholeData (Message e.text) (map Binary e.attachments) (whole-text e.text (clean-text (list_any (λ b. b == 30) e.text) all.0)) (whole-parts e.attachments))
    (whole-entries entries all.1))

some-pass : (n : ℕ) (entries : List Entry) → AllPass is_clean entries → AllPass is_clean (take n entries)
some-pass zero entries all = tt
some-pass (suc n) [] all = tt
some-pass (suc n) (e ∷ entries) all = (all.0, some-pass n entries all.1)

pub whole-carried : (ping : Bool) (c most : ℕ) (h : History) → IsClean h → All HasWholeData (carried ping (handed h c most))
whole-carried ping c most h clean =
    All-append HasWholeData (if ping then Ping [] ∷ [] else []) (flat_map packets_of (handed h c most)) (first ping)
    (whole-entries (handed h c most) (some-pass most (waiting h.base h.limits h.journal c) ((what-waits is_clean h.base h.limits h.journal clean.entries).waits c)))
  where
    first : (ping : Bool) → All HasWholeData (if ping then Ping [] ∷ [] else [])
    first true = All-cons HasWholeData (Ping []) [] (All-nil (λ (b : ℕ). b ≢ 30)) (All-nil HasWholeData)
    first false = All-nil HasWholeData
