-- Takes after two histories that say the same.
use Rattle.std.proofs.Common.{◌≡◌, ◌⊎◌, ℕ, ◌<◌, nat_lt, min, Bool, true, false, List, [], ◌∷◌, refl, sym, ◌∙◌, ap, subst, take, length, Ok, Err, inl, inr}
use Rattle.std.specs.List.{AllZip}
use Rattle.std.proofs.lemmas.List.{length-take}
use Rattle.eio_wire.specs.declared.packet.Packet.{Packet}
use Rattle.eio_wire.specs.Payload.{Payload}
use Rattle.connection.specs.declared.clock.Transport.{Transport}
use Rattle.connection.specs.declared.clock.Transport.TheVariants.{Polling, Probing, Socket}
use Rattle.terms.specs.declared.entry.Entry.{Entry}
use Rattle.connection.specs.Line.{PlainLine}
use Rattle.journal.specs.declared.step.What.TheVariants.{Took}
use Rattle.journal.specs.Journal.{History, with_step}
use Rattle.journal.specs.Membership.{is_open}
use Rattle.journal.specs.Outboxes.{waiting}
use Rattle.events.specs.declared.fault.CoreFault.{CoreFault}
use Rattle.events.specs.declared.fault.CoreFault.TheVariants.{Memory}
use Rattle.dispatch.specs.Commands.{Makes, StopsAt}
use Rattle.events.specs.declared.outcome.Outcome.TheVariants as outcome
use Rattle.epochs.specs.Epochs.{AreAlike}
use Rattle.dispatch.specs.Frames.{IsSentAs, Sends, SendsFirst, SendsWaiting, SendsOn, SendsFor}
use Rattle.dispatch.specs.Takes.{IsFitting, IsTaken, handed, carried, Take, Counts, FailsToCount, IsShort, TellsNoop, Carries, FindsNothing, TakesFirst, TakesWaiting, TakesOn, TakesFor}
use Rattle.epochs.proofs.EpochSteps.{Grown, grown-none, StaysSound}
use Rattle.epochs.proofs.EpochEffects.{make-alike, stops-alike}

-- what leads from the one history to the other leads so from another one too
abbrev pub SimBoth : (History → History → Type 0) → History → History → History → Type 0
SimBoth R h k g = (m : History) × Grown h k g m × R g m

module _ (keeps : StaysSound) (c n now : ℕ) (h k g : History) (alike : AreAlike h g) (known : is_open h.base h.journal c ≡ true) (old new : PlainLine) where
  handed-alike : handed g c n ≡ handed h c n
  handed-alike = ap (take n) (alike.same.same_waiting c known)

  still : k ≡ h → Grown h k g g
  still is = grown-none h k g alike is

  abbrev CountsThose : List Entry → History → History → Type 0
  CountsThose es h k = elim es as (λ (es : List Entry). Type 0) [ [] ↦ k ≡ h | entry ∷ entries ↦ Makes h now (Took c n (length (entry ∷ entries))) k ]

  counts-alike : Counts c n now h k → SimBoth (Counts c n now) h k g
  counts-alike counts = subst (λ (es : List Entry). SimBoth (CountsThose es) h k g) (sym handed-alike) (on (handed h c n) refl counts)
    where
      on : (es : List Entry) → handed h c n ≡ es → CountsThose es h k → SimBoth (CountsThose es) h k g
      on [] is same = (g, still same, refl)
      on (entry ∷ entries) is makes =
          let w = Took c n (length (entry ∷ entries)) in
          let number : length (entry ∷ entries) ≡ min n (length (waiting h.base h.limits h.journal c)) = ap (λ (es : List Entry). length es) (sym is) ∙ length-take n (waiting h.base h.limits h.journal c) in
          let both = make-alike keeps now h g k alike w number makes in
          (with_step g now w, both.0, both.1)

  fails-to-count : (fault : CoreFault) → FailsToCount c n now h fault → FailsToCount c n now g fault
  fails-to-count fault (inl short) = inl short
  fails-to-count fault (inr (some, stops)) =
      subst (λ (es : List Entry). FailsThose es) (sym handed-alike) (inr (some, stops-alike keeps now h g alike (Took c n (length (handed h c n))) fault stops))
    where
      FailsThose : List Entry → Type 0
      FailsThose es = (fault ≡ Memory) ⊎ ((0 < length es) × StopsAt g now (Took c n (length es)) fault)

  -- ---- payloads

  tells-noop : (answer : Take) → TellsNoop answer h k old new → SimBoth (λ a b. TellsNoop answer a b old new) h k g
  tells-noop (Ok (outcome.Payload text)) (payload, same, advances) = (g, still same, (payload, refl, advances))
  tells-noop (Ok _) none = absurd none
  tells-noop (Err e) (is, same, lines) = (g, still same, (is, refl, lines))

  short-alike : (answer : Take) → IsShort answer h k old new → SimBoth (λ a b. IsShort answer a b old new) h k g
  short-alike (Ok outcome) none = absurd none
  short-alike (Err e) (is, same, lines) = (g, still same, (is, refl, lines))

  carries-alike : (ping : Bool) (answer : Take) → Carries c n now ping answer h k old new → SimBoth (λ a b. Carries c n now ping answer a b old new) h k g
  carries-alike ping (Ok (outcome.Payload text)) (payload, counts, advances) =
      let (m, grown, also) = counts-alike counts in
      (m, grown, (subst (λ (es : List Entry). Payload (carried ping es) text) (sym handed-alike) payload, also, advances))
  carries-alike ping (Ok _) none = absurd none
  carries-alike ping (Err e) (fault, fails, (is, same, lines)) = (g, still same, (fault, fails-to-count fault fails, (is, refl, lines)))

  finds-nothing : (on : Transport) (answer : Take) → FindsNothing on answer h k old new → SimBoth (λ a b. FindsNothing on answer a b old new) h k g
  finds-nothing Probing answer tells = tells-noop answer tells
  finds-nothing Polling answer (is, same, lines) = (g, still same, (is, refl, lines))
  finds-nothing Socket answer (is, same, lines) = (g, still same, (is, refl, lines))

  abbrev WaitsFor : Transport → Bool → Take → List Packet → History → History → Type 0
  WaitsFor on ping answer packets h k =
      elim packets as (λ (packets : List Packet). Type 0) [ [] ↦ FindsNothing on answer h k old new | packet ∷ packets ↦ Carries c n now ping answer h k old new ]

  takes-first : (on : Transport) (ping : Bool) (answer : Take) → TakesFirst on ping c n now answer h k old new → SimBoth (λ a b. TakesFirst on ping c n now answer a b old new) h k g
  takes-first on ping answer (inl short) = let (m, grown, also) = short-alike answer short in (m, grown, inl also)
  takes-first on ping answer (inr waits) =
      let (m, grown, also) = subst (λ (es : List Entry). SimBoth (WaitsFor on ping answer (carried ping es)) h k g) (sym handed-alike) (by (carried ping (handed h c n)) waits) in (m, grown, inr also)
    where
      by : (packets : List Packet) → WaitsFor on ping answer packets h k → SimBoth (WaitsFor on ping answer packets) h k g
      by [] finds = finds-nothing on answer finds
      by (packet ∷ packets) carries = carries-alike ping answer carries

  -- ---- frames

  sends-alike : (ping : Bool) (answer : Take) → Sends c n now ping answer h k old new → SimBoth (λ a b. Sends c n now ping answer a b old new) h k g
  sends-alike ping (Ok (outcome.Frames frames)) (sent, counts, advances, more) =
      let (m, grown, also) = counts-alike counts in
      (m, grown, (subst (λ (es : List Entry). AllZip IsSentAs (carried ping es) frames.list) (sym handed-alike) sent, also, advances, more ∙ ap (λ (es : List Entry). nat_lt n (length es)) (sym (alike.same.same_waiting c known))))
  sends-alike ping (Ok _) none = absurd none
  sends-alike ping (Err e) (fault, fails, (is, same, lines)) = (g, still same, (fault, fails-to-count fault fails, (is, refl, lines)))

  abbrev SendsThose : Bool → Take → List Packet → History → History → Type 0
  SendsThose ping answer packets h k =
      elim packets as (λ (packets : List Packet). Type 0) [ [] ↦ (answer ≡ Ok outcome.Nothing) × (k ≡ h) × (new ≡ old) | packet ∷ packets ↦ Sends c n now ping answer h k old new ]

  sends-first : (ping : Bool) (answer : Take) → SendsFirst ping c n now answer h k old new → SimBoth (λ a b. SendsFirst ping c n now answer a b old new) h k g
  sends-first ping answer (inl short) = let (m, grown, also) = short-alike answer short in (m, grown, inl also)
  sends-first ping answer (inr waits) =
      let (m, grown, also) = subst (λ (es : List Entry). SimBoth (SendsThose ping answer (carried ping es)) h k g) (sym handed-alike) (by (carried ping (handed h c n)) waits) in (m, grown, inr also)
    where
      by : (packets : List Packet) → SendsThose ping answer packets h k → SimBoth (SendsThose ping answer packets) h k g
      by [] (is, same, lines) = (g, still same, (is, refl, lines))
      by (packet ∷ packets) sends = sends-alike ping answer sends

module _ (keeps : StaysSound) (c most now : ℕ) (h k g : History) (alike : AreAlike h g) (known : is_open h.base h.journal c ≡ true) (old new : PlainLine) where
  taken-alike : (n : ℕ) → IsTaken h c most n → IsTaken g c most n
  taken-alike n taken = subst (λ (es : List Entry). IsFitting most es n) (sym (alike.same.same_waiting c known)) taken

  takes-waiting : (on : Transport) (ping : Bool) (answer : Take) → TakesWaiting on ping c most now answer h k old new → SimBoth (λ a b. TakesWaiting on ping c most now answer a b old new) h k g
  takes-waiting on ping answer (n, taken, waits) =
      let (m, grown, also) = takes-first keeps c n now h k g alike known old new on ping answer waits in (m, grown, (n, taken-alike n taken, also))

  takes-on : (on : Transport) (getting ping : Bool) (answer : Take) → TakesOn on getting ping c most now answer h k old new → SimBoth (λ a b. TakesOn on getting ping c most now answer a b old new) h k g
  takes-on Socket true ping answer tells = tells-noop keeps c most now h k g alike known old new answer tells
  takes-on Socket false ping answer (is, same, lines) = (g, grown-none h k g alike same, (is, refl, lines))
  takes-on Polling getting ping answer waits = takes-waiting Polling ping answer waits
  takes-on Probing getting ping answer waits = takes-waiting Probing ping answer waits

  pub takes-for : (answer : Take) → TakesFor c most now answer h k old new → SimBoth (λ a b. TakesFor c most now answer a b old new) h k g
  takes-for answer (on, getting, ping, speaks, gets, pings, takes) =
      let (m, grown, also) = takes-on on getting ping answer takes in (m, grown, (on, getting, ping, speaks, gets, pings, also))

  -- ---- frames

  sends-waiting : (ping : Bool) (answer : Take) → SendsWaiting ping c most now answer h k old new → SimBoth (λ a b. SendsWaiting ping c most now answer a b old new) h k g
  sends-waiting ping answer (n, taken, waits) =
      let (m, grown, also) = sends-first keeps c n now h k g alike known old new ping answer waits in (m, grown, (n, taken-alike n taken, also))

  pub sends-for : (answer : Take) → SendsFor c most now answer h k old new → SimBoth (λ a b. SendsFor c most now answer a b old new) h k g
  sends-for answer (on, ping, speaks, pings, sends) = let (m, grown, also) = by on sends in (m, grown, (on, ping, speaks, pings, also))
    where
      by : (on : Transport) → SendsOn on ping c most now answer h k old new → SimBoth (λ a b. SendsOn on ping c most now answer a b old new) h k g
      by Socket waits = sends-waiting ping answer waits
      by Polling (is, same, lines) = (g, grown-none h k g alike same, (is, refl, lines))
      by Probing (is, same, lines) = (g, grown-none h k g alike same, (is, refl, lines))
