-- What an event leaves, after the app has heard of the sockets that it ended.
use Rattle.std.proofs.Common.{◌≡◌, ℕ, Bool, true, false, List, ◌∷◌, drop, length, refl, ◌++◌, sym, ◌∙◌, ap, subst, Option, None, Some, Result, Ok, Err, IfOk}
use Rattle.std.specs.Prelude.{unwrap_or}
use Rattle.std.specs.List.{AllByRecursion}
use Rattle.eio_wire.specs.Payload.{IsWhole}
use Rattle.connection.specs.Line.{PlainLine}
use Rattle.terms.specs.declared.entry.Entry.{Entry}
use Rattle.journal.specs.Plain.{Limits}
use Rattle.journal.specs.Journal.{History}
use Rattle.journal.specs.Membership.{is_open}
use Rattle.hub_state.specs.EndedSockets.{PlainEnded, ended_sockets}
use Rattle.events.specs.declared.event.Event.{Event}
use Rattle.events.specs.declared.event.Event.TheVariants as event
use Rattle.events.specs.declared.fault.CoreFault.{CoreFault}
use Rattle.events.specs.declared.outcome.Outcome.{Outcome}
use Rattle.events.specs.declared.outcome.Outcome.TheVariants as outcome
use Rattle.events.specs.Answer.{Answer}
use Rattle.events.specs.App.{Policy}
use Rattle.events.specs.Event.{client_of}
use Rattle.events.specs.Plain.{PlainDone, nothing_done}
use Rattle.dispatch.specs.Hearing.{ended_since, HearsOfAll}
use Rattle.dispatch.specs.Following.{is_turn, is_work, Follows, Spares}
use Rattle.dispatch.specs.Broadcasting.{work}
use Rattle.dispatch.proofs.HearingLemmas.{Onward, heard-open, heard-onward, heard-spares}
use Rattle.dispatch.specs.declared.clients.Handshake.{Handshake}
use Rattle.dispatch.specs.Handed.{Turn, opens, takes, HandsOut, HandedOut, Handed}
use Rattle.dispatch.specs.Hearing.{done_of, with_done, done_before, answer_after, Hears, HearsAfter}
use Rattle.dispatch.specs.Machine.{IsOf, listed, Row, Does}
use Rattle.dispatch.specs.Holding.{Holding, holding, Agree, with_ids, standing}
use Rattle.dispatch.proofs.EventLaws.{Applied, applied}
use Rattle.dispatch.proofs.HandedLemmas.{work-hands-nothing, work-begins-none}
use Rattle.dispatch.proofs.ServerLemmas.{of-some}
use Rattle.dispatch.proofs.TurnLemmas.{follows-none}

-- ---- what the answer tells

-- an outcome that tells what was done lists those that got something, and hands out nothing
listed-done : (o : Outcome) (before after : PlainDone) → done_of o ≡ Some before → (listed o ≡ before.clients) × (listed (with_done o after) ≡ after.clients)
listed-done (outcome.Done done) before after is = (ap (λ (d : Option PlainDone). (unwrap_or d nothing_done).clients) is, refl)
listed-done (outcome.Lost saved done) before after is = (ap (λ (d : Option PlainDone). (unwrap_or d nothing_done).clients) is, refl)
listed-done (outcome.Ticked ping done) before after is = (ap (λ (d : Option PlainDone). (unwrap_or d nothing_done).clients) is, refl)
listed-done _ before after is = absurd (cc is)

hands-none : (o : Outcome) (before : PlainDone) → done_of o ≡ Some before → (r : Result (Unit {0}) CoreFault) (after : PlainDone) (entries : List Entry) → HandsOut (Ok o) entries → HandsOut (answer_after (Ok o) r after) entries
hands-none (outcome.Done done) before is (Ok x) after entries none = none
hands-none (outcome.Done done) before is (Err f) after entries none = none
hands-none (outcome.Lost saved done) before is (Ok x) after entries none = none
hands-none (outcome.Lost saved done) before is (Err f) after entries none = none
hands-none (outcome.Ticked ping done) before is (Ok x) after entries none = none
hands-none (outcome.Ticked ping done) before is (Err f) after entries none = none
hands-none _ before is r after entries none = absurd (cc is)

hands-same : (said : Answer) (before : PlainDone) → done_before said ≡ Some before → (r : Result (Unit {0}) CoreFault) (after : PlainDone) (entries : List Entry) → HandsOut said entries → HandsOut (answer_after said r after) entries
hands-same (Ok o) before is r after entries none = hands-none o before is r after entries none
hands-same (Err e) before is r after entries none = none

-- an event of a client opens none
opens-none : (event : Event) (c : ℕ) → client_of event ≡ Some c → (d : ℕ) (answer : Answer) → opens d event answer ≡ false
opens-none (event.Opened socket) c is d answer = absurd (cc is)
opens-none _ c is d answer = refl

own-client : (event : Event) (c : ℕ) → client_of event ≡ Some c → (ids : ℕ → ℕ) (d : ℕ) → IsOf event ids d → d ≡ c
own-client (event.Opened socket) c is ids d of = absurd (cc is)
own-client event.Sweep c is ids d of = absurd (cc is)
own-client (event.Post e body) c is ids d of = of ∙ ap (λ (o : Option ℕ). unwrap_or o 0) is
own-client (event.Frame e frame) c is ids d of = of ∙ ap (λ (o : Option ℕ). unwrap_or o 0) is
own-client (event.PollBegin e) c is ids d of = of ∙ ap (λ (o : Option ℕ). unwrap_or o 0) is
own-client (event.PollEnd e) c is ids d of = of ∙ ap (λ (o : Option ℕ). unwrap_or o 0) is
own-client (event.PollTake e most) c is ids d of = of ∙ ap (λ (o : Option ℕ). unwrap_or o 0) is
own-client (event.FrameTake e most) c is ids d of = of ∙ ap (λ (o : Option ℕ). unwrap_or o 0) is
own-client (event.Probe e) c is ids d of = of ∙ ap (λ (o : Option ℕ). unwrap_or o 0) is
own-client (event.Upgraded e) c is ids d of = of ∙ ap (λ (o : Option ℕ). unwrap_or o 0) is
own-client (event.ProbeLost e) c is ids d of = of ∙ ap (λ (o : Option ℕ). unwrap_or o 0) is
own-client (event.TransportLost e) c is ids d of = of ∙ ap (λ (o : Option ℕ). unwrap_or o 0) is
own-client (event.Tick e) c is ids d of = of ∙ ap (λ (o : Option ℕ). unwrap_or o 0) is

its-own : (event : Event) (c : ℕ) → client_of event ≡ Some c → (ids : ℕ → ℕ) → IsOf event ids c
its-own (event.Opened socket) c is ids = absurd (cc is)
its-own event.Sweep c is ids = absurd (cc is)
its-own (event.Post e body) c is ids = ap (λ (o : Option ℕ). unwrap_or o 0) (sym is)
its-own (event.Frame e frame) c is ids = ap (λ (o : Option ℕ). unwrap_or o 0) (sym is)
its-own (event.PollBegin e) c is ids = ap (λ (o : Option ℕ). unwrap_or o 0) (sym is)
its-own (event.PollEnd e) c is ids = ap (λ (o : Option ℕ). unwrap_or o 0) (sym is)
its-own (event.PollTake e most) c is ids = ap (λ (o : Option ℕ). unwrap_or o 0) (sym is)
its-own (event.FrameTake e most) c is ids = ap (λ (o : Option ℕ). unwrap_or o 0) (sym is)
its-own (event.Probe e) c is ids = ap (λ (o : Option ℕ). unwrap_or o 0) (sym is)
its-own (event.Upgraded e) c is ids = ap (λ (o : Option ℕ). unwrap_or o 0) (sym is)
its-own (event.ProbeLost e) c is ids = ap (λ (o : Option ℕ). unwrap_or o 0) (sym is)
its-own (event.TransportLost e) c is ids = ap (λ (o : Option ℕ). unwrap_or o 0) (sym is)
its-own (event.Tick e) c is ids = ap (λ (o : Option ℕ). unwrap_or o 0) (sym is)

-- what was handed out is the same
out-same : (d : ℕ) (event : Event) (said answer : Answer) (turns : List Turn) (entries : List Entry) → opens d event said ≡ false → opens d event answer ≡ false
    → ((more : List Entry) → HandsOut said more → HandsOut answer more) → HandedOut d ((event, said) ∷ turns) entries → HandedOut d ((event, answer) ∷ turns) entries
unfolding HandedOut
out-same d event said answer turns entries first then hands out = rw (then, HandedOut) (by (takes d event) (rw (first, HandedOut) at out))
  where
    by : (b : Bool) → elim b as (λ (b : Bool). Type 0) [ false ↦ HandedOut d turns entries | true ↦ (earlier : List Entry) × (more : List Entry) × HandedOut d turns earlier × HandsOut said more × (entries ≡ earlier ++ more) ]
        → elim b as (λ (b : Bool). Type 0) [ false ↦ HandedOut d turns entries | true ↦ (earlier : List Entry) × (more : List Entry) × HandedOut d turns earlier × HandsOut answer more × (entries ≡ earlier ++ more) ]
    by false was = was
    by true (earlier, more, was, given, all) = (earlier, more, was, hands more given, all)

-- ---- what the app hears

module _ (policy : Policy) (now : ℕ) (ended : List PlainEnded) (m g : History) (said answer : Answer) where
  abbrev HeardBy : ℕ → Option PlainDone → Type 0
  HeardBy c o = elim o [ None ↦ (answer ≡ said) × (g ≡ m) | Some before ↦ Hears policy c now ended m said answer g before ]

  -- nobody is opened or closed by it
  pub after-open : (o : Option ℕ) → HearsAfter policy now o ended m said answer g → (d : ℕ) → is_open g.base g.journal d ≡ is_open m.base m.journal d
  after-open None (is, same) d = ap (λ (h : History). is_open h.base h.journal d) same
  after-open (Some c) heard d = by (done_before said) heard
    where
      by : (o : Option PlainDone) → HeardBy c o → is_open g.base g.journal d ≡ is_open m.base m.journal d
      by None (is, same) = ap (λ (h : History). is_open h.base h.journal d) same
      by (Some before) (r, after, run, is) = heard-open policy c now m ended (work m before) (work g after) r (λ d. refl) run d

  module _ (event : Event) (ids : ℕ → ℕ) (h : History) (new : List (ℕ × PlainLine)) (names : AllByRecursion IsWhole m.limits.spaces) (row : Applied event ids said h m new) where
    left-same : answer ≡ said → g ≡ m → Applied event ids answer h g new
    left-same is same = rw (is, same) row

    module _ (c : ℕ) (its : client_of event ≡ Some c) (before : PlainDone) (found : done_before said ≡ Some before) (r : Result (Unit {0}) CoreFault) (after : PlainDone)
        (run : HearsOfAll policy c now ended (work m before) r (work g after)) (is : answer ≡ answer_after said r after) where
      onward : Onward policy c now h m (work g after)
      onward = heard-onward policy c now h m ended (work m before) (work g after) r (record { work = follows-none (is_work c) m; turn = row.turns c (its-own event c its ids); names = names }) run

      left-spares : IfOk answer (λ o. (d : ℕ) → IsOf event ids d → Spares d h g (listed o))
      left-spares = subst (λ (a : Answer). IfOk a (λ o. (d : ℕ) → IsOf event ids d → Spares d h g (listed o))) (sym is) (on said r found row.spares run)
        where
          on : (said : Answer) (r : Result (Unit {0}) CoreFault) → done_before said ≡ Some before → IfOk said (λ o. (d : ℕ) → IsOf event ids d → Spares d h m (listed o))
              → HearsOfAll policy c now ended (work m before) r (work g after) → IfOk (answer_after said r after) (λ o. (d : ℕ) → IsOf event ids d → Spares d h g (listed o))
          on (Ok o) (Ok x) found spares run = λ d own.
              let lists = listed-done o before after found in
              let first = subst (λ (lists : List (List ℕ)). Spares c h m lists) lists.0 (spares c (its-own event c its ids)) in
              let spared = heard-spares policy c now h ended (work m before) (work g after) (Ok tt) first run in
              subst (λ (e : ℕ). Spares e h g (listed (with_done o after))) (sym (own-client event c its ids d own)) (subst (λ (lists : List (List ℕ)). Spares c h g lists) (sym lists.1) spared)
          on (Ok o) (Err f) found spares run = tt
          on (Err e) r found spares run = tt

      left-hands : (d : ℕ) (turns : List Turn) → Handed d turns h → Handed d ((event, answer) ∷ turns) g
      left-hands d turns was =
          let there = row.hands d turns was in
          let first = opens-none event c its d said in
          let then = opens-none event c its d answer in
          record {
            entries = there.entries;
            out = out-same d event said answer turns there.entries first then (λ more given. subst (λ (a : Answer). HandsOut a more) (sym is) (hands-same said before found r after more given)) there.out;
            are = work-hands-nothing c m g onward.work d there.entries there.are;
            opened = rw then (rw first at (work-begins-none c m g onward.work d ∙ there.opened));
          }

      left-done : Applied event ids answer h g new
      left-done = record {
        turns = λ d own. subst (λ (e : ℕ). Follows (is_turn e) h g) (sym (own-client event c its ids d own)) onward.turn;
        spares = left-spares;
        agrees = λ d. row.agrees d ∙ sym (heard-open policy c now m ended (work m before) (work g after) r (λ d. refl) run d);
        hands = left-hands;
      }

    left-heard : (o : Option ℕ) → client_of event ≡ o → HearsAfter policy now o ended m said answer g → Applied event ids answer h g new
    left-heard None its (is, same) = left-same is same
    left-heard (Some c) its heard = by (done_before said) refl heard
      where
        by : (o : Option PlainDone) → done_before said ≡ o → HeardBy c o → Applied event ids answer h g new
        by None found (is, same) = left-same is same
        by (Some before) found (r, after, run, is) = left-done c its before found r after run is

-- ---- the whole event

module _ (policy : Policy) (now : ℕ)
    (h g : History) (old new : List (ℕ × PlainLine)) (agree : Agree h old) (ids left : ℕ → ℕ) (answer : Answer) (told : Handshake) (event : Event) where
  abbrev DoesSo : Type 0
  DoesSo = Does policy told now event (standing h old ids) answer (standing g new left)

  -- a line stands for each open client
  pub agrees-still : DoesSo → Agree g new
  agrees-still (m, said, row, heard) = λ d.
      (applied now h m old new agree ids said policy told left event row).agrees d
      ∙ sym (after-open policy now (ended_since h m) m g said answer (client_of event) heard d)

  pub left-by : AllByRecursion IsWhole h.limits.spaces → DoesSo → Applied event ids answer h g new
  left-by names (m, said, row, heard) =
      let does = (applied now h m old new agree ids said policy told left event row).applied names in
      let some = of-some event ids in
      let kept : AllByRecursion IsWhole m.limits.spaces = subst (λ (limits : Limits). AllByRecursion IsWhole limits.spaces) (sym (does.turns some.0 some.1).limits) names in
      left-heard policy now (ended_since h m) m g said answer event ids h new kept does (client_of event) refl heard

-- the event is done as its row says, and then the app hears of the sockets that ended by that
pub does-with : (policy : Policy) (now : ℕ) (told : Handshake) (event : Event) (s : Holding) (ids : ℕ → ℕ) (said : Answer) (h : History) (answer : Answer) (t : Holding) (ids' : ℕ → ℕ)
    (before : List PlainEnded) (client : Option ℕ) → Row policy told now event (with_ids s ids) said (with_ids (record t { history = h }) ids')
    → before ≡ ended_sockets s.history.base s.history.journal → client ≡ client_of event
    → HearsAfter policy now client (drop (length before) (ended_sockets h.base h.journal)) h said answer t.history → Does policy told now event (with_ids s ids) answer (with_ids t ids')
does-with policy now told event s ids said h answer t ids' before client row all of hears =
    let of-event = subst (λ (o : Option ℕ). HearsAfter policy now o (drop (length before) (ended_sockets h.base h.journal)) h said answer t.history) of hears in
    (h, said, row, subst (λ (xs : List PlainEnded). HearsAfter policy now (client_of event) (drop (length xs) (ended_sockets h.base h.journal)) h said answer t.history) all of-event)
