-- What the row of an event leaves: steps of an event of its client, which put something for the listed clients alone, a line for each open
-- client, and each client handed what its takes say.
use Rattle.std.proofs.Common.{◌≡◌, ℕ, ◌==◌, Bool, true, false, List, [], ◌∷◌, refl, sym, ◌∙◌, ap, subst, is_some, is_none, Option, None, Some, Ok, Err, IfOk, inl, inr}
use Rattle.std.specs.List.{AllByRecursion}
use Rattle.eio_wire.specs.Payload.{IsWhole}
use Rattle.eio_wire.specs.declared.packet.Packet.{Packet}
use Rattle.connection.specs.declared.clock.Due.{Due}
use Rattle.connection.specs.declared.clock.Due.TheVariants as due
use Rattle.connection.specs.declared.clock.Transport.{Transport}
use Rattle.connection.specs.declared.clock.Transport.TheVariants.{Polling, Probing, Socket}
use Rattle.connection.specs.History.{Call, GetBegan, GetEnded, Ticked, Probed, Upgraded, ProbeLost}
use Rattle.connection.specs.Line.{PlainLine}
use Rattle.journal.specs.declared.step.What.{What}
use Rattle.journal.specs.declared.step.What.TheVariants as what
use Rattle.journal.specs.Journal.{History}
use Rattle.journal.specs.Membership.{is_open, closes, opens}
use Rattle.events.specs.declared.cause.Cause.{Cause}
use Rattle.events.specs.declared.cause.Cause.TheVariants as cause
use Rattle.events.specs.declared.fault.CoreFault.{CoreFault}
use Rattle.events.specs.declared.fault.CoreFault.TheVariants.{UnknownClient, AlreadyProbing, AlreadyUpgraded, NotProbing}
use Rattle.events.specs.App.{Policy}
use Rattle.dispatch.specs.Commands.{Makes}
use Rattle.dispatch.specs.Following.{is_turn, is_work, Follows, Spares, WorksFor}
use Rattle.events.specs.Plain.{PlainDone}
use Rattle.dispatch.proofs.StepLemmas.{itself, open-no-more, opened-then, work-on, Goes, goes-of, Working}
use Rattle.events.specs.declared.event.Event.{Event}
use Rattle.events.specs.declared.event.Event.TheVariants as event
use Rattle.events.specs.declared.event.WsFrame.{WsFrame}
use Rattle.events.specs.declared.outcome.Outcome.TheVariants as outcome
use Rattle.events.specs.Answer.{Answer}
use Rattle.dispatch.specs.Scene.{Visit, visit_at}
use Rattle.dispatch.specs.declared.clients.Handshake.{Handshake}
use Rattle.dispatch.specs.Answers.{Refused, KeepsWhileOpen, AdvancesLine, ClosesUnread, ForClient}
use Rattle.dispatch.specs.Frames.{is_too_long}
use Rattle.dispatch.specs.Handed.{Turn, Handed}
use Rattle.dispatch.specs.Handed as handed
use Rattle.dispatch.specs.Machine.{IsOf, listed, Opens, Begins, Ends, Takes, TakesFrames, Loses, opening, WorksOn, Posts, PostsFor, ReadsFrame, Receives, ReceivesFor, Row}
use Rattle.dispatch.specs.Packets.{Course, course}
use Rattle.dispatch.specs.Parking.{ParksOrCloses}
use Rattle.dispatch.specs.Holding.{Holding, line_of, holding, KeepsLines, HasLine, LosesLine, Agree, with_ids, standing}
use Rattle.dispatch.specs.Upgrade.{Upgrades, LosesProbe, Probes, ProbesOn, EndsProbe, EndsProbeOn}
use Rattle.dispatch.specs.Upkeep.{Ticks, TicksOn, Sweeps}
use Rattle.dispatch.proofs.HandedLemmas.{Given, taken-given, sent-given, given-turn, handed-open, handed-work}
use Rattle.dispatch.proofs.PacketLaws.{After, all-after, broken-after}
use Rattle.dispatch.proofs.TurnLemmas.{Leads, leads-none, leads-on, works-none, working-none, turns-of, goes-turn, goes-work, agree-gone, agree-still, agree-each}

-- where fewer may be listed, more may be
spares-more : (c : ℕ) (h g : History) (lists : List (List ℕ)) → Spares c h g [] → Spares c h g lists
spares-more c h g lists spares = λ d other out. spares d other refl

module _ (c now : ℕ) (h g : History) (old new : List (ℕ × PlainLine)) (agree : Agree h old) where
  -- the event's visit
  abbrev v : Visit
  v = visit_at c now

  abbrev s : Holding
  s = holding h old

  abbrev t : Holding
  t = holding g new

  -- no name of a namespace holds U+001E
  abbrev pub Names : Type 0
  Names = AllByRecursion IsWhole h.limits.spaces

  -- a client's event: its steps, and the lines after it
  pub record Turned (answer : Answer) : Type 0 where
    pub work : Names → Follows (is_work c) h g
    pub spares : Names → IfOk answer (λ o. Spares c h g (listed o))
    pub agrees : Agree g new

  works : (answer : Answer) → WorksFor c h g [] → Agree g new → Turned answer
  works (Ok o) was agrees = record { work = λ names. was.follows; spares = λ names. spares-more c h g (listed o) was.spares; agrees = agrees }
  works (Err e) was agrees = record { work = λ names. was.follows; spares = λ names. tt; agrees = agrees }

  unchanged : g ≡ h → WorksFor c h g []
  unchanged same = subst (λ (k : History). WorksFor c h k []) (sym same) (works-none c h [])

  lines-kept : g ≡ h → KeepsLines s t → Agree g new
  lines-kept same lines d = ap (λ (o : Option PlainLine). is_some o) (lines d) ∙ agree d ∙ ap (λ (k : History). is_open k.base k.journal d) (sym same)

  refused : (fault : CoreFault) (answer : Answer) → Refused fault s answer t → Turned answer
  refused fault answer (is, same, lines) = works answer (unchanged same) (lines-kept same lines)

  known : (line : PlainLine) → line_of old c ≡ Some line → is_open h.base h.journal c ≡ true
  known line is = sym (agree c) ∙ ap (λ (o : Option PlainLine). is_some o) is

  has-some : (P : PlainLine → Type 0) → HasLine c P s t → is_some (line_of new c) ≡ true
  has-some P has = on (line_of new c) has.0
    where
      on : (o : Option PlainLine) → elim o as (λ (o : Option PlainLine). Type 0) [ None ↦ ⊥ | Some line ↦ P line ] → is_some o ≡ true
      on None none = absurd none
      on (Some line) is = refl

  has-line : (line : PlainLine) → line_of old c ≡ Some line → (P : PlainLine → Type 0) → g ≡ h → HasLine c P s t → Agree g new
  has-line line is P same has =
      agree-still c h g old new agree (goes-work c h g [] (unchanged same)) has.1 (has-some P has) (ap (λ (k : History). is_open k.base k.journal c) same ∙ known line is)

  advanced : (line : PlainLine) → line_of old c ≡ Some line → (calls : List Call) (answer : Answer) → AdvancesLine c line calls s t → Turned answer
  advanced line is calls answer (same, has) = works answer (unchanged same) (has-line line is _ same has)

  -- the client is gone
  gone : (w : What) (answer : Answer) → Makes h now w g → closes w c ≡ true → opens w ≡ [] → WorksFor c h g [] → LosesLine c s t → Turned answer
  gone w answer made closed nobody work (none, others) =
      works answer work (agree-gone c h g old new agree (goes-work c h g [] work) others none (open-no-more h g now w made.1 c closed nobody))

  closed : (answer : Answer) → Makes h now (what.Closed c) g → LosesLine c s t → Turned answer
  closed answer made lost = gone (what.Closed c) answer made (itself c) refl (work-on c h now (what.Closed c) h g made.1 (itself c) (itself c) refl tt [] (works-none c h [])) lost

  parked : (answer : Answer) → Makes h now (what.Parked c) g → LosesLine c s t → Turned answer
  parked answer made lost = gone (what.Parked c) answer made (itself c) refl (work-on c h now (what.Parked c) h g made.1 (itself c) (itself c) refl tt [] (works-none c h [])) lost

  closes-unread : (why : Cause) (answer : Answer) → ClosesUnread why v s answer t → Turned answer
  closes-unread why (Ok (outcome.Done done)) (is, made, lost) = closed _ made lost
  closes-unread why (Ok _) none = absurd none
  closes-unread why (Err e) (fails, (is, same, lines)) = works (Err e) (unchanged same) (lines-kept same lines)

  -- by the client's line
  for-client : (row : PlainLine → Holding → Answer → Holding → Type 0) (answer : Answer)
      → ((line : PlainLine) → line_of old c ≡ Some line → row line s answer t → Turned answer) → ForClient c row s answer t → Turned answer
  for-client row answer each does = on (line_of old c) refl does
    where
      on : (o : Option PlainLine) → line_of old c ≡ o → elim o as (λ (o : Option PlainLine). Type 0) [ None ↦ Refused UnknownClient s answer t | Some line ↦ row line s answer t ] → Turned answer
      on None none is = refused UnknownClient answer is
      on (Some line) is does = each line is does

  begins : (answer : Answer) (line : PlainLine) → line_of old c ≡ Some line → Begins v line s answer t → Turned answer
  begins answer line is (inl (on, refusal)) = refused _ answer refusal
  begins answer line is (inr (inl (polls, getting, closes))) = closes-unread cause.DoubleGet answer closes
  begins answer line is (inr (inr (polls, getting, said, advances))) = advanced line is (GetBegan ∷ []) answer advances

  ends : (answer : Answer) (line : PlainLine) → line_of old c ≡ Some line → Ends c line s answer t → Turned answer
  ends (Ok (outcome.Done done)) line is (nothing, advances) = advanced line is (GetEnded ∷ []) _ advances
  ends (Ok _) line is none = absurd none
  ends (Err e) line is none = absurd none

  loses : (answer : Answer) → Loses v s answer t → Turned answer
  loses (Ok (outcome.Lost true done)) (none, made, lost) = parked _ made lost
  loses (Ok (outcome.Lost false done)) (none, refusal, made, lost) = closed _ made lost
  loses (Ok _) none = absurd none
  loses (Err e) (none, fails) = works (Err e) (unchanged none.1) (lines-kept none.1 none.2)

  parked-or-closed : (answer : Answer) → ParksOrCloses h now c g → LosesLine c s t → Turned answer
  parked-or-closed answer (inl made) lost = parked answer made lost
  parked-or-closed answer (inr (refusal, made)) lost = closed answer made lost

  ticks-on : (d : Due) (answer : Answer) (line : PlainLine) → line_of old c ≡ Some line → TicksOn d v line s answer t → Turned answer
  ticks-on due.Nothing answer line is (said, advances) = advanced line is (Ticked now due.Nothing ∷ []) answer advances
  ticks-on due.SendPing answer line is (said, advances) = advanced line is (Ticked now due.SendPing ∷ []) answer advances
  ticks-on due.PingTimeout (Ok o) line is (said, parks, lost) = parked-or-closed (Ok o) parks lost
  ticks-on due.PingTimeout (Err e) line is (said, fails, advances) = advanced line is (Ticked now due.PingTimeout ∷ []) (Err e) advances
  ticks-on due.ConnectTimeout (Ok o) line is (said, made, lost) = closed (Ok o) made lost
  ticks-on due.ConnectTimeout (Err e) line is (said, fails, advances) = advanced line is (Ticked now due.ConnectTimeout ∷ []) (Err e) advances

  ticks : (answer : Answer) (line : PlainLine) → line_of old c ≡ Some line → Ticks v line s answer t → Turned answer
  ticks answer line is (d, due, on) = ticks-on d answer line is on

  probes : (answer : Answer) (line : PlainLine) → line_of old c ≡ Some line → Probes c line s answer t → Turned answer
  probes answer line is (inl short) = refused _ answer short
  probes answer line is (inr (on, speaks, row)) = by on row
    where
      by : (on : Transport) → ProbesOn on c line s answer t → Turned answer
      by Polling (said, advances) = advanced line is (Probed ∷ []) answer advances
      by Probing refusal = refused AlreadyProbing answer refusal
      by Socket refusal = refused AlreadyUpgraded answer refusal

  ends-probe : (end : Call) (answer : Answer) (line : PlainLine) → line_of old c ≡ Some line → EndsProbe end c line s answer t → Turned answer
  ends-probe end answer line is (on, speaks, row) = by on row
    where
      by : (on : Transport) → EndsProbeOn on end c line s answer t → Turned answer
      by Polling refusal = refused NotProbing answer refusal
      by Probing (said, advances) = advanced line is (end ∷ []) answer advances
      by Socket refusal = refused AlreadyUpgraded answer refusal

  -- ---- packets

  module _ (policy : Policy) (ids left : ℕ → ℕ) where
    start : (line : PlainLine) → line_of old c ≡ Some line → After c now h (Ok tt) (opening h line)
    start line is = record { stays = known line is; has = working-none c h [] }

    kept : (m : Course) (line : PlainLine) → Goes (is_work c) h g → KeepsWhileOpen c m.scene.done m.scene.line s t
        → is_open g.base g.journal c ≡ is_none m.scene.done.closed → Agree g new
    kept m line work keeps stays = on m.scene.done.closed keeps stays
      where
        on : (o : Option Cause) → elim o as (λ (o : Option Cause). Type 0) [ Some why ↦ LosesLine c s t | None ↦ HasLine c (λ after. after ≡ m.scene.line) s t ] → is_open g.base g.journal c ≡ is_none o → Agree g new
        on (Some why) (none, others) closed = agree-gone c h g old new agree (goes-turn c h g work) others none closed
        on None has open_still = agree-still c h g old new agree (goes-turn c h g work) has.1 (has-some _ has) open_still

    works-on : (packets : List Packet) (answer : Answer) (line : PlainLine) → line_of old c ≡ Some line → WorksOn policy v packets line (with_ids s ids) answer (with_ids t left) → Turned answer
    works-on packets (Ok (outcome.Done done)) line is (m, run, said, there, keeps, drawn) =
        let after = all-after c now h policy packets (course (opening h line) ids) m run (start line is) in
        let work = subst (λ (k : History). Working c h k m.scene.done.clients) (sym there) after.has in
        record {
          work = λ names. (work.works names).follows;
          spares = λ names. subst (λ (d : PlainDone). Spares c h g d.clients) (sym said) (work.works names).spares;
          agrees = kept m line work.goes keeps (ap (λ (k : History). is_open k.base k.journal c) there ∙ after.stays);
        }
    works-on packets (Ok _) line is none = absurd none
    works-on packets (Err e) line is (m, breaks, there, has, drawn) =
        let after = broken-after c now h policy packets (course (opening h line) ids) e m breaks (start line is) in
        let work = subst (λ (k : History). Working c h k m.scene.done.clients) (sym there) after.1 in
        record {
          work = λ names. (work.works names).follows;
          spares = λ names. tt;
          agrees = agree-still c h g old new agree (goes-turn c h g work.goes) has.1 (has-some _ has) (ap (λ (k : History). is_open k.base k.journal c) there ∙ after.0);
        }

    posts : (body : List ℕ) (answer : Answer) (line : PlainLine) → line_of old c ≡ Some line → Posts policy v body line (with_ids s ids) answer (with_ids t left) → Turned answer
    posts body answer line is (inl (on, (refusal, drawn))) = refused _ answer refusal
    posts body answer line is (inr (polls, inl (refusal, drawn))) = refused _ answer refusal
    posts body answer line is (inr (polls, inr (inl (packets, payload, does)))) = works-on packets answer line is does
    posts body answer line is (inr (polls, inr (inr (fault, faulty, (closes, drawn))))) = closes-unread _ answer closes

    pub posts-for : (body : List ℕ) (answer : Answer) → PostsFor policy v body (with_ids s ids) answer (with_ids t left) → Turned answer
    posts-for body answer does = on (line_of old c) refl does
      where
        on : (o : Option PlainLine) → line_of old c ≡ o
            → elim o as (λ (o : Option PlainLine). Type 0) [ None ↦ Refused UnknownClient s answer t × (left ≡ ids) | Some line ↦ Posts policy v body line (with_ids s ids) answer (with_ids t left) ] → Turned answer
        on None none (refusal, drawn) = refused _ answer refusal
        on (Some line) is does = posts body answer line is does

    reads-frame : (frame : WsFrame) (answer : Answer) (line : PlainLine) → line_of old c ≡ Some line → ReadsFrame policy v frame line (with_ids s ids) answer (with_ids t left) → Turned answer
    reads-frame frame answer line is (inl (refusal, drawn)) = refused _ answer refusal
    reads-frame frame answer line is (inr (inl (packet, framed, does))) = works-on (packet ∷ []) answer line is does
    reads-frame frame answer line is (inr (inr (fault, faulty, (closes, drawn)))) = closes-unread _ answer closes

    receives : (frame : WsFrame) (answer : Answer) (line : PlainLine) → line_of old c ≡ Some line → Receives policy v frame line (with_ids s ids) answer (with_ids t left) → Turned answer
    receives frame answer line is (inl (polls, (refusal, drawn))) = refused _ answer refusal
    receives frame answer line is (inr (on, does)) = by (is_too_long frame) does
      where
        by : (b : Bool) → elim b as (λ (b : Bool). Type 0) [ true ↦ ClosesUnread cause.TooLong v s answer t × (left ≡ ids) | false ↦ ReadsFrame policy v frame line (with_ids s ids) answer (with_ids t left) ] → Turned answer
        by true (closes, drawn) = closes-unread cause.TooLong answer closes
        by false does = reads-frame frame answer line is does

    pub receives-for : (frame : WsFrame) (answer : Answer) → ReceivesFor policy v frame (with_ids s ids) answer (with_ids t left) → Turned answer
    receives-for frame answer does = on (line_of old c) refl does
      where
        on : (o : Option PlainLine) → line_of old c ≡ o
            → elim o as (λ (o : Option PlainLine). Type 0) [ None ↦ Refused UnknownClient s answer t × (left ≡ ids) | Some line ↦ Receives policy v frame line (with_ids s ids) answer (with_ids t left) ] → Turned answer
        on None none (refusal, drawn) = refused _ answer refusal
        on (Some line) is does = receives frame answer line is does

-- what every event leaves
pub record Applied (event : Event) (ids : ℕ → ℕ) (answer : Answer) (h g : History) (new : List (ℕ × PlainLine)) : Type 0 where
  pub turns : (c : ℕ) → IsOf event ids c → Follows (is_turn c) h g
  pub spares : IfOk answer (λ o. (c : ℕ) → IsOf event ids c → Spares c h g (listed o))
  pub agrees : Agree g new
  pub hands : (c : ℕ) (turns : List Turn) → Handed c turns h → Handed c ((event, answer) ∷ turns) g

-- a line for each open client, and the rest where no name of a namespace holds U+001E
pub record Leaves (event : Event) (ids : ℕ → ℕ) (answer : Answer) (h g : History) (new : List (ℕ × PlainLine)) : Type 0 where
  pub agrees : Agree g new
  pub applied : AllByRecursion IsWhole h.limits.spaces → Applied event ids answer h g new

module _ (now : ℕ) (h g : History) (old new : List (ℕ × PlainLine)) (agree : Agree h old) (ids : ℕ → ℕ) (answer : Answer) where
  leaves : (event : Event) → Applied event ids answer h g new → Leaves event ids answer h g new
  leaves event applied = record { agrees = applied.agrees; applied = λ names. applied }

  -- an event of one client
  module _ (event : Event) (c : ℕ) (own : (d : ℕ) → IsOf event ids d → d ≡ c) where
    of-client : Follows (is_turn c) h g → IfOk answer (λ o. Spares c h g (listed o)) → Agree g new → ((d : ℕ) (turns : List Turn) → Handed d turns h → Handed d ((event, answer) ∷ turns) g) → Applied event ids answer h g new
    of-client follows spares agrees hands =
        record {
          turns = λ d of. subst (λ (e : ℕ). Follows (is_turn e) h g) (sym (own d of)) follows;
          spares = each answer spares;
          agrees = agrees;
          hands = hands;
        }
      where
        each : (answer : Answer) → IfOk answer (λ o. Spares c h g (listed o)) → IfOk answer (λ o. (d : ℕ) → IsOf event ids d → Spares d h g (listed o))
        each (Ok o) spares = λ d of. subst (λ (e : ℕ). Spares e h g (listed o)) (sym (own d of)) spares
        each (Err e) spares = tt

    -- that neither opens it nor takes anything
    of-work : ((d : ℕ) → handed.opens d event answer ≡ false) → ((d : ℕ) → handed.takes d event ≡ false) → Turned c now h g old new agree answer → Leaves event ids answer h g new
    of-work opened took turned =
        record {
          agrees = turned.agrees;
          applied = λ names. of-client (turns-of c h g (turned.work names)) (turned.spares names) turned.agrees (handed-work event c answer h g opened took (turned.work names));
        }

    -- or takes something
    of-take : ((d : ℕ) → handed.opens d event answer ≡ false) → ((d : ℕ) → handed.takes d event ≡ (c == d)) → Agree g new → Given c answer h g → Leaves event ids answer h g new
    of-take opened took agrees given = leaves event (of-client given.2.leads.follows (each answer) agrees (given-turn event c answer h g opened took given))
      where
        each : (answer : Answer) → IfOk answer (λ o. Spares c h g (listed o))
        each (Ok o) = spares-more c h g (listed o) given.2.leads.spares
        each (Err e) = tt

  opens-applied : (told : Handshake) (socket : Bool) → Opens told socket (visit_at (ids 0) now) (holding h old) answer (holding g new) → Applied (event.Opened socket) ids answer h g new
  opens-applied told socket does =
      let left = on answer does in
      of-client (event.Opened socket) (ids 0) (λ d of. of) left.0.follows (each answer left.0.spares) left.1 (handed-open told now socket (ids 0) (holding h old) answer (holding g new) does)
    where
      each : (answer : Answer) → Spares (ids 0) h g [] → IfOk answer (λ o. Spares (ids 0) h g (listed o))
      each (Ok o) spares = spares-more (ids 0) h g (listed o) spares
      each (Err e) spares = tt

      on : (answer : Answer) → Opens told socket (visit_at (ids 0) now) (holding h old) answer (holding g new) → Leads (ids 0) h g × Agree g new
      on (Ok (outcome.Opened o)) (client, told, made, has) =
          let leads = leads-on (ids 0) h h g now (what.Opened (ids 0)) made.1 (itself (ids 0)) refl tt (leads-none (ids 0) h h refl) in
          (leads, agree-still (ids 0) h g old new agree (goes-of (is_turn (ids 0)) h g leads.follows) has.1 (has-some (ids 0) now h g old new agree _ has) (opened-then h g now (ids 0) made.1))
      on (Ok _) none = absurd none
      on (Err e) (fails, (is, same, lines)) = (leads-none (ids 0) h g same, lines-kept (ids 0) now h g old new agree same lines)

  sweeps-applied : Sweeps now (holding h old) answer (holding g new) → Applied event.Sweep ids answer h g new
  sweeps-applied does =
      record {
        turns = λ c of. turns-of c h g (on answer does c).follows;
        spares = each answer (λ c. (on answer does c).spares);
        agrees = agrees answer does;
        hands = handed-work event.Sweep 0 answer h g (λ d. refl) (λ d. refl) (on answer does 0).follows;
      }
    where
      on : (answer : Answer) → Sweeps now (holding h old) answer (holding g new) → (c : ℕ) → WorksFor c h g []
      on (Ok (outcome.Swept dropped)) (made, drops, lines) c = work-on c h now what.Swept h g made.1 refl refl refl tt [] (works-none c h [])
      on (Ok _) none c = absurd none
      on (Err e) (fails, (is, same, lines)) c = subst (λ (k : History). WorksFor c h k []) (sym same) (works-none c h [])

      agrees : (answer : Answer) → Sweeps now (holding h old) answer (holding g new) → Agree g new
      agrees (Ok (outcome.Swept dropped)) (made, drops, lines) = λ d.
          ap (λ (o : Option PlainLine). is_some o) (lines d) ∙ agree-each h g (λ c. turns-of c h g (on (Ok (outcome.Swept dropped)) (made, drops, lines) c).follows) old agree d
      agrees (Ok _) none = absurd none
      agrees (Err e) (fails, (is, same, lines)) = lines-kept 0 now h g old new agree same lines

      each : (answer : Answer) → ((c : ℕ) → Spares c h g []) → IfOk answer (λ o. (c : ℕ) → IsOf event.Sweep ids c → Spares c h g (listed o))
      each (Ok o) spares = λ c of. spares-more c h g (listed o) (spares c)
      each (Err e) spares = tt

  -- a take leaves the client's line
  take-agrees : (c : ℕ) → Given c answer h g → (row : PlainLine → Holding → Answer → Holding → Type 0)
      → ((line : PlainLine) → row line (holding h old) answer (holding g new) → (P : PlainLine → Type 0) × HasLine c P (holding h old) (holding g new))
      → is_open g.base g.journal c ≡ is_open h.base h.journal c → ForClient c row (holding h old) answer (holding g new) → Agree g new
  take-agrees c given row each stays does = on (line_of old c) refl does
    where
      on : (o : Option PlainLine) → line_of old c ≡ o → elim o as (λ (o : Option PlainLine). Type 0) [ None ↦ Refused UnknownClient (holding h old) answer (holding g new) | Some line ↦ row line (holding h old) answer (holding g new) ] → Agree g new
      on None none (is, same, lines) = lines-kept c now h g old new agree same lines
      on (Some line) is does =
          let has = each line does in
          agree-still c h g old new agree (goes-of (is_turn c) h g given.2.leads.follows) has.1.1 (has-some c now h g old new agree has.0 has.1) (stays ∙ known c now h g old new agree line is)

  module _ (policy : Policy) (told : Handshake) (left : ℕ → ℕ) where
    pub applied : (event : Event) → Row policy told now event (standing h old ids) answer (standing g new left) → Leaves event ids answer h g new
    applied (event.Opened socket) (does, drawn) = leaves (event.Opened socket) (opens-applied told socket does)
    applied (event.Post c body) does = of-work _ c (λ d of. of) (λ d. refl) (λ d. refl) (posts-for c now h g old new agree policy ids left body answer does)
    applied (event.Frame c frame) does = of-work _ c (λ d of. of) (λ d. refl) (λ d. refl) (receives-for c now h g old new agree policy ids left frame answer does)
    applied (event.PollBegin c) (does, drawn) = of-work _ c (λ d of. of) (λ d. refl) (λ d. refl) (for-client c now h g old new agree (Begins (visit_at c now)) answer (begins c now h g old new agree answer) does)
    applied (event.PollEnd c) (does, drawn) = of-work _ c (λ d of. of) (λ d. refl) (λ d. refl) (for-client c now h g old new agree (Ends c) answer (ends c now h g old new agree answer) does)
    applied (event.PollTake c most) (does, drawn) =
        let given = taken-given now c most (holding h old) answer (holding g new) does in
        of-take _ c (λ d of. of) (λ d. refl) (λ d. refl) (take-agrees c given (Takes most (visit_at c now)) (taken answer) (given.2.stays c) does) given
      where
        taken : (answer : Answer) (line : PlainLine) → Takes most (visit_at c now) line (holding h old) answer (holding g new) → (P : PlainLine → Type 0) × HasLine c P (holding h old) (holding g new)
        taken (Ok o) line has = (_, has)
        taken (Err e) line (is, has) = (_, has)
    applied (event.FrameTake c most) (does, drawn) =
        let given = sent-given now c most (holding h old) answer (holding g new) does in
        of-take _ c (λ d of. of) (λ d. refl) (λ d. refl) (take-agrees c given (TakesFrames most (visit_at c now)) (taken answer) (given.2.stays c) does) given
      where
        taken : (answer : Answer) (line : PlainLine) → TakesFrames most (visit_at c now) line (holding h old) answer (holding g new) → (P : PlainLine → Type 0) × HasLine c P (holding h old) (holding g new)
        taken (Ok o) line has = (_, has)
        taken (Err e) line (is, has) = (_, has)
    applied (event.Probe c) (does, drawn) = of-work _ c (λ d of. of) (λ d. refl) (λ d. refl) (for-client c now h g old new agree (Probes c) answer (probes c now h g old new agree answer) does)
    applied (event.Upgraded c) (does, drawn) = of-work _ c (λ d of. of) (λ d. refl) (λ d. refl) (for-client c now h g old new agree (Upgrades c) answer (ends-probe c now h g old new agree Upgraded answer) does)
    applied (event.ProbeLost c) (does, drawn) = of-work _ c (λ d of. of) (λ d. refl) (λ d. refl) (for-client c now h g old new agree (LosesProbe c) answer (ends-probe c now h g old new agree ProbeLost answer) does)
    applied (event.TransportLost c) (does, drawn) = of-work _ c (λ d of. of) (λ d. refl) (λ d. refl) (for-client c now h g old new agree (λ line. Loses (visit_at c now)) answer (λ line is row. loses c now h g old new agree answer row) does)
    applied (event.Tick c) (does, drawn) = of-work _ c (λ d of. of) (λ d. refl) (λ d. refl) (for-client c now h g old new agree (Ticks (visit_at c now)) answer (ticks c now h g old new agree answer) does)
    applied event.Sweep (does, drawn) = leaves event.Sweep (sweeps-applied does)
