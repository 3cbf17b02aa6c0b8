-- Packets after two histories that say the same.
use Rattle.std.proofs.Common.{◌≡◌, ◌⊎◌, ℕ, Bool, true, false, List, [], ◌∷◌, sym, ap, subst, take, length, codes, unwrap_or, Option, None, Some, Result, Ok, Err, inl, inr}
use Rattle.eio_wire.specs.declared.packet.Packet.{Packet}
use Rattle.eio_wire.specs.declared.packet.Packet.TheVariants as eio
use Rattle.sio_wire.specs.declared.assembler.SioPacket.{SioPacket}
use Rattle.sio_wire.specs.declared.header.Kind.{Kind}
use Rattle.sio_wire.specs.declared.header.Kind.TheVariants as kind
use Rattle.sio_wire.specs.declared.error.SioError.{SioError}
use Rattle.sio_wire.specs.declared.error.SioError.TheVariants as sio
use Rattle.sio_wire.specs.declared.assembler.Progress.TheVariants.{Failed}
use Rattle.sio_wire.specs.Frames.{Frame, text, binary, exceeds}
use Rattle.connection.specs.History.{Connected}
use Rattle.connection.specs.Line.{Advances}
use Rattle.journal.specs.declared.error.HubError.TheVariants as hub
use Rattle.journal.specs.declared.socket.Socket.{Socket}
use Rattle.journal.specs.declared.step.What.{What}
use Rattle.journal.specs.declared.ending.Side.TheVariants as side
use Rattle.journal.specs.declared.step.What.TheVariants as what
use Rattle.journal.specs.Plain.{Limits, PlainRecovery}
use Rattle.journal.specs.Journal.{History, moment_at, with_step}
use Rattle.journal.specs.Membership.{is_space, place_of, socket_of}
use Rattle.journal.specs.Sessions.{rooms_rising, session_with}
use Rattle.journal.specs.Recovery.{brought_back, no_session}
use Rattle.journal.specs.Refusals.{recover_refusal}
use Rattle.journal.specs.Totals.{is_spent}
use Rattle.journal.specs.Legal.{RightRecovery}
use Rattle.journal.proofs.CountsLemmas.{unrefused}
use Rattle.journal.proofs.EpochsSocketsLemmas.{socket_of-same}
use Rattle.journal.proofs.RecoverRefusalLemmas.{may-recover, right}
use Rattle.events.specs.declared.app.Arrived.{Arrived}
use Rattle.events.specs.declared.app.Arrived.TheVariants as arrived
use Rattle.events.specs.declared.app.Effect.{Effect}
use Rattle.events.specs.declared.app.Who.{Who}
use Rattle.events.specs.declared.cause.Cause.{Cause}
use Rattle.events.specs.declared.cause.Cause.TheVariants as cause
use Rattle.events.specs.declared.fault.CoreError.{CoreError}
use Rattle.events.specs.declared.fault.CoreFault.{CoreFault}
use Rattle.events.specs.declared.fault.CoreFault.TheVariants.{Memory}
use Rattle.events.specs.declared.fault.Stopped.{Stopped}
use Rattle.events.specs.App.{Policy}
use Rattle.hub_state.specs.Recovering.{recovery_asked}
use Rattle.hub_state.specs.Words.{rooms_now}
use Rattle.dispatch.specs.Commands.{Makes, IsRefused, StopsAt, CannotRecover, IsSeated, seat}
use Rattle.dispatch.specs.Effects.{Scene, told_to, counted}
use Rattle.dispatch.specs.Runs.{Runs}
use Rattle.epochs.specs.Epochs.{AreAlike}
use Rattle.dispatch.specs.Scene.{Visit, visit_at}
use Rattle.dispatch.specs.Packets.{Course, Upshot, StopsFor, IsShortAfter, IsShort, DrawsNone, ClosesFor, ParksFor, refusal_entry, Refuses, DoesAll, ClientDisconnects, DecidesAfter, Decides, TakesAck, Serves, ServesJoined, socket_in, ConnectsAs, ComesBack, AsksApp, AsksToRecover, MayRecover, AsksToConnect, Works, GoesOn, with_line, TakesFrame, TakesText, ReadsBinary, TakesBinary, Handles, begun, HandlesOrBreaks, HandlesInTurn, BreaksAfter}
use Rattle.dispatch.specs.Parking.{ParksOrCloses, FailsToPark}
use Rattle.epochs.proofs.EpochSteps.{with-limits, Grown, grown-none, grown-on, StaysSound}
use Rattle.epochs.proofs.EpochEffects.{moved, Sim, make-alike, refused-alike, stops-alike, closes-alike, runs-alike, effects-alike, stopped-alike, seated-alike}

-- the course with another history
abbrev pub shifted : Course → History → Course
shifted s g = record s { scene = moved s.scene g }

abbrev pub SimStage : (Course → Course → Type 0) → Course → Course → History → Type 0
SimStage R s t g = (m : History) × Grown s.scene.history t.scene.history g m × R (shifted s g) (shifted t m)

-- how a packet is answered doesn't change
abbrev pub SimFor : (Scene → Upshot → Scene → Type 0) → Scene → Upshot → Scene → History → Type 0
SimFor R s result t g = Sim (λ a b. R a result b) s t g

abbrev pub SimFrom : (Course → Upshot → Course → Type 0) → Course → Upshot → Course → History → Type 0
SimFrom R s result t g = SimStage (λ a b. R a result b) s t g

same-scene : (s t : Scene) (g : History) → AreAlike s.history g → t ≡ s → Grown s.history t.history g g
same-scene s t g alike is = grown-none s.history t.history g alike (ap (λ (u : Scene). u.history) is)

-- ---- what is read from a history

pub socket-alike : (h g : History) → AreAlike h g → (c : ℕ) (space : List ℕ) → socket_of g.base g.journal c (place_of g.limits space) ≡ socket_of h.base h.journal c (place_of h.limits space)
socket-alike h g alike c space =
    with-limits (λ k. socket_of k.base k.journal c (place_of k.limits space) ≡ socket_of h.base h.journal c (place_of h.limits space)) h g alike
    (λ base journal a. socket_of-same h.limits h.base base h.journal journal a.first.1 a.second.1 a.same c (place_of h.limits space))

pub space-alike : (h g : History) → AreAlike h g → (space : List ℕ) → is_space g.limits (place_of g.limits space) ≡ is_space h.limits (place_of h.limits space)
space-alike h g alike space = ap (λ (l : Limits). is_space l (place_of l space)) alike.same.same_limits

return-alike : (h g : History) → AreAlike h g → (c : ℕ) (space : List ℕ) (pid offset : ℕ) → recovery_asked c space pid offset g ≡ recovery_asked c space pid offset h
return-alike h g alike c space pid offset = λ i.
    let p = place_of (alike.same.same_limits i) space in
    brought_back c p pid offset (alike.same.same_log i) (unwrap_or (session_with pid (alike.same.same_sessions i)) (no_session p pid))

return-right : (h : History) (now c : ℕ) (space : List ℕ) (pid offset : ℕ) (k : History) → Makes h now (what.Recovered (recovery_asked c space pid offset h)) k → RightRecovery h.base h.limits h.journal (recovery_asked c space pid offset h)
return-right h now c space pid offset k (free, is) =
    let p = place_of h.limits space in
    right h.base h.limits h.journal c p pid offset
    (may-recover h.base h.limits h.journal c p pid offset (moment_at h now)
    (unrefused (recover_refusal h.base h.limits h.journal c p pid offset (moment_at h now)) (is_spent h.base h.limits h.journal (what.Recovered (recovery_asked c space pid offset h))) (sym free)))

module _ (keeps : StaysSound) (now : ℕ) where
  cannot-alike : (h g : History) → AreAlike h g → (w : What) → CannotRecover h now w → CannotRecover g now w
  cannot-alike h g alike w (inl (why, refused)) = inl (why, refused-alike keeps now h g alike w (hub.NotRecoverable why) refused)
  cannot-alike h g alike w (inr refused) = inr (refused-alike keeps now h g alike w hub.OutboxFull refused)

  -- ---- parking

  pub parks-or-closes : (c : ℕ) (h g k : History) → AreAlike h g → ParksOrCloses h now c k → (m : History) × Grown h k g m × ParksOrCloses g now c m
  parks-or-closes c h g k alike (inl makes) = let both = make-alike keeps now h g k alike (what.Parked c) tt makes in (with_step g now (what.Parked c), both.0, inl both.1)
  parks-or-closes c h g k alike (inr (refused, makes)) =
      let both = make-alike keeps now h g k alike (what.Closed c) tt makes in
      (with_step g now (what.Closed c), both.0, inr (refused-alike keeps now h g alike (what.Parked c) hub.SavedFull refused, both.1))

  pub fails-to-park : (c : ℕ) (h g : History) → AreAlike h g → (fault : CoreFault) → FailsToPark h now c fault → FailsToPark g now c fault
  fails-to-park c h g alike fault (inl stops) = inl (stops-alike keeps now h g alike (what.Parked c) fault stops)
  fails-to-park c h g alike fault (inr (refused, stops)) =
      inr (refused-alike keeps now h g alike (what.Parked c) hub.SavedFull refused, stops-alike keeps now h g alike (what.Closed c) fault stops)

  -- ---- closing and telling

  stops-for : (fault : CoreFault) (s : Scene) (e : Stopped) (t : Scene) (g : History) → AreAlike s.history g → StopsFor fault s e t → Sim (λ a b. StopsFor fault a e b) s t g
  stops-for fault s e t g alike (is, same) = (g, same-scene s t g alike same, (is, ap (λ (u : Scene). moved u g) same))

  shorter-alike : (before : ℕ) (s : Scene) (result : Upshot) (t : Scene) (g : History) → AreAlike s.history g → IsShortAfter before s result t → SimFor (IsShortAfter before) s result t g
  shorter-alike before s (Ok done) t g alike none = absurd none
  shorter-alike before s (Err e) t g alike (is, same) = (g, same-scene s t g alike same, (is, ap (λ (u : Scene). moved u g) same))

  short-alike : (s : Scene) (result : Upshot) (t : Scene) (g : History) → AreAlike s.history g → IsShort s result t → SimFor IsShort s result t g
  short-alike s result t g alike short = shorter-alike 0 s result t g alike short

  closes-for : (c : ℕ) (why : Cause) (s : Scene) (result : Upshot) (t : Scene) (g : History) → AreAlike s.history g → ClosesFor why (visit_at c now) s result t → SimFor (ClosesFor why (visit_at c now)) s result t g
  closes-for c why s (Ok done) t g alike closes = closes-alike keeps now c why s t g alike closes
  closes-for c why s (Err e) t g alike (fails, (is, same)) =
      (g, same-scene s t g alike same, (stops-alike keeps now s.history g alike (what.Closed c) e.fault fails, (is, ap (λ (u : Scene). moved u g) same)))

  parks-for : (c : ℕ) (s : Scene) (result : Upshot) (t : Scene) (g : History) → AreAlike s.history g → ParksFor (visit_at c now) s result t → SimFor (ParksFor (visit_at c now)) s result t g
  parks-for c s (Ok done) t g alike (parks, is) =
      let (m, grown, also) = parks-or-closes c s.history g t.history alike parks in (m, grown, (also, ap (λ (u : Scene). moved u m) is))
  parks-for c s (Err e) t g alike (fails, (is, same)) =
      (g, same-scene s t g alike same, (fails-to-park c s.history g alike e.fault fails, (is, ap (λ (u : Scene). moved u g) same)))

  refuses-alike : (c : ℕ) (space message : List ℕ) (s : Scene) (result : Upshot) (t : Scene) (g : History) → AreAlike s.history g → Refuses space message (visit_at c now) s result t → SimFor (Refuses space message (visit_at c now)) s result t g
  refuses-alike c space message s (Ok done) t g alike (inl (makes, is)) =
      let w = told_to c (refusal_entry space message) in
      let both = make-alike keeps now s.history g t.history alike w tt makes in
      let m = with_step g now w in
      (m, both.0, inl (both.1, ap (λ (u : Scene). moved u m) is))
  refuses-alike c space message s (Ok done) t g alike (inr (refused, closes)) =
      let (m, grown, also) = closes-alike keeps now c _ s t g alike closes in
      (m, grown, inr (refused-alike keeps now s.history g alike (told_to c (refusal_entry space message)) hub.OutboxFull refused, also))
  refuses-alike c space message s (Err e) t g alike (inl stops, (is, same)) =
      (g, same-scene s t g alike same, (inl (stops-alike keeps now s.history g alike (told_to c (refusal_entry space message)) e.fault stops), (is, ap (λ (u : Scene). moved u g) same)))
  refuses-alike c space message s (Err e) t g alike (inr (refused, stops), (is, same)) = (
    g,
    same-scene s t g alike same,
    (inr (refused-alike keeps now s.history g alike (told_to c (refusal_entry space message)) hub.OutboxFull refused, stops-alike keeps now s.history g alike (what.Closed c) e.fault stops), (is, ap (λ (u : Scene). moved u g) same)),
  )

  -- ---- packets of a socket

  does-all : (who : Who) (before : ℕ) (effects : List Effect) (s : Scene) (result : Upshot) (t : Scene) (g : History) → AreAlike s.history g → DoesAll who now before effects s result t → SimFor (DoesAll who now before effects) s result t g
  does-all who before effects s (Ok done) t g alike run = effects-alike keeps now who effects s t g alike run
  does-all who before effects s (Err e) t g alike stops = stopped-alike keeps now who before effects s e t g alike stops

  leaves-alike : (who : Who) (s : Scene) (result : Upshot) (t : Scene) (g : History) → AreAlike s.history g → ClientDisconnects who (visit_at who.client now) s result t → SimFor (ClientDisconnects who (visit_at who.client now)) s result t g
  leaves-alike who s (Ok done) t g alike (makes, advances, is) =
      let both = make-alike keeps now s.history g t.history alike (what.Ended who.sid side.Client) tt makes in
      let m = with_step g now (what.Ended who.sid side.Client) in
      (m, both.0, (both.1, advances, ap (λ (u : Scene). moved u m) is))
  leaves-alike who s (Err e) t g alike (fails, (is, same)) =
      (g, same-scene s t g alike same, (stops-alike keeps now s.history g alike (what.Ended who.sid side.Client) e.fault fails, (is, ap (λ (u : Scene). moved u g) same)))

  module _ (policy : Policy) where
    decides-after-alike : (before : ℕ) (who : Who) (arrived : Arrived) (s : Scene) (result : Upshot) (t : Scene) (g : History) → AreAlike s.history g
        → DecidesAfter policy before who arrived (visit_at who.client now) s result t → SimFor (DecidesAfter policy before who arrived (visit_at who.client now)) s result t g
    decides-after-alike before who arrived s result t g alike (inl short) = let (m, grown, also) = shorter-alike before s result t g alike short in (m, grown, inl also)
    decides-after-alike before who arrived s result t g alike (inr (effects, decided, clean, does)) =
        let (m, grown, also) = does-all who before effects s result t g alike does in (m, grown, inr (effects, decided, clean, also))

    decides-alike : (who : Who) (arrived : Arrived) (s : Scene) (result : Upshot) (t : Scene) (g : History) → AreAlike s.history g → Decides policy who arrived (visit_at who.client now) s result t → SimFor (Decides policy who arrived (visit_at who.client now)) s result t g
    decides-alike who arrived s result t g alike does = decides-after-alike 0 who arrived s result t g alike does

    ack-alike : (who : Who) (id : Option ℕ) (payload : List ℕ) (attachments : List (List ℕ)) (s : Scene) (result : Upshot) (t : Scene) (g : History) → AreAlike s.history g
        → TakesAck policy who payload attachments id (visit_at who.client now) s result t → SimFor (TakesAck policy who payload attachments id (visit_at who.client now)) s result t g
    ack-alike who None payload attachments s result t g alike (is, same) =
        (g, grown-none s.history t.history g alike (ap (λ (u : Scene). u.history) same), (is, ap (λ (u : Scene). moved u g) same))
    ack-alike who (Some id) payload attachments s result t g alike (inl (line, none, advances, does)) =
        let (m, grown, also) = decides-alike who _ (record s { line = line; done = record s.done { ignored = true } }) result t g alike does in (m, grown, inl (line, none, advances, also))
    ack-alike who (Some id) payload attachments s result t g alike (inr (question, line, asked, advances, does)) =
        let (m, grown, also) = decides-alike who _ (record s { line = line }) result t g alike does in (m, grown, inr (question, line, asked, advances, also))

    serves-alike : (k : Kind) (who : Who) (id : Option ℕ) (payload : List ℕ) (attachments : List (List ℕ)) (s : Scene) (result : Upshot) (t : Scene) (g : History) → AreAlike s.history g
        → Serves policy who payload attachments k id (visit_at who.client now) s result t → SimFor (Serves policy who payload attachments k id (visit_at who.client now)) s result t g
    serves-alike kind.Disconnect who id payload attachments s result t g alike does = leaves-alike who s result t g alike does
    serves-alike kind.Event who id payload attachments s result t g alike does = decides-alike who _ (record s { asked = id }) result t g alike does
    serves-alike kind.BinaryEvent who id payload attachments s result t g alike does = decides-alike who _ (record s { asked = id }) result t g alike does
    serves-alike kind.Ack who id payload attachments s result t g alike does = ack-alike who id payload attachments s result t g alike does
    serves-alike kind.BinaryAck who id payload attachments s result t g alike does = ack-alike who id payload attachments s result t g alike does
    serves-alike kind.Connect who id payload attachments s result t g alike (is, same) = (g, same-scene s t g alike same, (is, ap (λ (u : Scene). moved u g) same))
    serves-alike kind.ConnectError who id payload attachments s result t g alike (is, same) = (g, same-scene s t g alike same, (is, ap (λ (u : Scene). moved u g) same))

    -- the row of a packet, by the client's socket in its namespace
    abbrev ServesAt : ℕ → SioPacket → Upshot → Option Socket → Scene → Scene → Type 0
    ServesAt c p result o a b = elim o as (λ (o : Option Socket). Type 0) [
      | None ↦ ClosesFor cause.NotJoined (visit_at c now) a result b
      | Some k ↦ IsSeated (record { client = c; space = p.header.space; sid = k.sid }) a.history
          × Serves policy (record { client = c; space = p.header.space; sid = k.sid }) p.header.payload p.attachments p.header.kind p.header.id (visit_at c now) a result b
    ]

    joined-alike : (c : ℕ) (p : SioPacket) (s : Scene) (result : Upshot) (t : Scene) (g : History) → AreAlike s.history g → ServesJoined policy p (visit_at c now) s result t → SimFor (ServesJoined policy p (visit_at c now)) s result t g
    joined-alike c p s result t g alike does =
        subst (λ (o : Option Socket). (m : History) × Grown s.history t.history g m × ServesAt c p result o (moved s g) (moved t m)) (sym (socket-alike s.history g alike c p.header.space))
        (on (socket_of s.history.base s.history.journal c (place_of s.history.limits p.header.space)) does)
      where
        on : (o : Option Socket) → ServesAt c p result o s t → (m : History) × Grown s.history t.history g m × ServesAt c p result o (moved s g) (moved t m)
        on None closes = closes-for c cause.NotJoined s result t g alike closes
        on (Some k) (seated, serves) =
            let who : Who = record { client = c; space = p.header.space; sid = k.sid } in
            let (m, grown, also) = serves-alike p.header.kind who p.header.id p.header.payload p.attachments s result t g alike serves in
            (m, grown, (seated-alike keeps now who s.history g alike seated, also))

  -- ---- connecting

  draws-none : (R : Scene → Upshot → Scene → Type 0) (s : Course) (result : Upshot) (t : Course) (g : History) → SimFor R s.scene result t.scene g → t.ids ≡ s.ids → SimFrom (DrawsNone R) s result t g
  draws-none R s result t g (m, grown, also) drawn = (m, grown, (also, drawn))

  connects-as : (who : Who) (pid : ℕ) (effects : List Effect) (s : Scene) (result : Upshot) (t : Scene) (g : History) → AreAlike s.history g → ConnectsAs who pid effects (visit_at who.client now) s result t → SimFor (ConnectsAs who pid effects (visit_at who.client now)) s result t g
  connects-as who pid effects s result t g alike does =
      subst (λ (k : Socket). (m : History) × Grown s.history t.history g m × Attaches k (moved s g) (moved t m)) (ap (λ (l : Limits). record { client = who.client; space = place_of l who.space; sid = who.sid; pid = pid }) (sym alike.same.same_limits)) (on does)
    where
      Attaches : Socket → Scene → Scene → Type 0
      Attaches k a b =
          ((between : Scene) × Makes a.history now (what.Attached k) between.history × Advances a.line (Connected who.sid ∷ []) between.line
          × (between ≡ record (counted a) { history = between.history; line = between.line }) × DoesAll who now 1 effects between result b)
          ⊎ (IsRefused a.history now (what.Attached k) hub.OutboxFull × ClosesFor cause.OutboxFull (visit_at who.client now) a result b)
          ⊎ ((e : Stopped) × (result ≡ Err e) × StopsAt a.history now (what.Attached k) e.fault × StopsFor e.fault a e b)

      on : Attaches (seat who pid s.history) s t → (m : History) × Grown s.history t.history g m × Attaches (seat who pid s.history) (moved s g) (moved t m)
      on (inl (between, makes, advances, is, all)) =
          let w = what.Attached (seat who pid s.history) in
          let both = make-alike keeps now s.history g between.history alike w tt makes in
          let m = with_step g now w in
          let (n, grown, also) = does-all who 1 effects between result t m both.0.alike all in
          (n, grown-on s.history between.history t.history g m n both.0 grown, inl (moved between m, both.1, advances, ap (λ (u : Scene). moved u m) is, also))
      on (inr (inl (refused, closes))) =
          let (m, grown, also) = closes-for who.client cause.OutboxFull s result t g alike closes in
          (m, grown, inr (inl (refused-alike keeps now s.history g alike (what.Attached (seat who pid s.history)) hub.OutboxFull refused, also)))
      on (inr (inr (e, is, stops, (none, same)))) =
          (g, same-scene s t g alike same, inr (inr (e, is, stops-alike keeps now s.history g alike (what.Attached (seat who pid s.history)) e.fault stops, (none, ap (λ (u : Scene). moved u g) same))))

  -- the rooms of a socket
  rooms-alike : (h g : History) → AreAlike h g → (sid : ℕ) → rooms_rising (rooms_now g) sid ≡ rooms_rising (rooms_now h) sid
  rooms-alike h g alike sid = ap (λ sets. rooms_rising sets sid) alike.same.same_rooms

  returns-alike : (policy : Policy) (c : ℕ) (space : List ℕ) (pid offset : ℕ) (s : Scene) (result : Upshot) (t : Scene) (g : History) → AreAlike s.history g
      → ComesBack policy (what.Recovered (recovery_asked c space pid offset s.history)) (socket_in c space (recovery_asked c space pid offset s.history).socket.sid) (visit_at c now) s result t
      → SimFor (ComesBack policy (what.Recovered (recovery_asked c space pid offset s.history)) (socket_in c space (recovery_asked c space pid offset s.history).socket.sid) (visit_at c now)) s result t g
  returns-alike policy c space pid offset s result t g alike (between, makes, advances, is, decides) =
      let r = recovery_asked c space pid offset s.history in
      let w = what.Recovered r in
      let who = socket_in c space r.socket.sid in
      let both = make-alike keeps now s.history g between.history alike w (return-right s.history now c space pid offset between.history makes) makes in
      let m = with_step g now w in
      let (n, grown, also) = decides-after-alike policy 1 who (arrived.Returned (rooms_rising (rooms_now between.history) who.sid)) between result t m both.0.alike decides in
      let with_rooms = subst (λ (rooms : List (List ℕ)). DecidesAfter policy 1 who (arrived.Returned rooms) (visit_at who.client now) (moved between m) result (moved t n)) (sym (rooms-alike between.history m both.0.alike who.sid)) also in
      (n, grown-on s.history between.history t.history g m n both.0 grown, (moved between m, both.1, advances, ap (λ (u : Scene). moved u m) is, with_rooms))

  module _ (policy : Policy) (c : ℕ) (space payload : List ℕ) (s : Course) (result : Upshot) (t : Course) (g : History) (alike : AreAlike s.scene.history g) where
    asks-app : AsksApp policy space payload (visit_at c now) s result t → SimFrom (AsksApp policy space payload (visit_at c now)) s result t g
    asks-app (inl (short, drawn)) = let (m, grown, also) = short-alike s.scene result t.scene g alike short in (m, grown, inl (also, drawn))
    asks-app (inr (inl (effects, allowed, clean, (drawn, inl short)))) =
        let (m, grown, also) = short-alike s.scene result t.scene g alike short in (m, grown, inr (inl (effects, allowed, clean, (drawn, inl also))))
    asks-app (inr (inl (effects, allowed, clean, (drawn, inr (all, greets, does))))) =
        let (m, grown, also) = connects-as (socket_in c space (s.ids 0)) (s.ids 1) all s.scene result t.scene g alike does in
        (m, grown, inr (inl (effects, allowed, clean, (drawn, inr (all, greets, also)))))
    asks-app (inr (inr (message, allowed, (refuses, drawn)))) =
        let (m, grown, also) = refuses-alike c space message s.scene result t.scene g alike refuses in (m, grown, inr (inr (message, allowed, (also, drawn))))

    -- the session that is brought back, whichever recovery it is
    abbrev RecoversBy : PlainRecovery → Course → Course → Type 0
    RecoversBy r a b =
        DrawsNone (ComesBack policy (what.Recovered r) (socket_in c space r.socket.sid) (visit_at c now)) a result b
        ⊎ (CannotRecover a.scene.history now (what.Recovered r) × AsksApp policy space payload (visit_at c now) a result b)
        ⊎ ((e : Stopped) × (result ≡ Err e) × StopsAt a.scene.history now (what.Recovered r) e.fault × StopsFor e.fault a.scene e b.scene × (b.ids ≡ a.ids))

    comes-back : (pid offset : ℕ) → AsksToRecover policy space payload pid offset (visit_at c now) s result t → SimFrom (AsksToRecover policy space payload pid offset (visit_at c now)) s result t g
    comes-back pid offset does =
        subst (λ (r : PlainRecovery). (m : History) × Grown s.scene.history t.scene.history g m × RecoversBy r (shifted s g) (shifted t m)) (sym (return-alike s.scene.history g alike c space pid offset)) (on does)
      where
        r : PlainRecovery
        r = recovery_asked c space pid offset s.scene.history

        on : RecoversBy r s t → (m : History) × Grown s.scene.history t.scene.history g m × RecoversBy r (shifted s g) (shifted t m)
        on (inl (returns, drawn)) = let (m, grown, also) = returns-alike policy c space pid offset s.scene result t.scene g alike returns in (m, grown, inl (also, drawn))
        on (inr (inl (cannot, asks))) =
            let (m, grown, also) = asks-app asks in (m, grown, inr (inl (cannot-alike s.scene.history g alike (what.Recovered r) cannot, also)))
        on (inr (inr (e, is, stops, (none, same), drawn))) =
            (g, same-scene s.scene t.scene g alike same, inr (inr (e, is, stops-alike keeps now s.scene.history g alike (what.Recovered r) e.fault stops, (none, ap (λ (u : Scene). moved u g) same), drawn)))

    may-come-back : MayRecover policy space payload (visit_at c now) s result t → SimFrom (MayRecover policy space payload (visit_at c now)) s result t g
    may-come-back (inl (short, drawn)) = let (m, grown, also) = short-alike s.scene result t.scene g alike short in (m, grown, inl (also, drawn))
    may-come-back (inr (inl (none, asks))) = let (m, grown, also) = asks-app asks in (m, grown, inr (inl (none, also)))
    may-come-back (inr (inr (named, names, comes))) = let (m, grown, also) = comes-back named.0 named.1 comes in (m, grown, inr (inr (named, names, also)))

    -- the row of a CONNECT, by the namespace and the client's socket in it
    abbrev FindsSocket : Option Socket → Course → Course → Type 0
    FindsSocket o a b = elim o as (λ (o : Option Socket). Type 0) [
      | Some k ↦ DrawsNone (ClosesFor cause.AlreadyConnected (visit_at c now)) a result b
      | None ↦ MayRecover policy space payload (visit_at c now) a result b
    ]

    abbrev FindsSpace : Bool → Option Socket → Course → Course → Type 0
    FindsSpace there o a b = elim there as (λ (there : Bool). Type 0) [ false ↦ DrawsNone (Refuses space (codes "Invalid namespace") (visit_at c now)) a result b | true ↦ FindsSocket o a b ]

    asks-to-connect : AsksToConnect policy space payload (visit_at c now) s result t → SimFrom (AsksToConnect policy space payload (visit_at c now)) s result t g
    asks-to-connect does =
        let h = s.scene.history in
        subst (λ (b : Bool). (m : History) × Grown h t.scene.history g m × FindsSpace b (socket_of g.base g.journal c (place_of g.limits space)) (shifted s g) (shifted t m)) (sym (space-alike h g alike space))
        (subst (λ (o : Option Socket). (m : History) × Grown h t.scene.history g m × FindsSpace (is_space h.limits (place_of h.limits space)) o (shifted s g) (shifted t m)) (sym (socket-alike h g alike c space))
        (on (is_space h.limits (place_of h.limits space)) (socket_of h.base h.journal c (place_of h.limits space)) does))
      where
        on : (there : Bool) (o : Option Socket) → FindsSpace there o s t → (m : History) × Grown s.scene.history t.scene.history g m × FindsSpace there o (shifted s g) (shifted t m)
        on false o (refuses, drawn) = let (m, grown, also) = refuses-alike c space (codes "Invalid namespace") s.scene result t.scene g alike refuses in (m, grown, (also, drawn))
        on true (Some k) (closes, drawn) = let (m, grown, also) = closes-for c cause.AlreadyConnected s.scene result t.scene g alike closes in (m, grown, (also, drawn))
        on true None comes = may-come-back comes

  -- ---- a packet

  module _ (policy : Policy) (c : ℕ) where
    -- the event's visit
    abbrev v : Visit
    v = visit_at c now

    works-alike : (p : SioPacket) (s : Course) (result : Upshot) (t : Course) (g : History) → AreAlike s.scene.history g → Works policy p v s result t → SimFrom (Works policy p v) s result t g
    works-alike p s result t g alike does = on p.header.kind does
      where
        joins : ServesJoined policy p v s.scene result t.scene × (t.ids ≡ s.ids) → SimFrom (DrawsNone (ServesJoined policy p v)) s result t g
        joins (does, drawn) = let (m, grown, also) = joined-alike policy c p s.scene result t.scene g alike does in (m, grown, (also, drawn))

        on : (k : Kind)
            → elim k as (λ (k : Kind). Type 0) [ kind.Connect ↦ AsksToConnect policy p.header.space p.header.payload v s result t | _ ↦ DrawsNone (ServesJoined policy p v) s result t ]
            → (m : History) × Grown s.scene.history t.scene.history g m
            × elim k as (λ (k : Kind). Type 0) [ kind.Connect ↦ AsksToConnect policy p.header.space p.header.payload v (shifted s g) result (shifted t m) | _ ↦ DrawsNone (ServesJoined policy p v) (shifted s g) result (shifted t m) ]
        on kind.Connect does = asks-to-connect policy c p.header.space p.header.payload s result t g alike does
        on kind.Disconnect does = joins does
        on kind.Event does = joins does
        on kind.Ack does = joins does
        on kind.ConnectError does = joins does
        on kind.BinaryEvent does = joins does
        on kind.BinaryAck does = joins does

    same-course : (s t : Course) (g : History) → AreAlike s.scene.history g → t ≡ s → Grown s.scene.history t.scene.history g g
    same-course s t g alike is = grown-none s.scene.history t.scene.history g alike (ap (λ (u : Course). u.scene.history) is)

    closes-one : (why : Cause) (s : Course) (result : Upshot) (t : Course) (g : History) → AreAlike s.scene.history g → DrawsNone (ClosesFor why v) s result t → SimFrom (DrawsNone (ClosesFor why v)) s result t g
    closes-one why s result t g alike (closes, drawn) = let (m, grown, also) = closes-for c why s.scene result t.scene g alike closes in (m, grown, (also, drawn))

    short-one : (s : Course) (result : Upshot) (t : Course) (g : History) → AreAlike s.scene.history g → DrawsNone IsShort s result t → SimFrom (DrawsNone IsShort) s result t g
    short-one s result t g alike (short, drawn) = let (m, grown, also) = short-alike s.scene result t.scene g alike short in (m, grown, (also, drawn))

    goes-on : (given : Result (Option SioPacket) SioError) (s : Course) (result : Upshot) (t : Course) (g : History) → AreAlike s.scene.history g → GoesOn policy given v s result t → SimFrom (GoesOn policy given v) s result t g
    goes-on (Ok None) s result t g alike (is, same) = (g, same-course s t g alike same, (is, ap (λ (u : Course). shifted u g) same))
    goes-on (Ok (Some p)) s result t g alike (whole, works) = let (m, grown, also) = works-alike p s result t g alike works in (m, grown, (whole, also))
    goes-on (Err sio.Memory) s result t g alike does = short-one s result t g alike does
    goes-on (Err sio.BadKind) s result t g alike does = closes-one _ s result t g alike does
    goes-on (Err sio.BadCount) s result t g alike does = closes-one _ s result t g alike does
    goes-on (Err sio.BadId) s result t g alike does = closes-one _ s result t g alike does
    goes-on (Err sio.BadJson) s result t g alike does = closes-one _ s result t g alike does
    goes-on (Err sio.BadShape) s result t g alike does = closes-one _ s result t g alike does
    goes-on (Err sio.Reserved) s result t g alike does = closes-one _ s result t g alike does
    goes-on (Err sio.BadPlaceholder) s result t g alike does = closes-one _ s result t g alike does
    goes-on (Err sio.TooMany) s result t g alike does = closes-one _ s result t g alike does
    goes-on (Err sio.TextAwaitingBinary) s result t g alike does = closes-one _ s result t g alike does
    goes-on (Err sio.BinaryUnawaited) s result t g alike does = closes-one _ s result t g alike does

    takes-frame : (frame : Frame) (s : Course) (result : Upshot) (t : Course) (g : History) → AreAlike s.scene.history g → TakesFrame policy frame v s result t → SimFrom (TakesFrame policy frame v) s result t g
    takes-frame frame s result t g alike (given, line, accepts, advances, does) =
        let (m, grown, also) = goes-on (Ok given) (with_line s line) result t g alike does in (m, grown, (given, line, accepts, advances, also))

    takes-text : (content : List ℕ) (s : Course) (result : Upshot) (t : Course) (g : History) → AreAlike s.scene.history g → TakesText policy content v s result t → SimFrom (TakesText policy content v) s result t g
    takes-text content s result t g alike (inl short) = let (m, grown, also) = short-one s result t g alike short in (m, grown, inl also)
    takes-text content s result t g alike (inr (inl takes)) = let (m, grown, also) = takes-frame (text content) s result t g alike takes in (m, grown, inr (inl also))
    takes-text content s result t g alike (inr (inr (error, refuses, does))) =
        let (m, grown, also) = goes-on (Err error) (with_line s (record s.scene.line { assembler = Failed error })) result t g alike does in (m, grown, inr (inr (error, refuses, also)))

    reads-binary : (content : List ℕ) (s : Course) (result : Upshot) (t : Course) (g : History) → AreAlike s.scene.history g → ReadsBinary policy content v s result t → SimFrom (ReadsBinary policy content v) s result t g
    reads-binary content s result t g alike (inl short) = let (m, grown, also) = short-one s result t g alike short in (m, grown, inl also)
    reads-binary content s result t g alike (inr (inl takes)) = let (m, grown, also) = takes-frame (binary content) s result t g alike takes in (m, grown, inr (inl also))
    reads-binary content s result t g alike (inr (inr (error, refuses, does))) =
        let (m, grown, also) = goes-on (Err error) (with_line s (record s.scene.line { assembler = Failed error })) result t g alike does in (m, grown, inr (inr (error, refuses, also)))

    -- the row of bytes, by whether they are too many
    abbrev FindsLong : List ℕ → Upshot → Bool → Course → Course → Type 0
    FindsLong content result long a b = elim long as (λ (long : Bool). Type 0) [ true ↦ DrawsNone (ClosesFor cause.TooLong v) a result b | false ↦ ReadsBinary policy content v a result b ]

    takes-binary : (content : List ℕ) (s : Course) (result : Upshot) (t : Course) (g : History) → AreAlike s.scene.history g → TakesBinary policy content v s result t → SimFrom (TakesBinary policy content v) s result t g
    takes-binary content s result t g alike does =
        subst (λ (l : Limits). (m : History) × Grown s.scene.history t.scene.history g m × FindsLong content result (exceeds s.scene.line.assembler l.bytes (length content)) (shifted s g) (shifted t m)) (sym alike.same.same_limits)
        (on (exceeds s.scene.line.assembler s.scene.history.limits.bytes (length content)) does)
      where
        on : (long : Bool) → FindsLong content result long s t → (m : History) × Grown s.scene.history t.scene.history g m × FindsLong content result long (shifted s g) (shifted t m)
        on true does = closes-one cause.TooLong s result t g alike does
        on false does = reads-binary content s result t g alike does

    handles-alike : (packet : Packet) (s : Course) (result : Upshot) (t : Course) (g : History) → AreAlike s.scene.history g → Handles policy packet v s result t → SimFrom (Handles policy packet v) s result t g
    handles-alike (eio.Close content) s result t g alike (does, drawn) = let (m, grown, also) = parks-for c s.scene result t.scene g alike does in (m, grown, (also, drawn))
    handles-alike (eio.Ping content) s result t g alike does = closes-one cause.PingFromClient s result t g alike does
    handles-alike (eio.Pong content) s result t g alike (is, advances, same) =
        (g, grown-none s.scene.history t.scene.history g alike (ap (λ (u : Course). u.scene.history) same), (is, advances, ap (λ (u : Course). shifted u g) same))
    handles-alike (eio.Message content) s result t g alike does = takes-text content s result t g alike does
    handles-alike (eio.Binary content) s result t g alike does = takes-binary content s result t g alike does
    handles-alike (eio.Open content) s result t g alike (is, same) = (g, same-course s t g alike same, (is, ap (λ (u : Course). shifted u g) same))
    handles-alike (eio.Upgrade content) s result t g alike (is, same) = (g, same-course s t g alike same, (is, ap (λ (u : Course). shifted u g) same))
    handles-alike (eio.Noop content) s result t g alike (is, same) = (g, same-course s t g alike same, (is, ap (λ (u : Course). shifted u g) same))

    pub packet-alike : (packet : Packet) (s : Course) (result : Upshot) (t : Course) (g : History) → AreAlike s.scene.history g → HandlesOrBreaks policy v packet s result t → SimFrom (HandlesOrBreaks policy v packet) s result t g
    packet-alike packet s result t g alike does = on s.scene.done.closed does
      where
        on : (o : Option Cause) → elim o as (λ (o : Option Cause). Type 0) [ Some why ↦ (result ≡ Ok tt) × (t ≡ s) | None ↦ Handles policy packet v (begun s) result t ]
            → (m : History) × Grown s.scene.history t.scene.history g m
            × elim o as (λ (o : Option Cause). Type 0) [ Some why ↦ (result ≡ Ok tt) × (shifted t m ≡ shifted s g) | None ↦ Handles policy packet v (begun (shifted s g)) result (shifted t m) ]
        on (Some why) (is, same) = (g, same-course s t g alike same, (is, ap (λ (u : Course). shifted u g) same))
        on None handles = handles-alike packet (begun s) result t g alike handles

    pub packets-alike : (packets : List Packet) (s t : Course) (g : History) → AreAlike s.scene.history g → Runs (HandlesInTurn policy v) packets s t → SimStage (Runs (HandlesInTurn policy v) packets) s t g
    packets-alike packets s t g alike run =
        runs-alike (λ (u : Course). u.scene.history) shifted (HandlesInTurn policy v) (λ a packet b k same does. packet-alike packet a (Ok tt) b k same does) packets s t g alike run

    pub breaks-alike : (packets : List Packet) (s : Course) (e : CoreError) (t : Course) (g : History) → AreAlike s.scene.history g → BreaksAfter policy v packets s e t → SimStage (λ a b. BreaksAfter policy v packets a e b) s t g
    breaks-alike packets s e t g alike (at, run, packet, there, breaks) =
        let (m, grown, also) = packets-alike (take e.packets packets) s at g alike run in
        let (n, further, ends) = packet-alike packet at (Err (record { fault = e.fault; effects = e.effects })) t m grown.alike breaks in
        (n, grown-on s.scene.history at.scene.history t.scene.history g m n grown further, (shifted at m, also, packet, there, ends))
