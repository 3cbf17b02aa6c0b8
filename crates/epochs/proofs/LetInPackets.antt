-- What a packet leaves: it attaches a socket only where the app lets it in, by the CONNECT that came.
use Rattle.std.proofs.Common.{◌≡◌, ℕ, Bool, true, false, List, [], ◌∷◌, refl, sym, subst, take, length, codes, Option, None, Some, Ok, Err, inl, inr}
use Rattle.std.specs.List.{AllByRecursion}
use Rattle.eio_wire.specs.declared.packet.Packet.{Packet}
use Rattle.eio_wire.specs.declared.packet.Packet.TheVariants as eio
use Rattle.sio_wire.specs.declared.assembler.SioPacket.{SioPacket}
use Rattle.sio_wire.specs.declared.header.Kind.{Kind}
use Rattle.sio_wire.specs.declared.header.Kind.TheVariants as kind
use Rattle.sio_wire.specs.declared.error.SioError.{SioError}
use Rattle.sio_wire.specs.declared.error.SioError.TheVariants as sio
use Rattle.sio_wire.specs.declared.assembler.Progress.TheVariants.{Failed}
use Rattle.sio_wire.specs.Frames.{Frame, text, binary, exceeds}
use Rattle.connection.specs.History.{Framed, Ponged, Connected, Disconnected, Answered}
use Rattle.journal.specs.declared.socket.Socket.{Socket}
use Rattle.journal.specs.declared.step.What.TheVariants as what
use Rattle.journal.specs.declared.ending.Side.TheVariants as side
use Rattle.journal.specs.Journal.{History, with_step}
use Rattle.journal.specs.Membership.{is_space, place_of, socket_of}
use Rattle.events.specs.declared.app.Arrived.{Arrived}
use Rattle.events.specs.declared.app.Effect.{Effect}
use Rattle.events.specs.declared.app.Who.{Who}
use Rattle.events.specs.declared.cause.Cause.{Cause}
use Rattle.events.specs.declared.cause.Cause.TheVariants as cause
use Rattle.events.specs.declared.fault.CoreError.{CoreError}
use Rattle.events.specs.declared.fault.CoreFault.{CoreFault}
use Rattle.events.specs.declared.fault.Stopped.{Stopped}
use Rattle.events.specs.App.{Policy, Accepted}
use Rattle.hub_state.specs.Recovering.{recovery_asked}
use Rattle.dispatch.specs.Commands.{IsSeated, seat}
use Rattle.dispatch.specs.Effects.{Scene, told_to}
use Rattle.dispatch.specs.Runs.{Runs}
use Rattle.dispatch.proofs.RunsLemmas.{run-keeps, all-take, all-at}
use Rattle.dispatch.specs.Scene.{Visit, visit_at}
use Rattle.dispatch.specs.Packets.{Course, Upshot, StopsFor, IsShortAfter, IsShort, DrawsNone, ClosesFor, ParksFor, refusal_entry, Refuses, DoesAll, ClientDisconnects, DecidesAfter, TakesAck, ReceivesEvent, Serves, ServesJoined, socket_in, ConnectsAs, AsksApp, AsksToRecover, MayRecover, AsksToConnect, Works, GoesOn, with_line, TakesFrame, TakesText, ReadsBinary, TakesBinary, Handles, begun, HandlesOrBreaks, HandlesInTurn, BreaksAfter}
use Rattle.epochs.specs.LetIn.{IsConnect, IsConnectPacket}
use Rattle.epochs.proofs.ConnectLemmas.{line-spelled, advanced, refused-line}
use Rattle.epochs.proofs.QuietEffects as quiet_effects
use Rattle.epochs.proofs.QuietEffects.{KeptWhileQuiet, Has, same-has}

-- this is so of a history after a socket of the client was attached that the app lets in, by a CONNECT that came, where it was
-- before
abbrev pub KeptWhenLetIn : (History → Type 0) → Policy → (c now : ℕ) → ((space payload : List ℕ) → Type 0) → Type 0
KeptWhenLetIn Is policy c now Came = (h k : History) (space payload : List ℕ) (effects : List Effect) (sid pid : ℕ) → Came space payload → policy.allows now space payload (Accepted effects)
    → k ≡ with_step h now (what.Attached (seat (socket_in c space sid) pid h)) → Is h → Is k

-- each CONNECT that the packet holds came
abbrev pub IsBrought : ((space payload : List ℕ) → Type 0) → Packet → Type 0
IsBrought Came packet = (space payload : List ℕ) → IsConnectPacket space payload packet → Came space payload

module _ (Is : History → Type 0) (quiet : KeptWhileQuiet Is) (policy : Policy) (c now : ℕ) (Came : (space payload : List ℕ) → Type 0) (lets : KeptWhenLetIn Is policy c now Came) where
  -- the event's visit
  abbrev v : Visit
  v = visit_at c now

  -- ---- closing and telling

  stops-for : (fault : CoreFault) (s : Scene) (e : Stopped) (t : Scene) → StopsFor fault s e t → Has Is s → Has Is t
  stops-for fault s e t (is, same) was = same-has Is s t same was

  shorter : (before : ℕ) (s : Scene) (result : Upshot) (t : Scene) → IsShortAfter before s result t → Has Is s → Has Is t
  shorter before s (Ok done) t none was = absurd none
  shorter before s (Err e) t (is, same) was = same-has Is s t same was

  short : (s : Scene) (result : Upshot) (t : Scene) → IsShort s result t → Has Is s → Has Is t
  short s result t is was = shorter 0 s result t is was

  closes : (why : Cause) (s : Scene) (result : Upshot) (t : Scene) → ClosesFor why v s result t → Has Is s → Has Is t
  closes why s (Ok done) t does was = quiet_effects.closes-has Is quiet now c why s t does was
  closes why s (Err e) t (fails, stops) was = stops-for e.fault s e t stops was

  parks : (s : Scene) (result : Upshot) (t : Scene) → ParksFor v s result t → Has Is s → Has Is t
  parks s (Ok done) t (inl makes, is) was = subst (Has Is) (sym is) (quiet s.history t.history now (what.Parked c) refl makes.1 was.0, was.1)
  parks s (Ok done) t (inr (refused, makes), is) was = subst (Has Is) (sym is) (quiet s.history t.history now (what.Closed c) refl makes.1 was.0, was.1)
  parks s (Err e) t (fails, stops) was = stops-for e.fault s e t stops was

  refuses : (space message : List ℕ) (s : Scene) (result : Upshot) (t : Scene) → Refuses space message v s result t → Has Is s → Has Is t
  refuses space message s (Ok done) t (inl (makes, is)) was = subst (Has Is) (sym is) (quiet s.history t.history now (told_to c (refusal_entry space message)) refl makes.1 was.0, was.1)
  refuses space message s (Ok done) t (inr (refused, does)) was = quiet_effects.closes-has Is quiet now c _ s t does was
  refuses space message s (Err e) t (why, stops) was = stops-for e.fault s e t stops was

  -- ---- a socket's packets

  does-all : (who : Who) (before : ℕ) (effects : List Effect) (s : Scene) (result : Upshot) (t : Scene) → DoesAll who now before effects s result t → Has Is s → Has Is t
  does-all who before effects s (Ok done) t run was = quiet_effects.runs-has Is quiet now who effects s t run was
  does-all who before effects s (Err e) t stops was = quiet_effects.stopped-has Is quiet now who before effects s e t stops was

  leaves : (who : Who) (s : Scene) (result : Upshot) (t : Scene) → ClientDisconnects who (visit_at who.client now) s result t → Has Is s → Has Is t
  leaves who s (Ok done) t (makes, advances, is) was =
      subst (Has Is) (sym is) (quiet s.history t.history now (what.Ended who.sid side.Client) refl makes.1 was.0, advanced s.line t.line (Disconnected who.sid ∷ []) advances was.1)
  leaves who s (Err e) t (fails, stops) was = stops-for e.fault s e t stops was

  decides : (before : ℕ) (who : Who) (arrived : Arrived) (s : Scene) (result : Upshot) (t : Scene) → DecidesAfter policy before who arrived (visit_at who.client now) s result t → Has Is s → Has Is t
  decides before who arrived s result t (inl is) was = shorter before s result t is was
  decides before who arrived s result t (inr (effects, decided, clean, does)) was = does-all who before effects s result t does was

  ack : (who : Who) (id : Option ℕ) (payload : List ℕ) (attachments : List (List ℕ)) (s : Scene) (result : Upshot) (t : Scene) → TakesAck policy who payload attachments id (visit_at who.client now) s result t → Has Is s → Has Is t
  ack who None payload attachments s result t (is, same) was = subst (Has Is) (sym same) was
  ack who (Some id) payload attachments s result t (inl (line, none, advances, does)) was =
      decides 0 who _ (record s { line = line; done = record s.done { ignored = true } }) result t does (was.0, advanced s.line line [] advances was.1)
  ack who (Some id) payload attachments s result t (inr (question, line, asked, advances, does)) was =
      decides 0 who _ (record s { line = line }) result t does (was.0, advanced s.line line (Answered who.sid id ∷ []) advances was.1)

  hears : (who : Who) (id : Option ℕ) (payload : List ℕ) (attachments : List (List ℕ)) (s : Scene) (result : Upshot) (t : Scene) → ReceivesEvent policy who payload attachments id (visit_at who.client now) s result t → Has Is s → Has Is t
  hears who id payload attachments s result t does was = decides 0 who _ (record s { asked = id }) result t does was

  serves : (k : Kind) (who : Who) (id : Option ℕ) (payload : List ℕ) (attachments : List (List ℕ)) (s : Scene) (result : Upshot) (t : Scene)
      → Serves policy who payload attachments k id (visit_at who.client now) s result t → Has Is s → Has Is t
  serves kind.Disconnect who id payload attachments s result t does was = leaves who s result t does was
  serves kind.Event who id payload attachments s result t does was = hears who id payload attachments s result t does was
  serves kind.BinaryEvent who id payload attachments s result t does was = hears who id payload attachments s result t does was
  serves kind.Ack who id payload attachments s result t does was = ack who id payload attachments s result t does was
  serves kind.BinaryAck who id payload attachments s result t does was = ack who id payload attachments s result t does was
  serves kind.Connect who id payload attachments s result t (is, same) was = same-has Is s t same was
  serves kind.ConnectError who id payload attachments s result t (is, same) was = same-has Is s t same was

  joined : (p : SioPacket) (s : Scene) (result : Upshot) (t : Scene) → ServesJoined policy p v s result t → Has Is s → Has Is t
  joined p s result t does was = on (socket_of s.history.base s.history.journal c (place_of s.history.limits p.header.space)) does
    where
      on : (o : Option Socket) → elim o as (λ (o : Option Socket). Type 0) [
        | None ↦ ClosesFor cause.NotJoined v s result t
        | Some k ↦ IsSeated (socket_in c p.header.space k.sid) s.history
            × Serves policy (socket_in c p.header.space k.sid) p.header.payload p.attachments p.header.kind p.header.id v s result t
      ] → Has Is t
      on None does = closes cause.NotJoined s result t does was
      on (Some k) (seated, does) = serves p.header.kind (socket_in c p.header.space k.sid) p.header.id p.header.payload p.attachments s result t does was

  -- ---- a CONNECT

  connects-as : (space payload : List ℕ) (effects all : List Effect) (sid pid : ℕ) (s : Scene) (result : Upshot) (t : Scene) → Came space payload → policy.allows now space payload (Accepted effects)
      → ConnectsAs (socket_in c space sid) pid all v s result t → Has Is s → Has Is t
  connects-as space payload effects all sid pid s result t came allowed (inl (between, makes, advances, is, does)) was =
      does-all (socket_in c space sid) 1 all between result t does (subst (Has Is) (sym is) (
        lets s.history between.history space payload effects sid pid came allowed makes.1 was.0,
        advanced s.line between.line (Connected sid ∷ []) advances was.1,
      ))
  connects-as space payload effects all sid pid s result t came allowed (inr (inl (refused, does))) was = closes cause.OutboxFull s result t does was
  connects-as space payload effects all sid pid s result t came allowed (inr (inr (e, is, fails, stops))) was = stops-for e.fault s e t stops was

  module _ (space payload : List ℕ) (came : Came space payload) (s : Course) (result : Upshot) (t : Course) (was : Has Is s.scene) where
    asks-app : AsksApp policy space payload v s result t → Has Is t.scene
    asks-app (inl (is, drawn)) = short s.scene result t.scene is was
    asks-app (inr (inl (effects, allowed, clean, (drawn, inl is)))) = short s.scene result t.scene is was
    asks-app (inr (inl (effects, allowed, clean, (drawn, inr (all, greets, does))))) =
        connects-as space payload effects all (s.ids 0) (s.ids 1) s.scene result t.scene came allowed does was
    asks-app (inr (inr (message, refused, (does, drawn)))) = refuses space message s.scene result t.scene does was

    returns : (pid offset : ℕ) → AsksToRecover policy space payload pid offset v s result t → Has Is t.scene
    returns pid offset (inl ((between, makes, advances, is, does), drawn)) =
        let r = recovery_asked c space pid offset s.scene.history in
        decides 1 (socket_in c space r.socket.sid) _ between result t.scene does (subst (Has Is) (sym is) (
          quiet s.scene.history between.history now (what.Recovered r) refl makes.1 was.0,
          advanced s.scene.line between.line (Connected r.socket.sid ∷ []) advances was.1,
        ))
    returns pid offset (inr (inl (cannot, asks))) = asks-app asks
    returns pid offset (inr (inr (e, is, fails, stops, drawn))) = stops-for e.fault s.scene e t.scene stops was

    may-recover : MayRecover policy space payload v s result t → Has Is t.scene
    may-recover (inl (is, drawn)) = short s.scene result t.scene is was
    may-recover (inr (inl (none, asks))) = asks-app asks
    may-recover (inr (inr (named, names, asks))) = returns named.0 named.1 asks

    connects : AsksToConnect policy space payload v s result t → Has Is t.scene
    connects does = on (is_space h.limits (place_of h.limits space)) does
      where
        h : History
        h = s.scene.history

        free : (o : Option Socket) → elim o as (λ (o : Option Socket). Type 0) [
          | Some k ↦ DrawsNone (ClosesFor cause.AlreadyConnected v) s result t
          | None ↦ MayRecover policy space payload v s result t
        ] → Has Is t.scene
        free (Some k) (does, drawn) = closes cause.AlreadyConnected s.scene result t.scene does was
        free None asks = may-recover asks

        on : (b : Bool) → elim b as (λ (b : Bool). Type 0) [
          | false ↦ DrawsNone (Refuses space (codes "Invalid namespace") v) s result t
          | true ↦ elim (socket_of h.base h.journal c (place_of h.limits space)) [
            | Some k ↦ DrawsNone (ClosesFor cause.AlreadyConnected v) s result t
            | None ↦ MayRecover policy space payload v s result t
          ]
        ] → Has Is t.scene
        on false (does, drawn) = refuses space (codes "Invalid namespace") s.scene result t.scene does was
        on true asks = free (socket_of h.base h.journal c (place_of h.limits space)) asks

  -- ---- a packet

  works : (p : SioPacket) → (p.header.kind ≡ kind.Connect → Came p.header.space p.header.payload) → (s : Course) (result : Upshot) (t : Course)
      → Works policy p v s result t → Has Is s.scene → Has Is t.scene
  works p came s result t does was = on p.header.kind refl does
    where
      on : (k : Kind) → p.header.kind ≡ k → elim k as (λ (k : Kind). Type 0) [
        | kind.Connect ↦ AsksToConnect policy p.header.space p.header.payload v s result t
        | _ ↦ DrawsNone (ServesJoined policy p v) s result t
      ] → Has Is t.scene
      on kind.Connect is does = connects p.header.space p.header.payload (came is) s result t was does
      on kind.Disconnect is (does, drawn) = joined p s.scene result t.scene does was
      on kind.Event is (does, drawn) = joined p s.scene result t.scene does was
      on kind.Ack is (does, drawn) = joined p s.scene result t.scene does was
      on kind.ConnectError is (does, drawn) = joined p s.scene result t.scene does was
      on kind.BinaryEvent is (does, drawn) = joined p s.scene result t.scene does was
      on kind.BinaryAck is (does, drawn) = joined p s.scene result t.scene does was

  goes-wrong : (e : SioError) (s : Course) (result : Upshot) (t : Course) → GoesOn policy (Err e) v s result t → Has Is s.scene → Has Is t.scene
  goes-wrong sio.Memory s result t (is, drawn) was = short s.scene result t.scene is was
  goes-wrong sio.BadKind s result t (does, drawn) was = closes _ s.scene result t.scene does was
  goes-wrong sio.BadCount s result t (does, drawn) was = closes _ s.scene result t.scene does was
  goes-wrong sio.BadId s result t (does, drawn) was = closes _ s.scene result t.scene does was
  goes-wrong sio.BadJson s result t (does, drawn) was = closes _ s.scene result t.scene does was
  goes-wrong sio.BadShape s result t (does, drawn) was = closes _ s.scene result t.scene does was
  goes-wrong sio.Reserved s result t (does, drawn) was = closes _ s.scene result t.scene does was
  goes-wrong sio.BadPlaceholder s result t (does, drawn) was = closes _ s.scene result t.scene does was
  goes-wrong sio.TooMany s result t (does, drawn) was = closes _ s.scene result t.scene does was
  goes-wrong sio.TextAwaitingBinary s result t (does, drawn) was = closes _ s.scene result t.scene does was
  goes-wrong sio.BinaryUnawaited s result t (does, drawn) was = closes _ s.scene result t.scene does was

  -- a frame that is refused
  refuses-frame : (e : SioError) (s : Course) (result : Upshot) (t : Course) → GoesOn policy (Err e) v (with_line s (record s.scene.line { assembler = Failed e })) result t → Has Is s.scene → Has Is t.scene
  refuses-frame e s result t does was = goes-wrong e _ result t does (was.0, refused-line e s.scene.line was.1)

  -- a frame that the assembler takes: each CONNECT that it spells came
  takes-frame : (frame : Frame) → ((space payload t : List ℕ) → frame ≡ text t → IsConnect space payload t → Came space payload) → (s : Course) (result : Upshot) (t : Course)
      → TakesFrame policy frame v s result t → Has Is s.scene → Has Is t.scene
  takes-frame frame brings s result t (None, line, accepts, advances, (is, same)) was = subst (λ (u : Course). Has Is u.scene) (sym same) (was.0, advanced s.scene.line line (Framed frame ∷ []) advances was.1)
  takes-frame frame brings s result t (Some p, line, accepts, advances, (whole, does)) was =
      works p (λ is. let (spelled, same, connect) = line-spelled s.scene.line line frame p was.1 accepts advances is in brings p.header.space p.header.payload spelled same connect)
      (with_line s line) result t does (was.0, advanced s.scene.line line (Framed frame ∷ []) advances was.1)

  text-once : (content t : List ℕ) → text content ≡ text t → content ≡ t
  text-once content t same = cc same

  takes-text : (content : List ℕ) → ((space payload : List ℕ) → IsConnect space payload content → Came space payload) → (s : Course) (result : Upshot) (t : Course)
      → TakesText policy content v s result t → Has Is s.scene → Has Is t.scene
  takes-text content brings s result t (inl (is, drawn)) was = short s.scene result t.scene is was
  takes-text content brings s result t (inr (inl takes)) was =
      takes-frame (text content) (λ space payload spelled same connect. brings space payload (subst (IsConnect space payload) (sym (text-once content spelled same)) connect)) s result t takes was
  takes-text content brings s result t (inr (inr (e, refused, does))) was = refuses-frame e s result t does was

  not-text : (content t : List ℕ) → binary content ≡ text t → ⊥
  not-text content t same = absurd (cc same)

  takes-binary : (content : List ℕ) (s : Course) (result : Upshot) (t : Course) → TakesBinary policy content v s result t → Has Is s.scene → Has Is t.scene
  takes-binary content s result t does was = on (exceeds s.scene.line.assembler s.scene.history.limits.bytes (length content)) does
    where
      on : (b : Bool) → elim b as (λ (b : Bool). Type 0) [ true ↦ DrawsNone (ClosesFor cause.TooLong v) s result t | false ↦ ReadsBinary policy content v s result t ] → Has Is t.scene
      on true (does, drawn) = closes cause.TooLong s.scene result t.scene does was
      on false (inl (is, drawn)) = short s.scene result t.scene is was
      on false (inr (inl takes)) = takes-frame (binary content) (λ space payload spelled same connect. absurd (not-text content spelled same)) s result t takes was
      on false (inr (inr (e, refused, does))) = refuses-frame e s result t does was

  handles : (packet : Packet) → IsBrought Came packet → (s : Course) (result : Upshot) (t : Course) → Handles policy packet v s result t → Has Is s.scene → Has Is t.scene
  handles (eio.Close content) brings s result t (does, drawn) was = parks s.scene result t.scene does was
  handles (eio.Ping content) brings s result t (does, drawn) was = closes cause.PingFromClient s.scene result t.scene does was
  handles (eio.Pong content) brings s result t (is, advances, same) was =
      subst (λ (u : Course). Has Is u.scene) (sym same) (was.0, advanced s.scene.line t.scene.line (Ponged now ∷ []) advances was.1)
  handles (eio.Message content) brings s result t does was = takes-text content brings s result t does was
  handles (eio.Binary content) brings s result t does was = takes-binary content s result t does was
  handles (eio.Open content) brings s result t (is, same) was = subst (λ (u : Course). Has Is u.scene) (sym same) was
  handles (eio.Upgrade content) brings s result t (is, same) was = subst (λ (u : Course). Has Is u.scene) (sym same) was
  handles (eio.Noop content) brings s result t (is, same) was = subst (λ (u : Course). Has Is u.scene) (sym same) was

  turn : (packet : Packet) → IsBrought Came packet → (s : Course) (result : Upshot) (t : Course) → HandlesOrBreaks policy v packet s result t → Has Is s.scene → Has Is t.scene
  turn packet brings s result t does was = on s.scene.done.closed does
    where
      on : (o : Option Cause) → elim o as (λ (o : Option Cause). Type 0) [ Some why ↦ (result ≡ Ok tt) × (t ≡ s) | None ↦ Handles policy packet v (begun s) result t ] → Has Is t.scene
      on (Some why) (is, same) = subst (λ (u : Course). Has Is u.scene) (sym same) was
      on None does = handles packet brings (begun s) result t does was

  -- the packets of an event
  pub all-packets : (packets : List Packet) (s t : Course) → AllByRecursion (IsBrought Came) packets → Runs (HandlesInTurn policy v) packets s t → Has Is s.scene → Has Is t.scene
  all-packets packets s t brings run was =
      run-keeps (HandlesInTurn policy v) (IsBrought Came) (λ (u : Course). Has Is u.scene) (λ a b packet brought has does. turn packet brought a (Ok tt) b does has) packets s t brings was run

  -- until one ends it
  pub broken-packets : (packets : List Packet) (s : Course) (e : CoreError) (t : Course) → AllByRecursion (IsBrought Came) packets → BreaksAfter policy v packets s e t → Has Is s.scene → Has Is t.scene
  broken-packets packets s e t brings (at, run, packet, there, breaks) was =
      turn packet (all-at (IsBrought Came) packets e.packets packet there brings) at (Err (record { fault = e.fault; effects = e.effects })) t breaks
      (all-packets (take e.packets packets) s at (all-take (IsBrought Came) e.packets packets brings) run was)
