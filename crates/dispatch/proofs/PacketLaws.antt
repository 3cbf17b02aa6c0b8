-- What a packet leaves: its client open unless it is closed, and steps that are of an event of this client.
use Rattle.std.proofs.Common.{◌≡◌, ℕ, Bool, true, false, List, [], ◌∷◌, ◌++◌, refl, sym, ◌∙◌, ap, subst, take, length, codes, is_none, Option, None, Some, Result, Ok, Err, inl, inr}
use Rattle.std.specs.List.{AllByRecursion}
use Rattle.eio_wire.specs.Payload.{IsWhole}
use Rattle.eio_wire.specs.declared.packet.Packet.{Packet}
use Rattle.eio_wire.specs.declared.packet.Packet.TheVariants as eio
use Rattle.sio_wire.specs.declared.assembler.SioPacket.{SioPacket}
use Rattle.sio_wire.specs.declared.header.Kind.{Kind}
use Rattle.sio_wire.specs.declared.header.Kind.TheVariants as kind
use Rattle.sio_wire.specs.declared.error.SioError.{SioError}
use Rattle.sio_wire.specs.declared.error.SioError.TheVariants as sio
use Rattle.sio_wire.specs.declared.assembler.Progress.TheVariants.{Failed}
use Rattle.sio_wire.specs.Frames.{Frame, text, binary, exceeds}
use Rattle.connection.specs.Line.{PlainLine}
use Rattle.journal.specs.declared.socket.Socket.{Socket}
use Rattle.journal.specs.declared.step.What.{What}
use Rattle.journal.specs.declared.ending.Side.TheVariants as side
use Rattle.journal.specs.declared.step.What.TheVariants as what
use Rattle.journal.specs.Journal.{History}
use Rattle.journal.specs.Membership.{is_open, is_space, place_of, socket_of, closes, opens}
use Rattle.journal.specs.Entries.{AllPass, own_entries}
use Rattle.events.specs.declared.app.Arrived.{Arrived}
use Rattle.events.specs.declared.app.Effect.{Effect}
use Rattle.events.specs.declared.app.Who.{Who}
use Rattle.events.specs.declared.cause.Cause.{Cause}
use Rattle.events.specs.declared.cause.Cause.TheVariants as cause
use Rattle.events.specs.declared.fault.CoreError.{CoreError}
use Rattle.events.specs.declared.fault.CoreFault.{CoreFault}
use Rattle.events.specs.declared.fault.CoreFault.TheVariants.{Memory}
use Rattle.events.specs.declared.fault.Stopped.{Stopped}
use Rattle.events.specs.App.{Policy, IsCleanArrival, AllClean}
use Rattle.hub_state.specs.Recovering.{recovery_asked}
use Rattle.dispatch.specs.Commands.{Makes, IsSeated, seat}
use Rattle.dispatch.specs.Effects.{Scene, told_to, Closes}
use Rattle.dispatch.specs.Following.{is_clean, is_work, is_turn, is_cast}
use Rattle.dispatch.specs.Runs.{Runs}
use Rattle.dispatch.proofs.ActLemmas.{stands-seated}
use Rattle.dispatch.proofs.CleanLemmas.{clean-answer-at}
use Rattle.dispatch.proofs.RunsLemmas.{run-keeps}
use Rattle.dispatch.proofs.StepLemmas.{itself, open-still, open-no-more, connected-then, own-then, Working, working-on}
use Rattle.dispatch.proofs.WorkLemmas.{runs-work, stopped-works}
use Rattle.dispatch.specs.Scene.{Visit, visit_at}
use Rattle.dispatch.specs.Packets.{Course, Upshot, StopsFor, IsShortAfter, IsShort, DrawsNone, ClosesFor, ParksFor, refusal_entry, Refuses, DoesAll, ClientDisconnects, DecidesAfter, TakesAck, ReceivesEvent, Serves, ServesJoined, ConnectsAs, AsksApp, AsksToRecover, MayRecover, AsksToConnect, Works, GoesOn, with_line, TakesFrame, TakesText, ReadsBinary, TakesBinary, Handles, begun, HandlesOrBreaks, HandlesInTurn, BreaksAfter}
use Rattle.dispatch.proofs.ConnectLemmas.{clean-refusal, seated-back}

-- both lists of effects are clean
all-both : (xs ys : List Effect) → AllClean xs → AllClean ys → AllClean (xs ++ ys)
all-both [] ys left right = right
all-both (x ∷ xs) ys (one, left) right = (one, all-both xs ys left right)

-- after a packet the client is open unless it was closed, and after a fault in any case
abbrev pub StaysOpen : ℕ → Upshot → Scene → Type 0
StaysOpen c (Ok done) t = is_open t.history.base t.history.journal c ≡ is_none t.done.closed
StaysOpen c (Err e) t = is_open t.history.base t.history.journal c ≡ true

module _ (c now : ℕ) (f : History) where
  -- the event's visit
  abbrev v : Visit
  v = visit_at c now

  -- so far the event is one of this client's
  abbrev pub Has : Scene → Type 0
  Has s = Working c f s.history s.done.clients

  -- and its client is open
  abbrev pub Open : Scene → Type 0
  Open s = is_open s.history.base s.history.journal c ≡ true

  -- before a packet: the client is open, and was not closed
  pub record Before (s : Scene) : Type 0 where
    pub is : Open s
    pub fresh : s.done.closed ≡ None
    pub on : s.ended ≡ false
    pub has : Has s

  -- after it
  pub record After (result : Upshot) (t : Scene) : Type 0 where
    pub stays : StaysOpen c result t
    pub has : Has t

  -- the same but for the line and what was ignored
  same-before : (s t : Scene) → t.history ≡ s.history → t.done.clients ≡ s.done.clients → t.done.closed ≡ s.done.closed → t.ended ≡ s.ended → Before s → Before t
  same-before s t history clients closed ended was =
      record { is = rw history was.is; fresh = closed ∙ was.fresh; on = ended ∙ was.on; has = rw (history, clients) was.has }

  done-after : (result : Upshot) (t : Scene) → result ≡ Ok tt → Before t → After result t
  done-after result t is was = subst (λ (r : Upshot). After r t) (sym is) (record { stays = was.is ∙ sym (ap (λ (o : Option Cause). is_none o) was.fresh); has = was.has })

  stops-after : (fault : CoreFault) (s : Scene) (e : Stopped) (t : Scene) → StopsFor fault s e t → Before s → After (Err e) t
  stops-after fault s e t (is, same) was = record { stays = rw same was.is; has = rw same was.has }

  shorter-after : (before : ℕ) (s : Scene) (result : Upshot) (t : Scene) → IsShortAfter before s result t → Before s → After result t
  shorter-after before s (Ok done) t short was = absurd short
  shorter-after before s (Err e) t (is, same) was = record { stays = rw same was.is; has = rw same was.has }

  short-after : (s : Scene) (result : Upshot) (t : Scene) → IsShort s result t → Before s → After result t
  short-after s result t short was = shorter-after 0 s result t short was

  -- a step of this client's event
  made : (w : What) (s t u : Scene) → Makes s.history now w t.history → is_work c s.history w ≡ true → is_turn c s.history w ≡ true → is_cast w ≡ false
      → AllPass is_clean (own_entries s.history.limits w) → t ≡ u → u.history ≡ t.history → u.done.clients ≡ s.done.clients → Has s → Has t
  made w s t u makes work turn isnt clean is history clients was =
      subst Has (sym is) (rw (history, clients) (working-on c f now w s.history t.history makes.1 work turn isnt (λ names. clean) s.done.clients was))

  closed-after : (w : What) (cause : Cause) (s t : Scene) → Makes s.history now w t.history → closes w c ≡ true → opens w ≡ [] → is_work c s.history w ≡ true → is_turn c s.history w ≡ true → is_cast w ≡ false
      → AllPass is_clean (own_entries s.history.limits w) → t ≡ record s { history = t.history; done = record s.done { closed = Some cause } } → Has s → After (Ok tt) t
  closed-after w cause s t makes closes nobody work turn isnt clean is was =
      record {
        stays = open-no-more s.history t.history now w makes.1 c closes nobody ∙ sym (ap (λ (u : Scene). is_none u.done.closed) is);
        has = made w s t _ makes work turn isnt clean is refl refl was;
      }

  closes-now : (why : Cause) (s t : Scene) → Closes c now why s t → Has s → After (Ok tt) t
  closes-now why s t (makes, is) was = closed-after (what.Closed c) why s t makes (itself c) refl (itself c) (itself c) refl tt is was

  closes-after : (why : Cause) (s : Scene) (result : Upshot) (t : Scene) → ClosesFor why v s result t → Before s → After result t
  closes-after why s (Ok done) t closes was = closes-now why s t closes was.has
  closes-after why s (Err e) t (fails, stops) was = stops-after e.fault s e t stops was

  parks-after : (s : Scene) (result : Upshot) (t : Scene) → ParksFor v s result t → Before s → After result t
  parks-after s (Ok done) t (inl makes, is) was = closed-after (what.Parked c) cause.ClientClosed s t makes (itself c) refl (itself c) (itself c) refl tt is was.has
  parks-after s (Ok done) t (inr (refused, makes), is) was = closed-after (what.Closed c) cause.ClientClosed s t makes (itself c) refl (itself c) (itself c) refl tt is was.has
  parks-after s (Err e) t (fails, stops) was = stops-after e.fault s e t stops was

  -- a step that closes nothing
  open-after : (w : What) (s t u : Scene) → Makes s.history now w t.history → closes w c ≡ false → is_work c s.history w ≡ true → is_turn c s.history w ≡ true → is_cast w ≡ false
      → AllPass is_clean (own_entries s.history.limits w) → t ≡ u → u.history ≡ t.history → u.done.clients ≡ s.done.clients → u.done.closed ≡ s.done.closed → Before s → After (Ok tt) t
  open-after w s t u makes stays work turn isnt clean is history clients closed was =
      record {
        stays = open-still s.history t.history now w makes.1 c was.is stays ∙ sym (ap (λ (v : Scene). is_none v.done.closed) is ∙ ap (λ (o : Option Cause). is_none o) (closed ∙ was.fresh));
        has = made w s t u makes work turn isnt clean is history clients was.has;
      }

  refuses-after : (space message : List ℕ) → IsWhole space → (s : Scene) (result : Upshot) (t : Scene) → Refuses space message v s result t → Before s → After result t
  refuses-after space message whole s (Ok done) t (inl (makes, is)) was =
      open-after (told_to c (refusal_entry space message)) s t _ makes refl (itself c) (itself c) refl (clean-refusal space message whole, tt) is refl refl refl was
  refuses-after space message whole s (Ok done) t (inr (refused, closes)) was = closes-now cause.OutboxFull s t closes was.has
  refuses-after space message whole s (Err e) t (why, stops) was = stops-after e.fault s e t stops was

  -- ---- a socket's packets

  -- the client's socket
  abbrev his : (space : List ℕ) → (sid : ℕ) → Who
  his space sid = record { client = c; space = space; sid = sid }

  does-all-after : (space : List ℕ) (sid before : ℕ) (effects : List Effect) (s : Scene) (result : Upshot) (t : Scene) → AllClean effects
      → IsSeated (his space sid) s.history → s.done.closed ≡ None → Has s → DoesAll (his space sid) now before effects s result t → After result t
  does-all-after space sid before effects s (Ok done) t clean seated fresh was run =
      let both = runs-work (his space sid) now f effects s t clean (stands-seated (his space sid) now s fresh seated) was run in
      record { stays = both.0.open_client; has = both.1 }
  does-all-after space sid before effects s (Err e) t clean seated fresh was stops =
      let both = stopped-works (his space sid) now f before effects s e t clean (stands-seated (his space sid) now s fresh seated) was stops in
      record { stays = both.0; has = both.1 }

  leaves-after : (space : List ℕ) (sid : ℕ) (s : Scene) (result : Upshot) (t : Scene) → IsSeated (his space sid) s.history → ClientDisconnects (his space sid) v s result t → Before s → After result t
  leaves-after space sid s (Ok done) t seated (makes, advances, is) was = open-after (what.Ended sid side.Client) s t _ makes refl seated.own seated.own refl tt is refl refl refl was
  leaves-after space sid s (Err e) t seated (fails, stops) was = stops-after e.fault s e t stops was

  module _ (policy : Policy) (space : List ℕ) (sid : ℕ) where
    decides-after : (before : ℕ) (what : Arrived) (s : Scene) (result : Upshot) (t : Scene) → IsCleanArrival what → IsSeated (his space sid) s.history → DecidesAfter policy before (his space sid) what v s result t → Before s → After result t
    decides-after before what s result t clean seated (inl short) was = shorter-after before s result t short was
    decides-after before what s result t clean seated (inr (effects, decided, each, does)) was = does-all-after space sid before effects s result t (each clean) seated was.fresh was.has does

    hears-after : (id : Option ℕ) (payload : List ℕ) (attachments : List (List ℕ)) (s : Scene) (result : Upshot) (t : Scene) → IsWhole payload → IsSeated (his space sid) s.history
        → ReceivesEvent policy (his space sid) payload attachments id v s result t → Before s → After result t
    hears-after id payload attachments s result t whole seated hears was =
        decides-after 0 _ (record s { asked = id }) result t whole seated hears (same-before s (record s { asked = id }) refl refl refl refl was)

    ack-after : (id : Option ℕ) (payload : List ℕ) (attachments : List (List ℕ)) (s : Scene) (result : Upshot) (t : Scene) → IsWhole payload → IsSeated (his space sid) s.history
        → TakesAck policy (his space sid) payload attachments id v s result t → Before s → After result t
    ack-after None payload attachments s result t whole seated (is, same) was =
        done-after result t is (subst Before (sym same) (same-before s (record s { done = record s.done { ignored = true } }) refl refl refl refl was))
    ack-after (Some id) payload attachments s result t whole seated (inl (line, none, advances, does)) was =
        let noted = record s { line = line; done = record s.done { ignored = true } } in
        decides-after 0 _ noted result t whole seated does (same-before s noted refl refl refl refl was)
    ack-after (Some id) payload attachments s result t whole seated (inr (question, line, asked, advances, does)) was =
        decides-after 0 _ (record s { line = line }) result t whole seated does (same-before s (record s { line = line }) refl refl refl refl was)

    serves-after : (k : Kind) (id : Option ℕ) (payload : List ℕ) (attachments : List (List ℕ)) (s : Scene) (result : Upshot) (t : Scene) → IsWhole payload → IsSeated (his space sid) s.history
        → Serves policy (his space sid) payload attachments k id v s result t → Before s → After result t
    serves-after kind.Disconnect id payload attachments s result t whole seated does was = leaves-after space sid s result t seated does was
    serves-after kind.Event id payload attachments s result t whole seated does was = hears-after id payload attachments s result t whole seated does was
    serves-after kind.BinaryEvent id payload attachments s result t whole seated does was = hears-after id payload attachments s result t whole seated does was
    serves-after kind.Ack id payload attachments s result t whole seated does was = ack-after id payload attachments s result t whole seated does was
    serves-after kind.BinaryAck id payload attachments s result t whole seated does was = ack-after id payload attachments s result t whole seated does was
    serves-after kind.Connect id payload attachments s result t whole seated (is, same) was = done-after result t is (subst Before (sym same) was)
    serves-after kind.ConnectError id payload attachments s result t whole seated (is, same) was = done-after result t is (subst Before (sym same) was)

  joined-after : (policy : Policy) (p : SioPacket) (s : Scene) (result : Upshot) (t : Scene) → IsWhole p.header.payload
      → ServesJoined policy p v s result t → Before s → After result t
  joined-after policy p s result t whole does was = on (socket_of s.history.base s.history.journal c (place_of s.history.limits p.header.space)) does
    where
      on : (o : Option Socket) → elim o as (λ (o : Option Socket). Type 0) [
        | None ↦ ClosesFor cause.NotJoined v s result t
        | Some k ↦ IsSeated (his p.header.space k.sid) s.history × Serves policy (his p.header.space k.sid) p.header.payload p.attachments p.header.kind p.header.id v s result t
      ] → After result t
      on None closes = closes-after cause.NotJoined s result t closes was
      on (Some k) (seated, serves) = serves-after policy p.header.space k.sid p.header.kind p.header.id p.header.payload p.attachments s result t whole seated serves was

  -- ---- a CONNECT

  module _ (space : List ℕ) (named : IsWhole space) where
    connects-as : (sid pid : ℕ) (effects : List Effect) (s : Scene) (result : Upshot) (t : Scene) → is_space s.history.limits (place_of s.history.limits space) ≡ true → AllClean effects
        → ConnectsAs (his space sid) pid effects v s result t → Before s → After result t
    connects-as sid pid effects s result t there clean (inl (between, makes, advances, is, does)) was =
        let socket = seat (his space sid) pid s.history in
        let attached = what.Attached socket in
        let same : between.done.closed ≡ None = ap (λ (u : Scene). u.done.closed) is ∙ was.fresh in
        let has : Has between = made attached s between _ makes (itself c) (itself c) refl (clean-answer-at s.history.limits space socket there refl named, tt) is refl refl was.has in
        let seated : IsSeated (his space sid) between.history = record {
          open_client = open-still s.history between.history now attached makes.1 c was.is refl;
          connected = connected-then s.history between.history now attached makes.1 socket refl;
          own = own-then s.history between.history now attached makes.1 socket (his space sid) refl (rw (itself sid, itself c) refl);
          in_space = rw makes.1 there;
        } in
        does-all-after space sid 1 effects between result t clean seated same has does
    connects-as sid pid effects s result t there clean (inr (inl (refused, closes))) was = closes-after cause.OutboxFull s result t closes was
    connects-as sid pid effects s result t there clean (inr (inr (e, is, fails, stops))) was = subst (λ (r : Upshot). After r t) (sym is) (stops-after e.fault s e t stops was)

    module _ (policy : Policy) (payload : List ℕ) (whole : IsWhole payload) (s : Course) (result : Upshot) (t : Course) (there : is_space s.scene.history.limits (place_of s.scene.history.limits space) ≡ true) (was : Before s.scene) where
      asks-after : AsksApp policy space payload v s result t → After result t.scene
      asks-after (inl (short, drawn)) = short-after s.scene result t.scene short was
      asks-after (inr (inl (effects, allowed, clean, (drawn, inl short)))) = short-after s.scene result t.scene short was
      asks-after (inr (inl (effects, allowed, clean, (drawn, inr (all, (more, decided, also, is), does))))) =
          connects-as (s.ids 0) (s.ids 1) all s.scene result t.scene there (subst AllClean (sym is) (all-both effects more (clean whole) (also whole))) does was
      asks-after (inr (inr (message, allowed, (refuses, drawn)))) = refuses-after space message named s.scene result t.scene refuses was

      returns-after : (pid offset : ℕ) → AsksToRecover policy space payload pid offset v s result t → After result t.scene
      returns-after pid offset (inl ((between, makes, advances, is, decides), drawn)) =
          let r = recovery_asked c space pid offset s.scene.history in
          let back = what.Recovered r in
          let same : between.done.closed ≡ None = ap (λ (u : Scene). u.done.closed) is ∙ was.fresh in
          let has : Has between = made back s.scene between _ makes (itself c) (itself c) refl (clean-answer-at s.scene.history.limits space r.socket there refl named, tt) is refl refl was.has in
          let seated : IsSeated (his space r.socket.sid) between.history = seated-back (his space r.socket.sid) now r s.scene.history between.history refl refl makes was.is there in
          let on : between.ended ≡ false = ap (λ (u : Scene). u.ended) is ∙ was.on in
          decides-after policy space r.socket.sid 1 _ between result t.scene tt seated decides (record { is = seated.open_client; fresh = same; on = on; has = has })
      returns-after pid offset (inr (inl (cannot, asks))) = asks-after asks
      returns-after pid offset (inr (inr (e, is, fails, stops, drawn))) = subst (λ (q : Upshot). After q t.scene) (sym is) (stops-after e.fault s.scene e t.scene stops was)

      comes-after : MayRecover policy space payload v s result t → After result t.scene
      comes-after (inl (short, drawn)) = short-after s.scene result t.scene short was
      comes-after (inr (inl (none, asks))) = asks-after asks
      comes-after (inr (inr (who, names, comes))) = returns-after who.0 who.1 comes

    connect-after : (policy : Policy) (payload : List ℕ) → IsWhole payload → (s : Course) (result : Upshot) (t : Course)
        → AsksToConnect policy space payload v s result t → Before s.scene → After result t.scene
    connect-after policy payload whole s result t does was = on (is_space h.limits (place_of h.limits space)) refl does
      where
        h : History
        h = s.scene.history

        free : (o : Option Socket) → is_space h.limits (place_of h.limits space) ≡ true
            → elim o as (λ (o : Option Socket). Type 0) [ Some k ↦ DrawsNone (ClosesFor cause.AlreadyConnected v) s result t | None ↦ MayRecover policy space payload v s result t ] → After result t.scene
        free (Some k) there (closes, drawn) = closes-after cause.AlreadyConnected s.scene result t.scene closes was
        free None there comes = comes-after policy payload whole s result t there was comes

        on : (b : Bool) → is_space h.limits (place_of h.limits space) ≡ b → elim b as (λ (b : Bool). Type 0) [
          | false ↦ DrawsNone (Refuses space (codes "Invalid namespace") v) s result t
          | true ↦ elim (socket_of h.base h.journal c (place_of h.limits space)) [
            | Some k ↦ DrawsNone (ClosesFor cause.AlreadyConnected v) s result t
            | None ↦ MayRecover policy space payload v s result t
          ]
        ] → After result t.scene
        on false there (refuses, drawn) = refuses-after space (codes "Invalid namespace") named s.scene result t.scene refuses was
        on true there does = free (socket_of h.base h.journal c (place_of h.limits space)) there does

  -- ---- a packet

  module _ (policy : Policy) where
    works-after : (p : SioPacket) (s : Course) (result : Upshot) (t : Course) → IsWhole p.header.space × IsWhole p.header.payload → Works policy p v s result t → Before s.scene → After result t.scene
    works-after p s result t whole does was = on p.header.kind does
      where
        on : (k : Kind) → elim k as (λ (k : Kind). Type 0) [
          | kind.Connect ↦ AsksToConnect policy p.header.space p.header.payload v s result t
          | _ ↦ DrawsNone (ServesJoined policy p v) s result t
        ] → After result t.scene
        on kind.Connect does = connect-after p.header.space whole.0 policy p.header.payload whole.1 s result t does was
        on kind.Disconnect (does, drawn) = joined-after policy p s.scene result t.scene whole.1 does was
        on kind.Event (does, drawn) = joined-after policy p s.scene result t.scene whole.1 does was
        on kind.Ack (does, drawn) = joined-after policy p s.scene result t.scene whole.1 does was
        on kind.ConnectError (does, drawn) = joined-after policy p s.scene result t.scene whole.1 does was
        on kind.BinaryEvent (does, drawn) = joined-after policy p s.scene result t.scene whole.1 does was
        on kind.BinaryAck (does, drawn) = joined-after policy p s.scene result t.scene whole.1 does was

    goes-after : (given : Result (Option SioPacket) SioError) (s : Course) (result : Upshot) (t : Course) → GoesOn policy given v s result t → Before s.scene → After result t.scene
    goes-after (Ok None) s result t (is, same) was = done-after result t.scene is (subst (λ (u : Course). Before u.scene) (sym same) was)
    goes-after (Ok (Some p)) s result t (whole, works) was = works-after p s result t whole works was
    goes-after (Err sio.Memory) s result t (short, drawn) was = short-after s.scene result t.scene short was
    goes-after (Err e) s result t does was = closing e does
      where
        closing : (e : SioError) → GoesOn policy (Err e) v s result t → After result t.scene
        closing sio.Memory (short, drawn) = short-after s.scene result t.scene short was
        closing sio.BadKind (closes, drawn) = closes-after _ s.scene result t.scene closes was
        closing sio.BadCount (closes, drawn) = closes-after _ s.scene result t.scene closes was
        closing sio.BadId (closes, drawn) = closes-after _ s.scene result t.scene closes was
        closing sio.BadJson (closes, drawn) = closes-after _ s.scene result t.scene closes was
        closing sio.BadShape (closes, drawn) = closes-after _ s.scene result t.scene closes was
        closing sio.Reserved (closes, drawn) = closes-after _ s.scene result t.scene closes was
        closing sio.BadPlaceholder (closes, drawn) = closes-after _ s.scene result t.scene closes was
        closing sio.TooMany (closes, drawn) = closes-after _ s.scene result t.scene closes was
        closing sio.TextAwaitingBinary (closes, drawn) = closes-after _ s.scene result t.scene closes was
        closing sio.BinaryUnawaited (closes, drawn) = closes-after _ s.scene result t.scene closes was

    lined : (s : Course) (line : PlainLine) → Before s.scene → Before (with_line s line).scene
    lined s line was = same-before s.scene (record s.scene { line = line }) refl refl refl refl was

    takes-after : (frame : Frame) (s : Course) (result : Upshot) (t : Course) → TakesFrame policy frame v s result t → Before s.scene → After result t.scene
    takes-after frame s result t (given, line, accepts, advances, does) was = goes-after (Ok given) (with_line s line) result t does (lined s line was)

    text-after : (content : List ℕ) (s : Course) (result : Upshot) (t : Course) → TakesText policy content v s result t → Before s.scene → After result t.scene
    text-after content s result t (inl (short, drawn)) was = short-after s.scene result t.scene short was
    text-after content s result t (inr (inl takes)) was = takes-after (text content) s result t takes was
    text-after content s result t (inr (inr (error, refuses, does))) was = goes-after (Err error) _ result t does (lined s (record s.scene.line { assembler = Failed error }) was)

    binary-after : (content : List ℕ) (s : Course) (result : Upshot) (t : Course) → TakesBinary policy content v s result t → Before s.scene → After result t.scene
    binary-after content s result t does was = on (exceeds s.scene.line.assembler s.scene.history.limits.bytes (length content)) does
      where
        on : (b : Bool) → elim b as (λ (b : Bool). Type 0) [ true ↦ DrawsNone (ClosesFor cause.TooLong v) s result t | false ↦ ReadsBinary policy content v s result t ] → After result t.scene
        on true (closes, drawn) = closes-after cause.TooLong s.scene result t.scene closes was
        on false (inl (short, drawn)) = short-after s.scene result t.scene short was
        on false (inr (inl takes)) = takes-after (binary content) s result t takes was
        on false (inr (inr (error, refuses, does))) = goes-after (Err error) _ result t does (lined s (record s.scene.line { assembler = Failed error }) was)

    handles-after : (packet : Packet) (s : Course) (result : Upshot) (t : Course) → Handles policy packet v s result t → Before s.scene → After result t.scene
    handles-after (eio.Close content) s result t (does, drawn) was = parks-after s.scene result t.scene does was
    handles-after (eio.Ping content) s result t (does, drawn) was = closes-after cause.PingFromClient s.scene result t.scene does was
    handles-after (eio.Pong content) s result t (is, advances, same) was = done-after result t.scene is (subst (λ (u : Course). Before u.scene) (sym same) (lined s t.scene.line was))
    handles-after (eio.Message content) s result t does was = text-after content s result t does was
    handles-after (eio.Binary content) s result t does was = binary-after content s result t does was
    handles-after (eio.Open content) s result t (is, same) was = done-after result t.scene is (subst (λ (u : Course). Before u.scene) (sym same) was)
    handles-after (eio.Upgrade content) s result t (is, same) was = done-after result t.scene is (subst (λ (u : Course). Before u.scene) (sym same) was)
    handles-after (eio.Noop content) s result t (is, same) was = done-after result t.scene is (subst (λ (u : Course). Before u.scene) (sym same) was)

    -- a packet in its turn: before it the client is open unless it was closed
    pub turn-after : (packet : Packet) (s : Course) (result : Upshot) (t : Course) → HandlesOrBreaks policy v packet s result t → After (Ok tt) s.scene → After result t.scene
    turn-after packet s result t does was = on s.scene.done.closed refl does
      where
        on : (o : Option Cause) → s.scene.done.closed ≡ o → elim o as (λ (o : Option Cause). Type 0) [
          | Some why ↦ (result ≡ Ok tt) × (t ≡ s)
          | None ↦ Handles policy packet v (begun s) result t
        ] → After result t.scene
        on (Some why) closed (is, same) = subst (λ (r : Upshot). After r t.scene) (sym is) (subst (λ (u : Course). After (Ok tt) u.scene) (sym same) was)
        on None fresh handles =
            handles-after packet (begun s) result t handles (record { is = was.stays ∙ ap (λ (o : Option Cause). is_none o) fresh; fresh = fresh; on = refl; has = was.has })

    -- the packets of a payload
    pub all-after : (packets : List Packet) (s t : Course) → Runs (HandlesInTurn policy v) packets s t → After (Ok tt) s.scene → After (Ok tt) t.scene
    all-after packets s t run was =
        run-keeps (HandlesInTurn policy v) (λ (p : Packet). Unit {0}) (λ (u : Course). After (Ok tt) u.scene) (λ a b packet one was does. turn-after packet a (Ok tt) b does was) packets s t (each packets) was run
      where
        each : (packets : List Packet) → AllByRecursion (λ (p : Packet). Unit {0}) packets
        each [] = tt
        each (p ∷ packets) = (tt, each packets)

    -- until one ends the event
    pub broken-after : (packets : List Packet) (s : Course) (e : CoreError) (t : Course) → BreaksAfter policy v packets s e t → After (Ok tt) s.scene → Open t.scene × Has t.scene
    broken-after packets s e t (at, run, packet, there, breaks) was =
        let after = turn-after packet at (Err (record { fault = e.fault; effects = e.effects })) t breaks (all-after (take e.packets packets) s at run was) in (after.stays, after.has)
