-- The steps of an effect are of an event of its client, and put something for those others alone that are listed.
use Rattle.std.proofs.Common.{◌≡◌, ℕ, Bool, true, false, not, List, refl, sym, ap, subst, take, is_none, Option, None, Some, inl, inr}
use Rattle.std.specs.List.{AllByRecursion}
use Rattle.eio_wire.specs.Payload.{IsWhole}
use Rattle.terms.specs.declared.entry.Entry.{Entry}
use Rattle.journal.specs.declared.step.What.{What}
use Rattle.journal.specs.declared.ending.Side.TheVariants as side
use Rattle.journal.specs.declared.step.What.TheVariants as what
use Rattle.journal.specs.Journal.{History}
use Rattle.journal.specs.Membership.{is_open, is_space, place_of}
use Rattle.journal.specs.Entries.{AllPass, own_entries}
use Rattle.journal.proofs.SocketsLemmas.{neither}
use Rattle.events.specs.declared.app.Effect.{Effect}
use Rattle.events.specs.declared.app.Effect.TheVariants.{Join, Leave, Emit, EmitAsk, Reply, Report, Fetch, Disconnect, AllJoin, AllLeave, AllEnd}
use Rattle.events.specs.declared.app.Reply as reply
use Rattle.events.specs.declared.app.Who.{Who}
use Rattle.events.specs.declared.cause.Cause.{Cause}
use Rattle.events.specs.declared.cause.Cause.TheVariants.{OutboxFull}
use Rattle.events.specs.declared.fault.CoreFault.{CoreFault}
use Rattle.events.specs.declared.fault.Stopped.{Stopped}
use Rattle.events.specs.App.{IsCleanEffect, AllClean}
use Rattle.journal.specs.Plain.{PlainCast}
use Rattle.events.specs.Plain.{PlainDone}
use Rattle.hub_state.specs.Words.{selected}
use Rattle.dispatch.specs.Commands.{Makes, IsSeated}
use Rattle.dispatch.specs.Effects.{Scene, Closes, is_bad, is_wrong, is_unsendable, told_to, goodbye, dismissed, all_joined, all_left, ChangesRooms, Replies, SaysGoodbye, Acts, ActsInTurn, Stops, StopsAfter, Fails, StandsWith}
use Rattle.dispatch.specs.Following.{is_clean, is_work, is_turn, is_cast}
use Rattle.dispatch.specs.Runs.{Runs}
use Rattle.dispatch.specs.Broadcasting.{Work, work, Broadcasts}
use Rattle.dispatch.proofs.ActLemmas.{seated-after, stands, stopped-open}
use Rattle.dispatch.proofs.AnsweringLemmas.{list-fine, list-whole, report-fine, report-whole}
use Rattle.dispatch.proofs.CleanLemmas.{whole-there, clean-cast, clean-packet, clean-disconnect, clean-farewell}
use Rattle.dispatch.proofs.RunsLemmas.{all-take, run-keeps}
use Rattle.dispatch.proofs.StepLemmas.{itself, Goes, Working, names-still, working-on, working-cast, working-dismissed}

-- a namespace that isn't unknown is there
known : (b : Bool) → not b ≡ false → b ≡ true
known true is = refl
known false is = absurd (cc is)

-- an event that is sent
pub work-says : (c now : ℕ) (f : History) (e : PlainCast) (s t : Work) → IsWhole e.payload → Broadcasts c e now s t → Working c f s.history s.done.clients → Working c f t.history t.done.clients
work-says c now f e s t clean (allowed, done, cast, told) was =
    subst (λ (d : PlainDone). Working c f t.history d.clients) (sym told)
    (working-cast c f now e done s.history t.history cast
    (λ names. clean-cast s.history e cast.b cast.asked allowed (names-still (is_work c) f s.history was.goes names) clean) s.done.clients was)

module _ (who : Who) (now : ℕ) (f : History) where
  -- so far the event is one of this client's
  abbrev pub Has : Scene → Type 0
  Has s = Working who.client f s.history s.done.clients

  -- no name of a namespace holds U+001E
  abbrev Names : Type 0
  Names = AllByRecursion IsWhole f.limits.spaces

  -- so neither does that of the socket's
  whole-here : (h : History) → IsSeated who h → Goes (is_work who.client) f h → Names → IsWhole who.space
  whole-here h seated goes names = whole-there h.limits who.space seated.in_space (names-still (is_work who.client) f h goes names)

  work-made : (w : What) (s t : Scene) → Makes s.history now w t.history → is_work who.client s.history w ≡ true → is_turn who.client s.history w ≡ true → is_cast w ≡ false
      → (Names → AllPass is_clean (own_entries s.history.limits w)) → (u : Scene) → u.history ≡ t.history → u.done.clients ≡ s.done.clients → t ≡ u → Has s → Has t
  work-made w s t made work turn isnt clean u there same is was =
      subst Has (sym is) (rw (there, same) (working-on who.client f now w s.history t.history made.1 work turn isnt clean s.done.clients was))

  work-closed : (cause : Cause) (s t : Scene) → Closes who.client now cause s t → Has s → Has t
  work-closed cause s t (made, is) was =
      work-made (what.Closed who.client) s t made (itself who.client) (itself who.client) refl (λ names. tt) (record s { history = t.history; done = record s.done { closed = Some cause } }) refl refl is was

  work-told : (entry : Entry) (s t u : Scene) → (Names → is_clean entry ≡ true) → Makes s.history now (told_to who.client entry) t.history → u.history ≡ t.history → u.done.clients ≡ s.done.clients → t ≡ u → Has s → Has t
  work-told entry s t u clean made there same is was = work-made (told_to who.client entry) s t made (itself who.client) (itself who.client) refl (λ names. (clean names, tt)) u there same is was

  work-rooms : (w : What) (s t : Scene) → is_work who.client s.history w ≡ true → is_turn who.client s.history w ≡ true → is_cast w ≡ false
      → AllPass is_clean (own_entries s.history.limits w) → ChangesRooms w now s t → Has s → Has t
  work-rooms w s t work turn isnt clean (inl (made, is)) was = work-made w s t made work turn isnt (λ names. clean) _ refl refl is was
  work-rooms w s t work turn isnt clean (inr (e, refused, is)) was = subst Has (sym is) was

  work-goodbye : (h g : History) (lists : List (List ℕ)) → IsSeated who h → SaysGoodbye who now h g → Working who.client f h lists → Working who.client f g lists
  work-goodbye h g lists seated (inl made) was =
      working-on who.client f now (goodbye who) h g made.1 (itself who.client) (itself who.client) refl
      (λ names. (ap not (clean-disconnect who.space (whole-here h seated was.goes names)), tt)) lists was
  work-goodbye h g lists seated (inr (refused, same)) was = subst (λ (k : History). Working who.client f k lists) (sym same) was

  work-replies : (s t : Scene) (id : ℕ) (r : reply.Reply) → IsWhole r.payload → is_unsendable r.payload r.attachments ≡ false → IsSeated who s.history → Replies who id r now s t → Has s → Has t
  work-replies s t id r clean fine seated (entry, is, inl (made, same)) was =
      work-told entry s t _ (λ names. clean-packet _ who.space id _ _ entry fine is (whole-here s.history seated was.goes names) clean) made refl refl same was
  work-replies s t id r clean fine seated (entry, is, inr (refused, closed)) was = work-closed OutboxFull s t closed was

  acts-work : (s t : Scene) (effect : Effect) → IsCleanEffect effect → is_wrong s.history.limits s.asked effect ≡ false → IsSeated who s.history → Acts who now s effect t → Has s → Has t
  acts-work s t (Join room) clean fine seated acts was = work-rooms (what.Joined who.sid room) s t seated.own seated.own refl tt acts was
  acts-work s t (Leave room) clean fine seated acts was = work-rooms (what.Left who.sid room) s t seated.own seated.own refl tt acts was
  acts-work s t (Emit e) clean fine seated (says, is) was = work-says who.client now f e (work s.history s.done) (work t.history t.done) clean says was
  acts-work s t (Reply r) clean fine seated (id, asked, replies) was =
      work-replies s t id r clean (neither (is_none s.asked) (is_unsendable r.payload r.attachments) fine).1 seated replies was
  acts-work s t Report clean fine seated (id, asked, replies) was = work-replies s t id _ (report-whole s.refused) (report-fine s.refused) seated replies was
  acts-work s t (Fetch m) clean fine seated (id, asked, replies) was =
      let sids = selected s.history (place_of s.history.limits m.space) m.rooms m.excepted in
      work-replies s t id _ (list-whole sids) (list-fine sids) seated replies was
  acts-work s t (EmitAsk q) clean fine seated (id, next, entry, is, inl (made, advances, same)) was =
      work-told entry s t _ (λ names. clean-packet _ who.space id _ _ entry fine is (whole-here s.history seated was.goes names) clean) made refl refl same was
  acts-work s t (EmitAsk q) clean fine seated (id, next, entry, is, inr (refused, vain, closed)) was = work-closed OutboxFull (record s { line = t.line }) t closed was
  acts-work s t Disconnect clean fine seated (between, says, made, advances, same) was =
      let there = seated-after who now s.history between says seated in
      work-made (what.Ended who.sid side.Server) (record s { history = between }) t made there.own there.own refl (λ names. tt) _ refl refl same (work-goodbye s.history between s.done.clients seated says was)
  acts-work s t (AllJoin m room) clean fine seated acts was = work-rooms (all_joined m room s.history) s t refl refl refl tt acts was
  acts-work s t (AllLeave m room) clean fine seated acts was = work-rooms (all_left m room s.history) s t refl refl refl tt acts was
  acts-work s t (AllEnd m) clean fine seated (made, same, line) was =
      let limits = s.history.limits in
      let there = known (is_space limits (place_of limits m.space)) fine in
      let d = dismissed m s.history in
      subst Has (sym same)
      (working-dismissed who.client f now d s.history t.history made.1
      (λ names. clean-farewell limits m.space there (whole-there limits m.space there (names-still (is_work who.client) f s.history was.goes names))) s.done.clients was)

  -- an effect in its turn
  turn-works : (s t : Scene) (effect : Effect) → IsCleanEffect effect → StandsWith who s → ActsInTurn who now s effect t → Has s → Has t
  turn-works s t effect clean stood acts was = on s.done.closed refl acts
    where
      on : (o : Option Cause) → s.done.closed ≡ o
          → elim o as (λ (o : Option Cause). Type 0) [ Some cause ↦ t ≡ s | None ↦ (is_bad s effect ≡ false) × Acts who now s effect t ] → Has t
      on (Some cause) found same = subst Has (sym same) was
      on None found (fine, acts) = let both = neither s.ended (is_wrong s.history.limits s.asked effect) fine in acts-work s t effect clean both.1 (stood.seated found both.0) acts was

  abbrev Both : Scene → Type 0
  Both s = StandsWith who s × Has s

  -- all effects of a packet
  pub runs-work : (effects : List Effect) (s t : Scene) → AllClean effects → StandsWith who s → Has s → Runs (ActsInTurn who now) effects s t → StandsWith who t × Has t
  runs-work effects s t clean stood was run =
      run-keeps (ActsInTurn who now) IsCleanEffect Both (λ a b x fine both acts. (stands who now a b x both.0 acts, turn-works a b x fine both.0 acts both.1)) effects s t clean (stood, was) run

  -- an effect that ends the event
  fails-work : (s t : Scene) (effect : Effect) (fault : CoreFault) → IsSeated who s.history → Fails who now s effect fault t → Has s → Has t
  fails-work s t (Join room) fault seated fails was = subst Has (sym fails.1) was
  fails-work s t (Leave room) fault seated fails was = subst Has (sym fails.1) was
  fails-work s t (Emit e) fault seated fails was = subst Has (sym fails.1) was
  fails-work s t (Reply r) fault seated (id, asked, (same, why)) was = subst Has (sym same) was
  fails-work s t Report fault seated (id, asked, (same, why)) was = subst Has (sym same) was
  fails-work s t (Fetch m) fault seated (id, asked, (same, why)) was = subst Has (sym same) was
  fails-work s t (EmitAsk q) fault seated (same, why) was = subst Has (sym same) was
  fails-work s t Disconnect fault seated (inl (short, same)) was = subst Has (sym same) was
  fails-work s t Disconnect fault seated (inr (inl fails)) was = subst Has (sym fails.1) was
  fails-work s t Disconnect fault seated (inr (inr (between, says, fails))) was = subst Has (sym fails.1) (work-goodbye s.history between s.done.clients seated says was)
  fails-work s t (AllJoin m room) fault seated fails was = subst Has (sym fails.1) was
  fails-work s t (AllLeave m room) fault seated fails was = subst Has (sym fails.1) was
  fails-work s t (AllEnd m) fault seated (inl (short, same)) was = subst Has (sym same) was
  fails-work s t (AllEnd m) fault seated (inr fails) was = subst Has (sym fails.1) was

  stop-works : (s t : Scene) (effect : Effect) (fault : CoreFault) → StandsWith who s → Stops who now s effect fault t → Has s → Has t
  stop-works s t effect fault stood (fresh, inl (bad, is, same)) was = subst Has (sym same) was
  stop-works s t effect fault stood (fresh, inr (fine, fails)) was =
      fails-work s t effect fault (stood.seated fresh (neither s.ended (is_wrong s.history.limits s.asked effect) fine).0) fails was

  -- the effects until one ends the event: the client is open still
  pub stopped-works : (before : ℕ) (effects : List Effect) (s : Scene) (stopped : Stopped) (t : Scene) → AllClean effects → StandsWith who s → Has s
      → StopsAfter who now before effects s stopped t → (is_open t.history.base t.history.journal who.client ≡ true) × Has t
  stopped-works before effects s stopped t clean stood was (done, number, (at, run, effect, there, stops)) =
      let both = runs-work (take done effects) s at (all-take IsCleanEffect done effects clean) stood was run in
      (stopped-open who now at t effect stopped.fault both.0 stops, stop-works at t effect stopped.fault both.0 stops both.1)
