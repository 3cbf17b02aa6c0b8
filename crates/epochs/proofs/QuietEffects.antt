-- What the app's effects leave: they attach no socket, and a line keeps its history.
use Rattle.std.proofs.Common.{◌≡◌, ℕ, Bool, true, false, List, [], ◌∷◌, refl, sym, subst, take, Option, None, Some, inl, inr}
use Rattle.std.specs.List.{AllByRecursion}
use Rattle.connection.specs.History.{Disconnected}
use Rattle.connection.specs.Line.{HasHistory, Advances}
use Rattle.journal.specs.declared.step.What.{What}
use Rattle.journal.specs.declared.step.What.TheVariants as what
use Rattle.journal.specs.declared.ending.Side.TheVariants as side
use Rattle.journal.specs.Journal.{History, with_step}
use Rattle.events.specs.declared.app.Effect.{Effect}
use Rattle.events.specs.declared.app.Effect.TheVariants.{Join, Leave, Emit, EmitAsk, Reply, Report, Fetch, Disconnect, AllJoin, AllLeave, AllEnd}
use Rattle.events.specs.declared.app.Inquiry as inquiry
use Rattle.events.specs.declared.app.Reply as reply
use Rattle.events.specs.declared.app.Who.{Who}
use Rattle.events.specs.declared.cause.Cause.{Cause}
use Rattle.events.specs.declared.fault.CoreFault.{CoreFault}
use Rattle.events.specs.declared.fault.Stopped.{Stopped}
use Rattle.journal.specs.Plain.{PlainCast}
use Rattle.events.specs.Selection.{PlainSelection}
use Rattle.dispatch.specs.Answering.{report_text}
use Rattle.dispatch.specs.Commands.{Makes}
use Rattle.dispatch.specs.Effects.{Scene, Closes, ChangesRooms, Emits, told_to, Replies, Says, listed, Asks, goodbye, SaysGoodbye, Disconnects, all_joined, all_left, dismissed, is_among, EndsAll, Acts, ActsInTurn, is_bad, asked_of, asked_in_vain, FailsToAsk, Fails, Stops, StopsAfter}
use Rattle.dispatch.specs.Runs.{Runs}
use Rattle.dispatch.proofs.RunsLemmas.{run-keeps}
use Rattle.epochs.specs.LetIn.{attaches}
use Rattle.epochs.proofs.ConnectLemmas.{advanced}

-- this is so of a history after each step that attaches no socket, where it was before
abbrev pub KeptWhileQuiet : (History → Type 0) → Type 0
KeptWhileQuiet Is = (h k : History) (now : ℕ) (w : What) → attaches w ≡ [] → k ≡ with_step h now w → Is h → Is k

-- this is so of a scene's history, and its line has a history
abbrev pub Has : (History → Type 0) → Scene → Type 0
Has Is s = Is s.history × HasHistory s.line

pub same-has : (Is : History → Type 0) (s t : Scene) → t ≡ s → Has Is s → Has Is t
same-has Is s t same was = subst (Has Is) (sym same) was

module _ (Is : History → Type 0) (quiet : KeptWhileQuiet Is) (now : ℕ) where
  -- one step
  pub made : (w : What) → attaches w ≡ [] → (h k : History) → Makes h now w k → Is h → Is k
  made w none h k makes was = quiet h k now w none makes.1 was

  pub closes-has : (c : ℕ) (why : Cause) (s t : Scene) → Closes c now why s t → Has Is s → Has Is t
  closes-has c why s t (makes, is) was = subst (Has Is) (sym is) (made (what.Closed c) refl s.history t.history makes was.0, was.1)

  -- ---- each effect

  changes : (w : What) → attaches w ≡ [] → (s t : Scene) → ChangesRooms w now s t → Has Is s → Has Is t
  changes w none s t (inl (makes, is)) was = subst (Has Is) (sym is) (made w none s.history t.history makes was.0, was.1)
  changes w none s t (inr (e, refused, is)) was = subst (Has Is) (sym is) was

  emits : (who : Who) (e : PlainCast) (s t : Scene) → Emits who e now s t → Has Is s → Has Is t
  emits who e s t ((fine, done, cast, told), is) was = subst (Has Is) (sym is) (quiet s.history t.history now (what.Cast cast.b) refl cast.step was.0, was.1)

  replies : (who : Who) (id : ℕ) (r : reply.Reply) (s t : Scene) → Replies who id r now s t → Has Is s → Has Is t
  replies who id r s t (entry, reads, inl (makes, is)) was = subst (Has Is) (sym is) (made (told_to who.client entry) refl s.history t.history makes was.0, was.1)
  replies who id r s t (entry, reads, inr (refused, closes)) was = closes-has who.client _ s t closes was

  says : (who : Who) (text : List ℕ) (s t : Scene) → Says who text now s t → Has Is s → Has Is t
  says who text s t (id, asked, does) was = replies who id (record { payload = text; attachments = [] }) s t does was

  asks : (who : Who) (q : inquiry.Inquiry) (s t : Scene) → Asks who q now s t → Has Is s → Has Is t
  asks who q s t (id, next, entry, reads, inl (makes, advances, is)) was =
      subst (Has Is) (sym is) (made (told_to who.client entry) refl s.history t.history makes was.0, advanced s.line t.line (asked_of who now q ∷ []) advances was.1)
  asks who q s t (id, next, entry, reads, inr (refused, advances, closes)) was =
      closes-has who.client _ (record s { line = t.line }) t closes (was.0, advanced s.line t.line (asked_in_vain who now q id) advances was.1)

  goodbye-has : (who : Who) (h k : History) → SaysGoodbye who now h k → Is h → Is k
  goodbye-has who h k (inl makes) was = made (goodbye who) refl h k makes was
  goodbye-has who h k (inr (refused, is)) was = subst Is (sym is) was

  disconnects : (who : Who) (s t : Scene) → Disconnects who now s t → Has Is s → Has Is t
  disconnects who s t (between, bye, makes, advances, is) was =
      subst (Has Is) (sym is) (
        made (what.Ended who.sid side.Server) refl between t.history makes (goodbye-has who s.history between bye was.0),
        advanced s.line t.line (Disconnected who.sid ∷ []) advances was.1,
      )

  ends-all : (who : Who) (p : PlainSelection) (s t : Scene) → EndsAll who p now s t → Has Is s → Has Is t
  ends-all who p s t (makes, is, lines) was =
      subst (Has Is) (sym is) (made (what.AllEnded (dismissed p s.history)) refl s.history t.history makes was.0, on (is_among who.sid (dismissed p s.history).ended) lines)
    where
      on : (b : Bool) → elim b as (λ (b : Bool). Type 0) [ true ↦ Advances s.line (Disconnected who.sid ∷ []) t.line | false ↦ t.line ≡ s.line ] → HasHistory t.line
      on true advances = advanced s.line t.line (Disconnected who.sid ∷ []) advances was.1
      on false same = subst HasHistory (sym same) was.1

  acts-has : (who : Who) (effect : Effect) (s t : Scene) → Acts who now s effect t → Has Is s → Has Is t
  acts-has who (Join room) s t does was = changes (what.Joined who.sid room) refl s t does was
  acts-has who (Leave room) s t does was = changes (what.Left who.sid room) refl s t does was
  acts-has who (Emit e) s t does was = emits who e s t does was
  acts-has who (Reply r) s t (id, asked, does) was = replies who id r s t does was
  acts-has who Report s t does was = says who (report_text s.refused) s t does was
  acts-has who (Fetch p) s t does was = says who (listed p s.history) s t does was
  acts-has who (EmitAsk q) s t does was = asks who q s t does was
  acts-has who Disconnect s t does was = disconnects who s t does was
  acts-has who (AllJoin p room) s t does was = changes (all_joined p room s.history) refl s t does was
  acts-has who (AllLeave p room) s t does was = changes (all_left p room s.history) refl s t does was
  acts-has who (AllEnd p) s t does was = ends-all who p s t does was

  turn-has : (who : Who) (effect : Effect) (s t : Scene) → ActsInTurn who now s effect t → Has Is s → Has Is t
  turn-has who effect s t does was = on s.done.closed does
    where
      on : (o : Option Cause) → elim o as (λ (o : Option Cause). Type 0) [ Some cause ↦ t ≡ s | None ↦ (is_bad s effect ≡ false) × Acts who now s effect t ] → Has Is t
      on (Some cause) same = subst (Has Is) (sym same) was
      on None (fine, acts) = acts-has who effect s t acts was

  each : (effects : List Effect) → AllByRecursion (λ (e : Effect). Unit {0}) effects
  each [] = tt
  each (e ∷ effects) = (tt, each effects)

  pub runs-has : (who : Who) (effects : List Effect) (s t : Scene) → Runs (ActsInTurn who now) effects s t → Has Is s → Has Is t
  runs-has who effects s t run was =
      run-keeps (ActsInTurn who now) (λ (e : Effect). Unit {0}) (Has Is) (λ a b effect one has does. turn-has who effect a b does has) effects s t (each effects) was run

  -- ---- where the effects stop

  ask-fails : (who : Who) (q : inquiry.Inquiry) (s : Scene) (fault : CoreFault) (t : Scene) → FailsToAsk who q now s fault t → Has Is s → Has Is t
  ask-fails who q s fault t (is, inl (none, advances)) was = subst (Has Is) (sym is) (was.0, advanced s.line t.line [] advances was.1)
  ask-fails who q s fault t (is, inr (id, next, advances, why)) was = subst (Has Is) (sym is) (was.0, advanced s.line t.line (asked_in_vain who now q id) advances was.1)

  fails-has : (who : Who) (effect : Effect) (s : Scene) (fault : CoreFault) (t : Scene) → Fails who now s effect fault t → Has Is s → Has Is t
  fails-has who (Join room) s fault t (stops, same) was = same-has Is s t same was
  fails-has who (Leave room) s fault t (stops, same) was = same-has Is s t same was
  fails-has who (Emit e) s fault t (cannot, same) was = same-has Is s t same was
  fails-has who (Reply r) s fault t (id, asked, (same, why)) was = same-has Is s t same was
  fails-has who Report s fault t (id, asked, (same, why)) was = same-has Is s t same was
  fails-has who (Fetch p) s fault t (id, asked, (same, why)) was = same-has Is s t same was
  fails-has who (EmitAsk q) s fault t fails was = ask-fails who q s fault t fails was
  fails-has who Disconnect s fault t (inl (short, same)) was = same-has Is s t same was
  fails-has who Disconnect s fault t (inr (inl (stops, same))) was = same-has Is s t same was
  fails-has who Disconnect s fault t (inr (inr (between, bye, (stops, same)))) was = subst (Has Is) (sym same) (goodbye-has who s.history between bye was.0, was.1)
  fails-has who (AllJoin p room) s fault t (stops, same) was = same-has Is s t same was
  fails-has who (AllLeave p room) s fault t (stops, same) was = same-has Is s t same was
  fails-has who (AllEnd p) s fault t (inl (short, same)) was = same-has Is s t same was
  fails-has who (AllEnd p) s fault t (inr (stops, same)) was = same-has Is s t same was

  stops-has : (who : Who) (effect : Effect) (s : Scene) (fault : CoreFault) (t : Scene) → Stops who now s effect fault t → Has Is s → Has Is t
  stops-has who effect s fault t (fresh, inl (bad, is, same)) was = same-has Is s t same was
  stops-has who effect s fault t (fresh, inr (fine, fails)) was = fails-has who effect s fault t fails was

  pub stopped-has : (who : Who) (before : ℕ) (effects : List Effect) (s : Scene) (e : Stopped) (t : Scene) → StopsAfter who now before effects s e t → Has Is s → Has Is t
  stopped-has who before effects s e t (done, counts, (at, run, effect, there, stops)) was =
      stops-has who effect at e.fault t stops (runs-has who (take done effects) s at run was)
