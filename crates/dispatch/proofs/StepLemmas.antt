-- What one more step of an event leaves as it was.
use Rattle.std.proofs.Common.{◌≡◌, ◌≢◌, ℕ, ◌==◌, Bool, true, false, not, ◌&&◌, ◌||◌, List, [], ◌∷◌, ◌++◌, refl, sym, ◌∙◌, ap, subst, arith, map, filter, is_some, append-nil, if◌then◌else◌, Option, None, Some}
use Rattle.std.specs.List.{AllByRecursion, list_any, find}
use Rattle.std.specs.Option.{option_or}
use Rattle.std.proofs.lemmas.Bool.Decides.{nat_tests}
use Rattle.std.proofs.lemmas.List.Folds.{find-append, list_any-append}
use Rattle.eio_wire.specs.Payload.{IsWhole}
use Rattle.terms.specs.declared.entry.Entry.{Entry}
use Rattle.journal.specs.declared.socket.Socket.{Socket}
use Rattle.journal.specs.declared.step.Step.{Step}
use Rattle.journal.specs.declared.step.What.{What}
use Rattle.journal.specs.declared.step.What.TheVariants.{Opened, Attached, Recovered, Cast, Told, AllEnded}
use Rattle.journal.specs.Plain.{PlainBase, PlainCast, PlainCastDone, PlainDismissal, Limits}
use Rattle.journal.specs.Journal.{History, history, moment_at, with_step}
use Rattle.journal.specs.Casting.{IsCast}
use Rattle.journal.specs.Log.{log}
use Rattle.journal.specs.Membership.{opens, closes, is_open, connects, ends, sockets, sid_of, has_id, socket_with, is_connected}
use Rattle.journal.specs.Outboxes.{answer, farewell, begins, put, entries_for, entries_of, placements}
use Rattle.journal.specs.Entries.{AllPass, own_entries}
use Rattle.journal.proofs.EpochsSocketsLemmas.{is_open-step}
use Rattle.journal.proofs.MembershipLemmas.{is_open-opened, sockets-quiet, socket_with-quiet}
use Rattle.journal.proofs.SocketsLemmas.{neither}
use Rattle.events.specs.declared.app.Who.{Who}
use Rattle.dispatch.specs.Commands.{is_of, IsSeated}
use Rattle.dispatch.specs.Effects.{is_among}
use Rattle.dispatch.specs.Following.{is_clean, is_turn, is_work, AreMade, is_cast, CastsNothing, Follows, is_listed, Spares, WorksFor}

pub itself : (c : ℕ) → (c == c) ≡ true
itself c = grind (arith, nat_tests)

abbrev step_at : History → ℕ → What → Step
step_at h now what = record { at = moment_at h now; what = what }

-- ---- the history went on

-- a history that has gone on by these steps
gone-on : (f g : History) (steps : List Step) → g.base ≡ f.base → g.limits ≡ f.limits → g.journal ≡ steps ++ f.journal → g ≡ history f.base f.limits (steps ++ f.journal)
gone-on f g steps base limits journal =
    ap (λ (b : PlainBase). history b g.limits g.journal) base
    ∙ ap (λ (l : Limits). history f.base l g.journal) limits
    ∙ ap (λ (j : List Step). history f.base f.limits j) journal

-- the history went on by such steps, whatever they brought in
pub record Goes (kind : History → What → Bool) (f g : History) : Type 0 where
  pub steps : List Step
  pub base : g.base ≡ f.base
  pub limits : g.limits ≡ f.limits
  pub journal : g.journal ≡ steps ++ f.journal
  pub own : AreMade kind f steps

-- what a step may be
module _ (kind : History → What → Bool) where
  pub goes-of : (f g : History) → Follows kind f g → Goes kind f g
  goes-of f g follows = record { steps = follows.steps; base = follows.base; limits = follows.limits; journal = follows.journal; own = follows.own }

  pub goes-on : (now : ℕ) (what : What) (f g h : History) → Goes kind f g → h ≡ with_step g now what → kind g what ≡ true → Goes kind f h
  goes-on now what f g h before step own =
      record {
        steps = step_at g now what ∷ before.steps;
        base = ap (λ (k : History). k.base) step ∙ before.base;
        limits = ap (λ (k : History). k.limits) step ∙ before.limits;
        journal = ap (λ (k : History). k.journal) step ∙ ap (λ (j : List Step). step_at g now what ∷ j) before.journal;
        own = (subst (λ (k : History). kind k what ≡ true) (gone-on f g before.steps before.base before.limits before.journal) own, before.own);
      }

  pub follows-on : (now : ℕ) (what : What) (f g h : History) → Follows kind f g → h ≡ with_step g now what → kind g what ≡ true → AllPass is_clean (own_entries g.limits what) → Follows kind f h
  follows-on now what f g h before step own clean =
      record {
        steps = step_at g now what ∷ before.steps;
        base = ap (λ (k : History). k.base) step ∙ before.base;
        limits = ap (λ (k : History). k.limits) step ∙ before.limits;
        journal = ap (λ (k : History). k.journal) step ∙ ap (λ (j : List Step). step_at g now what ∷ j) before.journal;
        own = (subst (λ (k : History). kind k what ≡ true) (gone-on f g before.steps before.base before.limits before.journal) own, before.own);
        clean = (subst (λ (limits : Limits). AllPass is_clean (own_entries limits what)) before.limits clean, before.clean);
      }

-- ---- clients and sockets

-- a client stays open that the step doesn't close
stays-open : (base : PlainBase) (step : Step) (before : List Step) (c : ℕ) → is_open base before c ≡ true → closes step.what c ≡ false → is_open base (step ∷ before) c ≡ true
stays-open base step before c is stays = is_open-step base step before c ∙ rw (is, stays) refl

closed-or-not : (b : Bool) → ((b && false) || false) ≡ false
closed-or-not true = refl
closed-or-not false = refl

either : (b : Bool) → (b || true) ≡ true
either true = refl
either false = refl

-- it isn't open where the step closes it and opens nobody
is-closed : (base : PlainBase) (step : Step) (before : List Step) (c : ℕ) → closes step.what c ≡ true → opens step.what ≡ [] → is_open base (step ∷ before) c ≡ false
is-closed base step before c closed nobody = is_open-step base step before c ∙ rw (closed, nobody) (closed-or-not (is_open base before c))

-- the socket is connected that the step connects
connected-now : (base : PlainBase) (step : Step) (before : List Step) (k : Socket) → connects step.what ≡ k ∷ [] → is_connected sid_of base (step ∷ before) k.sid ≡ true
unfolding socket_with sockets
connected-now base step before k is =
    ap (λ (ks : List Socket). is_some (find (has_id sid_of k.sid) (filter (λ l. not (ends step.what l)) (sockets base before) ++ ks))) is
    ∙ ap (λ (o : Option Socket). is_some o) (find-append (has_id sid_of k.sid) (filter (λ l. not (ends step.what l)) (sockets base before)) (k ∷ []))
    ∙ last (find (has_id sid_of k.sid) (filter (λ l. not (ends step.what l)) (sockets base before))) (k.sid == k.sid) (itself k.sid)
  where
    last : (o : Option Socket) (b : Bool) → b ≡ true → is_some (option_or o (if b then Some k else None)) ≡ true
    last (Some l) b is = refl
    last None true is = refl
    last None false is = absurd (cc is)

-- the socket has the id and the client
abbrev is_his : Who → Socket → Bool
is_his who k = k.sid == who.sid && k.client == who.client

-- it is one of the client's that the step connects
own-now : (base : PlainBase) (step : Step) (before : List Step) (k : Socket) (who : Who) → connects step.what ≡ k ∷ [] → is_his who k ≡ true → list_any (is_his who) (sockets base (step ∷ before)) ≡ true
unfolding sockets
own-now base step before k who is his =
    ap (λ (ks : List Socket). list_any (is_his who) (filter (λ l. not (ends step.what l)) (sockets base before) ++ ks)) is
    ∙ list_any-append (is_his who) (filter (λ l. not (ends step.what l)) (sockets base before)) (k ∷ [])
    ∙ ap (λ (b : Bool). list_any (is_his who) (filter (λ l. not (ends step.what l)) (sockets base before)) || (b || false)) his
    ∙ either (list_any (is_his who) (filter (λ l. not (ends step.what l)) (sockets base before)))

-- a step of a hub's history
module _ (h k : History) (now : ℕ) (what : What) (made : k ≡ with_step h now what) where
  pub open-still : (c : ℕ) → is_open h.base h.journal c ≡ true → closes what c ≡ false → is_open k.base k.journal c ≡ true
  open-still c is stays = rw made (stays-open h.base (step_at h now what) h.journal c is stays)

  pub open-no-more : (c : ℕ) → closes what c ≡ true → opens what ≡ [] → is_open k.base k.journal c ≡ false
  open-no-more c closed nobody = rw made (is-closed h.base (step_at h now what) h.journal c closed nobody)

  -- a socket stays seated where the step ends none, connects none and doesn't close its client
  pub seated-still : (who : Who) → IsSeated who h → ((l : Socket) → ends what l ≡ false) → connects what ≡ [] → closes what who.client ≡ false → IsSeated who k
  seated-still who seated none nobody stays =
      record {
        open_client = open-still who.client seated.open_client stays;
        connected = rw made (ap (λ (o : Option Socket). is_some o) (socket_with-quiet h.base (step_at h now what) h.journal sid_of nobody none who.sid) ∙ seated.connected);
        own = rw made (ap (λ (ks : List Socket). list_any (is_his who) ks) (sockets-quiet h.base (step_at h now what) h.journal nobody none) ∙ seated.own);
        in_space = rw made seated.in_space;
      }

  -- the socket that the step connects
  pub connected-then : (s : Socket) → connects what ≡ s ∷ [] → is_connected sid_of k.base k.journal s.sid ≡ true
  connected-then s is = rw made (connected-now h.base (step_at h now what) h.journal s is)

  pub own-then : (s : Socket) (who : Who) → connects what ≡ s ∷ [] → is_his who s ≡ true → is_of k who.client who.sid ≡ true
  own-then s who is his = rw made (own-now h.base (step_at h now what) h.journal s who is his)

-- a socket that isn't among those that end is found as before
found-still : (s : ℕ) (ended : List ℕ) → is_among s ended ≡ false → (ks : List Socket) → is_some (find (has_id sid_of s) ks) ≡ true
    → is_some (find (has_id sid_of s) (filter (λ k. not (is_among k.sid ended)) ks)) ≡ true
found-still s ended stays [] is = is
found-still s ended stays (k ∷ ks) is = on (k.sid == s) (is_among k.sid ended) refl refl is (found-still s ended stays ks)
  where
    kept : List Socket
    kept = filter (λ l. not (is_among l.sid ended)) ks

    here : (k.sid == s) ≡ true → is_among k.sid ended ≡ true → ⊥
    here same gone = let e : k.sid ≡ s = grind (arith, nat_tests, same) in absurd (cc (sym gone ∙ ap (λ x. is_among x ended) e ∙ stays))

    on : (a b : Bool) → (k.sid == s) ≡ a → is_among k.sid ended ≡ b → is_some (if a then Some k else find (has_id sid_of s) ks) ≡ true
        → (is_some (find (has_id sid_of s) ks) ≡ true → is_some (find (has_id sid_of s) kept) ≡ true)
        → is_some (find (has_id sid_of s) (if not b then k ∷ kept else kept)) ≡ true
    on true true same gone is rest = absurd (here same gone)
    on true false same gone is rest = rw same refl
    on false true same gone is rest = rest is
    on false false same gone is rest = rw same (rest is)

-- and is its client's as before
his-still : (who : Who) (ended : List ℕ) → is_among who.sid ended ≡ false → (ks : List Socket) → list_any (is_his who) ks ≡ true
    → list_any (is_his who) (filter (λ k. not (is_among k.sid ended)) ks) ≡ true
his-still who ended stays [] is = is
his-still who ended stays (k ∷ ks) is = on (is_his who k) (is_among k.sid ended) refl refl is (his-still who ended stays ks)
  where
    kept : List Socket
    kept = filter (λ l. not (is_among l.sid ended)) ks

    same-id : is_his who k ≡ true → k.sid ≡ who.sid
    same-id his = on (k.sid == who.sid) (k.client == who.client) refl his
      where
        on : (a b : Bool) → (k.sid == who.sid) ≡ a → (a && b) ≡ true → k.sid ≡ who.sid
        on true b same his = grind (arith, nat_tests, same)
        on false b same his = absurd (cc his)

    on : (a b : Bool) → is_his who k ≡ a → is_among k.sid ended ≡ b → (a || list_any (is_his who) ks) ≡ true
        → (list_any (is_his who) ks ≡ true → list_any (is_his who) kept ≡ true)
        → list_any (is_his who) (if not b then k ∷ kept else kept) ≡ true
    on true true his gone is rest = absurd (cc (sym gone ∙ ap (λ x. is_among x ended) (same-id his) ∙ stays))
    on true false his gone is rest = rw his refl
    on false true his gone is rest = rest is
    on false false his gone is rest = rw his (rest is)

-- and stays seated
pub seated-among : (h k : History) (now : ℕ) (e : PlainDismissal) (made : k ≡ with_step h now (AllEnded e)) (who : Who) → IsSeated who h → is_among who.sid e.ended ≡ false → IsSeated who k
unfolding socket_with sockets
seated-among h k now e made who seated stays =
    record {
      open_client = open-still h k now (AllEnded e) made who.client seated.open_client refl;
      connected = rw (made, append-nil (filter (λ k. not (is_among k.sid e.ended)) (sockets h.base h.journal))) (found-still who.sid e.ended stays (sockets h.base h.journal) seated.connected);
      own = rw (made, append-nil (filter (λ k. not (is_among k.sid e.ended)) (sockets h.base h.journal))) (his-still who e.ended stays (sockets h.base h.journal) seated.own);
      in_space = rw made seated.in_space;
    }

pub opened-then : (h k : History) (now c : ℕ) → k ≡ with_step h now (Opened c) → is_open k.base k.journal c ≡ true
opened-then h k now c made = rw made (is_open-opened h.base (moment_at h now) c h.journal c ∙ rw (itself c) (either (is_open h.base h.journal c)))

-- ---- the other clients

apart : (e c d : ℕ) → (e == c) ≡ true → d ≢ c → (e == d) ≡ false
apart e c d own other = grind (arith, nat_tests, own, other)

-- nothing of what is for one client is for another
none-for : (e d : ℕ) (es : List Entry) → (e == d) ≡ false → entries_for d (map (λ x. (e, x)) es) ≡ []
none-for e d [] other = refl
none-for e d (x ∷ es) other = rw other (none-for e d es other)

-- a step of a client that is no broadcast doesn't open another one
begins-none : (c d : ℕ) (h : History) (what : What) → is_turn c h what ≡ true → d ≢ c → begins d what ≡ false
begins-none c d h (Opened e) own other = apart e c d own other
begins-none c d h _ own other = refl

-- and puts nothing for it
puts-none : (c d : ℕ) (base : PlainBase) (limits : Limits) (before : List Step) (what : What) → is_turn c (history base limits before) what ≡ true → is_cast what ≡ false → d ≢ c → entries_for d (put base limits before what) ≡ []
unfolding put
puts-none c d base limits before (Attached k) own isnt other = none-for k.client d (answer limits k ∷ []) (apart k.client c d own other)
puts-none c d base limits before (Recovered r) own isnt other =
    none-for r.socket.client d (answer limits r.socket ∷ entries_of (log base limits before) r.missed) (apart r.socket.client c d own other)
puts-none c d base limits before (Told m) own isnt other = none-for m.client d (m.entry ∷ []) (apart m.client c d own other)
puts-none c d base limits before (Cast b) own isnt other = absurd (cc isnt)
puts-none c d base limits before (AllEnded e) own isnt other = absurd (cc isnt)
puts-none c d base limits before _ own isnt other = refl

same-placements : (c d : ℕ) (base : PlainBase) (limits : Limits) (step : Step) (before : List Step) → is_turn c (history base limits before) step.what ≡ true → is_cast step.what ≡ false → d ≢ c
    → placements base limits (step ∷ before) d ≡ placements base limits before d
unfolding placements
same-placements c d base limits step before own isnt other =
    ap (λ (b : Bool). if b then [] else placements base limits before d ++ entries_for d (put base limits before step.what)) (begins-none c d (history base limits before) step.what own other)
    ∙ ap (λ (es : List Entry). placements base limits before d ++ es) (puts-none c d base limits before step.what own isnt other)
    ∙ append-nil (placements base limits before d)

pub spares-on : (c now : ℕ) (what : What) (h k : History) → k ≡ with_step h now what → is_turn c h what ≡ true → is_cast what ≡ false → (g : History) (lists : List (List ℕ)) → Spares c g h lists → Spares c g k lists
spares-on c now what h k made own isnt g lists before d other unlisted =
    rw made (same-placements c d h.base h.limits (step_at h now what) h.journal own isnt other ∙ before d other unlisted)

same-after : (c d : ℕ) (base : PlainBase) (limits : Limits) (steps before : List Step) → AreMade (is_turn c) (history base limits before) steps → CastsNothing steps → d ≢ c
    → placements base limits (steps ++ before) d ≡ placements base limits before d
same-after c d base limits [] before own nothing other = refl
same-after c d base limits (step ∷ steps) before own nothing other =
    same-placements c d base limits step (steps ++ before) own.0 nothing.0 other ∙ same-after c d base limits steps before own.1 nothing.1 other

-- an event without a broadcast puts nothing for another client
pub spared : (c : ℕ) (h g : History) (follows : Follows (is_turn c) h g) → CastsNothing follows.steps → Spares c h g []
spared c h g follows nothing d other unlisted =
    rw (follows.base, follows.limits, follows.journal) (same-after c d h.base h.limits follows.steps h.journal follows.own nothing other)

-- where a client is in none of the lists and not in one more
unlisted-in : (d : ℕ) (ids : List ℕ) (lists : List (List ℕ)) → is_listed d (lists ++ ids ∷ []) ≡ false → (is_listed d lists ≡ false) × (list_any (λ e. e == d) ids ≡ false)
unlisted-in d ids lists e =
    let both = neither (is_listed d lists) (list_any (λ (e : ℕ). e == d) ids || false) (sym (list_any-append (λ (ids : List ℕ). list_any (λ (e : ℕ). e == d) ids) lists (ids ∷ [])) ∙ e) in
    (both.0, (neither (list_any (λ (e : ℕ). e == d) ids) false both.1).0)

-- a broadcast puts something for its receivers alone
pub spares-cast : (c now : ℕ) (cast : PlainCast) (done : PlainCastDone) (h k : History) → IsCast h k now cast done → (g : History) (lists : List (List ℕ)) → Spares c g h lists → Spares c g k (lists ++ done.clients ∷ [])
spares-cast c now cast done h k was g lists before d other unlisted =
    let apart = unlisted-in d done.clients lists unlisted in
    rw was.step ((was.right (moment_at h now)).others d (sym (was.clients_are d) ∙ apart.1) ∙ before d other apart.0)

-- those who aren't told that sockets end are put nothing
untold : (d : ℕ) (entry : Entry) (cs : List ℕ) → list_any (λ e. e == d) cs ≡ false → entries_for d (map (λ c. (c, entry)) cs) ≡ []
untold d entry [] none = refl
untold d entry (c ∷ cs) none = let both = neither (c == d) (list_any (λ e. e == d) cs) none in rw both.0 (untold d entry cs both.1)

pub spares-dismissed : (c now : ℕ) (e : PlainDismissal) (h k : History) → k ≡ with_step h now (AllEnded e) → (g : History) (lists : List (List ℕ)) → Spares c g h lists → Spares c g k (lists ++ e.told ∷ [])
unfolding placements put
spares-dismissed c now e h k made g lists before d other unlisted =
    let apart = unlisted-in d e.told lists unlisted in
    rw made
    (ap (λ (es : List Entry). placements h.base h.limits h.journal d ++ es) (untold d (farewell h.limits e.space) e.told apart.1)
    ∙ append-nil (placements h.base h.limits h.journal d)
    ∙ before d other apart.0)

-- among the others it doesn't matter whether the client itself is listed
others-any : (c d : ℕ) → d ≢ c → (ids : List ℕ) → list_any (λ e. e == d) (filter (λ e. not (e == c)) ids) ≡ list_any (λ e. e == d) ids
others-any c d other [] = refl
others-any c d other (x ∷ ids) = on (x == c) refl (others-any c d other ids)
  where
    on : (b : Bool) → (x == c) ≡ b → list_any (λ e. e == d) (filter (λ e. not (e == c)) ids) ≡ list_any (λ e. e == d) ids
        → list_any (λ e. e == d) (if not b then x ∷ filter (λ e. not (e == c)) ids else filter (λ e. not (e == c)) ids) ≡ ((x == d) || list_any (λ e. e == d) ids)
    on true is rest = rw (apart x c d is other) rest
    on false is rest = ap (λ (b : Bool). (x == d) || b) rest

listed-others : (c d : ℕ) → d ≢ c → (ids : List ℕ) (lists : List (List ℕ)) → is_listed d (lists ++ filter (λ e. not (e == c)) ids ∷ []) ≡ is_listed d (lists ++ ids ∷ [])
listed-others c d other ids lists =
    list_any-append (λ (ids : List ℕ). list_any (λ (e : ℕ). e == d) ids) lists (filter (λ e. not (e == c)) ids ∷ [])
    ∙ ap (λ (b : Bool). is_listed d lists || (b || false)) (others-any c d other ids)
    ∙ sym (list_any-append (λ (ids : List ℕ). list_any (λ (e : ℕ). e == d) ids) lists (ids ∷ []))

pub spares-others : (c : ℕ) (g k : History) (ids : List ℕ) (lists : List (List ℕ)) → Spares c g k (lists ++ ids ∷ []) → Spares c g k (lists ++ filter (λ e. not (e == c)) ids ∷ [])
spares-others c g k ids lists before d other unlisted = before d other (sym (listed-others c d other ids lists) ∙ unlisted)

-- ---- an event's work

-- an event of this client went on so; where no name of a namespace holds U+001E, its steps bring in none
pub record Working (c : ℕ) (f g : History) (lists : List (List ℕ)) : Type 0 where
  pub goes : Goes (is_work c) f g
  pub works : AllByRecursion IsWhole f.limits.spaces → WorksFor c f g lists

-- the names of the namespaces stay
pub names-still : (kind : History → What → Bool) (f g : History) → Goes kind f g → AllByRecursion IsWhole f.limits.spaces → AllByRecursion IsWhole g.limits.spaces
names-still kind f g goes names = subst (λ (limits : Limits). AllByRecursion IsWhole limits.spaces) (sym goes.limits) names

module _ (c : ℕ) (f : History) where
  abbrev pub Names : Type 0
  Names = AllByRecursion IsWhole f.limits.spaces

  pub working-of : (g : History) (lists : List (List ℕ)) → WorksFor c f g lists → Working c f g lists
  working-of g lists works = record { goes = goes-of (is_work c) f g works.follows; works = λ names. works }

  -- one step more that puts nothing for another client
  pub work-on : (now : ℕ) (what : What) (h k : History) → k ≡ with_step h now what → is_work c h what ≡ true → is_turn c h what ≡ true → is_cast what ≡ false
      → AllPass is_clean (own_entries h.limits what) → (lists : List (List ℕ)) → WorksFor c f h lists → WorksFor c f k lists
  work-on now what h k made work turn isnt clean lists was =
      record { follows = follows-on (is_work c) now what f h k was.follows made work clean; spares = spares-on c now what h k made turn isnt f lists was.spares }

  -- a broadcast more
  pub work-cast : (now : ℕ) (cast : PlainCast) (done : PlainCastDone) (h k : History) (is : IsCast h k now cast done) → is_clean is.b.entry ≡ true
      → (lists : List (List ℕ)) → WorksFor c f h lists → WorksFor c f k (lists ++ filter (λ e. not (e == c)) done.clients ∷ [])
  work-cast now cast done h k is clean lists was =
      record {
        follows = follows-on (is_work c) now (Cast is.b) f h k was.follows is.step refl (clean, tt);
        spares = spares-others c f k done.clients lists (spares-cast c now cast done h k is f lists was.spares);
      }

  -- many sockets end
  pub work-dismissed : (now : ℕ) (e : PlainDismissal) (h k : History) → k ≡ with_step h now (AllEnded e) → is_clean (farewell h.limits e.space) ≡ true
      → (lists : List (List ℕ)) → WorksFor c f h lists → WorksFor c f k (lists ++ filter (λ e. not (e == c)) e.told ∷ [])
  work-dismissed now e h k made clean lists was =
      record {
        follows = follows-on (is_work c) now (AllEnded e) f h k was.follows made refl (clean, tt);
        spares = spares-others c f k e.told lists (spares-dismissed c now e h k made f lists was.spares);
      }

  -- the same, where the names of the namespaces aren't known
  pub working-on : (now : ℕ) (what : What) (h k : History) → k ≡ with_step h now what → is_work c h what ≡ true → is_turn c h what ≡ true → is_cast what ≡ false
      → (Names → AllPass is_clean (own_entries h.limits what)) → (lists : List (List ℕ)) → Working c f h lists → Working c f k lists
  working-on now what h k made work turn isnt clean lists was =
      record { goes = goes-on (is_work c) now what f h k was.goes made work; works = λ names. work-on now what h k made work turn isnt (clean names) lists (was.works names) }

  pub working-cast : (now : ℕ) (cast : PlainCast) (done : PlainCastDone) (h k : History) (is : IsCast h k now cast done) → (Names → is_clean is.b.entry ≡ true)
      → (lists : List (List ℕ)) → Working c f h lists → Working c f k (lists ++ filter (λ e. not (e == c)) done.clients ∷ [])
  working-cast now cast done h k is clean lists was =
      record { goes = goes-on (is_work c) now (Cast is.b) f h k was.goes is.step refl; works = λ names. work-cast now cast done h k is (clean names) lists (was.works names) }

  pub working-dismissed : (now : ℕ) (e : PlainDismissal) (h k : History) → k ≡ with_step h now (AllEnded e) → (Names → is_clean (farewell h.limits e.space) ≡ true)
      → (lists : List (List ℕ)) → Working c f h lists → Working c f k (lists ++ filter (λ e. not (e == c)) e.told ∷ [])
  working-dismissed now e h k made clean lists was =
      record { goes = goes-on (is_work c) now (AllEnded e) f h k was.goes made refl; works = λ names. work-dismissed now e h k made (clean names) lists (was.works names) }
