-- Commands for many sockets after two histories that say the same.
use Rattle.std.proofs.Common.{◌≡◌, ℕ, ◌==◌, Bool, true, false, not, ◌&&◌, List, [], ◌∷◌, map, filter, refl, sym, ◌∙◌, ap, nat_cmp}
use Rattle.std.specs.Prelude.{is_some, T}
use Rattle.std.specs.List.{list_any, AllByRecursion}
use Rattle.std.specs.List.Sorted.{IsStrictlySortedBy}
use Rattle.std.specs.declared.cmp.Ordering.{Ordering}
use Rattle.std.specs.declared.cmp.Ordering.TheVariants.{Less, Equal, Greater}
use Rattle.std.specs.Ordering.{eq_by_cmp, is_lt}
use Rattle.std.specs.Cmp.{nat_cmp_total, nat_eq_equiv, unsigned_tied}
use Rattle.std.specs.FinMap as finite
use Rattle.std.specs.FinMap.Entries.{is_sorted, below_all}
use Rattle.std.specs.FinMap.Entries as entries
use Rattle.room_maps.specs.Addressed as broadcast
use Rattle.room_maps.specs.Membership.{is_in}
use Rattle.journal.specs.declared.socket.Socket.{Socket}
use Rattle.journal.specs.Plain.{Limits}
use Rattle.journal.specs.Journal.{History}
use Rattle.journal.specs.Membership.{is_open, sockets, sid_of, matches}
use Rattle.journal.specs.Outboxes.{farewell, has_no_space, is_full}
use Rattle.journal.specs.ManySockets.{rising_by, client_of, may_enter, may_exit, may_hear, joining, leaving, dismissal, ListsSockets, RightJoining, RightLeaving, RightDismissal}
use Rattle.hub_state.specs.Words.{selected}
use Rattle.journal.proofs.CastLemmas.{any-map, any-filter}
use Rattle.journal.proofs.ManySocketsLemmas.{listed}
use Rattle.journal.proofs.EpochsSocketsLemmas.{any-socket-as}
use Rattle.epochs.specs.Epochs.{AreAlike}
use Rattle.epochs.proofs.EpochSteps.{with-limits}

-- ---- the rising lists

both : (a b : Bool) → T (a && b) → (a ≡ true) × T b
both true b h = (refl, h)
both false b h = absurd h

less : (o : Ordering) → is_lt o ≡ true → o ≡ Less
less Less e = refl
less Equal e = absurd (cc e)
less Greater e = absurd (cc e)

below : (x : ℕ) (es : List (ℕ × Unit {0})) → T (below_all nat_cmp x es) → AllByRecursion (λ y. nat_cmp x y ≡ Less) (map (λ (e : ℕ × Unit {0}). e.0) es)
below x [] h = tt
below x (e ∷ es) h = let parts = both (is_lt (nat_cmp x e.0)) (below_all nat_cmp x es) h in (less (nat_cmp x e.0) parts.0, below x es parts.1)

to-T : (b : Bool) → b ≡ true → T b
to-T true e = tt
to-T false e = absurd (cc e)

rises : (es : List (ℕ × Unit {0})) → T (is_sorted nat_cmp es) → IsStrictlySortedBy nat_cmp (map (λ (e : ℕ × Unit {0}). e.0) es)
unfolding IsStrictlySortedBy
rises [] h = tt
rises (e ∷ es) h = let parts = both (below_all nat_cmp e.0 es) (is_sorted nat_cmp es) h in (below e.0 es (to-T (below_all nat_cmp e.0 es) parts.0), rises es parts.1)

module _ (id : Socket → ℕ) (test : Socket → Bool) (ks : List Socket) where
  abbrev pairs : List Socket → List (ℕ × Unit {0})
  pairs ls = map (λ (k : Socket). (id k, tt {0})) ls

  ids-paired : (ls : List Socket) → map (λ (e : ℕ × Unit {0}). e.0) (pairs ls) ≡ map id ls
  ids-paired [] = refl
  ids-paired (l ∷ ls) = ap (λ ids. id l ∷ ids) (ids-paired ls)

  tied : (x : ℕ) (ls : List Socket) → list_any (λ (k : Socket). eq_by_cmp nat_cmp x (id k)) ls ≡ list_any (λ (k : Socket). id k == x) ls
  tied x ls i = list_any (λ (k : Socket). (unsigned_tied x (id k) ∙ nat_eq_equiv.symm x (id k)) i) ls

  member-rising : (x : ℕ) → list_any (eq_by_cmp nat_cmp x) (rising_by id test ks) ≡ list_any (λ (k : Socket). id k == x && test k) ks
  unfolding rising_by
  member-rising x =
      sym (finite.contains_key-keys (finite.from_entries {R = nat_cmp} (pairs (filter test ks))) x)
      ∙ ap is_some (finite.get-from_entries nat_cmp_total (pairs (filter test ks)) x)
      ∙ entries.is_some-find nat_cmp x (pairs (filter test ks))
      ∙ ap (list_any (eq_by_cmp nat_cmp x)) (ids-paired (filter test ks))
      ∙ any-map (eq_by_cmp nat_cmp x) id (filter test ks)
      ∙ tied x (filter test ks)
      ∙ any-filter (λ (k : Socket). id k == x) test ks

  rising-rises : IsStrictlySortedBy nat_cmp (rising_by id test ks)
  unfolding rising_by
  rising-rises = let all : finite.FinMap nat_cmp (Unit {0}) = finite.from_entries {R = nat_cmp} (pairs (filter test ks)) in rises (finite.entries all) (finite.entries_sorted all)

  lists-rising : ListsSockets id test ks (rising_by id test ks)
  lists-rising = record { rises = rising-rises; exactly = member-rising }

-- ---- after histories that say the same

pub any-alike : (h g : History) → AreAlike h g → (p' p : Socket → Bool) → ((k : Socket) → is_open h.base h.journal k.client ≡ true → p' k ≡ p k)
    → list_any p' (sockets g.base g.journal) ≡ list_any p (sockets h.base h.journal)
any-alike h g alike p' p agree =
    with-limits (λ k. list_any p' (sockets k.base k.journal) ≡ list_any p (sockets h.base h.journal)) h g alike
    (λ base journal a. any-socket-as h.limits h.base base h.journal journal a.first.1 a.second.1 a.same p' p agree)

-- the same sockets are listed
rising-alike : (h g : History) → AreAlike h g → (id : Socket → ℕ) (test' test : Socket → Bool) → ((k : Socket) → is_open h.base h.journal k.client ≡ true → test' k ≡ test k)
    → rising_by id test' (sockets g.base g.journal) ≡ rising_by id test (sockets h.base h.journal)
rising-alike h g alike id test' test agree =
    listed id test (sockets h.base h.journal) (rising_by id test' (sockets g.base g.journal)) (record {
      rises = rising-rises id test' (sockets g.base g.journal);
      exactly = λ x. member-rising id test' (sockets g.base g.journal) x
          ∙ any-alike h g alike (λ (k : Socket). id k == x && test' k) (λ (k : Socket). id k == x && test k) (λ k known. ap (λ (b : Bool). id k == x && b) (agree k known));
    })

matches-alike : (h g : History) → AreAlike h g → (space : ℕ) (named excepted : List (List ℕ)) (k : Socket) → matches g.base g.journal space named excepted k ≡ matches h.base h.journal space named excepted k
matches-alike h g alike space named excepted k = ap (λ sets. k.space == space && broadcast.is_addressed sets named excepted k.sid) alike.same.same_rooms

pub full-alike : (h g : History) → AreAlike h g → (c : ℕ) → is_open h.base h.journal c ≡ true → (entry : _) → is_full g.base g.limits g.journal c entry ≡ is_full h.base h.limits h.journal c entry
full-alike h g alike c known entry = λ i. has_no_space (Limits.capacity (alike.same.same_limits i)) (Limits.bytes (alike.same.same_limits i)) (alike.same.same_waiting c known i) entry

pub joining-alike : (h g : History) → AreAlike h g → (space : ℕ) (named excepted : List (List ℕ)) (room : List ℕ) → joining g space named excepted room ≡ joining h space named excepted room
joining-alike h g alike space named excepted room =
    ap (λ (changed : List ℕ). record { space = space; rooms = named; excepted = excepted; room = room; changed = changed })
    (rising-alike h g alike sid_of (may_enter g.base g.journal space named excepted room) (may_enter h.base h.journal space named excepted room)
    (λ k known i. matches-alike h g alike space named excepted k i && not (is_in (alike.same.same_rooms i) k.sid room)))

pub leaving-alike : (h g : History) → AreAlike h g → (space : ℕ) (named excepted : List (List ℕ)) (room : List ℕ) → leaving g space named excepted room ≡ leaving h space named excepted room
leaving-alike h g alike space named excepted room =
    ap (λ (changed : List ℕ). record { space = space; rooms = named; excepted = excepted; room = room; changed = changed })
    (rising-alike h g alike sid_of (may_exit g.base g.journal space named excepted room) (may_exit h.base h.journal space named excepted room)
    (λ k known i. matches-alike h g alike space named excepted k i && is_in (alike.same.same_rooms i) k.sid room))

pub selected-alike : (h g : History) → AreAlike h g → (space : ℕ) (named excepted : List (List ℕ)) → selected g space named excepted ≡ selected h space named excepted
selected-alike h g alike space named excepted =
    rising-alike h g alike sid_of (matches g.base g.journal space named excepted) (matches h.base h.journal space named excepted) (λ k known. matches-alike h g alike space named excepted k)

pub dismissal-alike : (h g : History) → AreAlike h g → (space : ℕ) (named excepted : List (List ℕ)) → dismissal g space named excepted ≡ dismissal h space named excepted
dismissal-alike h g alike space named excepted =
    let ends = selected-alike h g alike space named excepted in
    let said = ap (λ (l : Limits). farewell l space) alike.same.same_limits in
    let tells = rising-alike h g alike client_of (may_hear g.base g.limits g.journal space named excepted) (may_hear h.base h.limits h.journal space named excepted)
    (λ k known. (λ i. matches-alike h g alike space named excepted k i && not (full-alike h g alike k.client known (farewell g.limits space) i))
    ∙ ap (λ entry. matches h.base h.journal space named excepted k && not (is_full h.base h.limits h.journal k.client entry)) said) in
    λ i. record { space = space; rooms = named; excepted = excepted; ended = ends i; told = tells i }

-- what they list is right
pub joining-right : (h : History) (space : ℕ) (named excepted : List (List ℕ)) (room : List ℕ) → RightJoining h.base h.journal (joining h space named excepted room)
joining-right h space named excepted room = record { changed = lists-rising sid_of (may_enter h.base h.journal space named excepted room) (sockets h.base h.journal) }

pub leaving-right : (h : History) (space : ℕ) (named excepted : List (List ℕ)) (room : List ℕ) → RightLeaving h.base h.journal (leaving h space named excepted room)
leaving-right h space named excepted room = record { changed = lists-rising sid_of (may_exit h.base h.journal space named excepted room) (sockets h.base h.journal) }

pub dismissal-right : (h : History) (space : ℕ) (named excepted : List (List ℕ)) → RightDismissal h.base h.limits h.journal (dismissal h space named excepted)
dismissal-right h space named excepted = record {
  ended = lists-rising sid_of (matches h.base h.journal space named excepted) (sockets h.base h.journal);
  told = lists-rising client_of (may_hear h.base h.limits h.journal space named excepted) (sockets h.base h.journal);
}
