-- How a queue stays orderly.
use Rattle.std.proofs.Common.{◌≡◌, ℕ, zero, suc, ◌+◌, ◌≤◌, ◌<◌, ◌⊎◌, inl, inr, Bool, true, false, List, [], ◌∷◌, ◌++◌, length, cond, nat_eq, nat_le, nat_lt, sum_by, slice_set, refl, sym, ◌∙◌, ap, subst, arith, length-set, length-append}
use Rattle.std.proofs.lemmas.List.{get_or-set_same, get_or-set_other, get_or_past}
use Rattle.std.proofs.lemmas.List.Sums.{count_by-le-length, sum_by-append, sum_by-set}
use Rattle.std.proofs.lemmas.Bool.{cases_eq, ltb-true}
use Rattle.std.proofs.lemmas.Bool.Decides.{eqb_tells, leb_tells}
use Rattle.loop_rules.specs.declared.looks.LookState.{LookState}
use Rattle.loop_rules.specs.declared.looks.LookState.TheVariants as state
use Rattle.loop_rules.specs.Looks.{is_queued, is_to_queue, begun, called}
use Rattle.loop_rules.specs.Rotas.{Waiting, IsOrderly, look_of, one_if, times, queued_count, has_stint, will_look, will_take, with_look, called_at}

-- where one isn't queued, fewer are than there are
pub fewer : (looks : List LookState) (key : ℕ) → key < length looks → is_queued (look_of looks key) ≡ false
    → queued_count looks < length looks
fewer looks key below isnt =
    let put = sum_by-set (λ s. one_if (is_queued s)) looks key state.Called state.Rests below in
    let there : one_if (is_queued (look_of looks key)) ≡ 0 = rw isnt refl in
    omega (arith, put, there, count_by-le-length is_queued (slice_set looks key state.Called), length-set looks key state.Called)

-- so there is space for one that isn't queued yet
pub fits_one : (looks : List LookState) (keys : List ℕ) (count rr ar key : ℕ) → IsOrderly looks keys count rr ar
    → key < length looks → is_queued (look_of looks key) ≡ false → (count < rr) × (count < ar)
fits_one looks keys count rr ar key o below isnt =
    let less : queued_count looks < length looks = fewer looks key below isnt in
    (omega (arith, o.all, o.ready_fits, less), omega (arith, o.all, o.again_fits, less))

look-same : (looks : List LookState) (key : ℕ) (s : LookState) → key < length looks → look_of (slice_set looks key s) key ≡ s
look-same looks key s below = get_or-set_same looks key s state.Rests below

look-other : (looks : List LookState) (key k : ℕ) (s : LookState) → (k ≡ key → ⊥) → look_of (slice_set looks key s) k ≡ look_of looks k
look-other looks key k s other = get_or-set_other looks key k s state.Rests other

-- ## A key is put into the queue

-- how often a key stands there then
times-ready : (r a : List ℕ) (key k : ℕ) → times k ((r ++ key ∷ []) ++ a) ≡ times k (r ++ a) + one_if (nat_eq key k)
times-ready r a key k =
    let f : ℕ → ℕ = λ x. one_if (nat_eq x k) in
    let one : sum_by f (key ∷ []) ≡ 0 + f key = refl in
    let all : sum_by f ((r ++ key ∷ []) ++ a) ≡ sum_by f (r ++ key ∷ []) + sum_by f a = sum_by-append f (r ++ key ∷ []) a in
    let front : sum_by f (r ++ key ∷ []) ≡ sum_by f r + sum_by f (key ∷ []) = sum_by-append f r (key ∷ []) in
    let was : sum_by f (r ++ a) ≡ sum_by f r + sum_by f a = sum_by-append f r a in
    omega arith

pub times-again : (r a : List ℕ) (key k : ℕ) → times k (r ++ (a ++ key ∷ [])) ≡ times k (r ++ a) + one_if (nat_eq key k)
times-again r a key k =
    let f : ℕ → ℕ = λ x. one_if (nat_eq x k) in
    let one : sum_by f (key ∷ []) ≡ 0 + f key = refl in
    let all : sum_by f (r ++ (a ++ key ∷ [])) ≡ sum_by f r + sum_by f (a ++ key ∷ []) = sum_by-append f r (a ++ key ∷ []) in
    let back : sum_by f (a ++ key ∷ []) ≡ sum_by f a + sum_by f (key ∷ []) = sum_by-append f a (key ∷ []) in
    let was : sum_by f (r ++ a) ≡ sum_by f r + sum_by f a = sum_by-append f r a in
    omega arith

pushed-once : (looks : List LookState) (keys keys' : List ℕ) (key k : ℕ) (s : LookState) → key < length looks
    → times k keys ≡ one_if (is_queued (look_of looks k)) → is_queued (look_of looks key) ≡ false → is_queued s ≡ true
    → times k keys' ≡ times k keys + one_if (nat_eq key k)
    → (((nat_eq key k ≡ true) × (key ≡ k)) ⊎ ((nat_eq key k ≡ false) × (key ≡ k → ⊥)))
    → times k keys' ≡ one_if (is_queued (look_of (slice_set looks key s) k))
pushed-once looks keys keys' key k s below was isnt is more (inl same) =
    let none : one_if (is_queued (look_of looks k)) ≡ 0 = subst (λ x. one_if (is_queued (look_of looks x)) ≡ 0) same.1 (rw isnt refl) in
    let one : one_if (nat_eq key k) ≡ 1 = rw same.0 refl in
    let now : one_if (is_queued (look_of (slice_set looks key s) k)) ≡ 1 =
    subst (λ x. one_if (is_queued (look_of (slice_set looks key s) x)) ≡ 1) same.1 (rw (look-same looks key s below, is) refl) in
    omega arith
pushed-once looks keys keys' key k s below was isnt is more (inr other) =
    let none : one_if (nat_eq key k) ≡ 0 = rw other.0 refl in
    let stays : look_of (slice_set looks key s) k ≡ look_of looks k = look-other looks key k s (λ e. other.1 (sym e)) in
    rw stays (omega arith)

pushed : (looks : List LookState) (keys keys' : List ℕ) (count rr ar key : ℕ) (s : LookState)
    → IsOrderly looks keys count rr ar → key < length looks → is_queued (look_of looks key) ≡ false → is_queued s ≡ true
    → ((k : ℕ) → times k keys' ≡ times k keys + one_if (nat_eq key k))
    → IsOrderly (slice_set looks key s) keys' (count + 1) rr ar
pushed looks keys keys' count rr ar key s o below isnt is more =
    let put = sum_by-set (λ x. one_if (is_queued x)) looks key s state.Rests below in
    let there : one_if (is_queued (look_of looks key)) ≡ 0 = rw isnt refl in
    let here : one_if (is_queued s) ≡ 1 = rw is refl in
    record {
      once = λ k. pushed-once looks keys keys' key k s below (o.once k) isnt is (more k) (eqb_tells key k);
      all = omega (arith, put, there, here, o.all);
      ready_fits = omega (arith, length-set looks key s, o.ready_fits);
      again_fits = omega (arith, length-set looks key s, o.again_fits);
    }

pub pushed_ready : (looks : List LookState) (r a : List ℕ) (count rr ar key : ℕ) (s : LookState)
    → IsOrderly looks (r ++ a) count rr ar → key < length looks → is_queued (look_of looks key) ≡ false → is_queued s ≡ true
    → IsOrderly (slice_set looks key s) ((r ++ key ∷ []) ++ a) (count + 1) rr ar
pushed_ready looks r a count rr ar key s o below isnt is =
    pushed looks (r ++ a) ((r ++ key ∷ []) ++ a) count rr ar key s o below isnt is (times-ready r a key)

pub pushed_again : (looks : List LookState) (r a : List ℕ) (count rr ar key : ℕ) (s : LookState)
    → IsOrderly looks (r ++ a) count rr ar → key < length looks → is_queued (look_of looks key) ≡ false → is_queued s ≡ true
    → IsOrderly (slice_set looks key s) (r ++ (a ++ key ∷ [])) (count + 1) rr ar
pushed_again looks r a count rr ar key s o below isnt is =
    pushed looks (r ++ a) (r ++ (a ++ key ∷ [])) count rr ar key s o below isnt is (times-again r a key)

-- ## One that stays in the queue, or out of it

pub marked : (looks : List LookState) (keys : List ℕ) (count rr ar key : ℕ) (s : LookState)
    → IsOrderly looks keys count rr ar → key < length looks → is_queued s ≡ is_queued (look_of looks key)
    → IsOrderly (slice_set looks key s) keys count rr ar
marked looks keys count rr ar key s o below same =
    let put = sum_by-set (λ x. one_if (is_queued x)) looks key s state.Rests below in
    let there : one_if (is_queued s) ≡ one_if (is_queued (look_of looks key)) = rw same refl in
    record {
      once = λ k. marked-once looks key k s below same (times k keys) (o.once k) (cases_eq k key);
      all = omega (arith, put, there, o.all);
      ready_fits = omega (arith, length-set looks key s, o.ready_fits);
      again_fits = omega (arith, length-set looks key s, o.again_fits);
    }
  where
    marked-once : (looks : List LookState) (key k : ℕ) (s : LookState) → key < length looks → is_queued s ≡ is_queued (look_of looks key)
        → (n : ℕ) → n ≡ one_if (is_queued (look_of looks k)) → (k ≡ key) ⊎ (k ≡ key → ⊥)
        → n ≡ one_if (is_queued (look_of (slice_set looks key s) k))
    marked-once looks key k s below same n was (inl here) =
        let now : is_queued (look_of (slice_set looks key s) key) ≡ is_queued (look_of looks key) = ap is_queued (look-same looks key s below) ∙ same in
        subst (λ x. n ≡ one_if (is_queued (look_of (slice_set looks key s) x))) (sym here) (rw now (subst (λ x. n ≡ one_if (is_queued (look_of looks x))) here was))
    marked-once looks key k s below same n was (inr other) = rw (look-other looks key k s other) was

-- ## The first one leaves the queue

known-or-rests : (looks : List LookState) (key : ℕ) (s : LookState) → look_of looks key ≡ s → (s ≡ state.Rests → ⊥)
    → (((nat_le (length looks) key ≡ true) × (length looks ≤ key)) ⊎ ((nat_le (length looks) key ≡ false) × (key < length looks)))
    → key < length looks
known-or-rests looks key s at moves (inl past) = absurd (moves (sym at ∙ get_or_past looks key state.Rests past.1))
known-or-rests looks key s at moves (inr below) = below.1

queued-moves : (s : LookState) → is_queued s ≡ true → s ≡ state.Rests → ⊥
queued-moves s is rests = cc

known : (looks : List LookState) (key : ℕ) → is_queued (look_of looks key) ≡ true → key < length looks
known looks key is =
    known-or-rests looks key (look_of looks key) refl (queued-moves (look_of looks key) is) (leb_tells (length looks) key)

stint-moves : (s : LookState) → has_stint s ≡ true → s ≡ state.Rests → ⊥
stint-moves s is rests = cc

-- one whose stint it is is there, and doesn't stand in the queue
pub stint_known : (looks : List LookState) (key : ℕ) → has_stint (look_of looks key) ≡ true → key < length looks
stint_known looks key is =
    known-or-rests looks key (look_of looks key) refl (stint-moves (look_of looks key) is) (leb_tells (length looks) key)

pub stint_isnt_queued : (s : LookState) → has_stint s ≡ true → is_queued s ≡ false
stint_isnt_queued state.Rests is = refl
stint_isnt_queued state.Called is = absurd (cc)
stint_isnt_queued state.Again is = absurd (cc)
stint_isnt_queued state.Full is = refl
stint_isnt_queued state.Early is = refl
stint_isnt_queued (state.Looks dry) is = refl
stint_isnt_queued (state.Stirred dry) is = refl

pub to_queue_isnt_queued : (s : LookState) → is_to_queue s ≡ true → is_queued s ≡ false
to_queue_isnt_queued state.Rests is = refl
to_queue_isnt_queued state.Called is = absurd (cc)
to_queue_isnt_queued state.Again is = absurd (cc)
to_queue_isnt_queued state.Full is = refl
to_queue_isnt_queued state.Early is = refl
to_queue_isnt_queued (state.Looks dry) is = refl
to_queue_isnt_queued (state.Stirred dry) is = refl

pub begun_isnt_queued : (s : LookState) → is_queued (begun s) ≡ false
begun_isnt_queued state.Rests = refl
begun_isnt_queued state.Called = refl
begun_isnt_queued state.Again = refl
begun_isnt_queued state.Full = refl
begun_isnt_queued state.Early = refl
begun_isnt_queued (state.Looks dry) = refl
begun_isnt_queued (state.Stirred dry) = refl

one-at-least : (b : Bool) (n : ℕ) → n + 1 ≡ one_if b → b ≡ true
one-at-least true n e = refl
one-at-least false n e = absurd (omega (arith, e))

-- how often a key stands in the queue before the first one leaves it
pub times-first : (key k : ℕ) (keys : List ℕ) → times k (key ∷ keys) ≡ times k keys + one_if (nat_eq key k)
times-first key k keys =
    let f : ℕ → ℕ = λ x. one_if (nat_eq x k) in
    let one : sum_by f (key ∷ []) ≡ 0 + f key = refl in
    let all : sum_by f (key ∷ keys) ≡ sum_by f (key ∷ []) + sum_by f keys = sum_by-append f (key ∷ []) keys in
    omega arith

itself-by : (key : ℕ) → (((nat_eq key key ≡ true) × (key ≡ key)) ⊎ ((nat_eq key key ≡ false) × (key ≡ key → ⊥))) → nat_eq key key ≡ true
itself-by key (inl same) = same.0
itself-by key (inr other) = absurd (other.1 refl)

pub itself : (key : ℕ) → nat_eq key key ≡ true
itself key = itself-by key (eqb_tells key key)

first-queued : (looks : List LookState) (key : ℕ) (keys : List ℕ) (count rr ar : ℕ) → IsOrderly looks (key ∷ keys) count rr ar
    → is_queued (look_of looks key) ≡ true
first-queued looks key keys count rr ar o =
    let here : one_if (nat_eq key key) ≡ 1 = rw (itself key) refl in
    let once : times key (key ∷ keys) ≡ one_if (is_queued (look_of looks key)) = o.once key in
    let first : times key (key ∷ keys) ≡ times key keys + one_if (nat_eq key key) = times-first key key keys in
    one-at-least (is_queued (look_of looks key)) (times key keys) (omega arith)

-- the first key is one of a connection that is there
pub first_known : (looks : List LookState) (all : List ℕ) (key : ℕ) (keys : List ℕ) (count rr ar : ℕ)
    → IsOrderly looks all count rr ar → all ≡ key ∷ keys → key < length looks
first_known looks all key keys count rr ar o first =
    known looks key (first-queued looks key keys count rr ar (subst (λ ks. IsOrderly looks ks count rr ar) first o))

popped-once : (looks : List LookState) (keys : List ℕ) (key k : ℕ) (s : LookState) → key < length looks
    → times k (key ∷ keys) ≡ one_if (is_queued (look_of looks k)) → is_queued (look_of looks key) ≡ true → is_queued s ≡ false
    → (((nat_eq key k ≡ true) × (key ≡ k)) ⊎ ((nat_eq key k ≡ false) × (key ≡ k → ⊥)))
    → times k keys ≡ one_if (is_queued (look_of (slice_set looks key s) k))
popped-once looks keys key k s below was is isnt (inl same) =
    let one : one_if (is_queued (look_of looks k)) ≡ 1 = subst (λ x. one_if (is_queued (look_of looks x)) ≡ 1) same.1 (rw is refl) in
    let here : one_if (nat_eq key k) ≡ 1 = rw same.0 refl in
    let now : one_if (is_queued (look_of (slice_set looks key s) k)) ≡ 0 =
    subst (λ x. one_if (is_queued (look_of (slice_set looks key s) x)) ≡ 0) same.1 (rw (look-same looks key s below, isnt) refl) in
    omega (arith, times-first key k keys)
popped-once looks keys key k s below was is isnt (inr other) =
    let none : one_if (nat_eq key k) ≡ 0 = rw other.0 refl in
    let stays : look_of (slice_set looks key s) k ≡ look_of looks k = look-other looks key k s (λ e. other.1 (sym e)) in
    rw stays (omega (arith, times-first key k keys))

left : (looks : List LookState) (key : ℕ) (keys : List ℕ) (count rest rr ar : ℕ) (s : LookState)
    → IsOrderly looks (key ∷ keys) count rr ar → is_queued s ≡ false → count ≡ rest + 1 → IsOrderly (slice_set looks key s) keys rest rr ar
left looks key keys count rest rr ar s o isnt one =
    let below : key < length looks = known looks key (first-queued looks key keys count rr ar o) in
    let is : is_queued (look_of looks key) ≡ true = first-queued looks key keys count rr ar o in
    let put = sum_by-set (λ x. one_if (is_queued x)) looks key s state.Rests below in
    let there : one_if (is_queued (look_of looks key)) ≡ 1 = rw is refl in
    let here : one_if (is_queued s) ≡ 0 = rw isnt refl in
    record {
      once = λ k. popped-once looks keys key k s below (o.once k) is isnt (eqb_tells key k);
      all = omega (arith, put, there, here, o.all, one);
      ready_fits = omega (arith, length-set looks key s, o.ready_fits);
      again_fits = omega (arith, length-set looks key s, o.again_fits);
    }

pub popped : (looks : List LookState) (all : List ℕ) (key : ℕ) (keys : List ℕ) (count rest rr ar most : ℕ) (s : LookState)
    → IsOrderly looks all count rr ar → all ≡ key ∷ keys → is_queued s ≡ false → count ≡ rest + 1 → most ≡ rr
    → IsOrderly (slice_set looks key s) keys rest most ar
popped looks all key keys count rest rr ar most s o first isnt one same =
    let was : IsOrderly looks (key ∷ keys) count rr ar = subst (λ ks. IsOrderly looks ks count rr ar) first o in
    subst (λ r. IsOrderly (slice_set looks key s) keys rest r ar) (sym same) (left looks key keys count rest rr ar s was isnt one)

-- ## One more connection

look-grown : (looks : List LookState) (k : ℕ) → look_of (looks ++ state.Rests ∷ []) k ≡ look_of looks k
look-grown [] zero = refl
look-grown [] (suc k) = refl
look-grown (s ∷ ss) zero = refl
look-grown (s ∷ ss) (suc k) = look-grown ss k

-- where it had memory or not
pub look_pushed : (pushed : Bool) (looks more : List LookState) (k : ℕ) → more ≡ cond pushed (looks ++ state.Rests ∷ []) looks
    → look_of more k ≡ look_of looks k
look_pushed true looks more k is = rw is (look-grown looks k)
look_pushed false looks more k is = rw is refl

pushed-count : (pushed : Bool) (looks : List LookState) → queued_count (cond pushed (looks ++ state.Rests ∷ []) looks) ≡ queued_count looks
pushed-count false looks = refl
pushed-count true looks =
    let more = sum_by-append (λ s. one_if (is_queued s)) looks (state.Rests ∷ []) in
    let none : queued_count (state.Rests ∷ []) ≡ 0 = refl in
    omega (arith, more, none)

pushed-length : (pushed : Bool) (looks : List LookState) → length (cond pushed (looks ++ state.Rests ∷ []) looks) ≤ length looks + 1
pushed-length false looks = omega arith
pushed-length true looks = omega (arith, length-append looks (state.Rests ∷ []))

pub grown : (pushed : Bool) (looks more : List LookState) (keys keys' : List ℕ) (count count' rr ar rr' ar' : ℕ)
    → IsOrderly looks keys count rr ar → more ≡ cond pushed (looks ++ state.Rests ∷ []) looks → keys' ≡ keys → count' ≡ count
    → length looks + 1 ≤ rr' → length looks + 1 ≤ ar' → IsOrderly more keys' count' rr' ar'
grown pushed looks more keys keys' count count' rr ar rr' ar' o is same counted fits fits' =
    let long : length more ≤ length looks + 1 = rw is (pushed-length pushed looks) in
    let queued : queued_count more ≡ queued_count looks = rw is (pushed-count pushed looks) in
    record {
      once = λ k. rw (same, look_pushed pushed looks more k is) (o.once k);
      all = omega (arith, queued, o.all, counted);
      ready_fits = omega (arith, long, fits);
      again_fits = omega (arith, long, fits');
    }

-- ## What a call keeps

will_look-called : (s : LookState) → will_look (called s) ≡ true
will_look-called state.Rests = refl
will_look-called state.Called = refl
will_look-called state.Again = refl
will_look-called state.Full = refl
will_look-called state.Early = refl
will_look-called (state.Looks dry) = refl
will_look-called (state.Stirred dry) = refl

called-looks : (there queues : Bool) (w : Waiting) (key : ℕ) (s : LookState)
    → (cond there (cond queues (record { looks = slice_set w.looks key s; ready = w.ready ++ key ∷ []; again = w.again }) (with_look key s w)) w).looks
    ≡ cond there (slice_set w.looks key s) w.looks
called-looks true true w key s = refl
called-looks true false w key s = refl
called-looks false queues w key s = refl

kept-at : (P : LookState → Bool) (there : Bool) (looks : List LookState) (key k : ℕ) (s : LookState) → (there ≡ true → key < length looks)
    → P s ≡ true → P (look_of looks k) ≡ true → (k ≡ key) ⊎ (k ≡ key → ⊥)
    → P (look_of (cond there (slice_set looks key s) looks) k) ≡ true
kept-at P false looks key k s below now was same = was
kept-at P true looks key k s below now was (inl here) =
    subst (λ x. P (look_of (slice_set looks key s) x) ≡ true) (sym here) (rw (look-same looks key s (below refl)) now)
kept-at P true looks key k s below now was (inr other) = rw (look-other looks key k s other) was

-- what holds of one that is called, and held of another one, holds of it after the call
called-keeps : (P : LookState → Bool) (w : Waiting) (key k : ℕ) → P (called (look_of w.looks key)) ≡ true
    → P (look_of w.looks k) ≡ true → P (look_of (called_at key w).looks k) ≡ true
called-keeps P w key k now was =
    let s : LookState = called (look_of w.looks key) in
    rw (called-looks (nat_lt key (length w.looks)) (is_to_queue (look_of w.looks key)) w key s)
    (kept-at P (nat_lt key (length w.looks)) w.looks key k s (ltb-true key (length w.looks)) now was (cases_eq k key))

-- who will look still will after another was called
pub called_keeps : (w : Waiting) (key k : ℕ) → will_look (look_of w.looks k) ≡ true → will_look (look_of (called_at key w).looks k) ≡ true
called_keeps w key k was = called-keeps will_look w key k (will_look-called (look_of w.looks key)) was

will_take-looks : (s : LookState) → will_look s ≡ true → will_take s ≡ true
will_take-looks state.Called is = refl
will_take-looks state.Again is = refl
will_take-looks (state.Stirred dry) is = refl
will_take-looks (state.Looks true) is = absurd (cc)
will_take-looks (state.Looks false) is = refl
will_take-looks state.Rests is = absurd (cc)
will_take-looks state.Full is = absurd (cc)
will_take-looks state.Early is = absurd (cc)

-- and who will look or take
pub called_takes : (w : Waiting) (key k : ℕ) → will_take (look_of w.looks k) ≡ true → will_take (look_of (called_at key w).looks k) ≡ true
called_takes w key k was =
    called-keeps will_take w key k (will_take-looks (called (look_of w.looks key)) (will_look-called (look_of w.looks key))) was

set-long : (there : Bool) (looks : List LookState) (key : ℕ) (s : LookState) → length (cond there (slice_set looks key s) looks) ≡ length looks
set-long true looks key s = length-set looks key s
set-long false looks key s = refl

pub called_long : (w : Waiting) (key : ℕ) → length (called_at key w).looks ≡ length w.looks
called_long w key =
    let s : LookState = called (look_of w.looks key) in
    rw (called-looks (nat_lt key (length w.looks)) (is_to_queue (look_of w.looks key)) w key s)
    (set-long (nat_lt key (length w.looks)) w.looks key s)
