-- A session is saved where some step lost its socket and no later one ended it.
use Rattle.std.proofs.Common.{◌≡◌, ℕ, ◌+◌, ◌≤◌, ◌==◌, Bool, true, false, ◌&&◌, ◌||◌, not, List, [], ◌∷◌, filter, map, refl, sym, ◌∙◌, ap, subst, arith, if◌then◌else◌, Option, None, Some}
use Rattle.std.specs.Prelude.{is_some}
use Rattle.std.specs.List.{list_any, find}
use Rattle.std.specs.Option.{option_map_or}
use Rattle.std.proofs.lemmas.Bool.{eqb-true}
use Rattle.recovery.specs.Expiry.{is_outdated}
use Rattle.recovery.specs.SavedTable.{PlainSaved}
use Rattle.journal.specs.declared.step.Step.{Step}
use Rattle.journal.specs.declared.step.What.{What}
use Rattle.journal.specs.declared.step.What.TheVariants.{Opened, Attached, Recovered, Joined, Left, AllJoined, AllLeft, Cast, Told, Took, Parked, Ended, AllEnded, Closed, Swept}
use Rattle.journal.specs.Plain.{PlainBase, Limits, PlainRecovery}
use Rattle.journal.specs.Membership.{sockets, pid_of, has_id, sockets_of}
use Rattle.journal.specs.Sessions.{lost_session, with_sessions, sessions, session_with, is_pid_saved}
use Rattle.journal.specs.Legal.{IsLegal}
use Rattle.journal.proofs.SessionsLemmas.{is_some-find}
use Rattle.continuity.specs.Truly.{loses}
use Rattle.continuity.specs.LastWords.{ends_saved, stays_saved, is_lost}
use Rattle.continuity.proofs.IdsLemmas.{one, count, count-some, count-with-all, any-zero, any-one}
use Rattle.continuity.proofs.KeptLemmas.{find-none, find-some, find-with-all, lost-any, once, lost-was-here, lost-is}

-- ---- lists of sessions

none-left : (p : ℕ) (ss : List PlainSaved) → session_with p (filter (λ (s : PlainSaved). not (s.pid == p)) ss) ≡ None
none-left p [] = refl
none-left p (s ∷ ss) = on (s.pid == p) refl (none-left p ss)
  where
    on : (b : Bool) → (s.pid == p) ≡ b → session_with p (filter (λ (s : PlainSaved). not (s.pid == p)) ss) ≡ None
        → session_with p (if not b then s ∷ filter (λ (s : PlainSaved). not (s.pid == p)) ss else filter (λ (s : PlainSaved). not (s.pid == p)) ss) ≡ None
    on true is rest = rest
    on false is rest = ap (λ b. if b then Some s else session_with p (filter (λ (s : PlainSaved). not (s.pid == p)) ss)) is ∙ rest

-- what isn't another's stays
others-left : (q p : ℕ) (ss : List PlainSaved) → (q == p) ≡ false → session_with p (filter (λ (s : PlainSaved). not (s.pid == q)) ss) ≡ session_with p ss
others-left q p [] other = refl
others-left q p (s ∷ ss) other = on (s.pid == q) (s.pid == p) refl refl (others-left q p ss other)
  where
    on : (b c : Bool) → (s.pid == q) ≡ b → (s.pid == p) ≡ c → session_with p (filter (λ (s : PlainSaved). not (s.pid == q)) ss) ≡ session_with p ss
        → session_with p (if not b then s ∷ filter (λ (s : PlainSaved). not (s.pid == q)) ss else filter (λ (s : PlainSaved). not (s.pid == q)) ss) ≡ (if s.pid == p then Some s else session_with p ss)
    on true true is it rest = let same : (q == p) ≡ true = subst (λ n. (n == p) ≡ true) (eqb-true s.pid q is) it in absurd (cc (same, other))
    on true false is it rest = rest ∙ sym (ap (λ b. if b then Some s else session_with p ss) it)
    on false c is it rest = ap (λ o. if s.pid == p then Some s else o) rest

-- where at most one passes, what is said of the one that is found among some is said of it among all
said-of-some : {A : Type 0} (p q f : A → Bool) (xs : List A) → count p xs ≤ 1 → option_map_or f (find p (filter q xs)) false ≡ option_map_or (λ x. q x && f x) (find p xs) false
unfolding count
said-of-some p q f [] few = refl
said-of-some p q f (x ∷ xs) few = on (q x) (p x) refl refl few (said-of-some p q f xs)
  where
    on : (b c : Bool) → q x ≡ b → p x ≡ c → one (p x) + count p xs ≤ 1 → (count p xs ≤ 1 → option_map_or f (find p (filter q xs)) false ≡ option_map_or (λ x. q x && f x) (find p xs) false)
        → option_map_or f (find p (if b then x ∷ filter q xs else filter q xs)) false ≡ option_map_or (λ x. q x && f x) (if p x then Some x else find p xs) false
    on true true s is few rest = ap (λ b. option_map_or f (if b then Some x else find p (filter q xs)) false) is ∙ sym (ap (λ b. b && f x) s) ∙ sym (ap (λ b. option_map_or (λ x. q x && f x) (if b then Some x else find p xs) false) is)
    on false true s is few rest =
        let here : one (p x) ≡ 1 = ap one is in
        let none : find p xs ≡ None = find-none p xs (any-zero p xs (omega (arith, few, here))) in
        rest (omega (arith, few)) ∙ ap (λ o. option_map_or (λ x. q x && f x) o false) none ∙ sym (ap (λ b. b && f x) s) ∙ sym (ap (λ b. option_map_or (λ x. q x && f x) (if b then Some x else find p xs) false) is)
    on true false s is few rest =
        ap (λ b. option_map_or f (if b then Some x else find p (filter q xs)) false) is ∙ rest (omega (arith, few)) ∙ sym (ap (λ b. option_map_or (λ x. q x && f x) (if b then Some x else find p xs) false) is)
    on false false s is few rest = rest (omega (arith, few)) ∙ sym (ap (λ b. option_map_or (λ x. q x && f x) (if b then Some x else find p xs) false) is)

neither : (a b : Bool) → not (a || b) ≡ (not a && not b)
neither true b = refl
neither false b = refl

never : {A : Type 0} (o : Option A) → option_map_or (λ x. false) o false ≡ false
never None = refl
never (Some x) = refl

always : {A : Type 0} (o : Option A) → option_map_or (λ x. true) o false ≡ is_some o
always None = refl
always (Some x) = refl

or-none : (b : Bool) → (b || false) ≡ b
or-none true = refl
or-none false = refl

module _ (base : PlainBase) (limits : Limits) (p : ℕ) where
  abbrev said : List Step → List PlainSaved → Bool
  said later ss = option_map_or (λ (s : PlainSaved). stays_saved limits p s.lost_at later) (session_with p ss) false

  parked-here : (at c : ℕ) (later before : List Step) → IsLegal base limits before → loses base before p (Parked c) ≡ true
      → (stays_saved limits p at later || said (record { at = at; what = Parked c } ∷ later) (sessions base limits before)) ≡ said later (with_sessions (map (lost_session base before at) (sockets_of base before c)) (sessions base limits before))
  parked-here at c later before legal l =
      let here = lost-was-here base limits p before (Parked c) l in
      let few = once base limits p before legal in
      let there = count-some (has_id pid_of p) (sockets base before) here in
      let ns : List PlainSaved = map (lost_session base before at) (sockets_of base before c) in
      let ss : List PlainSaved = sessions base limits before in
      let gone : session_with p ss ≡ None = find-none (λ (s : PlainSaved). s.pid == p) ss (any-zero (λ (s : PlainSaved). s.pid == p) ss (omega (arith, few, there))) in
      let new = count-some (λ (s : PlainSaved). s.pid == p) ns (lost-any base before at p (sockets_of base before c) ∙ l) in
      let all = count-with-all (λ (s : PlainSaved). s.pid == p) ns ss in
      let found = find-some (λ (s : PlainSaved). s.pid == p) (with_sessions ns ss) (any-one (λ (s : PlainSaved). s.pid == p) (with_sessions ns ss) (omega (arith, new, all))) in
      let is = lost-is base limits p at c before found.0 legal here found.1 in
      ap (λ o. stays_saved limits p at later || option_map_or (λ (s : PlainSaved). stays_saved limits p s.lost_at (record { at = at; what = Parked c } ∷ later)) o false) gone
      ∙ or-none (stays_saved limits p at later)
      ∙ sym (ap (λ (s : PlainSaved). stays_saved limits p s.lost_at later) is.2)
      ∙ sym (ap (λ o. option_map_or (λ (s : PlainSaved). stays_saved limits p s.lost_at later) o false) found.1)

  parked-after : (at c : ℕ) (later before : List Step) → IsLegal base limits before → (b : Bool) → loses base before p (Parked c) ≡ b
      → ((b && stays_saved limits p at later) || said (record { at = at; what = Parked c } ∷ later) (sessions base limits before)) ≡ said later (with_sessions (map (lost_session base before at) (sockets_of base before c)) (sessions base limits before))
  parked-after at c later before legal true l = parked-here at c later before legal l
  parked-after at c later before legal false l =
      sym (ap (λ o. option_map_or (λ (s : PlainSaved). stays_saved limits p s.lost_at later) o false)
      (find-with-all p (map (lost_session base before at) (sockets_of base before c)) (sessions base limits before) (lost-any base before at p (sockets_of base before c) ∙ l)))

  back-after : (at : ℕ) (r : PlainRecovery) (later : List Step) (ss : List PlainSaved) (b : Bool) → (r.socket.pid == p) ≡ b
      → option_map_or (λ (s : PlainSaved). not (b || list_any (λ (step : Step). ends_saved limits p s.lost_at step.at step.what) later)) (session_with p ss) false ≡ said later (filter (λ (s : PlainSaved). not (s.pid == r.socket.pid)) ss)
  back-after at r later ss true is =
      let none : session_with p (filter (λ (s : PlainSaved). not (s.pid == r.socket.pid)) ss) ≡ None
      = subst (λ q. session_with p (filter (λ (s : PlainSaved). not (s.pid == q)) ss) ≡ None) (sym (eqb-true r.socket.pid p is)) (none-left p ss) in
      never (session_with p ss) ∙ sym (ap (λ o. option_map_or (λ (s : PlainSaved). stays_saved limits p s.lost_at later) o false) none)
  back-after at r later ss false is = sym (ap (λ o. option_map_or (λ (s : PlainSaved). stays_saved limits p s.lost_at later) o false) (others-left r.socket.pid p ss is))

  swept-after : (at : ℕ) (later : List Step) (ss : List PlainSaved) → count (λ (s : PlainSaved). s.pid == p) ss ≤ 1
      → said (record { at = at; what = Swept } ∷ later) ss ≡ said later (filter (λ (s : PlainSaved). not (is_outdated limits.keep at s.lost_at)) ss)
  swept-after at later ss few =
      (λ i. option_map_or (λ (s : PlainSaved). neither (is_outdated limits.keep at s.lost_at) (list_any (λ (step : Step). ends_saved limits p s.lost_at step.at step.what) later) i) (session_with p ss) false)
      ∙ sym (said-of-some (λ (s : PlainSaved). s.pid == p) (λ (s : PlainSaved). not (is_outdated limits.keep at s.lost_at)) (λ (s : PlainSaved). stays_saved limits p s.lost_at later) ss few)

  said-after : (at : ℕ) (later before : List Step) (what : What) → IsLegal base limits before
      → ((loses base before p what && stays_saved limits p at later) || said (record { at = at; what = what } ∷ later) (sessions base limits before)) ≡ said later (sessions base limits (record { at = at; what = what } ∷ before))
  unfolding sessions
  said-after at later before (Parked c) legal = parked-after at c later before legal (loses base before p (Parked c)) refl
  said-after at later before (Recovered r) legal = back-after at r later (sessions base limits before) (r.socket.pid == p) refl
  said-after at later before Swept legal = (let few = once base limits p before legal in swept-after at later (sessions base limits before) (omega (arith, few)))
  said-after at later before (Opened c) legal = refl
  said-after at later before (Attached k) legal = refl
  said-after at later before (Joined t w) legal = refl
  said-after at later before (Left t w) legal = refl
  said-after at later before (AllJoined m) legal = refl
  said-after at later before (AllLeft m) legal = refl
  said-after at later before (Cast b) legal = refl
  said-after at later before (Told m) legal = refl
  said-after at later before (Took c m n) legal = refl
  said-after at later before (Ended t by) legal = refl
  said-after at later before (AllEnded d) legal = refl
  said-after at later before (Closed c) legal = refl

  lost-said : (later journal : List Step) → IsLegal base limits journal → is_lost base limits later journal p ≡ said later (sessions base limits journal)
  unfolding is_lost IsLegal sessions
  lost-said later [] legal = refl
  lost-said later (step ∷ before) legal =
      ap (λ b. (loses base before p step.what && stays_saved limits p step.at later) || b) (lost-said (step ∷ later) before legal.2)
      ∙ said-after step.at later before step.what legal.2

  -- a session is saved where it was lost and nothing ended it since
  pub last-saved : (journal : List Step) → IsLegal base limits journal → is_pid_saved (sessions base limits journal) p ≡ is_lost base limits [] journal p
  last-saved journal legal =
      sym (is_some-find (λ (s : PlainSaved). s.pid == p) (sessions base limits journal))
      ∙ sym (always (session_with p (sessions base limits journal)))
      ∙ sym (lost-said [] journal legal)
