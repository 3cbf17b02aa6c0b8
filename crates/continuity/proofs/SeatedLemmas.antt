-- In a legal journal the rooms know each connected socket.
use Rattle.std.proofs.Common.{◌≡◌, ℕ, ◌==◌, Bool, true, false, ◌&&◌, ◌||◌, not, List, [], ◌∷◌, ◌++◌, filter, refl, sym, ◌∙◌, ap, subst, arith, if◌then◌else◌, append-nil}
use Rattle.std.specs.List.{list_any}
use Rattle.std.proofs.lemmas.Bool.{eqb-true}
use Rattle.std.proofs.lemmas.List.Folds.{list_any-append}
use Rattle.room_maps.specs.Membership.{RoomSets, is_socket}
use Rattle.room_maps.proofs.MembershipLaws.{is_socket-with_pair, is_socket-without_pair, is_socket-with_members, is_socket-without_members, is_socket-with_socket, is_socket-with_socket_in, is_socket-without_socket}
use Rattle.recovery.specs.SavedTable.{PlainSaved}
use Rattle.journal.specs.declared.socket.Socket.{Socket}
use Rattle.journal.specs.declared.step.Step.{Step}
use Rattle.journal.specs.declared.step.What.{What}
use Rattle.journal.specs.declared.step.What.TheVariants.{Opened, Attached, Recovered, Joined, Left, AllJoined, AllLeft, Cast, Told, Took, Parked, Ended, AllEnded, Closed, Swept}
use Rattle.journal.specs.Plain.{PlainBase, Limits}
use Rattle.journal.specs.Membership.{connects, ends, sockets, sid_of, has_id, socket_with, sockets_of, rooms, rooms_after, without_sockets}
use Rattle.journal.specs.declared.ending.Side.{Side}
use Rattle.journal.specs.Legal.{IsLegal, IsSound}
use Rattle.journal.proofs.SessionsLemmas.{is_some-find}
use Rattle.journal.proofs.MembershipLemmas.{sockets-quiet}
use Rattle.journal.proofs.EndLemmas.{is_socket-without_sockets}
use Rattle.continuity.proofs.IdsLemmas.{count-some, count-split, count-filter, any-zero, any-one, sids-kept, held-once}

-- the rooms know each socket of the list
abbrev pub Knows : RoomSets → List Socket → Type 0
Knows sets ks = (s : ℕ) → list_any (has_id sid_of s) ks ≡ true → is_socket sets s ≡ true

-- none of those without an id has it
none-without : (s : ℕ) (ks : List Socket) → list_any (has_id sid_of s) (filter (λ (k : Socket). not (k.sid == s)) ks) ≡ false
none-without s [] = refl
none-without s (k ∷ ks) = on (k.sid == s) refl (none-without s ks)
  where
    on : (b : Bool) → (k.sid == s) ≡ b → list_any (has_id sid_of s) (filter (λ (k : Socket). not (k.sid == s)) ks) ≡ false
        → list_any (has_id sid_of s) (if not b then k ∷ filter (λ (k : Socket). not (k.sid == s)) ks else filter (λ (k : Socket). not (k.sid == s)) ks) ≡ false
    on true e rest = rest
    on false e rest = ap (λ b. b || list_any (has_id sid_of s) (filter (λ (k : Socket). not (k.sid == s)) ks)) e ∙ rest

pub any-kept : (p q : Socket → Bool) (ks : List Socket) → list_any p (filter q ks) ≡ true → list_any p ks ≡ true
any-kept p q ks e = let some = count-some p (filter q ks) e in let less = count-filter p q ks in any-one p ks (omega (arith, some, less))

or-more : (a b : Bool) (c : Bool) → (a || b) ≡ true → (a ≡ true → c ≡ true) → (b || c) ≡ true
or-more true b c e to = rw (to refl) (either b)
  where
    either : (b : Bool) → (b || true) ≡ true
    either true = refl
    either false = refl
or-more false true c e to = refl
or-more false false c e to = cc

or-false : (b : Bool) → (b || false) ≡ b
or-false true = refl
or-false false = refl

filter-true : (ks : List Socket) → filter (λ k. not false) ks ≡ ks
filter-true [] = refl
filter-true (k ∷ ks) = ap (λ l. k ∷ l) (filter-true ks)

module _ (base : PlainBase) (limits : Limits) where
  abbrev pub Seated : List Step → Type 0
  Seated journal = Knows (rooms base journal) (sockets base journal)

  -- a step that connects and ends nobody, and after which the rooms know whom they knew
  stays : (step : Step) (before : List Step) → connects step.what ≡ [] → ((k : Socket) → ends step.what k ≡ false)
      → ((s : ℕ) → is_socket (rooms_after base before (rooms base before) step.what) s ≡ is_socket (rooms base before) s) → Seated before → Seated (step ∷ before)
  unfolding rooms
  stays step before none same known was s here = known s ∙ was s (ap (list_any (has_id sid_of s)) (sym (sockets-quiet base step before none same)) ∙ here)

  -- a socket that connects
  comes : (step : Step) (before : List Step) (k : Socket) → sockets base (step ∷ before) ≡ sockets base before ++ k ∷ []
      → ((s : ℕ) → is_socket (rooms_after base before (rooms base before) step.what) s ≡ ((k.sid == s) || is_socket (rooms base before) s)) → Seated before → Seated (step ∷ before)
  unfolding rooms
  comes step before k are known was s here =
      known s ∙ or-more (list_any (has_id sid_of s) (sockets base before)) (k.sid == s) (is_socket (rooms base before) s)
      (ap (λ b. list_any (has_id sid_of s) (sockets base before) || b) (sym (or-false (k.sid == s)))
      ∙ sym (list_any-append (has_id sid_of s) (sockets base before) (k ∷ []))
      ∙ ap (list_any (has_id sid_of s)) (sym are) ∙ here)
      (was s)

  pub sockets-after : (step : Step) (before : List Step) → sockets base (step ∷ before) ≡ filter (λ k. not (ends step.what k)) (sockets base before) ++ connects step.what
  unfolding sockets
  sockets-after step before = refl

  -- those of a list go, with their rooms
  go : (step : Step) (before : List Step) → IsLegal base limits before → connects step.what ≡ []
      → rooms_after base before (rooms base before) step.what ≡ without_sockets (rooms base before) (filter (ends step.what) (sockets base before)) → Seated before → Seated (step ∷ before)
  unfolding rooms
  go step before legal none left was s here =
      let ks = sockets base before in
      let stay : list_any (has_id sid_of s) (filter (λ k. not (ends step.what k)) ks) ≡ true
      = sym (ap (list_any (has_id sid_of s)) (sockets-after step before ∙ ap (λ l. filter (λ k. not (ends step.what k)) ks ++ l) none ∙ append-nil (filter (λ k. not (ends step.what k)) ks))) ∙ here in
      let some = count-some (has_id sid_of s) (filter (λ k. not (ends step.what k)) ks) stay in
      let split = count-split (has_id sid_of s) (ends step.what) ks in
      let once = held-once base limits sid_of (λ (t : PlainSaved). t.sid) sids-kept before legal s in
      let gone = any-zero (has_id sid_of s) (filter (ends step.what) ks) (omega (arith, some, split, once)) in
      ap (λ v. is_socket v s) left
      ∙ is_socket-without_sockets (filter (ends step.what) ks) (rooms base before) s
      ∙ ap (λ b. if b then false else is_socket (rooms base before) s) gone
      ∙ was s (any-kept (has_id sid_of s) (λ k. not (ends step.what k)) ks stay)

  one-goes : (at t : ℕ) (by : Side) (before : List Step) → Seated before → Seated (record { at = at; what = Ended t by } ∷ before)
  unfolding rooms
  one-goes at t by before was s here =
      let ks = sockets base before in
      let stay : list_any (has_id sid_of s) (filter (λ (k : Socket). not (k.sid == t)) ks) ≡ true
      = sym (ap (list_any (has_id sid_of s)) (sockets-after (record { at = at; what = Ended t by }) before ∙ append-nil (filter (λ (k : Socket). not (k.sid == t)) ks))) ∙ here in
      is_socket-without_socket (rooms base before) t s ∙ on (t == s) refl stay
    where
      on : (b : Bool) → (t == s) ≡ b → list_any (has_id sid_of s) (filter (λ (k : Socket). not (k.sid == t)) (sockets base before)) ≡ true → (not b && is_socket (rooms base before) s) ≡ true
      on true e stay =
          let same : t ≡ s = eqb-true t s e in
          let none = none-without s (sockets base before) in
          let some : list_any (has_id sid_of s) (filter (λ (k : Socket). not (k.sid == s)) (sockets base before)) ≡ true = subst (λ n. list_any (has_id sid_of s) (filter (λ (k : Socket). not (k.sid == n)) (sockets base before)) ≡ true) same stay in
          cc
      on false e stay = was s (any-kept (has_id sid_of s) (λ (k : Socket). not (k.sid == t)) (sockets base before) stay)

  seated-after : (at : ℕ) (before : List Step) → IsLegal base limits before → Seated before → (what : What) → Seated (record { at = at; what = what } ∷ before)
  unfolding sockets_of
  seated-after at before legal was (Opened c) = stays (record { at = at; what = Opened c }) before refl (λ k. refl) (λ s. refl) was
  seated-after at before legal was (Attached k) =
      comes (record { at = at; what = Attached k }) before k (sockets-after (record { at = at; what = Attached k }) before ∙ ap (λ l. l ++ k ∷ []) (filter-true (sockets base before))) (λ s. is_socket-with_socket (rooms base before) k.sid s) was
  seated-after at before legal was (Recovered r) =
      comes (record { at = at; what = Recovered r }) before r.socket (sockets-after (record { at = at; what = Recovered r }) before ∙ ap (λ l. l ++ r.socket ∷ []) (filter-true (sockets base before))) (λ s. is_socket-with_socket_in (rooms base before) r.socket.sid r.rooms s) was
  seated-after at before legal was (Joined t w) = stays (record { at = at; what = Joined t w }) before refl (λ k. refl) (λ s. is_socket-with_pair (rooms base before) t w s) was
  seated-after at before legal was (Left t w) = stays (record { at = at; what = Left t w }) before refl (λ k. refl) (λ s. is_socket-without_pair (rooms base before) t w s) was
  seated-after at before legal was (AllJoined m) = stays (record { at = at; what = AllJoined m }) before refl (λ k. refl) (λ s. is_socket-with_members (rooms base before) m.changed m.room s) was
  seated-after at before legal was (AllLeft m) = stays (record { at = at; what = AllLeft m }) before refl (λ k. refl) (λ s. is_socket-without_members (rooms base before) m.changed m.room s) was
  seated-after at before legal was (Cast b) = stays (record { at = at; what = Cast b }) before refl (λ k. refl) (λ s. refl) was
  seated-after at before legal was (Told m) = stays (record { at = at; what = Told m }) before refl (λ k. refl) (λ s. refl) was
  seated-after at before legal was (Took c m n) = stays (record { at = at; what = Took c m n }) before refl (λ k. refl) (λ s. refl) was
  seated-after at before legal was (Parked c) = go (record { at = at; what = Parked c }) before legal refl refl was
  seated-after at before legal was (Ended t by) = one-goes at t by before was
  seated-after at before legal was (AllEnded d) = go (record { at = at; what = AllEnded d }) before legal refl refl was
  seated-after at before legal was (Closed c) = go (record { at = at; what = Closed c }) before legal refl refl was
  seated-after at before legal was Swept = stays (record { at = at; what = Swept }) before refl (λ k. refl) (λ s. refl) was

  base-seated : IsSound base limits [] → Seated []
  unfolding socket_with
  base-seated sound s here = sound.seated s ∙ is_some-find (has_id sid_of s) (sockets base []) ∙ here

  -- in a legal journal the rooms know each connected socket
  pub seated : (journal : List Step) → IsLegal base limits journal → Seated journal
  unfolding IsLegal
  seated [] legal = base-seated legal
  seated (step ∷ before) legal = seated-after step.at before legal.2 (seated before legal.2) step.what
