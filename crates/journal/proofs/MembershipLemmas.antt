-- What one more step makes of the clients and the sockets.
use Rattle.std.proofs.Common.{◌≡◌, ℕ, ◌==◌, Bool, true, false, not, ◌||◌, List, [], ◌∷◌, ◌++◌, filter, refl, ◌∙◌, ap, nat_eq, append-nil}
use Rattle.std.specs.List.{find}
use Rattle.std.specs.Set.{is_member}
use Rattle.std.proofs.lemmas.List.Folds.{list_any-append}
use Rattle.journal.specs.declared.socket.Socket.{Socket}
use Rattle.journal.specs.declared.step.Step.{Step}
use Rattle.journal.specs.declared.step.What.TheVariants.{Opened}
use Rattle.journal.specs.Plain.{PlainBase}
use Rattle.journal.specs.Membership.{closes, opens, open_clients, is_open, connects, ends, sockets, has_id, socket_with, sockets_of}

pub filter-all : {A : Type 0} (p : A → Bool) (xs : List A) → ((x : A) → p x ≡ true) → filter p xs ≡ xs
filter-all p [] h = refl
filter-all p (x ∷ xs) h = rw (h x) (ap (λ l. x ∷ l) (filter-all p xs h))

module _ (base : PlainBase) (step : Step) (before : List Step) where
  -- a step that opens and closes no client
  pub clients-quiet : opens step.what ≡ [] → ((c : ℕ) → closes step.what c ≡ false) → open_clients base (step ∷ before) ≡ open_clients base before
  unfolding open_clients
  clients-quiet none stay =
      ap (λ l. filter (λ c. not (closes step.what c)) (open_clients base before) ++ l) none
      ∙ append-nil (filter (λ c. not (closes step.what c)) (open_clients base before))
      ∙ filter-all (λ c. not (closes step.what c)) (open_clients base before) (λ c. ap not (stay c))

  pub is_open-quiet : opens step.what ≡ [] → ((c : ℕ) → closes step.what c ≡ false) → (c : ℕ) → is_open base (step ∷ before) c ≡ is_open base before c
  unfolding is_open
  is_open-quiet none stay c = ap (λ cs. is_member nat_eq cs c) (clients-quiet none stay)

  -- a step that connects and ends no socket
  pub sockets-quiet : connects step.what ≡ [] → ((k : Socket) → ends step.what k ≡ false) → sockets base (step ∷ before) ≡ sockets base before
  unfolding sockets
  sockets-quiet none stay =
      ap (λ l. filter (λ k. not (ends step.what k)) (sockets base before) ++ l) none
      ∙ append-nil (filter (λ k. not (ends step.what k)) (sockets base before))
      ∙ filter-all (λ k. not (ends step.what k)) (sockets base before) (λ k. ap not (stay k))

  pub sockets_of-quiet : connects step.what ≡ [] → ((k : Socket) → ends step.what k ≡ false) → (c : ℕ) → sockets_of base (step ∷ before) c ≡ sockets_of base before c
  unfolding sockets_of
  sockets_of-quiet none stay c = ap (filter (λ (k : Socket). k.client == c)) (sockets-quiet none stay)

  pub socket_with-quiet : (id : Socket → ℕ) → connects step.what ≡ [] → ((k : Socket) → ends step.what k ≡ false) → (x : ℕ) → socket_with id base (step ∷ before) x ≡ socket_with id base before x
  unfolding socket_with
  socket_with-quiet id none stay x = ap (find (has_id id x)) (sockets-quiet none stay)

module _ (base : PlainBase) (at d : ℕ) (before : List Step) where
  pub clients-opened : open_clients base (record { at = at; what = Opened d } ∷ before) ≡ open_clients base before ++ d ∷ []
  unfolding open_clients
  clients-opened = ap (λ l. l ++ d ∷ []) (filter-all (λ c. not false) (open_clients base before) (λ c. refl))

  or-false : (b : Bool) → (b || false) ≡ b
  or-false true = refl
  or-false false = refl

  pub is_open-opened : (c : ℕ) → is_open base (record { at = at; what = Opened d } ∷ before) c ≡ (is_open base before c || nat_eq c d)
  unfolding is_open
  is_open-opened c =
      ap (λ cs. is_member nat_eq cs c) clients-opened
      ∙ list_any-append (nat_eq c) (open_clients base before) (d ∷ [])
      ∙ ap (λ b. is_member nat_eq (open_clients base before) c || b) (or-false (nat_eq c d))
