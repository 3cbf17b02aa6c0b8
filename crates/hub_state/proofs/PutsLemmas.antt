-- What was put is taken back where something later is refused, and a socket comes after what its client is told.
use Rattle.std.proofs.Common.{◌≡◌, ◌∙◌, ℕ, ◌+◌, ◌-◌, ◌<◌, ◌==◌, Bool, true, false, List, [], ◌∷◌, ◌++◌, length, take, drop, get_or, map, filter, refl, sym, ap, subst, arith, if◌then◌else◌, Option, None, Some, nat_eq, append-nil, append_assoc, length-append}
use Rattle.std.proofs.Math.Seq.{take-append_seam}
use Rattle.std.proofs.lemmas.List.{take-map, map-append, take_more, take-append-drop}
use Rattle.std.proofs.lemmas.List.Concat.{flat_map-append, flat_map-cons}
use Rattle.std.proofs.lemmas.List.Sums.{length-filter}
use Rattle.std.specs.List.{count_by, find, IsDistinct, AllByRecursion}
use Rattle.std.specs.Option.{option_map}
use Rattle.terms.specs.declared.entry.Entry.{Entry}
use Rattle.journal.specs.declared.socket.Socket.{Socket}
use Rattle.journal.specs.Plain.{PlainClient, PlainMessage}
use Rattle.journal.specs.Outboxes.{entries_for}
use Rattle.journal.specs.Casting.{client_of, is_full_in, message_for, messages_for, missing_of, missing, pair_of, receiver_of, with_entries}
use Rattle.journal.specs.Fields.{held_sockets, plus_socket, with_entry}
use Rattle.journal.proofs.CastLemmas.{put-more}
use Rattle.hub_state.specs.Changes.{without_newest}

-- ---- what was put is taken back

front-left : {A : Type 0} (xs ys : List A) → take (length (xs ++ ys) - length ys) (xs ++ ys) ≡ xs
front-left xs ys = (let e : length (xs ++ ys) - length ys ≡ length xs = omega (arith, length-append xs ys) in ap (λ n. take n (xs ++ ys)) e) ∙ take-append_seam xs ys

back-again : (es : List Entry) (n : ℕ) → n ≡ length es → (o : Option PlainClient) → option_map (without_newest n) (option_map (with_entries es) o) ≡ o
back-again es n is None = refl
back-again es n is (Some x) = rw is (ap (λ l. Some (record x { outbox = record x.outbox { waiting = l } })) (front-left x.outbox.waiting es))

times-for : (q : ℕ) (ms : List PlainMessage) → length (filter (λ c. c == q) (map receiver_of ms)) ≡ length (entries_for q (map pair_of ms))
times-for q [] = refl
times-for q (m ∷ ms) = on (m.client == q) (times-for q ms)
  where
    on : (b : Bool) → length (filter (λ c. c == q) (map receiver_of ms)) ≡ length (entries_for q (map pair_of ms))
        → length (if b then m.client ∷ filter (λ c. c == q) (map receiver_of ms) else filter (λ c. c == q) (map receiver_of ms))
        ≡ length (map (λ (p : ℕ × Entry). p.1) (if b then pair_of m ∷ filter (λ (p : ℕ × Entry). p.0 == q) (map pair_of ms) else filter (λ (p : ℕ × Entry). p.0 == q) (map pair_of ms)))
    on true ih = omega (arith, ih)
    on false ih = ih

-- from each client for whom there was a message
pub all-back : (finds mid same new : ℕ → Option PlainClient) (done rest all : List PlainMessage) (cs : List ℕ) (n : ℕ)
    → ((q : ℕ) → mid q ≡ option_map (with_entries (entries_for q (map pair_of done))) (finds q))
    → ((q : ℕ) → same q ≡ mid q)
    → all ≡ done ++ rest → n ≡ length done → cs ≡ map receiver_of all
    → ((q : ℕ) → new q ≡ option_map (without_newest (count_by (λ c. c == q) (take n cs))) (same q))
    → (q : ℕ) → new q ≡ finds q
all-back finds mid same new done rest all cs n put kept split number names back q =
    back q
    ∙ ap (option_map (without_newest (count_by (λ c. c == q) (take n cs)))) (kept q ∙ put q)
    ∙ back-again (entries_for q (map pair_of done)) (count_by (λ c. c == q) (take n cs)) (ap (count_by (λ c. c == q)) named ∙ sym (length-filter (λ c. c == q) (map receiver_of done)) ∙ times-for q done) (finds q)
  where
    named : take n cs ≡ map receiver_of done
    named = ap (take n) names ∙ take-map receiver_of n all ∙ ap (λ l. map receiver_of (take n l)) split ∙ ap (λ k. map receiver_of (take k (done ++ rest))) number ∙ ap (map receiver_of) (take-append_seam done rest)

-- all that was put, from each client for whom there was a message
pub taken-back : (finds mid same new : ℕ → Option PlainClient) (all : List PlainMessage) (cs : List ℕ)
    → ((q : ℕ) → mid q ≡ option_map (with_entries (entries_for q (map pair_of all))) (finds q))
    → ((q : ℕ) → same q ≡ mid q)
    → cs ≡ map receiver_of all
    → ((q : ℕ) → new q ≡ option_map (without_newest (count_by (λ c. c == q) cs)) (same q))
    → (q : ℕ) → new q ≡ finds q
taken-back finds mid same new all cs put kept names back q =
    back q
    ∙ ap (option_map (without_newest (count_by (λ c. c == q) cs))) (kept q ∙ put q)
    ∙ back-again (entries_for q (map pair_of all)) (count_by (λ c. c == q) cs) (ap (count_by (λ c. c == q)) names ∙ sym (length-filter (λ c. c == q) (map receiver_of all)) ∙ times-for q all) (finds q)

-- ---- an entry for one socket after the other, of which no two are of one client

module _ (finds : ℕ → Option PlainClient) (e : Entry) where
  -- so none before had a message for this one's client
  none-yet : (k : Socket) (done rest : List Socket) → IsDistinct nat_eq (map client_of (done ++ k ∷ rest)) → entries_for k.client (map pair_of (messages_for finds e done)) ≡ []
  unfolding IsDistinct
  none-yet k [] rest once = refl
  none-yet k (n ∷ done) rest once =
      ap (λ ms. entries_for k.client (map pair_of ms)) (flat_map-cons (λ (l : Socket). message_for finds e l.client) n done)
      ∙ on (is_full_in finds e n.client) (n.client == k.client) refl (none-yet k done rest once.1)
    where
      later : (ls : List Socket) → AllByRecursion (λ y. nat_eq n.client y ≡ false) (map client_of (ls ++ k ∷ rest)) → nat_eq n.client k.client ≡ false
      later [] all = all.0
      later (l ∷ ls) all = later ls all.1

      on : (full same : Bool) → (n.client == k.client) ≡ same → entries_for k.client (map pair_of (messages_for finds e done)) ≡ []
          → entries_for k.client (map pair_of ((if full then [] else record { client = n.client; entry = e } ∷ []) ++ messages_for finds e done)) ≡ []
      on true same is ih = ih
      on false true is ih = let no = later done once.0 in cc
      on false false is ih = rw is ih

  nothing-put : (o : Option PlainClient) → option_map (with_entries []) o ≡ o
  nothing-put None = refl
  nothing-put (Some x) = ap (λ l. Some (record x { outbox = record x.outbox { waiting = l } })) (append-nil x.outbox.waiting)

  -- these got it, these miss it, and this is held, after these sockets
  abbrev pub IsPut : List Socket → List ℕ → List ℕ → (ℕ → Option PlainClient) → Type 0
  IsPut sockets reached lost new =
      (reached ≡ map receiver_of (messages_for finds e sockets))
      × (lost ≡ missing finds e sockets)
      × ((q : ℕ) → new q ≡ option_map (with_entries (entries_for q (map pair_of (messages_for finds e sockets)))) (finds q))

  module _ (sockets : List Socket) (i : ℕ) (k : Socket) (low : i < length sockets) (is : k ≡ get_or sockets i k) (once : IsDistinct nat_eq (map client_of sockets))
      (reached lost : List ℕ) (mid : ℕ → Option PlainClient) (was : IsPut (take i sockets) reached lost mid) where
    abbrev done : List Socket
    done = take i sockets

    more : take (i + 1) sockets ≡ done ++ k ∷ []
    more = take_more sockets i k low ∙ ap (λ y. done ++ y ∷ []) (sym is)

    split : sockets ≡ done ++ k ∷ drop (i + 1) sockets
    split = sym (take-append-drop (i + 1) sockets) ∙ ap (λ l. l ++ drop (i + 1) sockets) more ∙ append_assoc done (k ∷ []) (drop (i + 1) sockets)

    -- what is held of that client is what was
    untouched : mid k.client ≡ finds k.client
    untouched =
        was.2 k.client
        ∙ ap (λ es. option_map (with_entries es) (finds k.client)) (none-yet k done (drop (i + 1) sockets) (subst (λ ks. IsDistinct nat_eq (map client_of ks)) split once))
        ∙ nothing-put (finds k.client)

    told-more : (b : Bool) → is_full_in mid e k.client ≡ b → messages_for finds e (done ++ k ∷ []) ≡ messages_for finds e done ++ (if b then [] else record { client = k.client; entry = e } ∷ [])
    told-more b full =
        flat_map-append (λ (l : Socket). message_for finds e l.client) done (k ∷ [])
        ∙ ap (λ l. messages_for finds e done ++ l)
        (flat_map-cons (λ (l : Socket). message_for finds e l.client) k []
        ∙ append-nil (message_for finds e k.client)
        ∙ ap (λ t. if t then [] else record { client = k.client; entry = e } ∷ []) (ap (λ o. is_full_in (λ (q : ℕ). o) e k.client) (sym untouched) ∙ full))

    missed-more : (b : Bool) → is_full_in mid e k.client ≡ b → missing finds e (done ++ k ∷ []) ≡ missing finds e done ++ (if b then k.sid ∷ [] else [])
    missed-more b full =
        flat_map-append (missing_of finds e) done (k ∷ [])
        ∙ ap (λ l. missing finds e done ++ l)
        (flat_map-cons (missing_of finds e) k []
        ∙ append-nil (missing_of finds e k)
        ∙ ap (λ t. if t then k.sid ∷ [] else []) (ap (λ o. is_full_in (λ (q : ℕ). o) e k.client) (sym untouched) ∙ full))

    -- one more gets it
    pub put-one : (new : ℕ → Option PlainClient) → is_full_in mid e k.client ≡ false
        → ((q : ℕ) → new q ≡ (if k.client == q then option_map (with_entry e) (mid q) else mid q))
        → IsPut (take (i + 1) sockets) (reached ++ k.client ∷ []) lost new
    put-one new fits now = subst (λ ks. IsPut ks (reached ++ k.client ∷ []) lost new) (sym more) (
      ap (λ l. l ++ k.client ∷ []) was.0 ∙ sym (ap (map receiver_of) (told-more false fits) ∙ map-append receiver_of (messages_for finds e done) (record { client = k.client; entry = e } ∷ [])),
      was.1 ∙ sym (missed-more false fits ∙ append-nil (missing finds e done)),
      λ q. put-more finds mid new (messages_for finds e done) (record { client = k.client; entry = e }) was.2 now q
          ∙ ap (λ ms. option_map (with_entries (entries_for q (map pair_of ms))) (finds q)) (sym (told-more false fits)),
    )

    -- one more misses it
    pub miss-one : (new : ℕ → Option PlainClient) → is_full_in mid e k.client ≡ true → ((q : ℕ) → new q ≡ mid q)
        → IsPut (take (i + 1) sockets) reached (lost ++ k.sid ∷ []) new
    miss-one new full same = subst (λ ks. IsPut ks reached (lost ++ k.sid ∷ []) new) (sym more) (
      was.0 ∙ sym (ap (map receiver_of) (told-more true full ∙ append-nil (messages_for finds e done))),
      ap (λ l. l ++ k.sid ∷ []) was.1 ∙ sym (missed-more true full),
      λ q. same q ∙ was.2 q
          ∙ ap (λ ms. option_map (with_entries (entries_for q (map pair_of ms))) (finds q)) (sym (told-more true full ∙ append-nil (messages_for finds e done))),
    )

-- ---- a socket after what its client is told

abbrev pub seated_in : (ℕ → Option PlainClient) → (c : ℕ) → Socket → ℕ → Option PlainClient
seated_in finds c k q = if c == q then option_map (plus_socket k) (finds q) else finds q

-- it is as if the socket came first
pub told-first : (finds mid new : ℕ → Option PlainClient) (c : ℕ) (k : Socket) (es : List Entry)
    → ((q : ℕ) → mid q ≡ (if c == q then option_map (with_entries es) (finds q) else finds q))
    → ((q : ℕ) → new q ≡ (if c == q then option_map (plus_socket k) (mid q) else mid q))
    → (q : ℕ) → new q ≡ (if c == q then option_map (with_entries es) (seated_in finds c k q) else seated_in finds c k q)
told-first finds mid new c k es first second q = second q ∙ ap (λ o. if c == q then option_map (plus_socket k) o else o) (first q) ∙ on (c == q) (finds q)
  where
    on : (b : Bool) (o : Option PlainClient) → (if b then option_map (plus_socket k) (if b then option_map (with_entries es) o else o) else (if b then option_map (with_entries es) o else o))
        ≡ (if b then option_map (with_entries es) (if b then option_map (plus_socket k) o else o) else (if b then option_map (plus_socket k) o else o))
    on true None = refl
    on true (Some x) = refl
    on false o = refl

-- the client has no socket more at the place
pub still-alone : (finds mid : ℕ → Option PlainClient) (c place : ℕ) (es : List Entry)
    → ((q : ℕ) → mid q ≡ (if c == q then option_map (with_entries es) (finds q) else finds q))
    → find (λ (l : Socket). l.space == place) (held_sockets (finds c)) ≡ None → find (λ (l : Socket). l.space == place) (held_sockets (mid c)) ≡ None
still-alone finds mid c place es put alone = ap (λ o. find (λ (l : Socket). l.space == place) (held_sockets o)) (put c) ∙ ap (find (λ (l : Socket). l.space == place)) (on (c == c) (finds c)) ∙ alone
  where
    on : (b : Bool) (o : Option PlainClient) → held_sockets (if b then option_map (with_entries es) o else o) ≡ held_sockets o
    on true None = refl
    on true (Some x) = refl
    on false o = refl
