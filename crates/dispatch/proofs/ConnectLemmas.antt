-- What a CONNECT does, from what its parts do.
use Rattle.std.proofs.Common.{◌≡◌, ◌≢◌, ℕ, ◌+◌, ◌/◌, ◌%◌, ◌==◌, Bool, true, false, not, ◌||◌, cond, List, [], ◌∷◌, ◌++◌, refl, ◌∙◌, ap, subst, arith, nat_lt, get_or, inr, Option, None, Some, Ok, Err, OnOk, IfErr}
use native.Mathlib.Numerals.{unary_clauses}
use Rattle.std.specs.Prelude.{codes, bytes_eq, if◌then◌else◌}
use Rattle.std.specs.Char.{digit_char}
use Rattle.std.specs.List.{list_any}
use Rattle.std.specs.Option.{option_map}
use Rattle.std.proofs.lemmas.Bool.Decides.{nat_tests}
use Rattle.std.proofs.lemmas.List.Concat.{flat_map-cons}
use Rattle.std.proofs.lemmas.List.Folds.{list_any-append, list_any_none}
use Rattle.json.specs.Print.{escape_letter, escape_byte, escape, quoted}
use Rattle.eio_wire.specs.Payload.{IsWhole}
use Rattle.sio_wire.specs.Header.{space_text}
use Rattle.journal.specs.declared.error.HubError.TheVariants as hub
use Rattle.journal.specs.declared.step.What.TheVariants as what
use Rattle.journal.specs.Journal.{History}
use Rattle.journal.specs.Plain.{PlainRecovery}
use Rattle.journal.specs.Membership.{is_open, is_connected, is_space, place_of, socket_of, sid_of}
use Rattle.events.specs.declared.app.Effect.{Effect}
use Rattle.events.specs.declared.app.Who.{Who}
use Rattle.events.specs.declared.cause.Cause.TheVariants as cause
use Rattle.events.specs.App.{Policy}
use Rattle.dispatch.specs.Commands.{Makes, IsRefused, IsSeated, seat}
use Rattle.dispatch.specs.Effects.{Scene, told_to, ActsInTurn, StopsAfter}
use Rattle.dispatch.specs.Following.{is_clean}
use Rattle.dispatch.specs.Runs.{Runs}
use Rattle.dispatch.proofs.StepLemmas.{itself, open-still, connected-then, own-then}
use Rattle.dispatch.specs.Scene.{visit_at}
use Rattle.dispatch.specs.Packets.{Course, Upshot, refusal_entry, ClosesFor, Refuses, DoesAll, DrawsNone, MayRecover, AsksToConnect}

-- ---- the text of a refusal holds no U+001E

abbrev Lacks : List ℕ → Type 0
Lacks text = list_any (λ b. b == 30) text ≡ false

other : (b : ℕ) → b ≢ 30 → (b == 30) ≡ false
other b differs = grind (arith, nat_tests, differs)

lacks : (text : List ℕ) → IsWhole text → Lacks text
lacks text whole = list_any_none (λ b. b == 30) text (λ k d within. other (get_or text k d) (whole k d within))

both : (xs ys : List ℕ) → Lacks xs → Lacks ys → Lacks (xs ++ ys)
both xs ys a b = list_any-append (λ c. c == 30) xs ys ∙ rw (a, b) refl

lacks-space : (space : List ℕ) → Lacks space → Lacks (space_text space)
lacks-space space none = on (bytes_eq space (codes "/"))
  where
    on : (b : Bool) → Lacks (if b then [] else space ++ codes ",")
    on true = refl
    on false = both space (codes ",") none refl

letter-other : (x : ℕ) → (x == 30) ≡ false → (escape_letter x == 30) ≡ false
letter-other x differs = on ((x == 34) || (x == 92)) (x == 8) (x == 12) (x == 10) (x == 13) (x == 9)
  where
    on : (quote back feed line turn tab : Bool) → (cond quote x (cond back 98 (cond feed 102 (cond line 110 (cond turn 114 (cond tab 116 0))))) == 30) ≡ false
    on true back feed line turn tab = differs
    on false true feed line turn tab = refl
    on false false true line turn tab = refl
    on false false false true turn tab = refl
    on false false false false true tab = refl
    on false false false false false true = refl
    on false false false false false false = refl

digit-other : (d : ℕ) → (digit_char d == 30) ≡ false
digit-other d = on (nat_lt d 10)
  where
    on : (b : Bool) → (cond b (48 + d) (87 + d) == 30) ≡ false
    on true = grind (arith, nat_tests)
    on false = grind (arith, nat_tests)

lacks-byte : (x : ℕ) → Lacks (escape_byte x)
unfolding escape_byte
lacks-byte x = on (x == 30) refl
  where
    short : (b small : Bool) → (x == 30) ≡ false → Lacks (cond b (92 ∷ escape_letter x ∷ []) (cond small (92 ∷ 117 ∷ 48 ∷ 48 ∷ digit_char (x / 16) ∷ digit_char (x % 16) ∷ []) (x ∷ [])))
    short true small differs = rw (letter-other x differs) refl
    short false true differs = rw (digit-other (x / 16), digit-other (x % 16)) refl
    short false false differs = rw differs refl

    on : (b : Bool) → (x == 30) ≡ b → Lacks (cond (nat_lt 0 (escape_letter x)) (92 ∷ escape_letter x ∷ []) (cond (nat_lt x 32) (92 ∷ 117 ∷ 48 ∷ 48 ∷ digit_char (x / 16) ∷ digit_char (x % 16) ∷ []) (x ∷ [])))
    on true same = let is : x ≡ 30 = grind (arith, nat_tests, same) in rw is refl
    on false differs = short (nat_lt 0 (escape_letter x)) (nat_lt x 32) differs

lacks-escape : (text : List ℕ) → Lacks (escape text)
lacks-escape [] = refl
lacks-escape (x ∷ text) = rw (flat_map-cons escape_byte x text) (both (escape_byte x) (escape text) (lacks-byte x) (lacks-escape text))

pub clean-refusal : (space message : List ℕ) → IsWhole space → is_clean (refusal_entry space message) ≡ true
clean-refusal space message whole =
    let named = codes "4" ++ space_text space in
    let with_key = named ++ codes "{\"message\":" in
    let with_message = with_key ++ quoted message in
    ap not
    (both with_message (codes "}")
    (both with_key (quoted message)
    (both named (codes "{\"message\":") (both (codes "4") (space_text space) refl (lacks-space space (lacks space whole))) refl)
    (both (escape message) (34 ∷ []) (lacks-escape message) refl))
    refl)

-- ---- connecting

-- two ids were drawn
pub drawn-two : (first second third : ℕ → ℕ) → second ≡ (λ k. first (k + 1)) → third ≡ (λ k. second (k + 1)) → third ≡ (λ k. first (k + 2))
drawn-two first second third once twice = twice ∙ ap (λ (ids : ℕ → ℕ). λ k. ids (k + 1)) once ∙ simp unary_clauses

-- the client is closed, since its outbox has no space for the refusal
pub refuses-full : (c now : ℕ) (space message : List ℕ) (s : Scene) (result : Upshot) (t : Scene) → IsRefused s.history now (told_to c (refusal_entry space message)) hub.OutboxFull
    → ClosesFor cause.OutboxFull (visit_at c now) s result t → Refuses space message (visit_at c now) s result t
refuses-full c now space message s (Ok done) t refused closes = inr (refused, closes)
refuses-full c now space message s (Err e) t refused (fails, stops) = (inr (refused, fails), stops)

-- all of the effects are done, or they stop at one
pub does-all : (who : Who) (now before : ℕ) (effects : List Effect) (s : Scene) (result : Upshot) (t : Scene)
    → OnOk result (Runs (ActsInTurn who now) effects s t) → IfErr result (λ e. StopsAfter who now before effects s e t) → DoesAll who now before effects s result t
does-all who now before effects s (Ok done) t acts stops = acts
does-all who now before effects s (Err e) t acts stops = stops

-- the socket that was just connected
pub seated-new : (who : Who) (pid now : ℕ) (h g : History) → Makes h now (what.Attached (seat who pid h)) g → is_open h.base h.journal who.client ≡ true
    → is_space h.limits (place_of h.limits who.space) ≡ true → IsSeated who g
seated-new who pid now h g makes is there =
    let socket = seat who pid h in
    record {
      open_client = open-still h g now (what.Attached socket) makes.1 who.client is refl;
      connected = connected-then h g now (what.Attached socket) makes.1 socket refl;
      own = own-then h g now (what.Attached socket) makes.1 socket who refl (rw (itself who.sid, itself who.client) refl);
      in_space = rw makes.1 there;
    }

-- the socket of a session that came back
pub seated-back : (who : Who) (now : ℕ) (r : PlainRecovery) (h g : History) → r.socket.client ≡ who.client → r.socket.sid ≡ who.sid → Makes h now (what.Recovered r) g
    → is_open h.base h.journal who.client ≡ true → is_space h.limits (place_of h.limits who.space) ≡ true → IsSeated who g
seated-back who now r h g his its makes is there =
    record {
      open_client = open-still h g now (what.Recovered r) makes.1 who.client is refl;
      connected = subst (λ s. is_connected sid_of g.base g.journal s ≡ true) its (connected-then h g now (what.Recovered r) makes.1 r.socket refl);
      own = own-then h g now (what.Recovered r) makes.1 r.socket who refl (rw (its, his, itself who.sid, itself who.client) refl);
      in_space = rw makes.1 there;
    }

none-mapped : {A B : Type 0} (f : A → B) (o : Option A) → option_map f o ≡ None → o ≡ None
none-mapped f None none = refl
none-mapped f (Some x) none = absurd (cc none)

module _ (policy : Policy) (c : ℕ) (space payload : List ℕ) (now : ℕ) (s : Course) (result : Upshot) (t : Course) where
  -- a CONNECT to a namespace that isn't there
  pub asks-nowhere : is_space s.scene.history.limits (place_of s.scene.history.limits space) ≡ false → DrawsNone (Refuses space (codes "Invalid namespace") (visit_at c now)) s result t
      → AsksToConnect policy space payload (visit_at c now) s result t
  asks-nowhere none refuses = rw (none, AsksToConnect) refuses

  -- one to a namespace that the client hasn't joined
  pub asks-free : is_space s.scene.history.limits (place_of s.scene.history.limits space) ≡ true
      → option_map sid_of (socket_of s.scene.history.base s.scene.history.journal c (place_of s.scene.history.limits space)) ≡ None
      → MayRecover policy space payload (visit_at c now) s result t → AsksToConnect policy space payload (visit_at c now) s result t
  asks-free there free comes =
      rw (there, none-mapped sid_of (socket_of s.scene.history.base s.scene.history.journal c (place_of s.scene.history.limits space)) free, AsksToConnect) comes
