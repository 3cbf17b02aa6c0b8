-- No effect of an event without U+001E holds it.
use Rattle.std.proofs.Common.{◌≡◌, ◌≢◌, ℕ, Bool, true, false, List, [], ◌∷◌, ◌++◌, Option, Some, None, Result, Ok, Err, sym, subst}
use Rattle.std.specs.Prelude.{codes, if◌then◌else◌, is_some, IfOk}
use Rattle.std.specs.List.{AllByRecursion}
use Rattle.std.proofs.lemmas.List.Elements.{All-nil, All-cons}
use Rattle.eio_wire.specs.Payload.{IsWhole}
use Rattle.events.specs.App.{IsCleanArrival, IsCleanEffect, AllClean}
use Rattle.events.specs.declared.app.Message.{Message}
use Rattle.events.specs.declared.app.Arrived.{Arrived}
use Rattle.events.specs.declared.app.Arrived.TheVariants.{Event}
use Rattle.events.specs.declared.app.Effect.{Effect}
use Rattle.events.specs.declared.app.Who.{Who}
use Rattle.relay.specs.declared.relay_app.Word.{Word}
use Rattle.relay.specs.declared.relay_app.Word.TheVariants.{Join, Leave, Say, Two, But, Quiet, All, Ask, Bye, Pull, Push, Kick, Other}
use Rattle.relay.specs.Relay.{effects_of, effect_for, to_two, to_one_but, pull, push, listed, farewell, reply, texts_of, word_in, room_in}

pub all_append : {A : Type 0} (P : A → Type 0) (xs ys : List A) → AllByRecursion P xs → AllByRecursion P ys → AllByRecursion P (xs ++ ys)
all_append P [] ys front back = back
all_append P (x ∷ xs) ys front back = (front.0, all_append P xs ys front.1 back)

clean-two : (who : Who) (r : List ℕ) (q : Option (List ℕ)) (m : Message) → IsWhole m.payload → AllClean (listed (to_two who r q m))
clean-two who r (Some q) m whole = (whole, tt)
clean-two who r None m whole = tt

clean-one_but : (who : Who) (r : List ℕ) (q : Option (List ℕ)) (m : Message) → IsWhole m.payload → AllClean (listed (to_one_but who r q m))
clean-one_but who r (Some q) m whole = (whole, tt)
clean-one_but who r None m whole = tt

clean-pull : (who : Who) (r : List ℕ) (q : Option (List ℕ)) → AllClean (listed (pull who r q))
clean-pull who r (Some q) = (tt, tt)
clean-pull who r None = tt

clean-push : (who : Who) (r : List ℕ) (q : Option (List ℕ)) → AllClean (listed (push who r q))
clean-push who r (Some q) = (tt, tt)
clean-push who r None = tt

clean-first : (who : Who) (w : Word) (r q : Option (List ℕ)) (m : Message) → IsWhole m.payload → AllClean (listed (effect_for who w r q m))
clean-first who Join (Some r) q m whole = (tt, tt)
clean-first who Leave (Some r) q m whole = (tt, tt)
clean-first who Say (Some r) q m whole = (whole, tt)
clean-first who Two (Some r) q m whole = clean-two who r q m whole
clean-first who But (Some r) q m whole = clean-one_but who r q m whole
clean-first who Quiet (Some r) q m whole = (whole, tt)
clean-first who All (Some r) q m whole = (whole, tt)
clean-first who All None q m whole = (whole, tt)
clean-first who Ask (Some r) q m whole = (whole, tt)
clean-first who Ask None q m whole = (whole, tt)
clean-first who Pull (Some r) q m whole = clean-pull who r q
clean-first who Push (Some r) q m whole = clean-push who r q
clean-first who Kick (Some r) q m whole = (tt, tt)
clean-first who Pull None q m whole = tt
clean-first who Push None q m whole = tt
clean-first who Kick None q m whole = tt
clean-first who Bye (Some r) q m whole = tt
clean-first who Other (Some r) q m whole = tt
clean-first who Join None q m whole = tt
clean-first who Leave None q m whole = tt
clean-first who Say None q m whole = tt
clean-first who Two None q m whole = tt
clean-first who But None q m whole = tt
clean-first who Quiet None q m whole = tt
clean-first who Bye None q m whole = tt
clean-first who Other None q m whole = tt

brackets : IsWhole (codes "[]")
brackets = All-cons (λ b. b ≢ 30) 91 (93 ∷ []) (λ e. cc e) (All-cons (λ b. b ≢ 30) 93 [] (λ e. cc e) (All-nil (λ b. b ≢ 30)))

clean-reply : (asked : Bool) → AllClean (if asked then reply ∷ [] else [])
clean-reply true = (brackets, tt)
clean-reply false = tt

clean-farewell : (w : Word) → AllClean (farewell w)
clean-farewell Bye = (tt, tt)
clean-farewell Join = tt
clean-farewell Leave = tt
clean-farewell Say = tt
clean-farewell Two = tt
clean-farewell But = tt
clean-farewell Quiet = tt
clean-farewell All = tt
clean-farewell Ask = tt
clean-farewell Pull = tt
clean-farewell Push = tt
clean-farewell Kick = tt
clean-farewell Other = tt

clean-effects : (who : Who) (m : Message) → IsWhole m.payload → AllClean (effects_of who m)
clean-effects who m whole =
    let texts = texts_of m.payload in
    let first = listed (effect_for who (word_in texts) (room_in 1 texts) (room_in 2 texts) m) in
    let answer = if is_some m.id then reply ∷ [] else [] in
    all_append IsCleanEffect (first ++ answer) (farewell (word_in texts))
    (all_append IsCleanEffect first answer (clean-first who (word_in texts) (room_in 1 texts) (room_in 2 texts) m whole) (clean-reply (is_some m.id)))
    (clean-farewell (word_in texts))

clean-arrived : (who : Who) (m : Message) (arrived : Arrived) (effects : List Effect) → arrived ≡ Event m → effects ≡ effects_of who m → IsCleanArrival arrived → AllClean effects
clean-arrived who m arrived effects is decided clean =
    subst AllClean (sym decided) (clean-effects who m (subst IsCleanArrival is clean))

-- of the effects that were decided
pub clean-decided : {V E : Type 0} (items : V → List Effect) (who : Who) (m : Message) (arrived : Arrived) (r : Result V E) → arrived ≡ Event m
    → IfOk r (λ effects. items effects ≡ effects_of who m) → IfOk r (λ effects. IsCleanArrival arrived → AllClean (items effects))
clean-decided items who m arrived (Ok effects) is decided = clean-arrived who m arrived (items effects) is decided
clean-decided items who m arrived (Err e) is decided = tt
