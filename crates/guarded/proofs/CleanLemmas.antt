-- No event for the warden holds U+001E, nor does what it wants done.
use Rattle.std.proofs.Common.{◌≡◌, ◌∙◌, ap, ℕ, List, [], ◌∷◌, ◌++◌, Option, Some, None, Result, Ok, Err, decimal, sym, subst}
use Rattle.std.specs.Prelude.{codes, IfOk, option_and_then, option_map}
use Rattle.json.specs.Token.{Token, begin_array, end_array, string, number}
use Rattle.json.specs.Json.{document}
use Rattle.json.specs.Print.{print, token_text}
use Rattle.terms.specs.Ids.{id_digits}
use Rattle.journal.specs.declared.ending.Ending.{Ending}
use Rattle.journal.specs.declared.ending.Ending.TheVariants.{Saved, Closed, Alone, Together}
use Rattle.eio_wire.specs.Payload.{IsWhole}
use Rattle.events.specs.App.{IsCleanEffect, AllClean, IsCleanVerdict, PlainVerdict, Accepted, Refused}
use Rattle.events.specs.Selection.{PlainSelection}
use Rattle.events.specs.declared.app.Arrived.{Arrived}
use Rattle.events.specs.declared.app.Arrived.TheVariants.{Connected, Returned, Event, Answer, Stray}
use Rattle.events.specs.declared.app.Effect.{Effect}
use Rattle.events.specs.declared.app.Who.{Who}
use Rattle.guarded.proofs.PrintLemmas.{AreWhole, all_append, whole-print, whole-decimal, whole-token_text}
use Rattle.tokens.specs.Expires.{expires_in}
use Rattle.guarded.specs.Telling.{head, came_text, word_text, told, told_of_end, events_of}
use Rattle.guarded.specs.Commands.{endings, meant, commanded}

AreWhole-head : (name space id : List ℕ) (ts : List Token) → AreWhole ts → AreWhole (head name space id ++ ts)
AreWhole-head name space id ts are =
    (whole-token_text begin_array tt, (whole-token_text (string name) tt, (whole-token_text (string space) tt, (whole-token_text (string id) tt, are))))

whole-came : (who : Who) (expires : ℕ) → IsWhole (came_text who expires)
whole-came who expires =
    let rest = number (decimal expires) ∷ end_array ∷ [] in
    whole-print (head (codes "came") who.space (id_digits who.sid) ++ rest)
    (AreWhole-head (codes "came") who.space (id_digits who.sid) rest (whole-decimal expires, (whole-token_text end_array tt, tt)))

whole-word : (word : List ℕ) (who : Who) → IsWhole (word_text word who)
whole-word word who =
    let rest = end_array ∷ [] in
    whole-print (head word who.space (id_digits who.sid) ++ rest)
    (AreWhole-head word who.space (id_digits who.sid) rest (whole-token_text end_array tt, tt))

clean-came : (who : Who) (expires : Option ℕ) → AllClean (events_of (option_map (came_text who) expires))
clean-came who None = tt
clean-came who (Some expires) = (whole-came who expires, tt)

clean-told : (who : Who) (arrived : Arrived) → AllClean (events_of (told who arrived))
clean-told who (Connected newcomer) = clean-came who (expires_in newcomer.claims)
clean-told who (Returned rooms) = (whole-word (codes "back") who, tt)
clean-told who (Event message) = tt
clean-told who (Answer answer) = tt
clean-told who (Stray stray) = tt

clean-told_of_end : (who : Who) (ending : Ending) → AllClean (events_of (Some (told_of_end who ending)))
clean-told_of_end who Saved = (whole-word (codes "away") who, tt)
clean-told_of_end who Closed = (whole-word (codes "gone") who, tt)
clean-told_of_end who (Alone side) = (whole-word (codes "gone") who, tt)
clean-told_of_end who Together = (whole-word (codes "gone") who, tt)

clean-endings : (selection : Option PlainSelection) → AllClean (endings selection)
clean-endings None = tt
clean-endings (Some selection) = (tt, tt)

pub clean-commanded : (arrived : Arrived) → AllClean (commanded arrived)
clean-commanded (Event message) = clean-endings (option_and_then meant (document message.payload))
clean-commanded (Connected newcomer) = tt
clean-commanded (Returned rooms) = tt
clean-commanded (Answer answer) = tt
clean-commanded (Stray stray) = tt

-- what is told, and then clean effects
pub clean-with : (who : Who) (arrived : Arrived) (inner : List Effect) → AllClean inner → AllClean (events_of (told who arrived) ++ inner)
clean-with who arrived inner clean = all_append IsCleanEffect (events_of (told who arrived)) inner (clean-told who arrived) clean

pub clean-with_end : (who : Who) (ending : Ending) (inner : List Effect) → AllClean inner → AllClean (events_of (Some (told_of_end who ending)) ++ inner)
clean-with_end who ending inner clean =
    all_append IsCleanEffect (events_of (Some (told_of_end who ending))) inner (clean-told_of_end who ending) clean

-- ---- what calls give

-- of the effects behind what is told
pub clean-decided : {V E : Type 0} (items : V → List Effect) (who : Who) (arrived : Arrived) (said : Option (List ℕ)) (inner : List Effect) (P : Type 0) (r : Result V E)
    → said ≡ told who arrived → (P → AllClean inner) → IfOk r (λ v. items v ≡ events_of said ++ inner) → IfOk r (λ v. P → AllClean (items v))
clean-decided items who arrived said inner P (Ok v) same clean is = λ whole.
    subst AllClean (sym (is ∙ ap (λ (t : Option (List ℕ)). events_of t ++ inner) same)) (clean-with who arrived inner (clean whole))
clean-decided items who arrived said inner P (Err e) same clean is = tt

-- of those behind what is told of an end
pub clean-ended : {V E : Type 0} (items : V → List Effect) (who : Who) (ending : Ending) (said : List ℕ) (inner : List Effect) (r : Result V E)
    → said ≡ told_of_end who ending → AllClean inner → IfOk r (λ v. items v ≡ events_of (Some said) ++ inner) → IfOk r (λ v. AllClean (items v))
clean-ended items who ending said inner (Ok v) same clean is =
    subst AllClean (sym (is ∙ ap (λ (t : List ℕ). events_of (Some t) ++ inner) same)) (clean-with_end who ending inner clean)
clean-ended items who ending said inner (Err e) same clean is = tt

-- of those of a command
pub clean-command : {V E : Type 0} (items : V → List Effect) (arrived : Arrived) (P : Type 0) (r : Result V E) → IfOk r (λ v. items v ≡ commanded arrived) → IfOk r (λ v. P → AllClean (items v))
clean-command items arrived P (Ok v) is = λ whole. subst AllClean (sym is) (clean-commanded arrived)
clean-command items arrived P (Err e) is = tt
