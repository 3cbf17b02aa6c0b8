use Rattle.std.proofs.Common.{◌≡◌, [], ◌∷◌, ◌++◌, Some, None, ap, ◌∙◌, refl, sym, append_assoc, arith}
use Rattle.std.proofs.lemmas.List.{append-nil}
use Rattle.json.specs.Json.{after_end_array}
use Rattle.json.specs.Token.{end_array, string}
use Rattle.json.proofs.Grammar.{closed_array}
use Rattle.sio_wire.proofs.TextsLemmas.{EndsInTexts-behind, EndsInTexts-goes_on, EndsInTexts-over}
use Rattle.sio_wire.proofs.tree.texts_left.Goals as goal

pub texts-init : goal.texts-init
texts-init c = record {
  found = λ rest left. (rest, left, rw c.new-found.ensures.items refl);
  left = λ ends. ends;
}

pub texts-preserved : goal.texts-preserved
texts-preserved c =
    let text = c.in-Some.text.now in
    let rest = c.next_text.new.reader in
    let same : c.take_end_array.new.self ≡ c.texts.reader = grind arith in
    let first : c.texts.reader ≡ string text ∷ rest = sym same ∙ c.in-Some.ensures in
    let pushed : c.push.new.self.items ≡ c.texts.found.items ++ Some text ∷ [] = grind arith in
    record {
      found = λ texts left.
          rw (pushed, append_assoc) (c.texts.invariant.found (text ∷ texts) (first ∙ ap (λ more. string text ∷ more) left));
      left = λ ends. (EndsInTexts-behind text rest).0 (rw first at (c.texts.invariant.left ends));
    }

pub returns-in_default : goal.returns-in_default
returns-in_default c = λ ends.
    let going : after_end_array c.texts.reader ≡ None = grind arith in
    let same : c.take_end_array.new.self ≡ c.texts.reader = grind arith in
    let text = EndsInTexts-goes_on c.texts.reader going (c.texts.invariant.left ends) in
    c.in_default.ensures text.0 text.1 (same ∙ text.2)

pub returns-in-None : goal.returns-in-None
returns-in-None c =
    let over : after_end_array c.texts.reader ≡ Some c.take_end_array.new.self = grind arith in
    let none : c.take_end_array.new.self ≡ [] = grind arith in
    let closed = closed_array c.texts.reader c.take_end_array.new.self over in
    let all = c.texts.invariant.found [] (closed ∙ ap (λ more. end_array ∷ more) none) in
    (all.0, all.1, simp append-nil at all.2)

pub returns-in-Some-next : goal.returns-in-Some-next
returns-in-Some-next c = λ ends.
    let over : after_end_array c.texts.reader ≡ Some c.take_end_array.new.self = grind arith in
    let none = (EndsInTexts-over c.texts.reader c.take_end_array.new.self over).0 (c.texts.invariant.left ends) in
    grind (arith, none)
