use Rattle.std.proofs.Common.{◌≡◌, ◌<◌, ◌∙◌, ap, sym, take, length, arith, add-one}
use Rattle.std.proofs.lemmas.Bool.{eqb-true, eq-eqb}
use Rattle.std.proofs.lemmas.Slice.Eq.{bytes_eq-Decides}
use Rattle.std.proofs.lemmas.List.{take_all}
use Rattle.tokens.proofs.SecretLemmas.{same_bools, none_differs, still_zero, one_more, one_less}
use Rattle.tokens.proofs.keys.is_same.Goals as goal

pub loop-index-preserved : goal.loop-index-preserved
loop-index-preserved c =
    let l = c.loop-index in
    let text = c.args.text.now in
    let secret = c.args.secret.now in
    let next = add-one l.index in
    let within : l.index < length text = omega arith in
    let within_too : l.index < length secret = omega arith in
    record {
      same = λ none.
          let parts = none_differs _ _ _ none in
          ap (λ n. take n text) next ∙ one_more l.index text secret within within_too (l.invariant.same parts.0) parts.1 ∙ ap (λ n. take n secret) (sym next);
      zero = λ same.
          let parts = one_less l.index text secret within within_too (ap (λ n. take n text) (sym next) ∙ same ∙ ap (λ n. take n secret) next) in
          still_zero _ _ _ (l.invariant.zero parts.0) parts.1;
    }

pub returns : goal.returns
returns c =
    let l = c.loop-index in
    let text = c.args.text.now in
    let secret = c.args.secret.now in
    let decides = bytes_eq-Decides text secret in
    let whole : take l.index text ≡ text = take_all l.index text (omega arith) in
    let whole_too : take l.index secret ≡ secret = take_all l.index secret (omega arith) in
    same_bools _ _
    (λ zero. decides.1 (sym whole ∙ l.invariant.same (eqb-true _ 0 zero) ∙ whole_too))
    (λ same. eq-eqb _ 0 (l.invariant.zero (whole ∙ decides.0 same ∙ sym whole_too)))
