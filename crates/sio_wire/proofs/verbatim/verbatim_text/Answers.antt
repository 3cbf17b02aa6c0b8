use Rattle.std.proofs.Common.{◌≡◌, ◌∷◌, ◌++◌, Some, take, drop, ap, ◌∙◌, sym, subst, arith}
use Rattle.std.proofs.lemmas.List.{take-append-drop}
use Rattle.std.proofs.lemmas.Str.Pattern.{strip_prefix_char}
use Rattle.std.specs.List.{prefix_len}
use Rattle.std.specs.Str.{IsCharBoundary}
use Rattle.sio_wire.specs.Texts.{is_verbatim}
use Rattle.sio_wire.proofs.VerbatimLemmas.{IsCharBoundary-verbatim, Verbatim-front}
use Rattle.sio_wire.proofs.verbatim.verbatim_text.Goals as goal
use Rattle.sio_wire.proofs.verbatim.verbatim_text.Goals.{After-leading_verbatim}

count_is : (c : After-leading_verbatim) → c.leading_verbatim.result ≡ prefix_len is_verbatim c.in_ok-inner.inner.now
count_is c = rw c.as_bytes.ensures.value at (c.leading_verbatim.ensures)

pub split_at-requires : goal.split_at-requires
split_at-requires c = subst (IsCharBoundary c.in_ok-inner.inner.now) (sym (count_is c)) (IsCharBoundary-verbatim c.in_ok-inner.inner.now)

pub returns : goal.returns
returns c =
    let inner = c.in_ok-inner.inner in
    let behind = c.in_ok-behind.behind in
    let count = c.leading_verbatim.result in
    let opened : c.args.rest.now ≡ 34 ∷ inner.now = strip_prefix_char 34 c.args.rest.now (Some inner) c.in_ok-inner.ensures.cases (omega arith) in
    let closed : c.split_at.result.1.now ≡ 34 ∷ behind.now = strip_prefix_char 34 c.split_at.result.1.now (Some behind) c.in_ok-behind.ensures.cases (omega arith) in
    let cut : take count inner.now ++ drop count inner.now ≡ c.split_at.result.0.now ++ 34 ∷ behind.now =
    cc (c.split_at.ensures.front, c.split_at.ensures.back, closed) in
    record {
      whole = opened ∙ ap (λ more. 34 ∷ more) (sym (take-append-drop count inner.now) ∙ cut);
      verbatim = rw (c.split_at.ensures.front, count_is (goal.at.returns c).After-leading_verbatim) (Verbatim-front inner.now);
    }
