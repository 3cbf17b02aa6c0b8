use Rattle.std.proofs.Common.{◌≡◌, Some, None, take, arith, rules, ◌∙◌, sym, lit<}
use Rattle.std.proofs.lemmas.Str.Pattern.{rfind_char}
use Rattle.sio_wire.proofs.OffsetLemmas.{no_bracket, before_last_bracket}
use Rattle.sio_wire.proofs.header.before_bracket.Goals as goal

pub returns-in_err-last-clause-none : goal.returns-in_err-last-clause-none
returns-in_err-last-clause-none c = (λ _. no_bracket _ (rfind_char 93 c.args.payload.now None c.in_err-last.ensures.cases (lit< tt)), λ _. search rules)

pub returns-clause-front : goal.returns-clause-front
returns-clause-front c =
    let last = rfind_char 93 c.args.payload.now (Some c.in_ok-last.last) c.in_ok-last.ensures.cases (lit< tt) in
    let cut : c.range.result.now ≡ take c.in_ok-last.last c.args.payload.now = grind (arith, c.range.ensures.value) in
    cut ∙ sym (before_last_bracket _ _ last.0 last.1 last.2)
