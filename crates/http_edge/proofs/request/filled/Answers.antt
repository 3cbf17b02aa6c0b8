use Rattle.std.proofs.Common.{rules, arith, refl, ap, length, ◌≡◌, ◌∙◌, ◌+◌, ◌≤◌}
use Rattle.http_edge.proofs.RequestLemmas.{no_text, request_in, rest_length, sum_less, tail_all}
use Rattle.http_edge.proofs.request.filled.Goals as goal

pub returns-in_default : goal.returns-in_default
returns-in_default c =
    let whole : c.args.head.len + c.args.head.body_len ≤ length c.args.bytes.items = search (rules, arith) in
    no_text c.args.head c.args.bytes.items _ c.requires whole (rw (c.deref.ensures.value, sum_less c.args.head.len c.args.head.body_len) refl) c.in_default.ensures.cases.0

pub returns : goal.returns
returns c =
    let same : length c.deref.result.now ≡ length c.args.bytes.items = ap length c.deref.ensures.value in
    let whole : c.args.head.len + c.args.head.body_len ≤ length c.args.bytes.items =
    omega (arith, same, c.deref.ensures.len, c.len.ensures, c.if-len-head.false, rest_length c.args.head c.args.bytes.items c.requires) in
    request_in _ c.args.head c.args.bytes.items c.requires whole refl refl refl refl refl
    (rw (← sum_less c.args.head.len c.args.head.body_len) (search rules))
    (rw c.deref-2.ensures.value at c.in_ok-from_slice.ensures.items ∙ tail_all c.args.bytes.items (c.args.head.len + c.args.head.body_len)) (search rules)
