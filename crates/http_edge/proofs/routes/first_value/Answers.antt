use Rattle.std.proofs.Common.{◌≡◌, Some, true, false, rules}
use Rattle.std.specs.Prelude.{bytes_eq}
use Rattle.std.specs.Cow.{cow_str_bytes}
use Rattle.http_edge.specs.Routes.{value_of}
use Rattle.http_edge.proofs.RouteLemmas.{first_step, answered, passed, no_more}
use Rattle.http_edge.proofs.routes.first_value.Goals as goal

pub returns-then-eq-clause-value : goal.returns-then-eq-clause-value
returns-then-eq-clause-value c =
    let h = c.in-Some.ensures.steps.0 in
    let d = rw c.in_ok-name.was at h.3 in
    let same : bytes_eq (cow_str_bytes c.in_ok-name.name) c.args.key.now ≡ true = search rules in
    let found : Some (cow_str_bytes c.in_ok-name.value) ≡ value_of c.args.key.now c.args.query.now =
    answered c.args.key.now _ _ _ _ _ same (first_step c.args.key.now h.0 h.1 _ _ _ _ h.2 d.0 d.1) c.loop-pair.invariant.2 in
    search (rules, found)

pub loop-pair-preserved : goal.loop-pair-preserved
loop-pair-preserved c =
    let h = c.in-Some.ensures.steps.0 in
    let d = rw c.in_ok-name.was at h.3 in
    let other : bytes_eq (cow_str_bytes c.in_ok-name.name) c.args.key.now ≡ false = search rules in
    (tt, tt, passed c.args.key.now _ _ _ _ _ other (first_step c.args.key.now h.0 h.1 _ _ _ _ h.2 d.0 d.1) c.loop-pair.invariant.2)

pub loop-pair-preserved-else-eq : goal.loop-pair-preserved-else-eq
loop-pair-preserved-else-eq c =
    let h = c.in-Some.ensures.steps.0 in
    let d = rw c.in_ok-name.was at h.3 in
    let other : bytes_eq (cow_str_bytes c.in_ok-name.name) c.args.key.now ≡ false = search rules in
    (tt, tt, passed c.args.key.now _ _ _ _ _ other (first_step c.args.key.now h.0 h.1 _ _ _ _ h.2 d.0 d.1) c.loop-pair.invariant.2)

pub returns-clause-value : goal.returns-clause-value
returns-clause-value c = no_more c.args.key.now _ _ c.in-None.ensures.steps.0 c.loop-pair.invariant.2
