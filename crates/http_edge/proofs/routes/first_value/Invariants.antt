use Rattle.std.proofs.Common.{◌≡◌}
use Rattle.http_edge.specs.Routes.{first_among, value_of}
use Rattle.form_urlencoded.specs.Parse.{pairs_left}
use Rattle.http_edge.proofs.routes.first_value.Given as goal

-- the pairs that are left answer as all of them do
abbrev pub invariant-loop-pair : goal.invariant-loop-pair
invariant-loop-pair l =
    (goal.iterator-loop-pair).can_next l.pair-iterator ×
    (goal.iterator-loop-pair).is_finite l.pair-iterator ×
    (first_among l.key (pairs_left l.pair-iterator) ≡ value_of l.key l.query)
