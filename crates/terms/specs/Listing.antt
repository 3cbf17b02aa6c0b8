-- Lists that hold just what passes a test, in rising order.
use Rattle.std.specs.Prelude.{◌≡◌, Bool, List}
use Rattle.std.specs.declared.cmp.Ordering.{Ordering}
use Rattle.std.specs.Ordering.{eq_by_cmp}
use Rattle.std.specs.List.{list_any}
use Rattle.std.specs.List.Sorted.{IsStrictlySortedBy}

-- the list rises in this order, so nothing stands in it twice, and it holds exactly what passes
-- the test
pub record ListsRising {K : Type 0} (order : K → K → Ordering) (test : K → Bool) (items : List K)
    : Type 0 where
  pub rises : IsStrictlySortedBy order items
  pub exactly : (k : K) → list_any (eq_by_cmp order k) items ≡ test k
