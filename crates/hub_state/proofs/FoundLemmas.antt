-- What is remembered of the sockets that were found.
use Rattle.std.proofs.Common.{◌≡◌, ℕ, true, List, nat_eq}
use Rattle.std.specs.Cmp.{unsigned_Decides}
use Rattle.std.specs.Cmp.Lexicographic.{pointwise, pointwise_decides}

-- ids that are the same one by one
pub same-ids : (xs ys : List ℕ) → pointwise nat_eq xs ys ≡ true → xs ≡ ys
same-ids xs ys same = (pointwise_decides unsigned_Decides xs ys).0 same
