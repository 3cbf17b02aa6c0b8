-- What is remembered of the addressees that were found.
use Rattle.std.proofs.Common.{◌≡◌, ℕ, true, List}
use Rattle.std.specs.Cmp.Lexicographic.{pointwise, pointwise_decides, bytes_decides}
use Rattle.terms.specs.Room.{same_room}

-- rooms that are the same one by one
pub same-rooms : (xs ys : List (List ℕ)) → pointwise same_room xs ys ≡ true → xs ≡ ys
same-rooms xs ys same = (pointwise_decides bytes_decides xs ys).0 same
