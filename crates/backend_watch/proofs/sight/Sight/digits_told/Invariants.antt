use Rattle.std.proofs.Common.{◌≡◌, take}
use Rattle.backend_watch.specs.Digits.{named_digit, together}
use Rattle.backend_watch.proofs.sight.Sight.digits_told.Given as goal

abbrev pub invariant-loop-room : goal.invariant-loop-room
invariant-loop-room l = l.digits ≡ together named_digit (take l.room-index l.rooms)
