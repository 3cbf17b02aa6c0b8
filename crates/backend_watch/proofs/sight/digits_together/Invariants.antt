use Rattle.std.proofs.Common.{◌≡◌, take}
use Rattle.backend_watch.specs.Watching.{digits_listed}
use Rattle.backend_watch.proofs.sight.digits_together.Given as goal

abbrev pub invariant-loop-pressed : goal.invariant-loop-pressed
invariant-loop-pressed l = l.digits ≡ digits_listed (take l.pressed-index l.listed)
