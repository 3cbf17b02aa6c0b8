use Rattle.std.proofs.Common.{◌≡◌, take}
use Rattle.backend_watch.specs.Watching.{digits_of}
use Rattle.backend_watch.proofs.sight.Sight.digits_brought.Given as goal

abbrev pub invariant-loop-name : goal.invariant-loop-name
invariant-loop-name l = l.digits ≡ digits_of l.self.state.now l.client (take l.name-index l.others)
