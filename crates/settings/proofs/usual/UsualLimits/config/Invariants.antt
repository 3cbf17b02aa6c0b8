use Rattle.std.proofs.Common.{◌≡◌, map, take}
use Rattle.settings.proofs.usual.UsualLimits.config.Given as goal

abbrev pub invariant-loop-name : goal.invariant-loop-name
invariant-loop-name l = l.spaces.items ≡ map (λ name. name.now) (take l.name-index l.names)
