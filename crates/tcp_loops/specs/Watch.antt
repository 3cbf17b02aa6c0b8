-- What a watch tells.
use Rattle.std.specs.Prelude.{ℕ}
use Rattle.tcp_loops.specs.declared.base.Watch.{Watch}

-- the moment that it told last
abbrev pub told_last : {R : Type 0} → Watch R → ℕ
told_last w = w.last
