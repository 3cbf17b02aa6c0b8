use Rattle.std.proofs.Common.{◌≡◌, ◌++◌, take, string_bytes}
use Rattle.script.specs.Printing.{more_text}
use Rattle.script.proofs.printing.frame_lines.Given as goal

abbrev pub invariant-loop-frame : goal.invariant-loop-frame
invariant-loop-frame l = string_bytes l.lines ≡ string_bytes l.initial.lines ++ more_text l.name (take l.frame-index l.rest)
