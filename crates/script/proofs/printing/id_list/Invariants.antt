use Rattle.std.proofs.Common.{◌≡◌, take, string_bytes}
use Rattle.script.specs.Printing.{ids_text}
use Rattle.script.proofs.printing.id_list.Given as goal

abbrev pub invariant-loop-sid : goal.invariant-loop-sid
invariant-loop-sid l = string_bytes l.list ≡ ids_text (take l.sid-index l.sids)
