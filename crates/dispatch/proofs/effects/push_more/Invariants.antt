use Rattle.std.proofs.Common.{◌≡◌, ◌++◌, take, string_bytes}
use Rattle.dispatch.specs.Answering as answering
use Rattle.dispatch.proofs.effects.push_more.Given as goal

abbrev pub invariant-loop-sid : goal.invariant-loop-sid
invariant-loop-sid l = string_bytes l.text ≡ string_bytes l.fn.text ++ answering.more_ids (take l.sid-index l.sids)
