use Rattle.std.proofs.Common.{◌≡◌, drop}
use Rattle.json.specs.Value.{items_view}
use Rattle.switchboard.specs.Options.{are_all_texts}
use Rattle.switchboard.proofs.command.are_all_texts.Given as goal

abbrev pub invariant-loop-value : goal.invariant-loop-value
invariant-loop-value l = are_all_texts (items_view l.value-items) ≡ are_all_texts (items_view (drop l.value-index l.value-items))
