use Rattle.recovery.proofs.SavedTableLemmas.{table_empty}
use Rattle.recovery.proofs.saved_table.SavedTable.new.Goals as goal

pub invariant_of-result : goal.invariant_of-result
invariant_of-result c = table_empty c.new.result.entries c.new-2.result.keys c.new-3.result.keys c.new.ensures.empty c.new-2.ensures.empty c.new-3.ensures.empty
