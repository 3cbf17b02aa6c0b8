-- Each blank's own name and parts are those of its ledger.
use Rattle.trials.proofs.measures.measure.Given as goal

abbrev pub ghosts-measure_in-C-Ledger : goal.ghosts-measure_in-C-Ledger
ghosts-measure_in-C-Ledger g a = record { name = a.commands.name; parts = a.commands.parts }

abbrev pub ghosts-measure_in-T-Ledger : goal.ghosts-measure_in-T-Ledger
ghosts-measure_in-T-Ledger g a = record { name = a.taken.name; parts = a.taken.parts }
