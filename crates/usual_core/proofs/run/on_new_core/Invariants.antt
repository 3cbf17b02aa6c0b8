-- Each blank's own name and parts are those of its ledger.
use Rattle.usual_core.proofs.run.on_new_core.Given as goal

abbrev pub ghosts-on_core_of-C-Ledger : goal.ghosts-on_core_of-C-Ledger
ghosts-on_core_of-C-Ledger g a = record { name = a.commands.name; parts = a.commands.parts }

abbrev pub ghosts-on_core_of-T-Ledger : goal.ghosts-on_core_of-T-Ledger
ghosts-on_core_of-T-Ledger g a = record { name = a.taken.name; parts = a.taken.parts }
