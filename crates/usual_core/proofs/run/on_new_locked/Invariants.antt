-- Each blank's own name and parts are those of its ledger.
use Rattle.usual_core.proofs.run.on_new_locked.Given as goal

abbrev pub ghosts-on_locked_of-C-Ledger : goal.ghosts-on_locked_of-C-Ledger
ghosts-on_locked_of-C-Ledger g a = record { name = a.commands.name; parts = a.commands.parts }

abbrev pub ghosts-on_locked_of-T-Ledger : goal.ghosts-on_locked_of-T-Ledger
ghosts-on_locked_of-T-Ledger g a = record { name = a.taken.name; parts = a.taken.parts }
