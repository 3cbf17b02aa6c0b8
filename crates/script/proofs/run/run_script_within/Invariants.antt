-- Each blank's own name and parts are those of its ledger.
use Rattle.script.proofs.run.run_script_within.Given as goal

abbrev pub ghosts-serve-C-Ledger : goal.ghosts-serve-C-Ledger
ghosts-serve-C-Ledger g a = record { name = a.commands.name; parts = a.commands.parts }

abbrev pub ghosts-serve-T-Ledger : goal.ghosts-serve-T-Ledger
ghosts-serve-T-Ledger g a = record { name = a.taken.name; parts = a.taken.parts }
