-- Each blank's own name and parts are those of its ledger.
use Rattle.server_tests.proofs.cores.tasks.run_once.Given as goal

abbrev pub ghosts-run-C-Ledger : goal.ghosts-run-C-Ledger
ghosts-run-C-Ledger g a = record { name = a.commands.name; parts = a.commands.parts }

abbrev pub ghosts-run-T-Ledger : goal.ghosts-run-T-Ledger
ghosts-run-T-Ledger g a = record { name = a.taken.name; parts = a.taken.parts }
