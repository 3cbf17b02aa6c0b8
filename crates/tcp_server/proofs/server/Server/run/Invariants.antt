-- Each blank's own name and parts are those of its ledger.
use Rattle.tcp_server.proofs.server.Server.run.Given as goal

abbrev pub ghosts-run_in-C-Ledger : goal.ghosts-run_in-C-Ledger
ghosts-run_in-C-Ledger g a = record { name = a.commands.name; parts = a.commands.parts }

abbrev pub ghosts-run_in-T-Ledger : goal.ghosts-run_in-T-Ledger
ghosts-run_in-T-Ledger g a = record { name = a.taken.name; parts = a.taken.parts }
