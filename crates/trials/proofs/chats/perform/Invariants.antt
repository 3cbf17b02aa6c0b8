-- Each blank's own name and parts are those of its ledger.
use Rattle.trials.proofs.chats.perform.Given as goal

abbrev pub ghosts-perform_over-C-Ledger : goal.ghosts-perform_over-C-Ledger
ghosts-perform_over-C-Ledger g = record { name = g.commands.name; parts = g.commands.parts }

abbrev pub ghosts-perform_over-T-Ledger : goal.ghosts-perform_over-T-Ledger
ghosts-perform_over-T-Ledger g = record { name = g.taken.name; parts = g.taken.parts }
