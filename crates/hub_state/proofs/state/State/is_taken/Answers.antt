use Rattle.std.proofs.Common.{rules, ◌≡◌, ◌∙◌, ◌==◌, ap}
use Rattle.std.specs.Prelude.{is_some}
use Rattle.recovery.specs.SavedTable.{PlainSaved, session}
use Rattle.journal.specs.Sessions.{sessions, is_pid_saved}
use Rattle.journal.proofs.SessionsLemmas.{is_some-find}
use Rattle.hub_state.specs.Words.{saves}
use Rattle.hub_state.proofs.state.State.is_taken.Goals as goal

pub returns-else-contains : goal.returns-else-contains
returns-else-contains c = λ client space.
    let taken : c.has_pid.result ≡ is_pid_saved (saves c.args.self.now) c.args.pid =
    rw (← c.self.view_is)
    (c.has_pid.ensures ∙ ap (λ table. is_some (session table c.args.pid)) c.self.invariant.0.saved_is ∙ is_some-find (λ (s : PlainSaved). s.pid == c.args.pid) (sessions _ _ _)) in
    search (rules, taken)
