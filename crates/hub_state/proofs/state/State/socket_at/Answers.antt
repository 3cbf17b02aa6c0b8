use Rattle.std.proofs.Common.{rules, ◌≡◌, ◌==◌, ◌∙◌, None, if◌then◌else◌}
use Rattle.std.specs.List.{find}
use Rattle.journal.specs.declared.socket.Socket.{Socket}
use Rattle.journal.specs.Membership.{is_open, sockets_of}
use Rattle.journal.proofs.SocketsLemmas.{socket_of-open}
use Rattle.hub_state.proofs.state.State.socket_at.Goals as goal

pub returns : goal.returns
returns c =
    let base = c.self.inside.base in
    let journal = c.self.inside.records.steps.steps in
    let found : c.copied.result ≡ (if is_open base journal c.args.client then find (λ (k : Socket). k.space == c.args.place) (sockets_of base journal c.args.client) else None) = search rules in
    rw (← c.self.view_is) (found ∙ socket_of-open base c.self.inside.limits journal c.args.client c.args.place c.self.invariant.2.of_open_clients)

pub returns-in_err-get : goal.returns-in_err-get
returns-in_err-get c =
    let base = c.self.inside.base in
    let journal = c.self.inside.records.steps.steps in
    let found : None ≡ (if is_open base journal c.args.client then find (λ (k : Socket). k.space == c.args.place) (sockets_of base journal c.args.client) else None) = search rules in
    let failed : c.from_residual.result ≡ None = search rules in
    rw (← c.self.view_is, failed) (found ∙ socket_of-open base c.self.inside.limits journal c.args.client c.args.place c.self.invariant.2.of_open_clients)
