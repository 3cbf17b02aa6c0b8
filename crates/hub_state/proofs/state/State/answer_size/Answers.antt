use Rattle.std.proofs.Common.{rules, ◌≡◌, ◌∙◌, ap, length, true, false}
use Rattle.std.specs.Prelude.{codes}
use Rattle.std.specs.Str.{bytes_eq}
use Rattle.sio_wire.specs.ConnectAnswer.{connected_text}
use Rattle.journal.proofs.AnswersLemmas.{answer_size_is, short_name, long_name}
use Rattle.hub_state.proofs.state.State.answer_size.Goals as goal

pub returns-then-eq : goal.returns-then-eq
returns-then-eq c client sid pid =
    let is : bytes_eq c.name_at-name.result.now (codes "/") ≡ true = search rules in
    short_name c.name_at-name.result.now is sid pid ∙ ap (λ name. length (connected_text name sid pid)) c.name_at-name.ensures
    ∙ answer_size_is c.args.self.now.limits (record { client = client; space = c.args.place; sid = sid; pid = pid })

pub returns-else-eq : goal.returns-else-eq
returns-else-eq c client sid pid =
    let is : bytes_eq c.name_at-name.result.now (codes "/") ≡ false = search rules in
    long_name c.name_at-name.result.now is sid pid ∙ ap (λ name. length (connected_text name sid pid)) c.name_at-name.ensures
    ∙ answer_size_is c.args.self.now.limits (record { client = client; space = c.args.place; sid = sid; pid = pid })
