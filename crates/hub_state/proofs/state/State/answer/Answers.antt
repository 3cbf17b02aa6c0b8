use Rattle.std.proofs.Common.{◌≡◌, ◌∙◌, ap, [], rules}
use Rattle.std.specs.Prelude.{string_bytes}
use Rattle.sio_wire.specs.ConnectAnswer.{connected_text}
use Rattle.journal.proofs.AimLemmas.{if_ok}
use Rattle.journal.proofs.AnswersLemmas.{answer_is}
use Rattle.hub_state.specs.Words.{plain_entry}
use Rattle.hub_state.proofs.state.State.answer.Goals as goal

pub returns : goal.returns
returns c =
    let said : string_bytes c.in_ok-text.text ≡ connected_text c.name_at-name.result.now c.args.sid c.args.pid = search rules in
    record {
      ok =
          if_ok c.shared_text.result
          (λ entry is client. is ∙ ap plain_entry said ∙ ap (λ name. record { text = connected_text name c.args.sid c.args.pid; attachments = [] }) c.name_at-name.ensures ∙ answer_is c.args.self.now.limits (record { client = client; space = c.args.place; sid = c.args.sid; pid = c.args.pid }))
          c.shared_text.ensures;
    }
