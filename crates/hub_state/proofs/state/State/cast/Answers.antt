use Rattle.std.proofs.Common.{◌≡◌, ◌∙◌, ap}
use Rattle.std.specs.Arc.{arc_value}
use Rattle.std.specs.Prelude.{is_some}
use Rattle.journal.specs.Broadcast.{is_logged, IsOfAForm}
use Rattle.journal.specs.Log.{next}
use Rattle.journal.proofs.CastStepLemmas.{given-where-asked}
use Rattle.hub_state.specs.Sending.{sent_to, messages_to}
use Rattle.hub_state.proofs.CastLemmas.{asked-as-sent, cast-does}
use Rattle.hub_state.proofs.state.State.cast.Goals as goal

pub send-done-requires-clause-formed : goal.send-done-requires-clause-formed
send-done-requires-clause-formed c =
    let made = c.in_ok-broadcast.ensures in
    let h = c.args.self.now in
    let formed : IsOfAForm h.limits c.in_ok-broadcast.broadcast = record {
      form = c.args.cast.form;
      payload = c.args.cast.payload;
      refusal = rw (made.asked.space, made.asked.attachments) c.in_ok-place.ensures.accepted;
      text = made.asked.text;
      logged = ap is_some made.asked.offset ∙ given-where-asked (is_logged c.args.cast.form) (next h.base h.journal) c.in_ok-place.ensures.numbered;
    } in
    rw c.in_ok-sockets.ensures.same formed

-- the sockets as they were handed on
handed : (c : goal.After-drop-sockets) → c.as_slice.result.now ≡ (arc_value c.in_ok-sockets.sockets).items
handed c = c.as_slice.ensures.value ∙ ap (λ v. v.items) c.deref.ensures

pub returns-clause-does : goal.returns-clause-does
returns-clause-does c =
    let made = c.in_ok-broadcast.ensures in
    let h = c.args.self.now in
    let b = c.in_ok-broadcast.broadcast in
    let ks = (arc_value c.in_ok-sockets.sockets).items in
    let sends = rw (c.in_ok-sockets.ensures.same, handed c) at c.send-done.ensures.does in
    let done = rw (c.in_ok-sockets.ensures.same, handed c) at c.send-done.ensures.done in
    cast-does h c.send-done.new.self c.args.now c.args.cast (sent_to h ks b) (messages_to h ks b) c.send-done.result
    (asked-as-sent h c.args.cast b ks made.asked) c.in_ok-place.ensures.accepted c.in_ok-place.ensures.numbered c.in_ok-sockets.ensures.tells sends done
