use Rattle.std.proofs.Common.{rules, ◌≡◌, ◌∙◌, ◌++◌, ◌∷◌, [], map, sym, ap, append_assoc}
use Rattle.std.specs.Arc.{arc_value}
use Rattle.journal.specs.Outboxes.{answer}
use Rattle.journal.specs.Recovery.{gets}
use Rattle.journal.proofs.RecoverLemmas.{gets-append}
use Rattle.hub_state.specs.Recovering.{socket_again}
use Rattle.hub_state.proofs.RecoverLemmas.{puts-back}
use Rattle.hub_state.proofs.state.State.what_returns.Goals as goal

pub returns-clause-puts : goal.returns-clause-puts
returns-clause-puts c =
    let h = c.args.self.now in
    let s = c.args.found.session.now in
    let past = c.args.found.front.now ++ c.args.found.back.now in
    let copied : c.in_ok-rooms.rooms.items ≡ s.rooms = c.in_ok-rooms.ensures.items ∙ c.deref.ensures.value ∙ ap (λ s. s.rooms) c.session.view_is in
    let rooms : c.deref-2.result.now ≡ s.rooms = c.deref-2.ensures.value ∙ copied in
    let told : arc_value c.in_ok-answer.answer ≡ answer h.limits (socket_again c.args.client s) = rw c.from.ensures at (c.in_ok-answer.ensures.ok c.args.client) ∙ ap (λ s. answer h.limits (socket_again c.args.client s)) c.session.view_is in
    let one : map arc_value c.push.new.self.items ≡ answer h.limits (socket_again c.args.client s) ∷ [] = search (rules, told) in
    let space : c.session.inside.space ≡ s.space = ap (λ s. s.space) c.session.view_is in
    let again : c.deref-3.result.now ≡ c.deref-2.result.now = c.deref-3.ensures.value ∙ sym c.deref-2.ensures.value in
    let front = c.args.found.front.now in
    let back = c.args.found.back.now in
    let put : map arc_value c.add_missed-2.new.entries.items ≡ map arc_value c.push.new.self.items ++ gets s.space c.deref-2.result.now past =
    rw (← space, gets-append c.session.inside.space c.deref-2.result.now front back)
    (rw again at c.in_ok-add_missed-2.ensures.entries ∙ ap (λ l. l ++ gets c.session.inside.space c.deref-2.result.now back) c.in_ok-add_missed.ensures.entries
    ∙ append_assoc (map arc_value c.push.new.self.items) (gets c.session.inside.space c.deref-2.result.now front) (gets c.session.inside.space c.deref-2.result.now back)) in
    put ∙ ap (λ l. l ++ gets s.space c.deref-2.result.now past) one ∙ ap (λ rooms. answer h.limits (socket_again c.args.client s) ∷ gets s.space rooms past) rooms
    ∙ sym (puts-back h.base h.limits h.journal c.args.client c.args.found c.args.offset c.facts.ensures.sound.offsets_rise c.requires)
