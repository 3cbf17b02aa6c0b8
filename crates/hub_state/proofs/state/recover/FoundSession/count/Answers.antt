use Rattle.std.proofs.Common.{◌≡◌, ◌∙◌, refl, ap}
use Rattle.journal.specs.Recovery.{gets}
use Rattle.journal.proofs.RecoverLemmas.{gets-pieces, lacks-front, lacks-back, bytes-all, none-so}
use Rattle.hub_state.proofs.state.recover.FoundSession.count.Goals as goal

pub returns-in_err-first-clause-none : goal.returns-in_err-first-clause-none
returns-in_err-first-clause-none c =
    let s = c.args.self.session.now in
    let space : c.session.inside.space ≡ s.space = ap (λ s. s.space) c.session.view_is in
    let rooms : c.deref.result.now ≡ s.rooms = c.deref.ensures.value ∙ ap (λ s. s.rooms) c.session.view_is in
    let all = gets-pieces s.space c.session.inside.space s.space s.rooms c.deref.result.now s.rooms c.args.self.front.now c.args.self.back.now _ refl space rooms refl refl in
    none-so _ _ (lacks-front (gets c.session.inside.space c.deref.result.now c.args.self.front.now) _ _ all c.args.places c.args.bytes c.in_err-first.ensures.none)

pub returns-in_err-last-clause-none : goal.returns-in_err-last-clause-none
returns-in_err-last-clause-none c =
    let s = c.args.self.session.now in
    let space : c.session.inside.space ≡ s.space = ap (λ s. s.space) c.session.view_is in
    let rooms : c.deref.result.now ≡ s.rooms = c.deref.ensures.value ∙ ap (λ s. s.rooms) c.session.view_is in
    let again : c.deref-2.result.now ≡ s.rooms = c.deref-2.ensures.value ∙ ap (λ s. s.rooms) c.session.view_is in
    let all = gets-pieces s.space c.session.inside.space c.session.inside.space s.rooms c.deref.result.now c.deref-2.result.now c.args.self.front.now c.args.self.back.now _ refl space rooms space again in
    none-so _ _ (lacks-back (gets c.session.inside.space c.deref.result.now c.args.self.front.now) (gets c.session.inside.space c.deref-2.result.now c.args.self.back.now) _ all
    c.args.places c.in_ok-first.first.0 c.args.bytes c.in_ok-first.first.1 c.in_ok-first.ensures.places c.in_ok-first.ensures.bytes c.in_err-last.ensures.none)

pub returns-clause-bytes : goal.returns-clause-bytes
returns-clause-bytes c =
    let s = c.args.self.session.now in
    let space : c.session.inside.space ≡ s.space = ap (λ s. s.space) c.session.view_is in
    let rooms : c.deref.result.now ≡ s.rooms = c.deref.ensures.value ∙ ap (λ s. s.rooms) c.session.view_is in
    let again : c.deref-2.result.now ≡ s.rooms = c.deref-2.ensures.value ∙ ap (λ s. s.rooms) c.session.view_is in
    let all = gets-pieces s.space c.session.inside.space c.session.inside.space s.rooms c.deref.result.now c.deref-2.result.now c.args.self.front.now c.args.self.back.now _ refl space rooms space again in
    bytes-all (gets c.session.inside.space c.deref.result.now c.args.self.front.now) (gets c.session.inside.space c.deref-2.result.now c.args.self.back.now) _ all
    c.args.bytes c.in_ok-first.first.1 c.in_ok-last.last.1 c.in_ok-first.ensures.bytes c.in_ok-last.ensures.bytes
