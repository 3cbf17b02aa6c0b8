use Rattle.std.proofs.Common.{◌∙◌, ap, sym, nat_eq}
use Rattle.std.specs.Prelude.{option_copied}
use Rattle.std.specs.HashMap.{get}
use Rattle.journal.specs.Fields.{held_sockets}
use Rattle.hub_state.proofs.EndedLemmas.{held-all}
use Rattle.hub_state.proofs.state.State.its_sockets.Goals as goal

pub returns-in-None : goal.returns-in-None
returns-in-None c =
    let hub = c.self.inside in
    let held = held-all hub.base hub.limits (get nat_eq hub.clients) hub.records.steps.steps c.args.client c.self.invariant.0.clients c.self.invariant.2.of_open_clients in
    let none = sym c.get.ensures.value ∙ ap option_copied c.in-None.is in
    record { ok = rw (← c.self.view_is) (c.new.ensures.items ∙ ap held_sockets (sym none) ∙ held) }

pub returns-in-Some : goal.returns-in-Some
returns-in-Some c =
    let hub = c.self.inside in
    let held = held-all hub.base hub.limits (get nat_eq hub.clients) hub.records.steps.steps c.args.client c.self.invariant.0.clients c.self.invariant.2.of_open_clients in
    let some = sym c.get.ensures.value ∙ ap option_copied c.in-Some.is in
    let all = c.deref.ensures.value ∙ ap (λ k. k.sockets) c.known.view_is ∙ ap held_sockets (sym some) ∙ held in
    record { ok = rw (← c.self.view_is, ← all) c.from_slice.ensures.items }
