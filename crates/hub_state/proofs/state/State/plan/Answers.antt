use Rattle.hub_state.specs.Seats.{seat_at}
use Rattle.std.proofs.Common.{◌≡◌, ◌∙◌, ap, map, subst, sym, nat_eq, rules}
use Rattle.std.specs.Prelude.{string_bytes}
use Rattle.std.specs.Arc.{arc_value}
use Rattle.std.specs.List.{IsDistinct}
use Rattle.std.specs.HashMap.{get}
use Rattle.sio_wire.specs.Disconnect.{disconnect_text}
use Rattle.journal.specs.Membership.{sid_of}
use Rattle.journal.specs.Outboxes.{farewell}
use Rattle.journal.specs.Dismissing.{ListsMatching}
use Rattle.journal.proofs.DismissalLemmas.{farewell_is, sorted-once, receivers-once, planned, dismissal-is, matching}
use Rattle.hub_state.specs.Words.{plain_entry}
use Rattle.hub_state.proofs.state.State.plan.Goals as goal

pub returns-clause-makes : goal.returns-clause-makes
returns-clause-makes c =
    let inside = rw (← c.self.view_is, c.deref.ensures.value, c.deref-2.ensures.value) at c.in_ok-sids.ensures.ok in
    let lists = subst (ListsMatching c.self.inside.base c.self.inside.records.steps.steps c.args.space c.args.rooms.items c.args.excepted.items) (sym (rw c.deref-3.ensures.value at c.in_ok-sockets.ensures.ok))
    (matching c.self.inside.base c.self.inside.limits c.self.inside.records.steps.steps c.self.invariant.2 c.args.space c.args.rooms.items c.args.excepted.items (seat_at c.self.inside.live.seats) c.self.invariant.0.seats c.in_ok-sids.sids.items inside) in
    let said : string_bytes c.in_ok-text.text ≡ disconnect_text c.name_at-name.result.now = search rules in
    let told : arc_value c.in_ok-entry.entry ≡ farewell c.args.self.now.limits c.from.result =
    c.in_ok-entry.ensures ∙ ap plain_entry said ∙ ap (λ name. plain_entry (disconnect_text name)) c.name_at-name.ensures ∙ farewell_is c.args.self.now.limits c.from.result in
    let entry = rw (← c.self.view_is, c.from.ensures) at told in
    let messages = rw (c.deref-4.ensures.value, entry) at c.in_ok-messages.ensures.told in
    let ended : c.in_ok-ended.ended.items ≡ map sid_of c.in_ok-sockets.sockets.items = search rules in
    let received = rw c.deref-6.ensures.value at c.in_ok-told.ensures.ok in
    let once : IsDistinct nat_eq c.in_ok-told.told.items = rw received
    (receivers-once c.self.inside.base c.self.inside.limits c.self.inside.records.steps.steps c.self.invariant.2 c.args.space c.args.rooms.items c.args.excepted.items c.in_ok-sockets.sockets.items lists
    (get nat_eq c.self.inside.clients) c.self.invariant.0.clients c.in_ok-messages.messages.items messages) in
    let told = rw received at (sorted-once c.in_ok-told.told.items c.sort_unstable.new.self.items once c.sort_unstable.ensures.permutation c.sort_unstable.ensures.sorted) in
    rw (← c.self.view_is)
    (planned c.self.inside.base c.self.inside.limits c.self.inside.records.steps.steps c.self.invariant.2 c.args.space c.args.rooms.items c.args.excepted.items c.in_ok-sockets.sockets.items lists
    (get nat_eq c.self.inside.clients) c.self.invariant.0.clients c.in_ok-messages.messages.items messages c.in_ok-ended.ended.items ended c.sort_unstable.new.self.items told)

pub returns-clause-asked : goal.returns-clause-asked
returns-clause-asked c = dismissal-is c.args.self.now _ (returns-clause-makes c).right
