use Rattle.hub_state.specs.Seats.{seat_at}
use Rattle.std.proofs.Common.{rules, ◌≡◌, ◌∙◌, ◌∷◌, length, max, refl, sym, ap, None, inr, nat_eq}
use Rattle.std.specs.Ordering.{nat_cmp}
use Rattle.std.specs.HashMap.{get}
use Rattle.std.specs.BTreeSet as sorted
use Rattle.std.specs.Arc.{arc_value}
use Rattle.journal.specs.Plain.{PlainBroadcast}
use Rattle.journal.specs.declared.step.What.TheVariants.{Cast}
use Rattle.journal.specs.Refusals.{or_spent}
use Rattle.journal.specs.Casting.{with_logged}
use Rattle.journal.proofs.CastStepLemmas.{casted}
use Rattle.hub_state.specs.Changes.{SameClients}
use Rattle.hub_state.specs.Inside.{history_of}
use Rattle.hub_state.specs.Sending.{sent_to, messages_to}
use Rattle.hub_state.proofs.EndedLemmas.{hub-of, none-ended, plus}
use Rattle.hub_state.proofs.PutsLemmas.{taken-back}
use Rattle.hub_state.proofs.SendLemmas.{same-put, sent-formed, same-reached, same-lost, number-reached, passes-spent}
use Rattle.hub_state.proofs.state.State.send.Goals as goal

pub invariant_of-self-then-passes : goal.invariant_of-self-then-passes
invariant_of-self-then-passes c =
    let back : SameClients c.self.inside.clients c.take_all_back.new.clients =
    taken-back (get nat_eq c.self.inside.clients) (get nat_eq c.put_each.new.clients) (get nat_eq c.put_each.new.clients) (get nat_eq c.take_all_back.new.clients)
    _ c.deref.result.now c.in_ok-reached.ensures.put (λ q. refl) (c.deref.ensures.value ∙ c.in_ok-reached.ensures.told) c.take_all_back.ensures in
    search rules

pub returns-then-passes-clause-does : goal.returns-then-passes-clause-does
returns-then-passes-clause-does c =
    let h = c.self.inside in
    let ks = c.args.sockets.now in
    let b : PlainBroadcast = record { space = c.broadcast.inside.space; rooms = c.broadcast.inside.rooms.items; excepted = c.broadcast.inside.excepted.items; offset = c.broadcast.inside.offset; entry = arc_value c.broadcast.inside.entry; dropped = c.broadcast.inside.dropped.items } in
    let got = c.in_ok-reached.ensures in
    let tells = rw (← c.self.view_is, ← c.broadcast.view_is) at c.requires.tells in
    let spent = passes-spent h c.self.invariant b ks _ _ got.told got.missing tells c.passes.result c.len.result c.len-2.result c.passes.ensures.passes c.passes.ensures.small (search rules) (search rules) in
    rw (← c.self.view_is, ← c.broadcast.view_is)
    (inr (sym (ap (or_spent None) (sym spent ∙ c.if-passes.true))), ap (λ steps. record { base = h.base; limits = h.limits; journal = steps }) c.reserve.ensures.same)

pub invariant_of-self-2 : goal.invariant_of-self-2
invariant_of-self-2 c =
    let h = c.self.inside in
    let ks = c.args.sockets.now in
    let b : PlainBroadcast = record { space = c.broadcast.inside.space; rooms = c.broadcast.inside.rooms.items; excepted = c.broadcast.inside.excepted.items; offset = c.broadcast.inside.offset; entry = arc_value c.broadcast.inside.entry; dropped = c.broadcast.inside.dropped.items } in
    let got = c.in_ok-reached.ensures in
    let tells = rw (← c.self.view_is, ← c.broadcast.view_is) at c.requires.tells in
    let spent = passes-spent h c.self.invariant b ks _ _ got.told got.missing tells c.passes.result c.len.result c.len-2.result c.passes.ensures.passes c.passes.ensures.small (search rules) (search rules) in
    let formed = rw (← c.self.view_is, ← c.broadcast.view_is) at c.requires.formed in
    let given = rw (← c.self.view_is, ← c.broadcast.view_is) at c.requires.offset in
    let logs = rw (← c.broadcast.view_is, c.max.ensures) at c.in_ok-entry.ensures.ok in
    let logged = c.push_logged.ensures ∙ ap (with_logged h.log) logs in
    let placed : c.len.result ≡ length (messages_to (history_of h) ks b) = search rules ∙ number-reached h c.self.invariant b ks _ _ got.told got.missing in
    let dropped : c.len-2.result ≡ length c.in_ok-reached.dropped.items = search rules in
    rw (c.add.ensures.steps, c.add.ensures.last, c.reserve.ensures.same, c.add.ensures.counts, placed, dropped, same-lost h c.self.invariant b ks _ _ got.told got.missing)
    (plus (casted h.base h.limits h.records.steps.steps (sent_to (history_of h) ks b) c.self.invariant.1 c.self.invariant.2 (sent-formed h c.self.invariant b ks formed) given
    (messages_to (history_of h) ks b) tells c.args.now h.records.last (get nat_eq h.clients) (get nat_eq c.put_each.new.clients) (seat_at h.live.seats)
    (sorted.contains nat_cmp h.live.pids) h.live.rooms h.saved h.log c.push_logged.new.log h.records.counts
    (hub-of h c.self.invariant) (sym spent ∙ c.if-passes.false) logged (same-put h c.self.invariant b ks _ got.put))
    (none-ended _ _ _ _ c.self.invariant.4 refl))

pub returns-clause-does : goal.returns-clause-does
returns-clause-does c =
    let h = c.self.inside in
    let ks = c.args.sockets.now in
    let b : PlainBroadcast = record { space = c.broadcast.inside.space; rooms = c.broadcast.inside.rooms.items; excepted = c.broadcast.inside.excepted.items; offset = c.broadcast.inside.offset; entry = arc_value c.broadcast.inside.entry; dropped = c.broadcast.inside.dropped.items } in
    let got = c.in_ok-reached.ensures in
    let tells = rw (← c.self.view_is, ← c.broadcast.view_is) at c.requires.tells in
    let spent = passes-spent h c.self.invariant b ks _ _ got.told got.missing tells c.passes.result c.len.result c.len-2.result c.passes.ensures.passes c.passes.ensures.small (search rules) (search rules) in
    let lost = same-lost h c.self.invariant b ks _ _ got.told got.missing in
    let steps = c.add.ensures.steps ∙ (λ i. record { at = max c.args.now (c.self.invariant.0.last i); what = Cast (record b { dropped = lost i }) } ∷ c.reserve.ensures.same i) in
    rw (← c.self.view_is, ← c.broadcast.view_is)
    (ap (or_spent None) (sym spent ∙ c.if-passes.false), ap (λ journal. record { base = h.base; limits = h.limits; journal = journal }) steps)

pub returns-clause-done : goal.returns-clause-done
returns-clause-done c =
    let h = c.self.inside in
    let ks = c.args.sockets.now in
    let b : PlainBroadcast = record { space = c.broadcast.inside.space; rooms = c.broadcast.inside.rooms.items; excepted = c.broadcast.inside.excepted.items; offset = c.broadcast.inside.offset; entry = arc_value c.broadcast.inside.entry; dropped = c.broadcast.inside.dropped.items } in
    let got = c.in_ok-reached.ensures in
    let reached = same-reached h c.self.invariant b ks _ _ got.told got.missing in
    let placed : c.len.result ≡ length (messages_to (history_of h) ks b) = search rules ∙ number-reached h c.self.invariant b ks _ _ got.told got.missing in
    let lost = same-lost h c.self.invariant b ks _ _ got.told got.missing in
    let dropped : c.len-2.result ≡ length c.in_ok-reached.dropped.items = search rules in
    rw (← c.self.view_is, ← c.broadcast.view_is)
    (λ i. record { offset = b.offset; placed = placed i; dropped = (dropped ∙ ap length lost) i; clients = reached i })
