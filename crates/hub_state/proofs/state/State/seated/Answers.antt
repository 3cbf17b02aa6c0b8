use Rattle.hub_state.specs.Seats.{seat_at, seated_in}
use Rattle.std.proofs.Common.{◌≡◌, refl, ap, subst, sym, ◌∙◌, List, Result, Ok, Err, map, nat_eq}
use Rattle.std.specs.Prelude.{IfOk}
use Rattle.std.specs.List.{IsDistinct}
use Rattle.std.specs.Arc.{arc_value}
use Rattle.journal.specs.declared.socket.Socket.{Socket}
use Rattle.journal.specs.Plain.{PlainBroadcast}
use Rattle.journal.specs.Fields.{client_at}
use Rattle.journal.specs.Casting.{client_of, missing}
use Rattle.journal.proofs.CastStepLemmas.{tells}
use Rattle.hub_state.specs.Inside.{history_of}
use Rattle.hub_state.specs.Sending.{TellsTo}
use Rattle.hub_state.proofs.CastLemmas.{seated-once}
use Rattle.hub_state.proofs.state.State.seated.Goals as goal

-- what follows from what is said of a result
follows : {X E : Type 0} (r : Result X E) (P Q : X → Type 0) → ((x : X) → P x → Q x) → IfOk r P → IfOk r Q
follows (Ok x) P Q f p = f x p
follows (Err e) P Q f p = tt

-- the sockets that were found, by the ids that are listed
found : (c : goal.After-drop-sids) → (ks : List Socket) → ks ≡ seated_in c.broadcast.inside.space c.self.inside.live.seats c.as_slice.result.now
    → ks ≡ seated_in c.broadcast.inside.space c.self.inside.live.seats (arc_value c.in_ok-sids.sids).items
found c ks items = items ∙ ap (seated_in c.broadcast.inside.space c.self.inside.live.seats) (c.as_slice.ensures.value ∙ ap (λ v. v.items) c.deref-3.ensures)

pub returns-clause-once : goal.returns-clause-once
returns-clause-once c =
    let h = c.self.inside in
    let is = c.self.view_is ∙ c.in_ok-sids.ensures.same in
    let lists = rw (← is, c.deref.ensures.value, c.deref-2.ensures.value) at c.in_ok-sids.ensures.ok in
    follows c.recalled_in.result (λ ks. (arc_value ks).items ≡ seated_in c.broadcast.inside.space h.live.seats c.as_slice.result.now) _
    (λ ks items. subst (λ (here : List Socket). IsDistinct nat_eq (map client_of here)) (sym (found c _ items))
    (seated-once h.base h.limits h.records.steps.steps c.self.invariant.2 (seat_at h.live.seats) c.self.invariant.0.seats c.broadcast.inside.space _ _ lists))
    c.recalled_in.ensures.ok

pub returns-clause-tells : goal.returns-clause-tells
returns-clause-tells c =
    let h = c.self.inside in
    let i = c.broadcast.inside in
    let b : PlainBroadcast = record { space = i.space; rooms = i.rooms.items; excepted = i.excepted.items; offset = i.offset; entry = arc_value i.entry; dropped = i.dropped.items } in
    let find = client_at h.base h.limits h.records.steps.steps in
    let is = c.self.view_is ∙ c.in_ok-sids.ensures.same in
    let lists = rw (← is, c.deref.ensures.value, c.deref-2.ensures.value) at c.in_ok-sids.ensures.ok in
    rw (← is, ← c.broadcast.view_is)
    (follows c.recalled_in.result (λ ks. (arc_value ks).items ≡ seated_in i.space h.live.seats c.as_slice.result.now) _
    (λ ks items. subst (λ (here : List Socket). TellsTo (history_of h) here b) (sym (found c _ items))
    (tells h.base h.limits h.records.steps.steps (record b { dropped = missing find b.entry _ })
    c.self.invariant.2 find (λ q. refl) (seat_at h.live.seats) c.self.invariant.0.seats _ lists refl _ refl))
    c.recalled_in.ensures.ok)
