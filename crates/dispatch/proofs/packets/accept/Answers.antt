use Rattle.std.proofs.Common.{ℕ, inl, inr, refl, ap, ◌∙◌, rules}
use Rattle.dispatch.specs.Packets.{socket_in}
use Rattle.dispatch.proofs.ConnectLemmas.{drawn-two}
use Rattle.dispatch.proofs.packets.accept.Goals as goal

pub returns-in_default : goal.returns-in_default
returns-in_default g c =
    let drawn = drawn-two (g.I.IdSource.stream c.args.ids.now) (g.I.IdSource.stream c.draw.new.self) (g.I.IdSource.stream c.draw-2.new.self) c.draw.ensures.rest c.draw-2.ensures.rest in
    (search rules, (drawn, rw c.into.ensures (inl (refl, refl))))

pub returns : goal.returns
returns g c =
    let drawn = drawn-two (g.I.IdSource.stream c.args.ids.now) (g.I.IdSource.stream c.draw.new.self) (g.I.IdSource.stream c.draw-2.new.self) c.draw.ensures.rest c.draw-2.ensures.rest in
    let sid = c.new-sid.ensures ∙ c.draw.ensures.first in
    let pid = c.new-pid.ensures ∙ c.draw-2.ensures.first ∙ ap (λ (ids : ℕ → ℕ). ids 0) c.draw.ensures.rest in
    let who = c.socket_in-who.ensures ∙ ap (socket_in c.args.scene.now.visit.client c.args.space) sid in
    let greets = rw who at c.in-Ok.ensures in
    let connects = rw (who, pid) at c.connect_as.ensures.1 in
    (search rules, (drawn, inr (c.in-Ok.wanted.items, greets, connects)))
