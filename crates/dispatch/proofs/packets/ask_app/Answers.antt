use Rattle.std.proofs.Common.{inl, inr, rules}
use Rattle.dispatch.proofs.packets.ask_app.Goals as goal

pub returns-in-Ok-Accept : goal.returns-in-Ok-Accept
returns-in-Ok-Accept g c =
    let connects = rw c.into_text.ensures at c.accept.ensures.1 in
    (search rules, inr (inl (c.in-Ok-Accept.wanted.items, search rules, search rules, connects)))
