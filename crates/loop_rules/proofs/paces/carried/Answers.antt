use Rattle.std.proofs.Common.{◌≡◌, subst, lit<}
use Rattle.std.proofs.lemmas.Iterator.Consumers.{YieldsList-end, YieldsList-at}
use Rattle.std.proofs.lemmas.Iterator.Splits.{YieldsList-from_str_split}
use Rattle.loop_rules.specs.Packets.{carrying}
use Rattle.loop_rules.proofs.paces.carried.Goals as goal

pub returns : goal.returns
returns c =
    let road = YieldsList-at c.into_iter-packet-iterator.ensures.into_iter_gives (YieldsList-from_str_split 30 c.args.payload.now (lit< tt) c.split-packet-items.ensures.text c.split-packet-items.ensures.has_more c.split-packet-items.ensures.pattern) in
    let end = YieldsList-end road c.loop-packet.yielded _ c.loop-packet.yielded_by _ _ c.in-None.is c.next.ensures.steps in
    subst (λ texts. c.loop-packet.count ≡ carrying texts) end.0 c.loop-packet.invariant
