use Rattle.std.proofs.Common.{inr, rules}
use Rattle.dispatch.proofs.PacketLemmas.{held, question-held}
use Rattle.dispatch.proofs.packets.take_answer.Goals as goal

pub returns : goal.returns
returns g c =
    let line = c.args.scene.now.line.now in
    let sid = c.args.who.now.sid in
    (search rules, rw c.in-Some.is (inr (held line sid c.in-Some.id c.in-Ok.tag, c.answer.new.self, question-held line sid c.in-Some.id c.in-Ok.tag c.in-Ok.ensures.answer, c.in-Ok.ensures.advances, rw c.into_text.ensures at c.decide.ensures.1)))
