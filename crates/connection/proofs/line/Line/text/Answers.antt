use Rattle.std.proofs.Common.{subst}
use Rattle.sio_wire.specs.Frames as frames
use Rattle.connection.specs.Line.{PlainLine, Hears}
use Rattle.connection.proofs.LineLemmas.{text-kept, text-advances, faulty}
use Rattle.connection.proofs.WholeLemmas.{text-whole}
use Rattle.connection.proofs.line.Line.text.Goals as goal

pub invariant_of-self : goal.invariant_of-self
invariant_of-self c = text-kept _ c.text.new.self _ c.text.result c.args.text.now _ c.text.ensures.refused c.text.ensures.accepted c.text.ensures.fault c.self.invariant

pub returns : goal.returns
returns c =
    let old : PlainLine = record { assembler = c.self.inside.assembler; clock = c.self.inside.clock; getting = c.self.inside.getting; ping = c.self.inside.ping; books = c.self.inside.books.entries } in
    subst (λ (l : PlainLine). Hears (frames.text c.args.text.now) (frames.RefusesText l.assembler c.args.text.now) l c.text.result (record old { assembler = c.text.new.self })) c.self.view_is (record {
      given = c.text.ensures.accepted;
      advances = text-advances old c.text.new.self _ c.text.result c.args.text.now c.text.ensures.refused c.text.ensures.accepted;
      whole = text-whole old c.text.new.self _ c.args.text.now c.text.result c.self.invariant c.text.ensures.refused c.text.ensures.accepted;
      fault = faulty old c.text.new.self _ c.text.result c.text.ensures.fault;
    })
