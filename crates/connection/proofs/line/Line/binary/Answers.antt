use Rattle.std.proofs.Common.{◌≡◌, Some, subst}
use Rattle.sio_wire.specs.Frames as frames
use Rattle.connection.specs.Line.{PlainLine, Hears}
use Rattle.connection.proofs.LineLemmas.{bytes-kept, bytes-advance, faulty}
use Rattle.connection.proofs.WholeLemmas.{bytes-whole}
use Rattle.connection.proofs.line.Line.binary.Goals as goal

pub invariant_of-self : goal.invariant_of-self
invariant_of-self c = bytes-kept _ c.binary.new.self _ c.binary.result c.args.bytes.now _ c.binary.ensures.refused c.binary.ensures.accepted c.binary.ensures.fault c.self.invariant

pub returns : goal.returns
returns c =
    let old : PlainLine = record { assembler = c.self.inside.assembler; clock = c.self.inside.clock; getting = c.self.inside.getting; ping = c.self.inside.ping; books = c.self.inside.books.entries } in
    subst (λ (l : PlainLine). Hears (frames.binary c.args.bytes.now) (λ e. frames.binary_refusal l.assembler ≡ Some e) l c.binary.result (record old { assembler = c.binary.new.self })) c.self.view_is (record {
      given = c.binary.ensures.accepted;
      advances = bytes-advance old c.binary.new.self _ c.binary.result c.args.bytes.now c.binary.ensures.refused c.binary.ensures.accepted;
      whole = bytes-whole old c.binary.new.self _ c.args.bytes.now c.binary.result c.self.invariant c.binary.ensures.refused c.binary.ensures.accepted;
      fault = faulty old c.binary.new.self _ c.binary.result c.binary.ensures.fault;
    })
