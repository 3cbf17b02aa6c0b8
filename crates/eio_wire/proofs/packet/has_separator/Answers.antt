use Rattle.std.proofs.Common.{rules}
use Rattle.eio_wire.proofs.PacketLemmas.{data_separator, whole_binary}
use Rattle.eio_wire.proofs.packet.has_separator.Goals as goal

pub returns-in-Binary-clause-whole : goal.returns-in-Binary-clause-whole
returns-in-Binary-clause-whole c = λ _ text h.
    whole_binary c.in-Binary.field-0 text (rw c.in-Binary.is at h).1

pub returns-in-Open-clause-holds : goal.returns-in-Open-clause-holds
returns-in-Open-clause-holds c = λ found. data_separator c.args.packet.now c.in-Open.rest c.in-Open.is (search (rules, found))
