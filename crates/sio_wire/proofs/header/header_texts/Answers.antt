use Rattle.sio_wire.proofs.HeaderLemmas.{Plain-once, Sio-once, Sio-Plain}
use Rattle.sio_wire.proofs.WholeLemmas.{whole_payload}
use Rattle.sio_wire.proofs.header.header_texts.Goals as goal

pub returns-clause-one_plain : goal.returns-clause-one_plain
returns-clause-one_plain c = Plain-once

pub returns-clause-once : goal.returns-clause-once
returns-clause-once c = Sio-once

pub returns-clause-written : goal.returns-clause-written
returns-clause-written c = Sio-Plain

pub returns-clause-whole : goal.returns-clause-whole
returns-clause-whole c = whole_payload
