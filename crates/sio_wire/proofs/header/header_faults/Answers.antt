use Rattle.sio_wire.proofs.FaultsLemmas.{HasFault-once, HasFault-spells_nothing}
use Rattle.sio_wire.proofs.header.header_faults.Goals as goal

pub returns-clause-once : goal.returns-clause-once
returns-clause-once c = HasFault-once

pub returns-clause-spells_nothing : goal.returns-clause-spells_nothing
returns-clause-spells_nothing c = HasFault-spells_nothing
