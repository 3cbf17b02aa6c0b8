use Rattle.std.proofs.Common.{rules}
use Rattle.sio_wire.proofs.HeaderLemmas.{Sio-header_at}
use Rattle.sio_wire.proofs.FaultsLemmas.{fault_met, refused_by_fault}
use Rattle.sio_wire.proofs.header.read_header.Goals as goal

pub returns-in_err-header-clause-fault : goal.returns-in_err-header-clause-fault
returns-in_err-header-clause-fault c = fault_met _ _ (search rules)

pub returns-in_err-check_payload-clause-fault : goal.returns-in_err-check_payload-clause-fault
returns-in_err-check_payload-clause-fault c = fault_met _ _ (search rules)

pub returns-in_err-header-clause-refused : goal.returns-in_err-header-clause-refused
returns-in_err-header-clause-refused c = refused_by_fault _ _ (search rules)

pub returns-in_err-check_payload-clause-refused : goal.returns-in_err-check_payload-clause-refused
returns-in_err-check_payload-clause-refused c = refused_by_fault _ _ (search rules)

pub returns-clause-ok : goal.returns-clause-ok
returns-clause-ok c = rw c.in_ok-check_payload.ensures.same (Sio-header_at _ _ c.in_ok-header.ensures.ok c.in_ok-check_payload.ensures.checked)
