use Rattle.std.proofs.Common.{sym, refl, arith}
use Rattle.sio_wire.proofs.tree.is_reserved_name.Goals as goal

pub returns-in-connect-3 : goal.returns-in-connect-3
returns-in-connect-3 c = (λ _. (2, omega arith, sym c.in-connect.is-disconnect), λ _. refl)

pub returns-in-connect-4 : goal.returns-in-connect-4
returns-in-connect-4 c = (λ _. (3, omega arith, sym c.in-connect.is-disconnecting), λ _. refl)

pub returns-in-connect-5 : goal.returns-in-connect-5
returns-in-connect-5 c = (λ _. (4, omega arith, sym c.in-connect.is-newListener), λ _. refl)
