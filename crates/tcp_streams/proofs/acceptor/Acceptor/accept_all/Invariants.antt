use Rattle.tcp_streams.specs.Acceptors.{Deals}
use Rattle.tcp_streams.proofs.acceptor.Acceptor.accept_all.Given as goal

abbrev pub invariant-loop : goal.invariant-loop
invariant-loop g l = Deals l.fn.self.dealing l.self.dealing
