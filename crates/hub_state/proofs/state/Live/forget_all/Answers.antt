use Rattle.hub_state.specs.Seats.{seat_at}
use Rattle.std.proofs.Common.{refl, false, None, subst, arith}
use Rattle.std.proofs.lemmas.List.{take_all}
use Rattle.std.specs.Ordering.{nat_cmp}
use Rattle.std.specs.BTreeSet as sorted
use Rattle.journal.specs.Membership.{sid_of, pid_of, without_sockets}
use Rattle.journal.proofs.EndLemmas.{next-known, forgotten-next, out-more}
use Rattle.hub_state.specs.Changes.{WithoutSockets}
use Rattle.hub_state.proofs.state.Live.forget_all.Goals as goal

pub loop-socket-init : goal.loop-socket-init
unfolding without_sockets
loop-socket-init c = (λ s. refl, λ p. refl, refl)

pub forget-requires : goal.forget-requires
forget-requires c =
    next-known c.socket-item.result c.loop-socket.socket-index c.args.sockets.now c.args.self.now.rooms c.loop-socket.self.rooms c.requires.0 c.requires.1 c.loop-socket-test.true c.socket-item.is c.loop-socket.invariant.2

pub loop-socket-preserved : goal.loop-socket-preserved
loop-socket-preserved c = (
  forgotten-next sid_of None c.socket-item.result c.loop-socket.socket-index c.args.sockets.now (seat_at c.args.self.now.seats) (seat_at c.loop-socket.self.seats) (seat_at c.forget.new.self.seats)
      c.loop-socket-test.true c.socket-item.is c.loop-socket.invariant.0 c.forget.ensures.seats,
  forgotten-next pid_of false c.socket-item.result c.loop-socket.socket-index c.args.sockets.now (sorted.contains nat_cmp c.args.self.now.pids) (sorted.contains nat_cmp c.loop-socket.self.pids) (sorted.contains nat_cmp c.forget.new.self.pids)
      c.loop-socket-test.true c.socket-item.is c.loop-socket.invariant.1 c.forget.ensures.pids,
  out-more c.socket-item.result c.loop-socket.socket-index c.args.sockets.now c.args.self.now.rooms c.loop-socket.self.rooms c.forget.new.self.rooms
      c.loop-socket-test.true c.socket-item.is c.loop-socket.invariant.2 c.forget.ensures.rooms,
)

pub returns : goal.returns
returns c = subst (λ ks. WithoutSockets ks c.args.self.now c.loop-socket.self) (take_all c.loop-socket.socket-index c.args.sockets.now (omega arith)) c.loop-socket.invariant
