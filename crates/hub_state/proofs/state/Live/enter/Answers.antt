use Rattle.std.proofs.Common.{rules}
use Rattle.hub_state.specs.Seats.{SameSeats}
use Rattle.hub_state.specs.Changes.{SamePids, WithPid, WithoutPid}
use Rattle.hub_state.proofs.state.Live.enter.Goals as goal

pub returns-then-is_err-2-clause-err : goal.returns-then-is_err-2-clause-err
returns-then-is_err-2-clause-err c =
    let more : WithPid c.args.socket.now.pid c.args.self.now.pids c.insert-2.new.self = λ p. search rules in
    let less : WithoutPid c.args.socket.now.pid c.insert-2.new.self c.remove-then-is_err-2-2.new.self = λ p. search rules in
    let seats : SameSeats c.args.self.now.seats c.remove-then-is_err-2.new.self = λ s. search rules in
    let pids : SamePids c.args.self.now.pids c.remove-then-is_err-2-2.new.self = λ p. search (rules, more, less) in
    (seats, pids, search rules)
