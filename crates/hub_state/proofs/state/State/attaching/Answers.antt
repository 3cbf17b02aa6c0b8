use Rattle.std.proofs.Common.{rules, arith, refl, ◌≡◌, ◌∙◌, true}
use Rattle.journal.specs.declared.socket.Socket.{Socket}
use Rattle.journal.specs.declared.step.What.TheVariants.{Attached}
use Rattle.journal.specs.Membership.{is_open, place_of}
use Rattle.journal.proofs.SocketsLemmas.{puts_attached}
use Rattle.hub_state.proofs.state.State.attaching.Goals as goal

pub returns-then-is_taken-clause-refused : goal.returns-then-is_taken-clause-refused
returns-then-is_taken-clause-refused c =
    let is = c.from-place.ensures ∙ c.in_ok-space.ensures.place in
    let t = c.is_taken.ensures c.args.client (place_of c.args.self.now.limits c.args.space.now) in
    search (rules, is, t)

pub returns-then-lacks_answer-clause-refused : goal.returns-then-lacks_answer-clause-refused
returns-then-lacks_answer-clause-refused c =
    let is = c.from-place.ensures ∙ c.in_ok-space.ensures.place in
    let known : is_open c.args.self.now.base c.args.self.now.journal c.args.client ≡ true = search rules in
    let t = c.is_taken.ensures c.args.client (place_of c.args.self.now.limits c.args.space.now) in
    let f = rw is at (c.lacks_answer.ensures known c.args.sid c.args.pid) in
    search (rules, is, t, f)

pub returns-in_err-may_count-clause-refused : goal.returns-in_err-may_count-clause-refused
returns-in_err-may_count-clause-refused c =
    let place = place_of c.args.self.now.limits c.args.space.now in
    let is = c.from-place.ensures ∙ c.in_ok-space.ensures.place in
    let known : is_open c.args.self.now.base c.args.self.now.journal c.args.client ≡ true = search rules in
    let k : Socket = record { client = c.args.client; space = place; sid = c.args.sid; pid = c.args.pid } in
    let t = c.is_taken.ensures c.args.client place in
    let f = rw is at (c.lacks_answer.ensures known c.args.sid c.args.pid) in
    let s = c.in_err-may_count.ensures (Attached k) (puts_attached _ _ _ k) refl (omega arith) in
    search (rules, is, t, f, s)

pub returns-clause-accepted : goal.returns-clause-accepted
returns-clause-accepted c =
    let place = place_of c.args.self.now.limits c.args.space.now in
    let is = c.from-place.ensures ∙ c.in_ok-space.ensures.place in
    let known : is_open c.args.self.now.base c.args.self.now.journal c.args.client ≡ true = search rules in
    let k : Socket = record { client = c.args.client; space = place; sid = c.args.sid; pid = c.args.pid } in
    let t = c.is_taken.ensures c.args.client place in
    let f = rw is at (c.lacks_answer.ensures known c.args.sid c.args.pid) in
    let s = c.in_ok-may_count.ensures (Attached k) (puts_attached _ _ _ k) refl (omega arith) in
    search (rules, is, t, f, s)
