use Rattle.std.proofs.Common.{◌≡◌, ◌≢◌, [], ◌∷◌, sym, subst, ◌∙◌, rules}
use Rattle.connection.specs.declared.clock.Due.{Due}
use Rattle.connection.specs.declared.clock.Due.TheVariants.{SendPing}
use Rattle.connection.specs.History.{Ticked}
use Rattle.connection.specs.Line.{PlainLine, Advances}
use Rattle.connection.proofs.LineLemmas.{all-expired, advanced, ping_after, still-due, ticked}
use Rattle.connection.proofs.line.Line.tick.Goals as goal

pub invariant_of-self : goal.invariant_of-self
invariant_of-self c =
    let old : PlainLine = record { assembler = c.self.inside.assembler; clock = c.self.inside.clock; getting = c.self.inside.getting; ping = c.self.inside.ping; books = c.self.inside.books.entries } in
    let due = c.tick-due.result in
    let is : due ≡ SendPing = search rules in
    let now : PlainLine = record old { clock = c.tick-due.new.self; books = c.retain.new.self.entries } in
    advanced old (record now { ping = ping_after SendPing old.ping }) (Ticked c.args.now due ∷ [])
    (subst (λ (d : Due). Advances old (Ticked c.args.now due ∷ []) (record now { ping = ping_after d old.ping })) is
    (ticked old c.args.now due c.tick-due.new.self c.retain.new.self.entries c.tick-due.ensures.leads (λ s. all-expired _ c.args.now _ (λ k v b w g called. search rules) c.self.inside.books.entries c.retain.new.self.entries c.retain.ensures.filtered s))) c.self.invariant

pub invariant_of-self-else-eq : goal.invariant_of-self-else-eq
invariant_of-self-else-eq c =
    let old : PlainLine = record { assembler = c.self.inside.assembler; clock = c.self.inside.clock; getting = c.self.inside.getting; ping = c.self.inside.ping; books = c.self.inside.books.entries } in
    let due = c.tick-due.result in
    let other : due ≢ SendPing = (λ is. let differs = rw is at (sym c.eq.ensures ∙ c.if-eq.false) in cc differs) in
    let now : PlainLine = record old { clock = c.tick-due.new.self; books = c.retain.new.self.entries } in
    advanced old now (Ticked c.args.now due ∷ [])
    (subst (λ p. Advances old (Ticked c.args.now due ∷ []) (record now { ping = p })) (sym (still-due due old.ping other))
    (ticked old c.args.now due c.tick-due.new.self c.retain.new.self.entries c.tick-due.ensures.leads (λ s. all-expired _ c.args.now _ (λ k v b w g called. search rules) c.self.inside.books.entries c.retain.new.self.entries c.retain.ensures.filtered s))) c.self.invariant

pub returns-then-eq-clause-advances : goal.returns-then-eq-clause-advances
returns-then-eq-clause-advances c =
    let old : PlainLine = record { assembler = c.self.inside.assembler; clock = c.self.inside.clock; getting = c.self.inside.getting; ping = c.self.inside.ping; books = c.self.inside.books.entries } in
    let due = c.tick-due.result in
    let is : due ≡ SendPing = search rules in
    let now : PlainLine = record old { clock = c.tick-due.new.self; books = c.retain.new.self.entries } in
    subst (λ l. Advances l (Ticked c.args.now due ∷ []) (record now { ping = ping_after SendPing old.ping })) c.self.view_is
    (subst (λ (d : Due). Advances old (Ticked c.args.now due ∷ []) (record now { ping = ping_after d old.ping })) is
    (ticked old c.args.now due c.tick-due.new.self c.retain.new.self.entries c.tick-due.ensures.leads (λ s. all-expired _ c.args.now _ (λ k v b w g called. search rules) c.self.inside.books.entries c.retain.new.self.entries c.retain.ensures.filtered s)))

pub returns-else-eq-clause-advances : goal.returns-else-eq-clause-advances
returns-else-eq-clause-advances c =
    let old : PlainLine = record { assembler = c.self.inside.assembler; clock = c.self.inside.clock; getting = c.self.inside.getting; ping = c.self.inside.ping; books = c.self.inside.books.entries } in
    let due = c.tick-due.result in
    let other : due ≢ SendPing = (λ is. let differs = rw is at (sym c.eq.ensures ∙ c.if-eq.false) in cc differs) in
    let now : PlainLine = record old { clock = c.tick-due.new.self; books = c.retain.new.self.entries } in
    subst (λ l. Advances l (Ticked c.args.now due ∷ []) now) c.self.view_is
    (subst (λ p. Advances old (Ticked c.args.now due ∷ []) (record now { ping = p })) (sym (still-due due old.ping other))
    (ticked old c.args.now due c.tick-due.new.self c.retain.new.self.entries c.tick-due.ensures.leads (λ s. all-expired _ c.args.now _ (λ k v b w g called. search rules) c.self.inside.books.entries c.retain.new.self.entries c.retain.ensures.filtered s)))
