use Rattle.std.proofs.Common.{OnOk, OnErr, [], ◌∷◌, subst}
use Rattle.connection.specs.History.{Asked}
use Rattle.connection.specs.Line.{PlainLine, Advances}
use Rattle.connection.proofs.LineLemmas.{asked, refused, kept, on_ok, on_err}
use Rattle.connection.proofs.line.Line.ask.Goals as goal

pub invariant_of-self : goal.invariant_of-self
invariant_of-self c = kept _ c.args.sid c.ask.new.books.entries c.ask.ensures.others (Asked c.args.sid c.args.tag c.args.until ∷ []) c.ask.result
    (on_ok c.ask.result (asked _ c.args.sid c.ask.new.books.entries c.ask.ensures.others c.args.tag c.args.until) c.ask.ensures.own.leads) c.ask.ensures.own.unchanged c.self.invariant

pub returns-clause-advances : goal.returns-clause-advances
returns-clause-advances c =
    let old : PlainLine = record { assembler = c.self.inside.assembler; clock = c.self.inside.clock; getting = c.self.inside.getting; ping = c.self.inside.ping; books = c.self.inside.books.entries } in
    subst (λ l. OnOk c.ask.result (Advances l (Asked c.args.sid c.args.tag c.args.until ∷ []) (record old { books = c.ask.new.books.entries }))) c.self.view_is
    (on_ok c.ask.result (asked _ c.args.sid c.ask.new.books.entries c.ask.ensures.others c.args.tag c.args.until) c.ask.ensures.own.leads)

pub returns-clause-unchanged : goal.returns-clause-unchanged
returns-clause-unchanged c =
    let old : PlainLine = record { assembler = c.self.inside.assembler; clock = c.self.inside.clock; getting = c.self.inside.getting; ping = c.self.inside.ping; books = c.self.inside.books.entries } in
    subst (λ l. OnErr c.ask.result (Advances l [] (record old { books = c.ask.new.books.entries }))) c.self.view_is
    (on_err c.ask.result (refused _ c.args.sid c.ask.new.books.entries c.ask.ensures.others) c.ask.ensures.own.unchanged)
