use Rattle.std.proofs.Common.{OnOk, OnErr, [], ◌∷◌, subst}
use Rattle.connection.specs.History.{Answered}
use Rattle.connection.specs.Line.{PlainLine, Advances}
use Rattle.connection.proofs.LineLemmas.{answered, refused, kept, on_ok, on_err}
use Rattle.connection.proofs.line.Line.answer.Goals as goal

pub invariant_of-self : goal.invariant_of-self
invariant_of-self c = kept _ c.args.sid c.answer.new.books.entries c.answer.ensures.others (Answered c.args.sid c.args.id ∷ []) c.answer.result
    (on_ok c.answer.result (answered _ c.args.sid c.answer.new.books.entries c.answer.ensures.others c.args.id) c.answer.ensures.own.leads) c.answer.ensures.own.unchanged c.self.invariant

pub returns-clause-advances : goal.returns-clause-advances
returns-clause-advances c =
    let old : PlainLine = record { assembler = c.self.inside.assembler; clock = c.self.inside.clock; getting = c.self.inside.getting; ping = c.self.inside.ping; books = c.self.inside.books.entries } in
    subst (λ l. OnOk c.answer.result (Advances l (Answered c.args.sid c.args.id ∷ []) (record old { books = c.answer.new.books.entries }))) c.self.view_is
    (on_ok c.answer.result (answered _ c.args.sid c.answer.new.books.entries c.answer.ensures.others c.args.id) c.answer.ensures.own.leads)

pub returns-clause-unchanged : goal.returns-clause-unchanged
returns-clause-unchanged c =
    let old : PlainLine = record { assembler = c.self.inside.assembler; clock = c.self.inside.clock; getting = c.self.inside.getting; ping = c.self.inside.ping; books = c.self.inside.books.entries } in
    subst (λ l. OnErr c.answer.result (Advances l [] (record old { books = c.answer.new.books.entries }))) c.self.view_is
    (on_err c.answer.result (refused _ c.args.sid c.answer.new.books.entries c.answer.ensures.others) c.answer.ensures.own.unchanged)
