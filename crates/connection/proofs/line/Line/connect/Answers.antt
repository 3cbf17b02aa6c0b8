use Rattle.std.proofs.Common.{[], ◌∷◌, subst, rules}
use Rattle.connection.specs.History.{Connected}
use Rattle.connection.specs.Line.{PlainLine, Advances}
use Rattle.connection.proofs.LineLemmas.{advanced, entered}
use Rattle.connection.proofs.line.Line.connect.Goals as goal

pub invariant_of-self : goal.invariant_of-self
invariant_of-self c = advanced _ _ (Connected c.args.sid ∷ []) (entered _ c.args.sid c.joined.new.self c.remove.new.self.entries c.joined.ensures (λ s. search rules)) c.self.invariant

pub returns : goal.returns
returns c =
    let old : PlainLine = record { assembler = c.self.inside.assembler; clock = c.self.inside.clock; getting = c.self.inside.getting; ping = c.self.inside.ping; books = c.self.inside.books.entries } in
    subst (λ l. Advances l (Connected c.args.sid ∷ []) (record old { clock = c.joined.new.self; books = c.remove.new.self.entries })) c.self.view_is (entered _ c.args.sid c.joined.new.self c.remove.new.self.entries c.joined.ensures (λ s. search rules))
