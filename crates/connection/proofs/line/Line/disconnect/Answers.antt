use Rattle.std.proofs.Common.{[], ◌∷◌, subst, rules}
use Rattle.connection.specs.History.{Disconnected}
use Rattle.connection.specs.Line.{PlainLine, Advances}
use Rattle.connection.proofs.LineLemmas.{advanced, left}
use Rattle.connection.proofs.line.Line.disconnect.Goals as goal

pub invariant_of-self : goal.invariant_of-self
invariant_of-self c = advanced _ _ (Disconnected c.args.sid ∷ []) (left _ c.args.sid c.remove.new.self.entries (λ s. search rules)) c.self.invariant

pub returns : goal.returns
returns c =
    let old : PlainLine = record { assembler = c.self.inside.assembler; clock = c.self.inside.clock; getting = c.self.inside.getting; ping = c.self.inside.ping; books = c.self.inside.books.entries } in
    subst (λ l. Advances l (Disconnected c.args.sid ∷ []) (record old { books = c.remove.new.self.entries })) c.self.view_is (left _ c.args.sid c.remove.new.self.entries (λ s. search rules))
