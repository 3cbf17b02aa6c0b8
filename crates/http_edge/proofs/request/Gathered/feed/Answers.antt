use Rattle.std.proofs.Common.{rules}
use Rattle.http_edge.proofs.OpeningLemmas.{more_fed}
use Rattle.http_edge.proofs.request.Gathered.feed.Goals as goal

pub returns-in-Ok-More-clause-more : goal.returns-in-Ok-More-clause-more
returns-in-Ok-More-clause-more c = λ none.
    more_fed c.args.self.now c.in-Ok-More.come c.step_of.result c.args.piece.now (search rules)
    (λ bytes is. c.step_of.ensures.step bytes (search (rules, is))) (λ fault is. c.step_of.ensures.failed fault (search (rules, is)))
