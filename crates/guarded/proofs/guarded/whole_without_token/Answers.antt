use Rattle.guarded.proofs.IntroducedLemmas.{if_without}
use Rattle.guarded.proofs.guarded.whole_without_token.Goals as goal

pub returns-clause-whole : goal.returns-clause-whole
returns-clause-whole c = if_without c.args.payload.now c.without_token.result c.without_token.ensures
