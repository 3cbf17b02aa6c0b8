use Rattle.std.proofs.Common.{rules}
use Rattle.loop_rules.proofs.PaceLemmas.{keeps_pace}
use Rattle.loop_rules.proofs.paces.Paces.bring.Goals as goal

pub returns-clause-brought : goal.returns-clause-brought
returns-clause-brought c =
    let law = keeps_pace c.args.self.now.pace c.allowance.result c.args.count c.args.now (search rules) in
    search (rules, law)
