use Rattle.std.proofs.Common.{ap, sym, lit<, ◌==◌}
use Rattle.std.specs.Prelude.{codes, if◌then◌else◌}
use Rattle.std.specs.List.{after_first}
use Rattle.switchboard.proofs.TellingLemmas.{none_passes}
use Rattle.switchboard.proofs.telling.after_bracket.Goals as goal

pub returns-in-None : goal.returns-in-None
returns-in-None c =
    let array = c.args.array.now in
    sym (ap (λ b. if b then after_first (λ x. x == 91) array else codes "]") (none_passes (λ x. x == 91) array (c.in-None.ensures.byte (lit< tt) (λ w o f. f))))
