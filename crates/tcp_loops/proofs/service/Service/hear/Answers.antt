use Rattle.std.proofs.Common.{rules, ◌≡◌, Ok, Err, subst, refl, true, true≢false}
use Rattle.std.specs.Prelude.{Result}
use Rattle.std.specs.Result.{is_ok}
use Rattle.tcp_loops.specs.Comes as comes
use Rattle.tcp_loops.proofs.service.Service.hear.Goals as goal

fine : {E : Type 0} (r : Result (Unit {0}) E) → true ≡ is_ok r → r ≡ Ok tt
fine (Ok x) e = refl
fine (Err x) e = absurd (true≢false e)

-- what its peer heard stands between the two
pub returns-clause-rest : goal.returns-clause-rest
returns-clause-rest g c =
    let heard = fine c.answer.result c.in_ok-ok.ensures.variant in
    (c.answer.new.self, subst (λ r. comes.Hears c.args.got.now c.args.self.now r c.answer.new.self) heard c.answer.ensures, search rules)
