use Rattle.quiz.proofs.CleanLemmas.{clean-effects}
use Rattle.quiz.proofs.quiz.QuizApp.decides.Goals as goal

pub returns-clause-clean : goal.returns-clause-clean
returns-clause-clean c = clean-effects (λ effects. effects.items) c.args.who.now c.args.arrived.now c.decide.result c.decide.ensures
