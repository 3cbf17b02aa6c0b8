use Rattle.std.proofs.Common.{nat_cmp, sym, subst, rules}
use Rattle.std.specs.Prelude.{IsSome}
use Rattle.std.specs.BTreeMap.{is_at}
use Rattle.std.specs.Map.{lookup}
use Rattle.connection.specs.Questions.{Answered}
use Rattle.connection.specs.Book.{LeadsTo}
use Rattle.connection.proofs.QuestionLemmas.{open_is_unanswered}
use Rattle.connection.proofs.BookLemmas.{one_call_longer, found_is_open, leads_answered}
use Rattle.connection.proofs.ack_book.AckBook.answer.Goals as goal

pub invariant_of-self-2 : goal.invariant_of-self-2
invariant_of-self-2 c =
    let found : IsSome (lookup (is_at (nat_cmp c.args.id)) c.self.inside.questions.entries) = search rules in
    one_call_longer _ _ (Answered c.args.id)
    (λ first h leads. leads_answered first h _ c.args.id _ found c.remove.ensures.entries leads) c.self.invariant

pub returns-clause-once : goal.returns-clause-once
returns-clause-once c first h leads =
    let found : IsSome (lookup (is_at (nat_cmp c.args.id)) c.self.inside.questions.entries) = search rules in
    open_is_unanswered first h c.args.id leads.legal
    (found_is_open first h _ c.args.id found (subst (LeadsTo first h) (sym c.self.view_is) leads))

pub returns-clause-answers : goal.returns-clause-answers
returns-clause-answers c =
    let found : IsSome (lookup (is_at (nat_cmp c.args.id)) c.self.inside.questions.entries) = search rules in
    record {
      answer = search rules;
      leads = λ first h leads. leads_answered first h _ c.args.id _ found c.remove.ensures.entries (subst (LeadsTo first h) (sym c.self.view_is) leads);
      unchanged = tt;
    }
