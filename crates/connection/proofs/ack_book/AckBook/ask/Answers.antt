use Rattle.std.proofs.Common.{sym, subst, arith, rules}
use Rattle.connection.specs.Questions.{Asked}
use Rattle.connection.specs.Book.{LeadsTo}
use Rattle.connection.proofs.BookLemmas.{one_call_longer, leads_asked}
use Rattle.connection.proofs.ack_book.AckBook.ask.Goals as goal

pub invariant_of-self-2 : goal.invariant_of-self-2
invariant_of-self-2 c =
    one_call_longer _ _ (Asked c.args.tag c.args.until)
    (λ first h leads. leads_asked first h _ c.args.tag c.args.until _ (omega arith) c.in-Ok.ensures.entries leads) c.self.invariant

pub returns-clause-asks : goal.returns-clause-asks
returns-clause-asks c = record {
  refused = search rules;
  memory_alone = search rules;
  id = search rules;
  leads = λ first h leads.
      leads_asked first h _ c.args.tag c.args.until _ (omega arith) c.in-Ok.ensures.entries (subst (LeadsTo first h) (sym c.self.view_is) leads);
  unchanged = tt;
}
