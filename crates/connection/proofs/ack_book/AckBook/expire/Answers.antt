use Rattle.std.proofs.Common.{sym, ap, subst, arith, nat_lt, rules}
use Rattle.std.specs.Prelude.{length, count_by, nat_le}
use Rattle.std.proofs.lemmas.Map.Made.{filter_same_pairs}
use Rattle.connection.specs.Questions.{Expired}
use Rattle.connection.specs.Book.{LeadsTo}
use Rattle.connection.proofs.BookLemmas.{one_call_longer, leads_expired, forgotten_by_expiry}
use Rattle.connection.proofs.ack_book.AckBook.expire.Goals as goal

pub invariant_of-self : goal.invariant_of-self
invariant_of-self c =
    let kept = filter_same_pairs _ (λ e. nat_lt c.args.now e.1.until) _ (λ k v b w f' t. search rules) _ _ c.retain.ensures.filtered in
    one_call_longer _ _ (Expired c.args.now) (λ first h leads. leads_expired first h _ c.args.now _ kept leads) c.self.invariant

pub returns-clause-leads : goal.returns-clause-leads
returns-clause-leads c first h leads =
    let kept = filter_same_pairs _ (λ e. nat_lt c.args.now e.1.until) _ (λ k v b w f' t. search rules) _ _ c.retain.ensures.filtered in
    leads_expired first h _ c.args.now _ kept (subst (LeadsTo first h) (sym c.self.view_is) leads)

pub returns-clause-counts : goal.returns-clause-counts
returns-clause-counts c first h leads =
    let kept = filter_same_pairs _ (λ e. nat_lt c.args.now e.1.until) _ (λ k v b w f' t. search rules) _ _ c.retain.ensures.filtered in
    let was = subst (LeadsTo first h) (sym c.self.view_is) leads in
    omega (arith, ap length kept, ap length was.questions, ap (count_by (λ e. nat_le e.1.until c.args.now)) was.questions, forgotten_by_expiry c.args.now c.self.inside.questions.entries, c.len-before.ensures.len, c.len.ensures.len)
