use Rattle.std.proofs.Common.{rules, ◌≡◌, ◌∙◌, Err}
use Rattle.connection.specs.Line.{fresh_book, book_in}
use Rattle.connection.proofs.BookLemmas.{asks-failed}
use Rattle.connection.proofs.LineLemmas.{fresh-is}
use Rattle.connection.proofs.ack_book.ask.Goals as goal

pub returns-in_err-id-clause-own : goal.returns-in_err-id-clause-own
returns-in_err-id-clause-own c =
    let was : book_in c.args.books.now.entries c.args.sid ≡ fresh_book = search rules in
    let still : book_in c.get_mut.follows.lender-at-none.entries c.args.sid ≡ fresh_book = search rules in
    let failed : c.from_residual.result ≡ Err c.in_err-id.field-0.0 = search rules in
    rw (failed, was, still) (asks-failed fresh_book c.new-book.result c.ask-2.new.self c.args.tag c.args.until c.in_err-id.field-0.0 (fresh-is _ c.new-book.ensures) c.in_err-id.ensures.asks)

pub returns-clause-own : goal.returns-clause-own
returns-clause-own c =
    let was : book_in c.args.books.now.entries c.args.sid ≡ fresh_book = search rules in
    let has : book_in c.insert.new.self.entries c.args.sid ≡ c.ask-2.new.self = search rules in
    rw (was, has, ← fresh-is _ c.new-book.ensures) c.in_ok-id.ensures.asks

pub returns-clause-others : goal.returns-clause-others
returns-clause-others c = λ s other.
    let kept : book_in c.insert.new.self.entries s ≡ book_in c.get_mut.follows.lender-at-none.entries s = search rules in
    let before : book_in c.get_mut.follows.lender-at-none.entries s ≡ book_in c.args.books.now.entries s = search rules in
    kept ∙ before
