use Rattle.std.proofs.Common.{rules, []}
use Rattle.connection.specs.Questions.{asks, open_questions}
use Rattle.connection.specs.Book.{IsLegal}
use Rattle.connection.proofs.ack_book.AckBook.new.Goals as goal

pub invariant_of-result : goal.invariant_of-result
unfolding asks open_questions IsLegal
invariant_of-result c = record { first = c.args.first; calls = []; leads = search rules }

pub returns : goal.returns
unfolding asks open_questions IsLegal
returns c = search rules
