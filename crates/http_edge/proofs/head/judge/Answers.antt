use Rattle.std.proofs.Common.{◌≡◌, List, ℕ, Result, Ok, Err, rules}
use Rattle.httparse.specs.Grammar.{MayBecomeRequest}
use Rattle.httparse.specs.Outcome.{IfComplete, OnPartial}
use Rattle.httparse.specs.Spans.{IsRequestOf}
use Rattle.httparse.specs.declared.Error.{Error}
use Rattle.httparse.specs.declared.Status.{Status}
use Rattle.httparse.specs.declared.Status.TheVariants.{Complete, Partial}
use Rattle.httparse.specs.declared.spans.HeaderSpan.{HeaderSpan}
use Rattle.httparse.specs.declared.spans.RequestSpans.{RequestSpans}
use Rattle.http_edge.specs.Reading.{HasEmptyLine}
use Rattle.http_edge.proofs.HeadEndLemmas.{head_ends}
use Rattle.http_edge.proofs.OpeningLemmas.{cant_begin}
use Rattle.http_edge.proofs.head.judge.Goals as goal

may_become : (r : Result (Status RequestSpans) Error) (s : Status RequestSpans) (buf : List ℕ) (spans : List HeaderSpan) → r ≡ Ok s
    → IfComplete r (IsRequestOf buf spans) → OnPartial r (MayBecomeRequest buf) → (¬ HasEmptyLine buf) → MayBecomeRequest buf
may_become (Ok (Complete found)) s buf spans is shown may unended = absurd (unended (head_ends buf _ shown.0 shown.1.reads))
may_become (Ok Partial) s buf spans is shown may unended = may
may_become (Err e) s buf spans is shown may unended = absurd (search (rules, is))

pub returns-in-Ok-clause-may : goal.returns-in-Ok-clause-may
returns-in-Ok-clause-may c =
    may_become c.parse_request.result c.in-Ok.field-0 c.args.bytes.now c.parse_request.new.headers c.in-Ok.is c.parse_request.ensures.complete c.parse_request.ensures.unfinished c.requires.unended

pub returns-in-Err-clause-fault : goal.returns-in-Err-clause-fault
returns-in-Err-clause-fault c = cant_begin c.args.bytes.now c.requires.short c.in-Err.ensures.no_room
