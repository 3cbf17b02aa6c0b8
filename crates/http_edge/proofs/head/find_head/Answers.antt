use Rattle.std.proofs.Common.{rules}
use Rattle.http_edge.specs.Head.{IsHeadOf}
use Rattle.http_edge.specs.Reading.{LacksLength, NamesTooMuch}
use Rattle.http_edge.proofs.ParsedLemmas.{ok_parsed, err_parsed}
use Rattle.http_edge.proofs.head.find_head.Goals as goal

pub returns-in-Ok-Complete-clause-head : goal.returns-in-Ok-Complete-clause-head
returns-in-Ok-Complete-clause-head c = ok_parsed c.head_of.result (λ head h. IsHeadOf head h) c.args.bytes.now c.parse_request.new.headers c.in-Ok-Complete.found (search rules) (search rules) c.head_of.ensures.head

pub returns-in-Ok-Complete-clause-unnamed : goal.returns-in-Ok-Complete-clause-unnamed
returns-in-Ok-Complete-clause-unnamed c = err_parsed c.head_of.result _ LacksLength c.args.bytes.now c.parse_request.new.headers c.in-Ok-Complete.found (search rules) (search rules) c.head_of.ensures.unnamed

pub returns-in-Ok-Complete-clause-too_long : goal.returns-in-Ok-Complete-clause-too_long
returns-in-Ok-Complete-clause-too_long c = err_parsed c.head_of.result _ NamesTooMuch c.args.bytes.now c.parse_request.new.headers c.in-Ok-Complete.found (search rules) (search rules) c.head_of.ensures.too_long
