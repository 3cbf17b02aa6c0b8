use Rattle.std.proofs.Common.{codes, string_bytes}
use Rattle.http_edge.specs.Answer as http
use Rattle.http_edge.proofs.AnswerLemmas.{two}
use Rattle.http_edge.proofs.response.push_origin.Goals as goal

pub returns : goal.returns
returns c = rw (c.in-Some.is, c.in_ok-push_field-2.ensures, c.in_ok-push_field.ensures, c.as_str.ensures.value)
    (two (string_bytes c.args.text.now) (http.field (codes "Access-Control-Allow-Origin") (string_bytes c.in-Some.origin)) (http.field (codes "Vary") (codes "Origin")))
