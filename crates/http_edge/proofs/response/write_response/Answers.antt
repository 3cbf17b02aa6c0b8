use Rattle.std.proofs.Common.{refl, rules, ◌≡◌, string_bytes, option_map}
use Rattle.http_edge.specs.Answer as http
use Rattle.http_edge.proofs.AnswerLemmas.{built}
use Rattle.http_edge.proofs.response.write_response.Goals as goal

pub returns-clause-whole : goal.returns-clause-whole
returns-clause-whole g c =
    let answer : string_bytes c.push_str-2.new.self ≡ http.answer c.args.status (option_map string_bytes c.args.origin.now) c.args.body.now =
    built c.args.status _ _ c.args.body.now _ _ _ c.new-text.ensures.bytes c.line-code.ensures.code c.line-code.ensures.reason
    (rw (c.in_ok-push_str-2.ensures.bytes, c.in_ok-push_str.ensures.bytes, c.in_ok-push_field.ensures, c.in_ok-push_origin.ensures, c.in_ok-push_content.ensures, c.in_ok-push_status_line.ensures) refl) in
    search (rules, answer)

pub returns-clause-front : goal.returns-clause-front
returns-clause-front g c =
    let answer : string_bytes c.push_str-2.new.self ≡ http.answer c.args.status (option_map string_bytes c.args.origin.now) c.args.body.now =
    built c.args.status _ _ c.args.body.now _ _ _ c.new-text.ensures.bytes c.line-code.ensures.code c.line-code.ensures.reason
    (rw (c.in_ok-push_str-2.ensures.bytes, c.in_ok-push_str.ensures.bytes, c.in_ok-push_field.ensures, c.in_ok-push_origin.ensures, c.in_ok-push_content.ensures, c.in_ok-push_status_line.ensures) refl) in
    search (rules, answer)
