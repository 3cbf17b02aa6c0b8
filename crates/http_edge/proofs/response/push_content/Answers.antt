use Rattle.std.proofs.Common.{◌≡◌, ◌++◌, codes, string_bytes, rules}
use Rattle.http_edge.specs.Answer as http
use Rattle.http_edge.proofs.AnswerLemmas.{three}
use Rattle.http_edge.proofs.response.push_content.Goals as goal

pub returns-in_ok-push_field-3 : goal.returns-in_ok-push_field-3
returns-in_ok-push_field-3 c =
    let all : string_bytes c.push_field-then-eq-2.new.text ≡ string_bytes c.args.text.now ++ http.permission =
    rw (c.in_ok-push_field-3.ensures, c.in_ok-push_field-2.ensures, c.in_ok-push_field.ensures)
    (three (string_bytes c.args.text.now) (http.field (codes "Access-Control-Allow-Methods") (codes "GET, POST"))
    (http.field (codes "Access-Control-Allow-Headers") (codes "Content-Type")) (http.field (codes "Access-Control-Max-Age") (codes "7200"))) in
    search (rules, all)
