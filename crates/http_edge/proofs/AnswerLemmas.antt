-- An answer's text, put together piece by piece.
use Rattle.std.proofs.Common.{◌≡◌, ◌++◌, ℕ, List, [], Option, length, codes, refl, append_assoc}
use Rattle.http_edge.specs.Answer as http
use Rattle.http_edge.specs.declared.response.Status.{Status}

-- pieces that were appended one after another
pub two : (z a b : List ℕ) → z ++ a ++ b ≡ z ++ (a ++ b)
two z a b = simp append_assoc refl

pub three : (z a b c : List ℕ) → z ++ a ++ b ++ c ≡ z ++ (a ++ b ++ c)
three z a b c = simp append_assoc refl

six : (a b c d e f : List ℕ) → (((((([] ++ a) ++ b) ++ c) ++ d) ++ e) ++ f) ≡ a ++ b ++ c ++ d ++ e ++ f
six a b c d e f = simp append_assoc refl

pub built : (s : Status) (origin : Option (List ℕ)) (code : ℕ) (body line before after : List ℕ) → before ≡ [] → code ≡ http.code_of s → line ≡ http.reason s
    → after ≡ (((((before ++ http.status_line code line) ++ http.content s (length body)) ++ http.granted origin)
    ++ http.field (codes "Connection") (codes "close")) ++ http.crlf) ++ body
    → after ≡ http.answer s origin body
unfolding http.answer
built s origin code body line before after none is_code is_line e = rw (e, none, is_code, is_line)
    (six (http.status_line (http.code_of s) (http.reason s)) (http.content s (length body)) (http.granted origin) (http.field (codes "Connection") (codes "close")) http.crlf body)
