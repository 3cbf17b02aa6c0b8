-- The parts of a head that was parsed.
use Rattle.std.proofs.Common.{◌≡◌, ◌≤◌, ◌<◌, ℕ, Bool, true, false, List, length, take, refl, arith, IsUtf8, codes}
use Rattle.std.specs.Prelude.{All, bytes_eq}
use Rattle.std.proofs.lemmas.List.Elements.{All-weaker}
use Rattle.std.proofs.lemmas.Bool.Decides.{nat_tests}
use Rattle.std.proofs.lemmas.Str.{IsUtf8-from_ascii}
use Rattle.std.proofs.lemmas.Str.Ascii.{IsAscii-from_all}
use Rattle.httparse.specs.Grammar.{is_token_byte, IsToken, RequestHead}
use Rattle.httparse.specs.Spans.{IsHeaderWithin, IsRequestWithin, IsRequestAt, span_bytes}
use Rattle.httparse.specs.declared.spans.HeaderSpan.{HeaderSpan}
use Rattle.httparse.specs.declared.spans.RequestSpans.{RequestSpans}
use Rattle.http_edge.specs.Request.{Fields, fields_of, is_post, NamesLength, HasLength, HasBodyOf}
use Rattle.http_edge.specs.Reading.{LacksLength, NamesTooMuch}

token_is_ascii : (b : ℕ) → is_token_byte b ≡ true → b < 128
unfolding is_token_byte
token_is_ascii b token = grind (arith, nat_tests)

token_text : (bytes : List ℕ) → IsToken bytes → IsUtf8 bytes
token_text bytes token = IsUtf8-from_ascii _ (IsAscii-from_all _ (All-weaker (λ b. is_token_byte b ≡ true) (λ b. b < 128) token_is_ascii _ token.1))

pub method_is_text : (buf : List ℕ) (spans : List HeaderSpan) (r : RequestSpans) (h : RequestHead) → IsRequestAt buf spans r h → IsUtf8 (span_bytes buf r.method)
method_is_text buf spans r h at = rw at.method (token_text h.method at.reads.0.method)

pub target_is_text : (buf : List ℕ) (spans : List HeaderSpan) (r : RequestSpans) (h : RequestHead) → IsRequestAt buf spans r h → IsUtf8 (span_bytes buf r.path)
target_is_text buf spans r h at = rw at.path at.reads.0.target_text

within_more : (n m : ℕ) (s : HeaderSpan) → n ≤ m → IsHeaderWithin n s → IsHeaderWithin m s
within_more n m s more h = ((h.0.0, omega (arith, more, h.0.1)), (h.1.0, omega (arith, more, h.1.1)))

pub fields_within : (buf : List ℕ) (spans : List HeaderSpan) (r : RequestSpans) → IsRequestWithin buf spans r → All (IsHeaderWithin (length buf)) (take r.headers spans)
fields_within buf spans r within =
    All-weaker (IsHeaderWithin r.len) (IsHeaderWithin (length buf)) (λ s h. within_more r.len (length buf) s within.section.len_fits h) _ within.section.headers_fit

pub lacks_length : (h : RequestHead) (method : List ℕ) (fields : Fields) → method ≡ h.method → fields ≡ fields_of h → bytes_eq method (codes "POST") ≡ true
    → ((n : ℕ) → ¬ NamesLength fields n) → LacksLength h
lacks_length h method fields m f posted none = (rw (← m) posted, rw (← f) none)

pub names_too_much : (h : RequestHead) (method : List ℕ) (fields : Fields) → method ≡ h.method → fields ≡ fields_of h → bytes_eq method (codes "POST") ≡ true
    → ((n : ℕ) × NamesLength fields n × (1000000 < n)) → NamesTooMuch h
names_too_much h method fields m f posted much = (rw (← m) posted, much.0, rw (← f) much.1, much.2)

body_by : (t : Bool) (fields : Fields) (n : ℕ) → (t ≡ true → NamesLength fields n × (n ≤ 1000000)) → (t ≡ false → n ≡ 0)
    → HasLength t fields n
body_by true fields n posted other = posted refl
body_by false fields n posted other = other refl

pub body_is : (h : RequestHead) (method : List ℕ) (fields : Fields) (n : ℕ) → method ≡ h.method → fields ≡ fields_of h
    → (bytes_eq method (codes "POST") ≡ true → NamesLength fields n × (n ≤ 1000000)) → (bytes_eq method (codes "POST") ≡ false → n ≡ 0) → HasBodyOf h n
body_is h method fields n m f posted other = body_by (is_post h) (fields_of h) n (rw (m, f) at posted) (rw m at other)
