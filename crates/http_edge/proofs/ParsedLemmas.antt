-- A head that was parsed, as the spans show it.
use Rattle.std.proofs.Common.{◌≡◌, ◌≤◌, ℕ, List, Result, Ok, Err, length, take, arith, length-take, sym, ap, ◌∙◌}
use Rattle.std.proofs.lemmas.List.{length-map}
use Rattle.std.specs.Prelude.{IfOk, IfErr}
use Rattle.httparse.specs.Grammar.{RequestHead, Field}
use Rattle.httparse.specs.Spans.{IsRequestAt, IsRequestOf, AreFieldsAt}
use Rattle.httparse.specs.declared.spans.HeaderSpan.{HeaderSpan}
use Rattle.httparse.specs.declared.spans.RequestSpans.{RequestSpans}
use Rattle.http_edge.specs.Head.{HasParsed}

few : (buf : List ℕ) (spans : List HeaderSpan) (count : ℕ) (fields : List Field) → length spans ≡ 100 → AreFieldsAt buf spans count fields → length fields ≤ 100
few buf spans count fields free at =
    let same : length (take count spans) ≡ length fields =
    sym (length-map _ _) ∙ ap length at ∙ length-map _ _ in
    grind (arith, same, free, length-take count spans)

parsed : (buf : List ℕ) (spans : List HeaderSpan) (r : RequestSpans) (h : RequestHead) (P : RequestHead → Type 0) → length spans ≡ 100 → IsRequestAt buf spans r h → P h
    → HasParsed buf P
parsed buf spans r h P free at p = (h, _, at.reads, few buf spans r.headers h.fields free at.fields, p)

pub ok_parsed : {A E : Type 0} (x : Result A E) (P : A → RequestHead → Type 0) (buf : List ℕ) (spans : List HeaderSpan) (r : RequestSpans) → length spans ≡ 100
    → IsRequestOf buf spans r → ((h : RequestHead) → IsRequestAt buf spans r h → IfOk x (λ a. P a h)) → IfOk x (λ a. HasParsed buf (P a))
ok_parsed (Ok a) P buf spans r free shown all = parsed buf spans r shown.0 (P a) free shown.1 (all shown.0 shown.1)
ok_parsed (Err e) P buf spans r free shown all = tt

pub err_parsed : {A E : Type 0} (x : Result A E) (fault : E) (P : RequestHead → Type 0) (buf : List ℕ) (spans : List HeaderSpan) (r : RequestSpans) → length spans ≡ 100
    → IsRequestOf buf spans r → ((h : RequestHead) → IsRequestAt buf spans r h → IfErr x (λ e. e ≡ fault → P h)) → IfErr x (λ e. e ≡ fault → HasParsed buf P)
err_parsed (Ok a) fault P buf spans r free shown all = tt
err_parsed (Err e) fault P buf spans r free shown all = λ is. parsed buf spans r shown.0 P free shown.1 (all shown.0 shown.1 is)
