-- A request at the front of some bytes.
use Rattle.std.proofs.Common.{◌≡◌, ◌≤◌, ◌+◌, ◌-◌, ℕ, List, [], ◌∷◌, ◌++◌, length, take, drop, refl, sym, ◌∙◌, arith, length-append, length-drop, length-take, take-append-drop, append_assoc, IsUtf8, string_bytes}
use Rattle.std.proofs.lemmas.List.{take_all, drop-drop}
use Rattle.std.proofs.Math.Seq.{take-append_seam}
use Rattle.httparse.specs.Grammar.{print_request}
use Rattle.http_edge.specs.Reading.{HasHead, HasNoText, IsRequestIn}
use Rattle.http_edge.specs.Head.{Begins}
use Rattle.http_edge.specs.declared.head.Head.{Head}
use Rattle.http_edge.specs.declared.request.Request.{Request}

drop-seam : (xs ys : List ℕ) → drop (length xs) (xs ++ ys) ≡ ys
drop-seam [] ys = refl
drop-seam (x ∷ xs) ys = drop-seam xs ys

-- what follows the head
pub rest_is : (head : Head) (bytes : List ℕ) (b : Begins head bytes) → drop head.len bytes ≡ b.1
rest_is head bytes b = rw (b.2.reads.1, b.3.len) (drop-seam (print_request b.0) b.1)

pub head_is : (head : Head) (bytes : List ℕ) (b : Begins head bytes) → take head.len bytes ≡ print_request b.0
head_is head bytes b = rw (b.2.reads.1, b.3.len) (take-append_seam (print_request b.0) b.1)

pub rest_length : (head : Head) (bytes : List ℕ) (b : Begins head bytes) → length bytes ≡ head.len + length b.1
rest_length head bytes b = rw (b.2.reads.1, b.3.len) (length-append (print_request b.0) b.1)

pub no_text : (head : Head) (bytes body : List ℕ) → (b : Begins head bytes) → head.len + head.body_len ≤ length bytes
    → body ≡ take head.body_len (drop head.len bytes) → (¬ IsUtf8 body) → HasHead HasNoText bytes
no_text head bytes body b whole is bad =
    (b.0, b.1, b.2, (head.body_len, b.3.body, omega (arith, whole, rest_length head bytes b), rw (is, rest_is head bytes b) at bad))

cut_twice : (bytes : List ℕ) (len n : ℕ) → bytes ≡ (take len bytes ++ take n (drop len bytes)) ++ drop (len + n) bytes
cut_twice bytes len n =
    sym (rw (append_assoc (take len bytes) (take n (drop len bytes)) (drop (len + n) bytes), ← drop-drop n len bytes, take-append-drop n (drop len bytes)) (take-append-drop len bytes))

body_length : (head : Head) (bytes body : List ℕ) → head.len + head.body_len ≤ length bytes → body ≡ take head.body_len (drop head.len bytes) → length body ≡ head.body_len
body_length head bytes body whole is = rw is (grind (arith, length-take, length-drop, whole))

-- the request that was cut out of the bytes
pub request_in : (q : Request) (head : Head) (bytes : List ℕ) (b : Begins head bytes) → head.len + head.body_len ≤ length bytes
    → string_bytes q.method ≡ string_bytes head.method → string_bytes q.path ≡ string_bytes head.path → string_bytes q.query ≡ string_bytes head.query
    → q.upgrade ≡ head.upgrade → q.origin ≡ head.origin
    → string_bytes q.body ≡ take head.body_len (drop head.len bytes) → q.rest.items ≡ drop (head.len + head.body_len) bytes → q.head.items ≡ take head.len bytes
    → IsRequestIn q bytes
request_in q head bytes b whole method path query upgrade origin body rest front =
    let is_front : q.head.items ≡ print_request b.0 = front ∙ head_is head bytes b in (
      record {
        parsed = b.0;
        reads = (b.2.reads.0, rw is_front refl);
        few = b.2.few;
        short = b.2.short;
        belongs = rw (body_length head bytes (string_bytes q.body) whole body) b.3.body;
        method = method ∙ b.3.method;
        target = (path ∙ b.3.target.0, query ∙ b.3.target.1);
        upgrade = upgrade ∙ b.3.upgrade;
        origin = rw origin b.3.origin;
        head = is_front;
      },
      rw (front, body, rest) (cut_twice bytes head.len head.body_len),
    )

pub sum_less : (m n : ℕ) → m + n - m ≡ n
sum_less m n = omega arith

pub tail_all : (xs : List ℕ) (n : ℕ) → take (length xs - n) (drop n xs) ≡ drop n xs
tail_all xs n = take_all _ _ (grind (arith, length-drop n xs))
