-- The bytes of the answer to a CONNECT.
use Rattle.std.proofs.Common.{zero, suc, get_or, None, Some, Result, Ok, Err, subst, ◌∷◌, ◌≡◌, ℕ, ◌+◌, Bool, true, false, List, [], ◌++◌, length, refl, sym, ◌∙◌, ap, arith, if◌then◌else◌, length-append}
use Rattle.std.specs.Prelude.{codes, slice_get, IfOk}
use Rattle.terms.specs.Entry.{entry_size}
use Rattle.journal.specs.declared.socket.Socket.{Socket}
use Rattle.journal.specs.Plain.{Limits}
use Rattle.journal.specs.Outboxes.{answer}
use Rattle.std.specs.Str.{bytes_eq}
use Rattle.terms.proofs.HexadecimalLemmas.{length-hex_digits}
use Rattle.terms.specs.Hexadecimal.{hex_digits}
use Rattle.sio_wire.specs.ConnectAnswer.{connected_text}

seven : (a b c d e f g : List ℕ) → length (a ++ b ++ c ++ d ++ e ++ f ++ g) ≡ length a + length b + length c + length d + length e + length f + length g
seven a b c d e f g =
    omega (
      arith,
      length-append (a ++ b ++ c ++ d ++ e ++ f) g,
      length-append (a ++ b ++ c ++ d ++ e) f,
      length-append (a ++ b ++ c ++ d) e,
      length-append (a ++ b ++ c) d,
      length-append (a ++ b) c,
      length-append a b,
      length-append a (b ++ c ++ d ++ e ++ f ++ g),
      length-append b (c ++ d ++ e ++ f ++ g),
      length-append c (d ++ e ++ f ++ g),
      length-append d (e ++ f ++ g),
      length-append e (f ++ g),
      length-append f g,
    )

parts : (part : List ℕ) (sid pid : ℕ) → length (codes "0" ++ part ++ codes "{\"sid\":\"" ++ hex_digits 32 sid ++ codes "\",\"pid\":\"" ++ hex_digits 32 pid ++ codes "\"}") ≡ 84 + length part
parts part sid pid =
    let all = seven (codes "0") part (codes "{\"sid\":\"") (hex_digits 32 sid) (codes "\",\"pid\":\"") (hex_digits 32 pid) (codes "\"}") in
    let a : length (codes "0") ≡ 1 = refl in
    let b : length (codes "{\"sid\":\"") ≡ 8 = refl in
    let c : length (codes "\",\"pid\":\"") ≡ 9 = refl in
    let d : length (codes "\"}") ≡ 2 = refl in
    let s = length-hex_digits 32 sid in
    let p = length-hex_digits 32 pid in
    all ∙ omega (arith, a, b, c, d, s, p)

pub answer_length : (name : List ℕ) (sid pid : ℕ) → length (connected_text name sid pid) ≡ (if bytes_eq name (codes "/") then 84 else 85 + length name)
answer_length name sid pid = parts (if bytes_eq name (codes "/") then [] else name ++ codes ",") sid pid ∙ on (bytes_eq name (codes "/"))
  where
    on : (b : Bool) → 84 + length (if b then [] else name ++ codes ",") ≡ (if b then 84 else 85 + length name)
    on true = refl
    on false = let one : length (codes ",") ≡ 1 = refl in omega (arith, length-append name (codes ","), one)

pub short_name : (name : List ℕ) → bytes_eq name (codes "/") ≡ true → (sid pid : ℕ) → 84 ≡ length (connected_text name sid pid)
short_name name is sid pid = sym (answer_length name sid pid ∙ ap (λ b. if b then 84 else 85 + length name) is)

pub long_name : (name : List ℕ) → bytes_eq name (codes "/") ≡ false → (sid pid : ℕ) → 85 + length name ≡ length (connected_text name sid pid)
long_name name is sid pid = sym (answer_length name sid pid ∙ ap (λ b. if b then 84 else 85 + length name) is)

-- the bytes of the whole answer
pub answer_size_is : (limits : Limits) (k : Socket) → length (connected_text (get_or limits.spaces k.space []) k.sid k.pid) ≡ entry_size (answer limits k)
unfolding answer
answer_size_is limits k = omega arith

pub answer_is : (limits : Limits) (k : Socket) → record { text = connected_text (get_or limits.spaces k.space []) k.sid k.pid; attachments = [] } ≡ answer limits k
unfolding answer
answer_is limits k = refl

-- ---- an item of a list

pub got : {A : Type 0} (xs : List A) (i : ℕ) (d x : A) → Some x ≡ slice_get xs i → x ≡ get_or xs i d
got [] zero d x e = cc
got [] (suc i) d x e = cc
got (y ∷ xs) zero d x e = cc
got (y ∷ xs) (suc i) d x e = got xs i d x e

pub gone : {A : Type 0} (xs : List A) (i : ℕ) (d : A) → None ≡ slice_get xs i → d ≡ get_or xs i d
gone [] zero d e = refl
gone [] (suc i) d e = refl
gone (y ∷ xs) zero d e = cc
gone (y ∷ xs) (suc i) d e = gone xs i d e

pub if_ok_for : {A E : Type 0} (r : Result A E) (x : A) (P : A → Type 0) → IfOk r (λ a. a ≡ x) → P x → IfOk r P
if_ok_for (Ok a) x P e p = subst P (sym e) p
if_ok_for (Err e) x P _ p = tt
