-- What is in the files of tokens and keys.
use Rattle.std.specs.Prelude.{◌≡◌, ◌<◌, ℕ, Bool, List, Option, All, IfSome, bytes_eq, is_some, length, vec_len}
use Rattle.std.specs.List.{list_any}
use Rattle.tokens.specs.declared.keys.Key.{Key}
use Rattle.tokens.specs.declared.verifier.Verifier.{Verifier}

-- a key has this name
abbrev pub is_known : List ℕ → List Key → Bool
is_known name keys = list_any (λ key. bytes_eq key.name name) keys

-- a key has some byte
abbrev pub IsFilled : Key → Type 0
IsFilled key = 0 < vec_len key.secret

-- so many keys, of which each has some byte
pub record HasKeys (n : ℕ) (keys : List Key) : Type 0 where
  pub count : length keys ≡ n
  pub filled : All IsFilled keys

pub record IsVerifier (n : ℕ) (name : Option (List ℕ)) (verifier : Verifier) : Type 0 where
  pub keys : HasKeys n verifier.keys.items
  pub audience : verifier.audience ≡ name

-- a token of some bytes, where a file is named, and else none
pub record IsTokenOf (is_named : Bool) (token : Option (List ℕ)) : Type 0 where
  pub there : is_some token ≡ is_named
  pub filled : IfSome token (λ t. 0 < length t)
