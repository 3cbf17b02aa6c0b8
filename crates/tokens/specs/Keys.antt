-- Keys, and what they signed (RFC 7518, section 3.2; RFC 7515, section 4.1.4).
use Rattle.std.specs.Prelude.{ℕ, Bool, not, ◌&&◌, ◌==◌, if◌then◌else◌, bytes_eq, find, List, length, Option, Some, None, Result, Ok, Err}
use Rattle.std.specs.List.{list_any}
use Rattle.tokens.specs.declared.verifier.Flaw.{Flaw}
use Rattle.tokens.specs.declared.verifier.Flaw.TheVariants.{Key as NoKey, Signature}
use Rattle.tokens.specs.declared.keys.Key.{Key}
use Rattle.tokens.specs.Hmac.{hmac_sha256}

-- a signature is the whole HMAC of what is signed. By a key of no bytes nothing is signed
abbrev pub has_signed : Key → (signed signature : List ℕ) → Bool
has_signed key signed signature = not (length key.secret.items == 0) && bytes_eq signature (hmac_sha256 key.secret.items signed)

-- the first key of this name
abbrev pub key_named : List Key → (name : List ℕ) → Option Key
key_named keys name = find (λ key. bytes_eq key.name name) keys

-- any of the keys
abbrev pub any_signed : List Key → (signed signature : List ℕ) → Bool
any_signed keys signed signature = list_any (λ key. has_signed key signed signature) keys

-- it has to be signed
abbrev pub if_signed : Bool → Result (Unit {0}) Flaw
if_signed signed = if signed then Ok tt else Err Signature

-- where a key has the name, it and no other has to have signed
abbrev pub if_named : Option Key → (signed signature : List ℕ) → Result (Unit {0}) Flaw
if_named None signed signature = Err NoKey
if_named (Some key) signed signature = if_signed (has_signed key signed signature)

-- the key of the name that `kid` says, or any where it says none
unfoldable pub check_signature : List Key → (name : Option (List ℕ)) → (signed signature : List ℕ) → Result (Unit {0}) Flaw
check_signature keys None signed signature = if_signed (any_signed keys signed signature)
check_signature keys (Some name) signed signature = if_named (key_named keys name) signed signature
