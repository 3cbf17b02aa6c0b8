-- What a token says (RFC 7519, section 4.1).
use Rattle.std.specs.Prelude.{ℕ, ◌+◌, Bool, false, not, ◌||◌, ◌==◌, nat_lt, nat_le, if◌then◌else◌, bytes_eq, List, codes, Option, Some, None, Result, Ok, Err}
use Rattle.std.specs.List.{list_any}
use Rattle.json.specs.Json.{Json, null, boolean, number, string, array, object, Items, no_items, item}
use Rattle.json.specs.Find.{get, as_str}
use Rattle.tokens.specs.declared.verifier.Flaw.{Flaw}
use Rattle.tokens.specs.declared.verifier.Flaw.TheVariants.{Claims as BadClaims, Audience, Early, Expired}
use Rattle.tokens.specs.Steps.{◌>>=◌}
use Rattle.tokens.specs.Dates.{date_in}
use Rattle.tokens.specs.Object.{object_of}

-- the value is this text
abbrev pub is_text : Option (List ℕ) → (name : List ℕ) → Bool
is_text None name = false
is_text (Some text) name = bytes_eq text name

-- one of the values is this text
abbrev pub has_name : Items → (name : List ℕ) → Bool
has_name no_items name = false
has_name (item value values) name = is_text (as_str value) name || has_name values name

-- it has to be for this audience
abbrev pub if_for : Bool → Result (Unit {0}) Flaw
if_for is_for = if is_for then Ok tt else Err Audience

-- `aud` is one text, or a list (section 4.1.3)
abbrev pub if_names : (aud : Json) → (audience : List ℕ) → Result (Unit {0}) Flaw
if_names (string name) audience = if_for (bytes_eq name audience)
if_names (array names) audience = if_for (has_name names audience)
if_names null audience = Err BadClaims
if_names (boolean b) audience = Err BadClaims
if_names (number s) audience = Err BadClaims
if_names (object ms) audience = Err BadClaims

-- where there is an audience, the token has to say it
unfoldable pub check_audience : (aud : Option Json) → (audience : Option (List ℕ)) → Result (Unit {0}) Flaw
check_audience aud None = Ok tt
check_audience None (Some audience) = Err Audience
check_audience (Some aud) (Some audience) = if_names aud audience

-- clocks may differ by thirty seconds: it isn't before `nbf` (section 4.1.5)
abbrev pub is_early : (begins : Option ℕ) → (seconds : ℕ) → Bool
is_early None seconds = false
is_early (Some begins) seconds = nat_lt (seconds + 30) begins

-- it is before `exp` (section 4.1.4)
abbrev pub is_late : (expires : Option ℕ) → (seconds : ℕ) → Bool
is_late None seconds = false
is_late (Some expires) seconds = nat_le (expires + 30) seconds

-- the claims hold now
abbrev pub if_now : (begins expires : Option ℕ) → (seconds : ℕ) → Result (Option ℕ) Flaw
if_now begins expires seconds =
    if is_early begins seconds then Err Early
    else if is_late expires seconds then Err Expired
    else Ok expires

-- when claims end that are for this audience now
unfoldable pub check_members : (claims : Json) → (audience : Option (List ℕ)) → (seconds : ℕ) → Result (Option ℕ) Flaw
check_members claims audience seconds = do
  expires ← date_in (get (codes "exp") claims)
  begins ← date_in (get (codes "nbf") claims)
  _ ← check_audience (get (codes "aud") claims) audience
  if_now begins expires seconds

-- U+001E
abbrev pub is_separator : ℕ → Bool
is_separator byte = byte == 30

-- claims are an object
abbrev pub claims_in : Option Json → Result Json Flaw
claims_in None = Err BadClaims
claims_in (Some claims) = Ok claims

-- the same of their text, which holds no U+001E, as no JSON does
unfoldable pub check_claims : (audience : Option (List ℕ)) → (seconds : ℕ) → (text : List ℕ) → Result (Option ℕ) Flaw
check_claims audience seconds text =
    if list_any is_separator text then Err BadClaims
    else claims_in (object_of text) >>= (λ claims. check_members claims audience seconds)
