-- The compact form of a token (RFC 7515, section 7.1; RFC 7519, section 7.2).
use Rattle.std.specs.Prelude.{ℕ, Bool, List, ◌∷◌, ◌++◌, ◌==◌, if◌then◌else◌, Result, Ok, Err}
use Rattle.std.specs.List.{list_any, before_first, after_first}
use Rattle.std.specs.Str.{is_utf8}
use Rattle.base64.specs.Engines.{url_safe_no_pad}
use Rattle.base64.specs.GeneralPurpose.{decode_of}
use Rattle.base64.specs.declared.decode.DecodeError.{DecodeError}
use Rattle.tokens.specs.declared.verifier.Flaw.{Flaw}
use Rattle.tokens.specs.declared.verifier.Flaw.TheVariants.{Form}
use Rattle.tokens.specs.declared.form.Opened.{Opened as OpenedInRust}
use Rattle.tokens.specs.Steps.{◌>>=◌}

abbrev pub is_dot : ℕ → Bool
is_dot byte = byte == 46

-- what stands before the first dot and behind it
abbrev pub cut : List ℕ → Result (List ℕ × List ℕ) Flaw
cut text = if list_any is_dot text then Ok (before_first is_dot text, after_first is_dot text) else Err Form

-- the three parts, and what is signed: ASCII(BASE64URL(UTF8(JWS Protected Header)) || '.' || BASE64URL(JWS Payload))
pub record Parts : Type 0 where
  pub header : List ℕ
  pub claims : List ℕ
  pub signature : List ℕ
  pub signed : List ℕ

-- the parts of these three texts
abbrev pub three : (header claims signature : List ℕ) → Parts
three header claims signature = record { header = header; claims = claims; signature = signature; signed = header ++ 46 ∷ claims }

-- the parts of a token. A third dot is no digit of base64url
unfoldable pub parts_of : (token : List ℕ) → Result Parts Flaw
parts_of token = do
  first ← cut token
  second ← cut first.1
  Ok (three first.0 second.0 second.1)

-- what was decoded, or why not
abbrev pub decoded : Result (List ℕ) DecodeError → Result (List ℕ) Flaw
decoded (Ok bytes) = Ok bytes
decoded (Err e) = Err Form

-- the bytes of base64url without padding, line breaks, white space or bits to spare (RFC 7515, section 2)
unfoldable pub bytes_in : (part : List ℕ) → Result (List ℕ) Flaw
bytes_in part = decoded (decode_of url_safe_no_pad part)

-- UTF-8, where bytes are that
abbrev pub as_text : List ℕ → Result (List ℕ) Flaw
as_text bytes = if is_utf8 bytes then Ok bytes else Err Form

-- the text of base64url of UTF-8
unfoldable pub text_in : (part : List ℕ) → Result (List ℕ) Flaw
text_in part = bytes_in part >>= as_text

-- what the three parts of a token say
unfoldable pub opened : (token : List ℕ) → Result Parts Flaw
opened token = do
  parts ← parts_of token
  header ← text_in parts.header
  claims ← text_in parts.claims
  signature ← bytes_in parts.signature
  Ok (record { header = header; claims = claims; signature = signature; signed = parts.signed })

-- ---- what contracts see of them

abbrev pub opened_view : OpenedInRust → Parts
opened_view o = record { header = o.header; claims = o.claims; signature = o.signature.items; signed = o.signed.now }
