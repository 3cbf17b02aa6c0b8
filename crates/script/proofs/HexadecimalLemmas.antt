-- Texts that are no bytes in pairs of lower-case hexadecimal digits.
use Rattle.std.proofs.Common.{◌≡◌, ◌≢◌, ◌⊎◌, ◌↔◌, ℕ, Bool, true, false, IsTrue, List, Ok, Err, inl, inr, sym, ◌∙◌, ap}
use Rattle.hex.specs.Hex.{decode_of, encode_lower}
use Rattle.hex.specs.declared.error.FromHexError.{FromHexError}
use Rattle.hex.specs.declared.error.FromHexError.TheVariants.{OutOfMemory}
use Rattle.hex.proofs.HexLemmas.{decode_of-encode_lower, decode_of-same}
use Rattle.terms.specs.Bytes.{IsBytes}

-- a text that can't be read, though there was memory
pub not_bytes : (text : List ℕ) (e : FromHexError) (test : Bool) → (e ≡ OutOfMemory) ⊎ (decode_of text ≡ Err e) → (IsTrue test ↔ (e ≡ OutOfMemory)) → test ≡ false
    → (bytes : List ℕ) → IsBytes bytes → text ≢ encode_lower bytes
not_bytes text e test (inl memory) decides failed bytes are same =
    let holds : test ≡ true = decides.1 memory in cc
not_bytes text e test (inr refused) decides failed bytes are same =
    let back : decode_of text ≡ Ok bytes = rw same (decode_of-encode_lower bytes are) in cc (sym refused ∙ back)

-- a text that isn't the one which its bytes are written as
pub other_digits : (text bytes : List ℕ) → decode_of text ≡ Ok bytes → encode_lower bytes ≢ text → (others : List ℕ) → IsBytes others → text ≢ encode_lower others
other_digits text bytes read differ others are same =
    let back : decode_of text ≡ Ok others = rw same (decode_of-encode_lower others are) in
    differ (ap encode_lower (decode_of-same text bytes others read back) ∙ sym same)
