-- Base64 as the crate `base64` defines it for its standard engine. The engine is strict: it takes
-- padding, and bits after the last byte, just as they are written.
use Rattle.std.specs.Prelude.{ℕ, List}
use Rattle.base64.specs.Engines.{standard}
use Rattle.base64.specs.GeneralPurpose.{encode_of}

-- the base64 text of bytes
unfoldable pub base64_text : List ℕ → List ℕ
base64_text bytes = encode_of standard bytes
