-- HMAC with SHA-256 (RFC 2104, section 2). SHA-256 takes 64 bytes at a time.
use Rattle.std.specs.Prelude.{ℕ, ◌-◌, List, ◌++◌, length, map, replicate, nat_lt, if◌then◌else◌, bit_xor}
use Rattle.sha2.specs.Sha256.{sha256}

-- a key that is longer than a block is hashed
abbrev pub shortened : (key : List ℕ) → List ℕ
shortened key = if nat_lt 64 (length key) then sha256 key else key

-- with zeros behind it up to a block
abbrev pub filled : (key : List ℕ) → List ℕ
filled key = key ++ replicate (64 - length key) 0

-- K XOR pad, where the pad is one byte in each place
abbrev pub padded : (block : List ℕ) → (pad : ℕ) → List ℕ
padded block pad = map (λ byte. bit_xor byte pad) block

-- H(K XOR opad, H(K XOR ipad, text)), where K is a block
abbrev pub hmac_by : (block text : List ℕ) → List ℕ
hmac_by block text = sha256 (padded block 0x5C ++ sha256 (padded block 0x36 ++ text))

-- the same under a key of any length
unfoldable pub hmac_sha256 : (key text : List ℕ) → List ℕ
hmac_sha256 key text = hmac_by (filled (shortened key)) text
