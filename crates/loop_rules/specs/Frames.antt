-- The bytes of a client's messages (RFC 6455, section 5.2).
use Rattle.std.specs.Prelude.{ℕ, ◌-◌, cond, nat_lt}

-- the shortest head of a frame with a mask: two bytes, the longer length where it needs one, the mask
abbrev pub head_length : ℕ → ℕ
head_length payload = cond (nat_lt payload 126) 6 (cond (nat_lt payload 65536) 8 14)

-- how many of these bytes are left at the most, once a message of so many was taken out of them
abbrev pub left_after_message : ℕ → ℕ → ℕ
left_after_message bytes payload = bytes - payload - head_length payload
