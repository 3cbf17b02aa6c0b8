-- Packets that wait to be sent.
use Rattle.std.specs.Prelude.{ℕ, ◌+◌, length, sum_by}
use Rattle.terms.specs.declared.entry.Entry.{Entry}

-- the bytes that an entry holds: those of its text and of its attachments
abbrev pub entry_size : Entry → ℕ
entry_size entry = length entry.text + sum_by (λ attachment. length attachment) entry.attachments
