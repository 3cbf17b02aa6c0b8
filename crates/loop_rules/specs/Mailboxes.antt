-- What others hand to a loop.
use Rattle.std.specs.Prelude.{◌≡◌, ◌⊎◌, ◌+◌, ◌++◌, ℕ, Bool, true, cond, List, vec_len}
use Rattle.loop_rules.specs.declared.mailbox.Mail.{Mail}

-- how much was handed in
abbrev pub count : {H : Type 0} → Mail H → ℕ
count mail = vec_len mail.handed + vec_len mail.woken + cond mail.everyone 1 0

-- a loop that is asleep has read all
abbrev pub IsUnread : {H : Type 0} → Mail H → Bool → Type 0
IsUnread mail asleep = asleep ≡ true → count mail ≡ 0

-- these clients are told of, or everybody is
abbrev pub Tells : {H : Type 0} → List ℕ → Mail H → Mail H → Type 0
Tells clients old new =
    ((new.woken.items ≡ old.woken.items ++ clients) × (new.everyone ≡ old.everyone))
    ⊎ ((new.woken.items ≡ old.woken.items) × (new.everyone ≡ true))
