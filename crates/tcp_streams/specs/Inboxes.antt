-- What others hand to a loop.
use Rattle.std.specs.Prelude.{◌≡◌, false}
use Rattle.loop_rules.specs.declared.mailbox.Mailbox.{Mailbox}
use Rattle.tcp_streams.specs.declared.inbox.Handed.{Handed}

-- what puts something in was called on a mailbox whose loop is awake, and gave this
abbrev pub IsPutBy : {T : Type 0} → (Mailbox Handed → T → Mailbox Handed → Type 0) → T → Type 0
IsPutBy gives result =
    (before : Mailbox Handed) × (after : Mailbox Handed) × (before.asleep ≡ false) × gives before result after
