-- The log of broadcasts and their offsets (Socket.IO server documentation,
-- "Connection state recovery").
use Rattle.std.specs.Prelude.{ℕ, List, [], ◌∷◌, map, reverse, Option, None, Some}
use Rattle.std.specs.Option.{option_map, option_map_or}
use Rattle.journal.specs.declared.step.Step.{Step}
use Rattle.journal.specs.declared.step.What.{What}
use Rattle.journal.specs.declared.step.What.TheVariants.{Cast, Swept}
use Rattle.recovery.specs.PacketLog as packets
use Rattle.recovery.specs.PacketLog.{LogCall, PlainLogged, kept, offset_at, number_of}
use Rattle.journal.specs.Plain.{Limits, PlainBase, PlainBroadcast}
use Rattle.journal.specs.Journal.{total}

-- a logged broadcast as the log has it
abbrev pub logged : ℕ → PlainBroadcast → ℕ → PlainLogged
logged at b offset =
    record {
      offset = offset;
      at = at;
      space = b.space;
      rooms = b.rooms;
      excepted = b.excepted;
      entry = b.entry;
    }

-- what a step does to the log: a logged broadcast is pushed, a sweep drops what is outdated
abbrev pub log_call : Limits → ℕ → What → Option LogCall
log_call limits at (Cast b) = option_map (λ offset. packets.Pushed (logged at b offset)) b.offset
log_call limits at Swept = Some (packets.Swept limits.keep at)
log_call limits at _ = None

abbrev pub with_call : Option LogCall → List LogCall → List LogCall
with_call (Some call) calls = call ∷ calls
with_call None calls = calls

-- all that was done to the log, the newest call first; the base's log counts as pushes
unfoldable pub log_calls : PlainBase → Limits → List Step → List LogCall
log_calls base limits [] = reverse (map packets.Pushed base.log)
log_calls base limits (step ∷ before) =
    with_call (log_call limits step.at step.what) (log_calls base limits before)

-- the log: of the broadcasts that no later sweep dropped the newest, as many as have space
unfoldable pub log : PlainBase → Limits → List Step → List PlainLogged
log base limits journal = kept limits.log limits.log_bytes (log_calls base limits journal)

-- how many offsets a step uses
abbrev pub offsets_used : What → ℕ
offsets_used (Cast b) = option_map_or (λ offset. 1) b.offset 0
offsets_used _ = 0

-- the number of the next offset, also where there is none
unfoldable pub next_number : PlainBase → List Step → ℕ
next_number base journal = total (λ before what. offsets_used what) (number_of base.next) journal

-- the next offset, of which there is none past the greatest u64
abbrev pub next : PlainBase → List Step → Option ℕ
next base journal = offset_at (next_number base journal)
