-- What a hub counts: sums over the steps, and over the open clients.
use Rattle.std.specs.Prelude.{◌≡◌, ℕ, ◌+◌, ◌*◌, Bool, ◌||◌, List, ◌++◌, codes, decimal, length, nat_lt}
use Rattle.std.specs.List.{sum_by}
use Rattle.journal.specs.declared.step.Step.{Step}
use Rattle.journal.specs.declared.step.What.{What}
use Rattle.journal.specs.declared.step.What.TheVariants.{Recovered, AllJoined, AllLeft, Cast, Told, Took, Parked, AllEnded, Closed}
use Rattle.terms.specs.Entry.{entry_size}
use Rattle.journal.specs.declared.totals.Totals.{Totals}
use Rattle.recovery.specs.PacketLog.{rooms_size}
use Rattle.journal.specs.Plain.{Limits, PlainBase, PlainRoomChange}
use Rattle.journal.specs.Journal.{total}
use Rattle.journal.specs.Membership.{open_clients}
use Rattle.journal.specs.Outboxes.{put, waiting}

-- how many entries a step puts, drops, hands out, and discards with their client
abbrev pub placed_by : PlainBase → Limits → List Step → What → ℕ
placed_by base limits before what = length (put base limits before what)

abbrev pub dropped_by : What → ℕ
dropped_by (Cast b) = length b.dropped
dropped_by _ = 0

abbrev pub handed_out_by : What → ℕ
handed_out_by (Took c most n) = n
handed_out_by _ = 0

abbrev pub discarded_by : PlainBase → Limits → List Step → What → ℕ
discarded_by base limits before (Parked c) = length (waiting base limits before c)
discarded_by base limits before (Closed c) = length (waiting base limits before c)
discarded_by base limits before _ = 0

-- the commands that were accepted
unfoldable pub commands : PlainBase → List Step → ℕ
commands base journal = base.totals.commands + length journal

-- the entries that were put
unfoldable pub placed : PlainBase → Limits → List Step → ℕ
placed base limits journal = total (placed_by base limits) base.totals.placed journal

-- the sockets that a broadcast was for and whose clients had no space for it
unfoldable pub dropped : PlainBase → List Step → ℕ
dropped base journal = total (λ _ what. dropped_by what) base.totals.dropped journal

-- the entries that were handed out
unfoldable pub handed_out : PlainBase → List Step → ℕ
handed_out base journal = total (λ _ what. handed_out_by what) base.totals.taken journal

-- the entries that waited for a client when it was parked or closed
unfoldable pub discarded : PlainBase → Limits → List Step → ℕ
discarded base limits journal = total (discarded_by base limits) base.totals.discarded journal

-- the entries that wait for the open clients
unfoldable pub waiting_in_all : PlainBase → Limits → List Step → ℕ
waiting_in_all base limits journal =
    sum_by (λ c. length (waiting base limits journal c)) (open_clients base journal)

abbrev pub totals : PlainBase → Limits → List Step → Totals
totals base limits journal =
    record {
      commands = commands base journal;
      placed = placed base limits journal;
      dropped = dropped base journal;
      taken = handed_out base journal;
      discarded = discarded base limits journal;
      waiting = waiting_in_all base limits journal;
    }

-- the bytes in which a list of ids is held: 16 for each
abbrev pub ids_size : List ℕ → ℕ
ids_size ids = 16 * length ids

-- the bytes in which the rooms and the sockets of a change are held
abbrev pub change_size : PlainRoomChange → ℕ
change_size m = rooms_size m.rooms + rooms_size m.excepted + ids_size m.changed

-- the bytes that a step owns beside its own place: those of an entry that it holds, of its lists of
-- rooms and of ids, and 8 for each offset
abbrev pub held_by : What → ℕ
held_by (Recovered r) = rooms_size r.rooms + 8 * length r.missed
held_by (AllJoined m) = change_size m
held_by (AllLeft m) = change_size m
held_by (Cast b) =
    entry_size b.entry + rooms_size b.rooms + rooms_size b.excepted + ids_size b.dropped
held_by (Told m) = entry_size m.entry
held_by (AllEnded d) =
    rooms_size d.rooms + rooms_size d.excepted + ids_size d.ended + ids_size d.told
held_by _ = 0

-- the bytes that these steps own, each step for itself
unfoldable pub held : List Step → ℕ
held journal = total (λ _ what. held_by what) 0 journal

-- what was put was handed out, was discarded or waits
abbrev pub IsConserved : PlainBase → Limits → List Step → Type 0
IsConserved base limits journal = placed base limits journal
    ≡ handed_out base journal + discarded base limits journal + waiting_in_all base limits journal

-- the number is past the greatest u64
abbrev pub is_past : ℕ → Bool
is_past n = nat_lt 18446744073709551615 n

-- by the step a count would pass the greatest u64
abbrev pub is_spent : PlainBase → Limits → List Step → What → Bool
is_spent base limits before what =
    is_past (commands base before + 1)
    || is_past (placed base limits before + placed_by base limits before what)
    || is_past (dropped base before + dropped_by what)
    || is_past (handed_out base before + handed_out_by what)
    || is_past (discarded base limits before + discarded_by base limits before what)

-- the counts as they are printed
abbrev pub totals_text : Totals → List ℕ
totals_text t = codes "commands " ++ decimal t.commands ++ codes ", placed " ++ decimal t.placed ++ codes ", dropped " ++ decimal t.dropped
    ++ codes ", taken " ++ decimal t.taken ++ codes ", discarded " ++ decimal t.discarded ++ codes ", waiting " ++ decimal t.waiting
