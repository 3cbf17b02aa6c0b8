-- The counting of what a server does and refuses.
use Rattle.std.specs.Prelude.{ℕ, zero, suc, ◌+◌, min, cond, nat_lt, List, [], ◌∷◌, ◌++◌, length, slice_index_or, slice_set}
use Rattle.metrics.specs.declared.metrics.CoreCounts.{CoreCounts}
use Rattle.metrics.specs.declared.metrics.LoopCounts.{LoopCounts}
use Rattle.metrics.specs.declared.metrics.Refusals.{Refusals}
use Rattle.metrics.specs.declared.reason.Reason.{Reason}
use Rattle.metrics.specs.Reason.{number_of}

-- one more, and so many, as far as a u64 counts
abbrev pub one_more : ℕ → ℕ
one_more n = min (n + 1) 18446744073709551615

abbrev pub so_many_more : (more n : ℕ) → ℕ
so_many_more more n = min (n + more) 18446744073709551615

-- nothing was counted yet: of the core, of a loop, of so many in the order of their numbers, and for a reason
abbrev pub nothing : CoreCounts
nothing = record {
  totals = record { commands = 0; placed = 0; dropped = 0; taken = 0; discarded = 0; waiting = 0 };
  unheard = 0;
  sizes = record { clients = 0; sockets = 0; rooms = 0; saved = 0; logged = 0 };
}

abbrev pub nothing_in : ℕ → LoopCounts
nothing_in number = record { number = number; connections = 0; requests = 0 }

abbrev pub nothing_of : ℕ → List LoopCounts
nothing_of zero = []
nothing_of (suc n) = nothing_of n ++ nothing_in n ∷ []

abbrev pub nothing_for : Reason → Refusals
nothing_for reason = record { reason = reason; count = 0 }

abbrev pub one_more_of : Refusals → Refusals
one_more_of it = record it { count = one_more it.count }

abbrev pub with_connection : LoopCounts → LoopCounts
with_connection it = record it { connections = one_more it.connections }

abbrev pub with_request : LoopCounts → LoopCounts
with_request it = record it { requests = one_more it.requests }

-- the counts once those of the loop with this number changed so, if there is one
abbrev pub in_loop : (LoopCounts → LoopCounts) → ℕ → List LoopCounts → List LoopCounts
in_loop change number loops =
    cond (nat_lt number (length loops))
    (slice_set loops number (change (slice_index_or loops number (nothing_in number))))
    loops

-- the counts once there is one more of a reason, each of which has its place among them
abbrev pub with_refused : Reason → List Refusals → List Refusals
with_refused reason counts =
    cond (nat_lt (number_of reason) (length counts))
    (slice_set counts (number_of reason)
    (one_more_of (slice_index_or counts (number_of reason) (nothing_for reason))))
    counts
