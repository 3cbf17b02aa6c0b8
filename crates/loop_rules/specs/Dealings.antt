-- How the connections of a server are dealt to its loops, and what becomes of those that are refused.
use Rattle.std.specs.Prelude.{ℕ, ◌+◌, ◌-◌, ◌*◌, ◌/◌, ◌%◌, min, max, Bool, false, cond, nat_eq, Option, None, Some, option_map, List, length, drop}
use Rattle.loop_rules.specs.declared.dealing.Dealing.{Dealing}

-- nothing was dealt yet: two connections may be open for each client, as far as a u64 counts, and 16 in any case
abbrev pub undealt : (left : Option ℕ) → (clients together : ℕ) → Dealing
undealt left clients together =
    record {
      left = left;
      most = max (min (clients * 2) 18446744073709551615) 16;
      together = together;
      given = 0;
    }

-- no more are accepted
abbrev pub is_over : (left : Option ℕ) → Bool
is_over None = false
is_over (Some n) = nat_eq n 0

-- one more was accepted
abbrev pub accepted : Dealing → Dealing
accepted d = record d { left = option_map (λ n. n - 1) d.left }

-- the loop to which a connection is given after so many others: each loop is given some together, at
-- least one, before the next one is
abbrev pub dealt_to : ℕ → ℕ → ℕ → ℕ
dealt_to loops together given =
    cond (nat_eq loops 0) 0 ((given / cond (nat_eq together 0) 1 together) % loops)

-- one more was given
abbrev pub dealt : Dealing → Dealing
dealt d = record d { given = min (d.given + 1) 18446744073709551615 }

-- who accepts waits until a connection comes, or for 2 s where some were refused; but for 20 ms where one could not
-- be accepted
abbrev pub time_to_wait : (none_came has_refused : Bool) → Option ℕ
time_to_wait none_came has_refused = cond none_came (cond has_refused (Some 2000) None) (Some 20)

-- those that are kept on where one more comes: the last 255
abbrev pub later_of : {S : Type 0} → List S → List S
later_of kept = drop (length kept - 255) kept
