-- What a command adds to the counts of a hub.
use Rattle.std.specs.Prelude.{◌+◌}
use Rattle.journal.specs.declared.totals.Counts.{Counts}

-- one command more, and what it adds beside itself
abbrev pub counts_after : (old added : Counts) → Counts
counts_after old added =
    record {
      commands = old.commands + 1;
      placed = old.placed + added.placed;
      dropped = old.dropped + added.dropped;
      taken = old.taken + added.taken;
      discarded = old.discarded + added.discarded;
    }
