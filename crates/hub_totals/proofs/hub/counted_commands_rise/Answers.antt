use Rattle.hub_totals.proofs.CountingLemmas.{counted-rises, cast-counted-rises}
use Rattle.hub_totals.proofs.hub.counted_commands_rise.Goals as goal

pub returns-clause-command : goal.returns-clause-command
returns-clause-command g c = counted-rises

pub returns-clause-cast : goal.returns-clause-cast
returns-clause-cast g c = cast-counted-rises
