use Rattle.std.proofs.Common.{arith}
use Rattle.std.proofs.lemmas.Grind.{common_steps}
use Rattle.hub_state.proofs.state.State.name_at.Goals as goal

pub returns-in-Some : goal.returns-in-Some
returns-in-Some c = rw (← c.spaces.ensures.names) (grind (arith, common_steps, c.as_str.ensures, c.in-Some.ensures.lookup))

pub returns-in-None : goal.returns-in-None
returns-in-None c = rw (← c.spaces.ensures.names) (grind (arith, common_steps, c.in-None.ensures.lookup))
