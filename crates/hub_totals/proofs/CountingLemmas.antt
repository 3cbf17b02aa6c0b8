-- What steps make of the totals, and how the pass of a command rises with them.
use Rattle.std.proofs.Common.{◌≡◌, ℕ, ◌+◌, ◌≤◌, [], ◌∷◌, ◌++◌, List, refl, ap, arith, rules, Result, Ok, Err}
use Rattle.journal.specs.declared.error.HubError.{HubError}
use Rattle.journal.specs.declared.step.Step.{Step}
use Rattle.journal.specs.declared.step.What.{What}
use Rattle.journal.specs.Plain.{PlainBase, PlainCast, PlainCastDone}
use Rattle.journal.specs.Journal.{History, total}
use Rattle.journal.specs.Totals.{commands, handed_out, handed_out_by}
use Rattle.hub_totals.specs.Pass.{PlainHub, PlainPass, DoesCounted, CastDoesCounted, Rises, with_command}

-- the history with this step
abbrev pub and_step : History → Step → History
and_step h step = record { base = h.base; limits = h.limits; journal = step ∷ h.journal }

commands-step : (base : PlainBase) (step : Step) (before : List Step) → commands base (step ∷ before) ≡ commands base before + 1
unfolding commands
commands-step base step before = omega arith

handed_out-step : (base : PlainBase) (step : Step) (before : List Step) → handed_out base (step ∷ before) ≡ handed_out base before + handed_out_by step.what
unfolding handed_out total
handed_out-step base step before = refl

-- more steps make no total less
pub commands-grow : (base : PlainBase) (steps before : List Step) → commands base before ≤ commands base (steps ++ before)
commands-grow base [] before = omega arith
commands-grow base (step ∷ steps) before = let one = commands-step base step (steps ++ before) in let more = commands-grow base steps before in omega (arith, one, more)

pub handed_out-grows : (base : PlainBase) (steps before : List Step) → handed_out base before ≤ handed_out base (steps ++ before)
handed_out-grows base [] before = omega arith
handed_out-grows base (step ∷ steps) before = let one = handed_out-step base step (steps ++ before) in let more = handed_out-grows base steps before in omega (arith, one, more)

-- the pass of a command that was counted rises as the totals do
pub rises-step : (before after : PlainHub) (old new : PlainPass) (step : Step) → after.history ≡ and_step before.history step → new ≡ with_command step.what old → Rises before after old new
rises-step before after old new step made counted =
    let c = commands-step before.history.base step before.history.journal in
    let t = handed_out-step before.history.base step before.history.journal in
    record { commands = rw (made, counted) (omega arith); taken = rw (made, counted) (omega arith); parts = rw counted refl }

-- and so does the pass of any command, since a refusal changes neither
pub counted-rises : {X : Type 0} → (before after : PlainHub) (old new : PlainPass) (now : ℕ) (what : What) (result : Result X HubError) → DoesCounted before after old new now what result → Rises before after old new
counted-rises before after old new now what (Ok x) (fine, made, counted) = rises-step before after old new _ (ap (λ (h : PlainHub). h.history) made) counted
counted-rises before after old new now what (Err e) (is, same, equal) = rw (same, equal) (record { commands = refl; taken = refl; parts = refl })

pub cast-counted-rises : (before after : PlainHub) (old new : PlainPass) (now : ℕ) (cast : PlainCast) (result : Result PlainCastDone HubError) → CastDoesCounted before after old new now cast result → Rises before after old new
cast-counted-rises before after old new now cast (Ok done) (fine, is, rest, counted) = rises-step before after old new _ is.step (search (rules, counted))
cast-counted-rises before after old new now cast (Err e) (is, same, equal) = rw (same, equal) (record { commands = refl; taken = refl; parts = refl })
