-- Which sockets ended by some steps, after two histories that say the same.
use Rattle.std.proofs.Common.{◌≡◌, List, [], ◌∷◌, ◌++◌, map, length, refl, sym, ◌∙◌, ap, append_assoc, append-nil}
use Rattle.std.specs.Prelude.{drop}
use Rattle.std.specs.List.{flat_map}
use Rattle.std.proofs.Math.Seq.{drop-append_seam}
use Rattle.journal.specs.declared.ending.Ending.TheVariants as ending
use Rattle.journal.specs.declared.step.Step.{Step}
use Rattle.journal.specs.declared.step.What.{What}
use Rattle.journal.specs.declared.step.What.TheVariants.{Parked, Ended, AllEnded, Closed}
use Rattle.journal.specs.Plain.{PlainBase}
use Rattle.journal.specs.Journal.{History}
use Rattle.journal.specs.Casting.{in_space}
use Rattle.hub_state.specs.EndedSockets.{PlainEnded, as_ended, found, sockets_ended_by, ended_sockets}
use Rattle.dispatch.specs.Hearing.{ended_since}
use Rattle.epochs.specs.Epochs.{AreAlike, with_steps}

-- the sockets that ended by these steps, the newest first, which come after those before, in the order in which they did
abbrev pub sockets_ended_in : PlainBase → (before steps : List Step) → List PlainEnded
sockets_ended_in base before [] = []
sockets_ended_in base before (step ∷ steps) = sockets_ended_in base before steps ++ sockets_ended_by base (steps ++ before) step.what

ended_sockets-steps : (base : PlainBase) (before steps : List Step) → ended_sockets base (steps ++ before) ≡ ended_sockets base before ++ sockets_ended_in base before steps
unfolding ended_sockets
ended_sockets-steps base before [] = sym (append-nil (ended_sockets base before))
ended_sockets-steps base before (step ∷ steps) =
    ap (λ gone. gone ++ sockets_ended_by base (steps ++ before) step.what) (ended_sockets-steps base before steps)
    ∙ append_assoc (ended_sockets base before) (sockets_ended_in base before steps) (sockets_ended_by base (steps ++ before) step.what)

-- by some steps and others after them
pub ended_sockets-both : (base : PlainBase) (before first next : List Step) → sockets_ended_in base before (next ++ first) ≡ sockets_ended_in base before first ++ sockets_ended_in base (first ++ before) next
ended_sockets-both base before first [] = sym (append-nil (sockets_ended_in base before first))
ended_sockets-both base before first (step ∷ next) =
    (λ i. ended_sockets-both base before first next i ++ sockets_ended_by base (append_assoc next first before i) step.what)
    ∙ append_assoc (sockets_ended_in base before first) (sockets_ended_in base (first ++ before) next) (sockets_ended_by base (next ++ (first ++ before)) step.what)

-- those that ended since a history from which these steps lead on
pub since-steps : (h k : History) (steps : List Step) → k ≡ with_steps steps h → ended_since h k ≡ sockets_ended_in h.base h.journal steps
since-steps h k steps is =
    ap (λ (j : History). ended_since h j) is
    ∙ ap (drop (length (ended_sockets h.base h.journal))) (ended_sockets-steps h.base h.journal steps)
    ∙ drop-append_seam (ended_sockets h.base h.journal) (sockets_ended_in h.base h.journal steps)

-- a step ends the same sockets in both
pub ended_sockets-alike : (h g : History) → AreAlike h g → (w : What) → sockets_ended_by g.base g.journal w ≡ sockets_ended_by h.base h.journal w
ended_sockets-alike h g alike (Ended s by) = λ i. map (as_ended (ending.Alone by) (alike.same.same_rooms i)) (found (alike.same.same_by_sid s i))
ended_sockets-alike h g alike (AllEnded d) = λ i. map (as_ended ending.Together (alike.same.same_rooms i)) (flat_map (λ s. in_space d.space (alike.same.same_by_sid s i)) d.ended)
ended_sockets-alike h g alike (Parked c) = λ i. map (as_ended ending.Saved (alike.same.same_rooms i)) (alike.same.same_sockets c i)
ended_sockets-alike h g alike (Closed c) = λ i. map (as_ended ending.Closed (alike.same.same_rooms i)) (alike.same.same_sockets c i)
ended_sockets-alike h g alike _ = refl
