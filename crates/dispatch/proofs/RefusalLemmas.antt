-- Which refusals of a command can come for an open client and a connected socket.
use Rattle.std.proofs.Common.{inl, inr, ◌⊎◌, ◌≡◌, ℕ, Bool, true, false, refl, sym, ◌∙◌, ap, subst, Option, None, Some, Result, Err}
use Rattle.std.specs.Prelude.{unwrap_or}
use Rattle.journal.specs.declared.error.HubError.{HubError}
use Rattle.journal.specs.declared.error.HubError.TheVariants as hub
use Rattle.journal.specs.declared.step.What.{What}
use Rattle.journal.specs.Journal.{History, moment_at}
use Rattle.journal.specs.Command.{refusal, is_found_late, IsErrorOf, Does}
use Rattle.events.specs.Fault.{IsFault, fault_of}
use Rattle.dispatch.specs.Commands.{StopsAt}

-- an error that is the refusal, or else want of memory, stops the event where it is a fault
pub stops : (h : History) (now : ℕ) (what : What) (e : HubError) → e ≡ unwrap_or (refusal h (moment_at h now) what) hub.Memory → IsFault e → StopsAt h now what (fault_of e)
stops h now what e is fault = on (refusal h (moment_at h now) what) refl is
  where
    on : (o : Option HubError) → refusal h (moment_at h now) what ≡ o → e ≡ unwrap_or o hub.Memory → StopsAt h now what (fault_of e)
    on None found same = inl (ap fault_of same)
    on (Some x) found same = inr (e, found ∙ ap Some (sym same), fault, refl)

-- an error whose refusal is found late: it may be want of memory in its place
pub stops-late : (h : History) (now : ℕ) (what : What) (e : HubError) → (e ≡ hub.Memory) ⊎ (Some e ≡ refusal h (moment_at h now) what) → IsFault e → StopsAt h now what (fault_of e)
stops-late h now what e (inl short) fault = inl (ap fault_of short)
stops-late h now what e (inr is) fault = inr (e, sym is, fault, refl)

-- a command whose answer ends the event wasn't done
pub fails : {X : Type 0} (answer : Result X HubError) (e : HubError) → answer ≡ Err e → IsFault e → (h g : History) (now : ℕ) (what : What) → Does h g now what answer
    → StopsAt h now what (fault_of e) × (g ≡ h)
fails {X} answer e is fault h g now what does = on (is_found_late h.limits what) (subst (λ (r : Result X HubError). Does h g now what r) is does)
  where
    on : (late : Bool) → IsErrorOf late (refusal h (moment_at h now) what) e × (g ≡ h) → StopsAt h now what (fault_of e) × (g ≡ h)
    on false (error, same) = (stops h now what e error fault, same)
    on true (error, same) = (stops-late h now what e error fault, same)
