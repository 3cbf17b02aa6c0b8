use Rattle.std.proofs.Common.{◌≡◌, List, [], sym, ◌∙◌, ap, subst}
use Rattle.sio_wire.specs.declared.assembler.Progress.{Progress}
use Rattle.sio_wire.specs.declared.assembler.Progress.TheVariants.{Ready, Waiting, Failed}
use Rattle.sio_wire.specs.Frames.{Frame}
use Rattle.sio_wire.proofs.FramesLemmas.{Accepted-once, Accepted-none}
use Rattle.connection.specs.History.{frames, failure}
use Rattle.connection.specs.Line.{failure_of, HasTaken}
use Rattle.connection.proofs.LineLemmas.{WorksOn, packets-taken}
use Rattle.connection.proofs.line.frames_tell.Goals as goal

both-work : (one other : Progress) (taken : List Frame) → WorksOn one → WorksOn other → HasTaken one taken → HasTaken other taken → one ≡ other
both-work one other taken works also all rest =
    let p = packets-taken one taken works all in
    let q = packets-taken other taken also rest in
    (Accepted-once taken p.0 q.0 one other p.1 q.1).1

-- assemblers that took the same frames and failed for the same error, or didn't
same : (one other : Progress) (taken : List Frame) → failure_of one ≡ failure_of other → HasTaken one taken → HasTaken other taken → one ≡ other
same (Failed a) (Failed b) taken e all rest = let is : a ≡ b = cc e in ap Failed is
same (Failed a) Ready taken e all rest = absurd (cc e)
same (Failed a) (Waiting q) taken e all rest = absurd (cc e)
same Ready (Failed b) taken e all rest = absurd (cc e)
same Ready Ready taken e all rest = both-work Ready Ready taken tt tt all rest
same Ready (Waiting q) taken e all rest = both-work Ready (Waiting q) taken tt tt all rest
same (Waiting p) (Failed b) taken e all rest = absurd (cc e)
same (Waiting p) Ready taken e all rest = both-work (Waiting p) Ready taken tt tt all rest
same (Waiting p) (Waiting q) taken e all rest = both-work (Waiting p) (Waiting q) taken tt tt all rest

pub returns-clause-told : goal.returns-clause-told
returns-clause-told c = λ o g h k l one other taken failed.
    same k.assembler l.assembler (frames h) (one.failed ∙ failed ∙ sym other.failed)
    (subst (λ (fs : List Frame). HasTaken k.assembler fs) taken one.taken) other.taken

pub returns-clause-ready : goal.returns-clause-ready
unfolding frames failure
returns-clause-ready c = λ o l leads. same l.assembler Ready [] leads.failed leads.taken ([], Accepted-none)
