use Rattle.sio_wire.proofs.FramesLemmas.{Accepted-once, Accepted-none}
use Rattle.sio_wire.proofs.assembler.frames_cut_once.Goals as goal

pub returns-clause-once : goal.returns-clause-once
returns-clause-once c = Accepted-once

pub returns-clause-none : goal.returns-clause-none
returns-clause-none c = Accepted-none
