use Rattle.std.proofs.Common.{refl, sym, ◌∙◌}
use Rattle.sio_wire.proofs.FramesLemmas.{Accepts-kept}
use Rattle.sio_wire.proofs.assembler.Assembler.text.Goals as goal
use Rattle.sio_wire.proofs.assembler.Assembler.text.Goals.{in-Ready, in-Waiting, in-Failed}

pub returns-in-Ok-clause-accepted : goal.returns-in-Ok-clause-accepted
returns-in-Ok-clause-accepted c = elim c.match-self.branch [
  | in-Ready w ↦ (let spells = rw (← w.header-is, c.in-Ok.is) at w.read_header-header.ensures.ok in
      let ready = sym c.self.view_is ∙ w.in-Ready.is in
      Accepts-kept _ _ _ _ _ (λ rest kept. record {
        header_text = c.args.text.now;
        spells = spells;
        frames_are = rw (c.new.ensures, (rw ready at kept)) refl;
      }) c.keep.ensures)
  | in-Waiting w ↦ absurd (let is = w.header-is in cc (is, c.in-Ok.is))
  | in-Failed w ↦ absurd (let is = w.header-is in cc (is, c.in-Ok.is))
]
