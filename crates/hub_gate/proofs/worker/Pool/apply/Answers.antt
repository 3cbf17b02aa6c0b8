use Rattle.hub_gate.proofs.worker.Pool.apply.Goals as goal

pub returns-clause-applied : goal.returns-clause-applied
returns-clause-applied g c =
    let said = rw c.deref_mut-core.ensures.value at c.apply-got.ensures in
    rw (c.of-after.ensures, c.of-before.ensures, c.audit.ensures.same.0, c.audit.ensures.same.1, c.deref_mut-core.ensures.value) (record {
      does = said.does;
      settings = said.settings;
      handed = said.handed;
      turns = said.turns;
      spares = said.spares;
      sound_before = c.requires.0;
      sound_after = rw c.audit.ensures.same.0 at c.note_facts.ensures;
      at_least_before = c.requires.1;
      at_least_after = c.audit.ensures.at_least;
    })
