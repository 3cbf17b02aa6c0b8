use Rattle.std.proofs.Common.{◌≡◌, ℕ, ◌<◌, true, length}
use Rattle.loop_rules.specs.Rotas.{look_of, will_look, called_below}
use Rattle.loop_rules.proofs.roster.Rota.call_all.Given as goal

-- all before this key are called
abbrev pub invariant-loop-key : goal.invariant-loop-key
invariant-loop-key l = record {
  called : (k : ℕ) → k < l.key → will_look (look_of l.self.looks k) ≡ true;
  same : length l.self.looks ≡ length l.initial.self.looks;
  state : l.self ≡ called_below l.key l.initial.self;
}
