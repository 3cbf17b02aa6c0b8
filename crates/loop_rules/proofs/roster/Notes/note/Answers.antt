use Rattle.std.proofs.Common.{◌≡◌, ◌<◌, ◌++◌, ◌∷◌, [], ℕ, false, length, is_ok, refl, arith, Vec, Global}
use Rattle.loop_rules.proofs.NotesLemmas.{by_fit, noted_here, noted_kept}
use Rattle.loop_rules.proofs.roster.Notes.note.Goals as goal
use Rattle.loop_rules.proofs.roster.Notes.note.Goals.{in-Some, in-None}

pub returns-clause-noted : goal.returns-clause-noted
returns-clause-noted c = elim c.match-get_mut.branch [
  | in-Some w ↦
      let is : c.match-get_mut.noted ≡ is_ok w.push.result = cc (w.noted-is, w.is_ok-noted.ensures.value) in
      let below : c.args.number < length c.args.self.now.lists.items = omega (arith, w.in-Some.ensures.variant.0 refl) in
      rw (w.self-is, is) (by_fit (is_ok w.push.result) c.args.self.now.everyone _ (λ ok.
      let items : w.push.new.self.items ≡ w.in-Some.list.now.items ++ c.args.client ∷ [] = rw ok at w.push.ensures.items in
      noted_here (λ (v : Vec ℕ Global). v.items) c.args.self.now.everyone c.args.self.now.lists.items c.args.number c.args.client w.push.new.self _ below items))
  | in-None w ↦ rw (w.self-is, w.noted-is) (by_fit false c.args.self.now.everyone _ (λ no. absurd (cc)))
]

pub returns-clause-kept : goal.returns-clause-kept
returns-clause-kept c = elim c.match-get_mut.branch [
  | in-Some w ↦ λ n d was.
      let is : c.match-get_mut.noted ≡ is_ok w.push.result = cc (w.noted-is, w.is_ok-noted.ensures.value) in
      let below : c.args.number < length c.args.self.now.lists.items = omega (arith, w.in-Some.ensures.variant.0 refl) in
      rw (w.self-is, is) (by_fit (is_ok w.push.result) c.args.self.now.everyone _ (λ ok.
      let items : w.push.new.self.items ≡ w.in-Some.list.now.items ++ c.args.client ∷ [] = rw ok at w.push.ensures.items in
      noted_kept (λ (v : Vec ℕ Global). v.items) c.args.self.now.everyone c.args.self.now.lists.items c.args.number c.args.client n d w.in-Some.list.now w.push.new.self below w.in-Some.ensures.value items was))
  | in-None w ↦ λ n d was. rw (w.self-is, w.noted-is) (by_fit false c.args.self.now.everyone _ (λ no. absurd (cc)))
]
