use Rattle.std.proofs.Common.{◌≡◌, ◌++◌, [], refl, arith}
use Rattle.loop_rules.specs.Looks.{is_queued}
use Rattle.std.proofs.Common.{IsOk}
use Rattle.std.proofs.lemmas.List.Sums.{count_by-le-length}
use Rattle.loop_rules.proofs.roster.Rota.begin_round.Goals as goal

pub returns : goal.returns
returns c =
    let most = count_by-le-length is_queued c.self.inside.looks.items in
    let ok : IsOk c.append.result = c.append.ensures.succeeds (omega (arith, most, c.self.invariant.all, c.self.invariant.ready_fits)) in
    let ready : c.append.new.self.items ≡ c.self.inside.ready.items ++ c.self.inside.again.items = rw ok at c.append.ensures.items in
    let again : c.append.new.other.items ≡ [] = rw ok at c.append.ensures.other_items in
    rw (← c.self.view_is, ready, again) refl
