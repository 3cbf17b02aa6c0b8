use Rattle.std.proofs.Common.{◌≡◌, ◌++◌, drop}
use Rattle.json.specs.Tree.{items_tokens, ItemsHaveNumbers}
use Rattle.json.specs.Value.{items_view}
use Rattle.switchboard.proofs.emission.write_items.Given as goal

abbrev pub invariant-loop-item : goal.invariant-loop-item
invariant-loop-item l = record {
  numbers : ItemsHaveNumbers (items_view (drop l.item-index l.items));
  tokens : l.writer.tokens ++ items_tokens (items_view (drop l.item-index l.items)) ≡ l.initial.writer.tokens ++ items_tokens (items_view l.items);
  before : l.writer.before ≡ l.initial.writer.before;
}
