use Rattle.std.proofs.Common.{◌≡◌, ◌++◌, drop}
use Rattle.json.specs.Tree.{members_tokens, MembersHaveNumbers}
use Rattle.json.specs.Value.{members_view}
use Rattle.tokens.specs.Payload.{other_members}
use Rattle.tokens.proofs.payload.others.Given as goal

abbrev pub invariant-loop-member : goal.invariant-loop-member
invariant-loop-member l = record {
  numbers : MembersHaveNumbers (members_view (drop l.member-index l.member-items));
  tokens : l.writer.tokens ++ members_tokens (other_members (members_view (drop l.member-index l.member-items))) ≡ l.initial.writer.tokens ++ members_tokens (other_members (members_view l.member-items));
  before : l.writer.before ≡ l.initial.writer.before;
}
