use Rattle.std.proofs.Common.{rules, ◌≡◌, ◌≢◌, ◌∙◌, ℕ, List, ap}
use Rattle.loop_rules.specs.Links.{link_at, put_at}
use Rattle.loop_rules.specs.declared.link.Link.{Link}
use Rattle.tcp_loops.proofs.connections.Connections.hear.Goals as goal

-- the others stay
put_elsewhere : (key k : ℕ) (l : Link) (links : List Link) → k ≢ key → link_at (put_at key l links) k ≡ link_at links k
put_elsewhere key k l links other = search rules

-- its loss was none, then it was known, then its look followed
pub returns-in-Some-hear-clause-others : goal.returns-in-Some-hear-clause-others
returns-in-Some-hear-clause-others g c = record {
  connections = search rules;
  links = λ k other.
      let followed : link_at c.follow.new.self.links.items k ≡ link_at c.know.new.self.links.items k =
      ap (λ links. link_at links k) c.follow.ensures.links ∙ put_elsewhere _ k _ _ other in
      let known : link_at c.know.new.self.links.items k ≡ link_at c.hear_loss.new.self.links.items k = search rules in
      let heard : link_at c.hear_loss.new.self.links.items k ≡ link_at c.args.self.now.links.links.items k =
      ap (λ links. link_at links k) c.hear_loss.ensures.links ∙ put_elsewhere _ k _ _ other in
      followed ∙ known ∙ heard;
}
