use Rattle.std.proofs.Common.{Some, refl, rules}
use Rattle.std.specs.String.{string_bytes}
use Rattle.std.proofs.lemmas.Map.Text.{btree_map_updates_text}
use Rattle.script.specs.Playing.{Names, play_of}
use Rattle.script.proofs.play.Play.call_opened.Goals as goal

pub returns-in_ok-insert-clause-names : goal.returns-in_ok-insert-clause-names
returns-in_ok-insert-clause-names g c =
    let names : Names c.args.name.now c.in-Ok-Opened.opening.client (play_of c.args.self.now) (play_of (record c.args.self.now { clients = c.insert.new.self })) = record {
      clients = λ other.
          let updated = btree_map_updates_text (string_bytes c.in_ok-key.key) c.args.self.now.clients c.insert.new.self (Some c.in-Ok-Opened.opening.client) c.in_ok-insert.ensures.updates other in
          let same = c.in_ok-key.ensures.ok in cc;
      same_core = refl;
      same_now = refl;
      same_next = refl;
    } in
    search (rules, names)
