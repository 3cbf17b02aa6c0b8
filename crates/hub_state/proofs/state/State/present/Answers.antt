use Rattle.std.proofs.Common.{◌≡◌, rules, ap, ◌∙◌, subst, nat_eq}
use Rattle.std.specs.HashMap.{get}
use Rattle.recovery.specs.PacketLog.{LogContents, IsRun, number_of}
use Rattle.recovery.specs.SavedTable.{TableContents}
use Rattle.journal.proofs.SealLemmas.{copied-open, copied-are}
use Rattle.hub_state.proofs.state.State.present.Goals as goal

pub returns-clause-leads : goal.returns-clause-leads
returns-clause-leads c =
    let items : c.deref.result.now ≡ c.in_ok-ids.ids.items = search rules in
    record {
      at_is = rw (← c.self.view_is) c.self.invariant.0.last;
      next_is = c.next_offset.ensures;
      clients_open = rw (← c.self.view_is) (copied-open _ _ _ (get nat_eq c.self.inside.clients) c.self.invariant.0.clients _ c.in_ok-ids.ensures c.in_ok-clients.clients.items (rw items at c.in_ok-clients.ensures));
      clients_are = rw (← c.self.view_is) (copied-are _ _ _ (get nat_eq c.self.inside.clients) c.self.invariant.0.clients _ c.in_ok-ids.ensures c.in_ok-clients.clients.items (rw items at c.in_ok-clients.ensures));
      pairs_are = rw (← c.self.view_is) (rw c.self.invariant.0.rooms_are at c.in-Ok.ensures.pairs);
      log_is = rw (← c.self.view_is) (c.in-Ok-list.ensures.entries ∙ ap (λ (l : LogContents). l.entries) c.self.invariant.0.log_is);
      saved_is = rw (← c.self.view_is) (c.in-Ok-list-2.ensures.sessions ∙ ap (λ (t : TableContents). t.sessions) c.self.invariant.0.saved_is);
      totals_are = c.totals.ensures;
    }

pub returns-clause-run : goal.returns-clause-run
returns-clause-run c = rw (← c.self.view_is) (subst (λ (l : LogContents). IsRun (number_of l.next) l.entries) c.self.invariant.0.log_is c.list.ensures.rises)
