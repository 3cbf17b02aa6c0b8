use Rattle.std.proofs.Common.{◌∙◌, ap, sym, subst}
use Rattle.events.specs.App.{AllClean, IsCleanEffect}
use Rattle.relay.proofs.CleanLemmas.{all_append}
use Rattle.relay.proofs.PresenceLemmas.{clean-told}
use Rattle.relay.proofs.relay_app.PresenceApp.ended.Goals.{then-self+in_ok-announce, else-self}
use Rattle.relay.proofs.relay_app.PresenceApp.ended.Goals as goal

pub returns-clause-clean : goal.returns-clause-clean
returns-clause-clean g c = elim c.if-self.branch [
  | then-self+in_ok-announce w ↦
      subst AllClean (sym (ap (λ v. v.items) w.effects-is ∙ w.in_ok-announce.ensures))
      (all_append IsCleanEffect _ _ c.in_ok-effects.ensures.clean (clean-told c.args.who.now c.args.rooms.now c.args.ending))
  | else-self w ↦ subst AllClean (sym (ap (λ v. v.items) w.effects-is)) c.in_ok-effects.ensures.clean
]
