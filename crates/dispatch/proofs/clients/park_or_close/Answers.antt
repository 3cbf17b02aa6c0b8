use Rattle.std.proofs.Common.{rules, ◌≡◌, ◌∙◌, inr, Err, subst}
use Rattle.journal.specs.declared.step.What.TheVariants as what
use Rattle.journal.specs.Journal.{History}
use Rattle.dispatch.specs.Commands.{Makes, StopsAt}
use Rattle.dispatch.proofs.UpkeepLemmas.{saved-full}
use Rattle.dispatch.proofs.clients.park_or_close.Goals as goal

pub returns-in-Ok : goal.returns-in-Ok
returns-in-Ok c = c.in-Ok.ensures

pub returns-in_err-close : goal.returns-in_err-close
returns-in_err-close c =
    let (full, same) = rw c.in-Err-SavedFull.field-0-is at c.in-Err-SavedFull.ensures in
    let (stops, kept) = c.in_err-close.ensures in
    let failed : c.from_residual.result ≡ Err c.in_err-close.field-0.0 = search rules in
    rw failed (inr (saved-full _ full, subst (λ (k : History). StopsAt k c.args.visit.moment (what.Closed c.args.visit.client) c.in_err-close.field-0.0) same stops), kept ∙ same)

pub returns : goal.returns
returns c =
    let (full, same) = rw c.in-Err-SavedFull.field-0-is at c.in-Err-SavedFull.ensures in
    (saved-full _ full, subst (λ (k : History). Makes k c.args.visit.moment (what.Closed c.args.visit.client) c.close.new.state) same c.in_ok-close.ensures)
