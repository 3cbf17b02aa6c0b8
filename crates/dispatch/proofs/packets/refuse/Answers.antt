use Rattle.std.proofs.Common.{inl, refl, ap, rules, ◌≡◌, Err}
use Rattle.journal.specs.Journal.{History}
use Rattle.dispatch.specs.Effects.{scene}
use Rattle.dispatch.specs.Scene.{seen}
use Rattle.dispatch.proofs.ConnectLemmas.{refuses-full}
use Rattle.dispatch.proofs.packets.refuse.Goals as goal

pub returns-in_default : goal.returns-in_default
returns-in_default c = (search rules, rw c.into.ensures (inl (inl refl), (refl, refl)))

pub returns-in_err-tell : goal.returns-in_err-tell
returns-in_err-tell c =
    let old = c.args.scene.now in
    let fault = c.in_err-tell.field-0.0 in
    let failed : c.from_residual.result ≡ Err (record { fault = fault; effects = 0 }) = search rules in
    let stops = rw (c.from_string.ensures, c.in-Ok.ensures.ok, c.new.ensures) at c.in_err-tell.ensures.does in
    rw failed (search rules, (inl stops.0, (refl, ap (λ (h : History). scene h old.line.now old.tally.now) stops.1)))

pub returns-then-branch : goal.returns-then-branch
returns-then-branch c =
    let made = rw (c.if-branch.true, c.from_string.ensures, c.in-Ok.ensures.ok, c.new.ensures) at c.in_ok-tell.ensures.does in
    (search rules, inl (made, refl))

pub returns : goal.returns
returns c =
    let old = c.args.scene.now in
    let full = rw (c.if-branch.false, c.from_string.ensures, c.in-Ok.ensures.ok, c.new.ensures) at c.in_ok-tell.ensures.does in (
      search rules,
      refuses-full old.visit.client old.visit.moment c.args.space.now c.args.message.now (seen old) c.close_for.result (seen c.close_for.new.scene) full.0 (rw full.1 at c.close_for.ensures.1),
    )
