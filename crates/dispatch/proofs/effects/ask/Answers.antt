use Rattle.std.proofs.Common.{◌≡◌, ap, Ok, Err, false, rules}
use Rattle.journal.specs.Journal.{History}
use Rattle.dispatch.specs.Effects.{scene}
use Rattle.dispatch.specs.Scene.{seen}
use Rattle.dispatch.proofs.AskLemmas.{forgets, asks-full, asks-open, asks-untold}
use Rattle.dispatch.proofs.effects.ask.Goals as goal
use Rattle.dispatch.proofs.effects.ask.Goals.{in-Ok+else-told, in-Err-1}

pub returns-in_err-told : goal.returns-in_err-told
returns-in_err-told c =
    let old = c.args.scene.now in
    let tell = c.tell-told.ensures in
    let fault = c.in_err-told.field-0.0 in
    let failed : c.from_residual.result ≡ Err fault = search rules in
    let answer : c.tell-told.result ≡ Err fault = elim c.match-told.branch [
      | in-Ok+else-told w ↦ absurd (cc (w.told-is, c.in_err-told.was))
      | in-Err-1 w ↦ search rules
    ] in
    let tells = rw answer at tell in
    let vain = rw c.saturating_add-until.ensures at (forgets old.line.now _ c.answer-tag.new.self c.args.who.now.sid c.in-Ok.id c.args.inquiry.tag c.saturating_add-until.result c.answer-tag.result
    c.in-Ok.ensures.id c.in-Ok.ensures.advances c.answer-tag.ensures.answer c.answer-tag.ensures.advances) in
    let asked = ap (λ (h : History). scene h c.answer-tag.new.self old.tally.now) tells.0 in
    let middle = scene c.tell-told.new.state c.answer-tag.new.self old.tally.now in
    rw failed (record {
      same = search rules;
      ok = tt;
      err = asks-untold c.args.who.now c.args.inquiry old.visit.moment c.in-Ok.id (seen old) middle middle c.in-Ok.ensures.id vain asked fault tells.1;
    })

pub returns : goal.returns
returns c =
    let old = c.args.scene.now in
    let tell = c.tell-told.ensures in
    let answer : c.tell-told.result ≡ Ok false = elim c.match-told.branch [
      | in-Ok+else-told w ↦ search rules
      | in-Err-1 w ↦ absurd (cc (w.told-is, c.in_ok-told.was))
    ] in
    let told = rw answer at tell in
    let vain = rw c.saturating_add-until.ensures at (forgets old.line.now _ c.answer-tag.new.self c.args.who.now.sid c.in-Ok.id c.args.inquiry.tag c.saturating_add-until.result c.answer-tag.result
    c.in-Ok.ensures.id c.in-Ok.ensures.advances c.answer-tag.ensures.answer c.answer-tag.ensures.advances) in
    let asked = ap (λ (h : History). scene h c.answer-tag.new.self old.tally.now) told.2.1 in
    let middle = scene c.tell-told.new.state c.answer-tag.new.self old.tally.now in record {
      same = search rules;
      ok = asks-full c.args.who.now c.args.inquiry old.visit.moment c.in-Ok.id (seen old) middle (seen c.close_for.new.scene)
          c.in-Ok.ensures.id vain asked c.close_for.result told.0 told.1 told.2.0 (rw (← c.requires.own) at c.close_for.ensures.ok);
      err = asks-open c.args.who.now c.args.inquiry old.visit.moment c.in-Ok.id (seen old) middle (seen c.close_for.new.scene)
          c.in-Ok.ensures.id vain asked c.close_for.result told.0 told.1 told.2.0 (rw (← c.requires.own) at c.close_for.ensures.err);
    }
