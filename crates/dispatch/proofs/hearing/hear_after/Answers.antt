use Rattle.std.proofs.Common.{◌≡◌, Ok, Err, ap, refl, rules}
use Rattle.events.specs.declared.outcome.Outcome.TheVariants as outcome
use Rattle.dispatch.proofs.hearing.hear_after.Goals as goal

pub returns-in_err-hear-in-Ok-Done : goal.returns-in_err-hear-in-Ok-Done
returns-in_err-hear-in-Ok-Done g c =
    let client : c.of-visit.result.client ≡ c.in-Some.client = c.of-visit.ensures.client in
    let moment : c.of-visit.result.moment ≡ c.args.call.moment = c.of-visit.ensures.moment in
    let said : c.args.said ≡ Ok (outcome.Done c.in-Ok-Done.done) = search rules in
    let failed : c.from_residual.result ≡ Err c.in_err-hear-in-Ok-Done.field-0.0 = search rules in
    let (after, run, is) = c.in_err-hear-in-Ok-Done.ensures.err in
    rw (c.in-Some.is, said, failed, ← client, ← moment) (Err c.in_err-hear-in-Ok-Done.field-0.0.fault, after, run, rw said (ap Err is))

pub returns-in_ok-hear-in-Ok-Done : goal.returns-in_ok-hear-in-Ok-Done
returns-in_ok-hear-in-Ok-Done g c =
    let client : c.of-visit.result.client ≡ c.in-Some.client = c.of-visit.ensures.client in
    let moment : c.of-visit.result.moment ≡ c.args.call.moment = c.of-visit.ensures.moment in
    let said : c.args.said ≡ Ok (outcome.Done c.in-Ok-Done.done) = search rules in
    rw (c.in-Some.is, said, ← client, ← moment) (Ok tt, c.in_ok-hear-in-Ok-Done.field-0, c.in_ok-hear-in-Ok-Done.ensures.ok, rw said refl)

pub returns-in_err-done-in-Ok-Lost : goal.returns-in_err-done-in-Ok-Lost
returns-in_err-done-in-Ok-Lost g c =
    let client : c.of-visit.result.client ≡ c.in-Some.client = c.of-visit.ensures.client in
    let moment : c.of-visit.result.moment ≡ c.args.call.moment = c.of-visit.ensures.moment in
    let said : c.args.said ≡ Ok (outcome.Lost c.in-Ok-Lost.saved c.in-Ok-Lost.done) = search rules in
    let failed : c.from_residual-in_err-done-in-Ok-Lost.result ≡ Err c.in_err-done-in-Ok-Lost.field-0.0 = search rules in
    let (after, run, is) = c.in_err-done-in-Ok-Lost.ensures.err in
    rw (c.in-Some.is, said, failed, ← client, ← moment) (Err c.in_err-done-in-Ok-Lost.field-0.0.fault, after, run, rw said (ap Err is))

pub returns-in_ok-done-in-Ok-Lost : goal.returns-in_ok-done-in-Ok-Lost
returns-in_ok-done-in-Ok-Lost g c =
    let client : c.of-visit.result.client ≡ c.in-Some.client = c.of-visit.ensures.client in
    let moment : c.of-visit.result.moment ≡ c.args.call.moment = c.of-visit.ensures.moment in
    let said : c.args.said ≡ Ok (outcome.Lost c.in-Ok-Lost.saved c.in-Ok-Lost.done) = search rules in
    rw (c.in-Some.is, said, ← client, ← moment) (Ok tt, c.in_ok-done-in-Ok-Lost.done, c.in_ok-done-in-Ok-Lost.ensures.ok, rw said refl)

pub returns-in_err-done-in-Ok-Ticked : goal.returns-in_err-done-in-Ok-Ticked
returns-in_err-done-in-Ok-Ticked g c =
    let client : c.of-visit.result.client ≡ c.in-Some.client = c.of-visit.ensures.client in
    let moment : c.of-visit.result.moment ≡ c.args.call.moment = c.of-visit.ensures.moment in
    let said : c.args.said ≡ Ok (outcome.Ticked c.in-Ok-Ticked.ping c.in-Ok-Ticked.done) = search rules in
    let failed : c.from_residual-in_err-done-in-Ok-Ticked.result ≡ Err c.in_err-done-in-Ok-Ticked.field-0.0 = search rules in
    let (after, run, is) = c.in_err-done-in-Ok-Ticked.ensures.err in
    rw (c.in-Some.is, said, failed, ← client, ← moment) (Err c.in_err-done-in-Ok-Ticked.field-0.0.fault, after, run, rw said (ap Err is))

pub returns-in_ok-done-in-Ok-Ticked : goal.returns-in_ok-done-in-Ok-Ticked
returns-in_ok-done-in-Ok-Ticked g c =
    let client : c.of-visit.result.client ≡ c.in-Some.client = c.of-visit.ensures.client in
    let moment : c.of-visit.result.moment ≡ c.args.call.moment = c.of-visit.ensures.moment in
    let said : c.args.said ≡ Ok (outcome.Ticked c.in-Ok-Ticked.ping c.in-Ok-Ticked.done) = search rules in
    rw (c.in-Some.is, said, ← client, ← moment) (Ok tt, c.in_ok-done-in-Ok-Ticked.done, c.in_ok-done-in-Ok-Ticked.ensures.ok, rw said refl)
