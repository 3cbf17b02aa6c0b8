use Rattle.std.proofs.Common.{List, length, ◌≡◌, ◌≤◌, max, drop, filter, sym, ap, subst, ◌∙◌, ◌∷◌, arith, refl}
use Rattle.std.specs.List.{take_while}
use Rattle.recovery.specs.Expiry.{is_outdated}
use Rattle.recovery.specs.PacketLog.{PlainLogged, LogContents, IsLog, IsLogOf, Swept, swept, latest, is_fresh, contents}
use Rattle.recovery.proofs.PacketLogLemmas.{log_shrunk, log_swept, swept_front}
use Rattle.recovery.proofs.packet_log.PacketLog.sweep.Goals as goal

-- the fields at the end
abbrev fields : goal.After-self-1 → LogContents
fields c = contents c.forget.new.self.limit c.forget.new.self.bytes c.self.inside.next c.max-now.result c.forget.new.self.entries

abbrev old : goal.After-self-1 → LogContents
old c = contents c.self.inside.latest.limit c.self.inside.latest.bytes c.self.inside.next c.self.inside.last c.self.inside.latest.entries

-- how many are taken from the front
gone : (c : goal.After-self-1) → c.forget.new.self.entries ≡ drop c.count_outdated-outdated.result c.self.inside.latest.entries
gone c = ap (λ r. r.entries) c.forget.ensures

left : (c : goal.After-self-1) → c.forget.new.self.entries ≡ filter (is_fresh c.args.keep c.max-now.result) c.self.inside.latest.entries
left c =
    gone c
    ∙ ap (λ n. drop n c.self.inside.latest.entries) (c.count_outdated-outdated.ensures ∙ ap (λ (xs : List PlainLogged). length (take_while (λ (e : PlainLogged). is_outdated c.args.keep c.max-now.result e.at) xs)) c.ring.ensures.items)
    ∙ swept_front c.args.keep c.max-now.result c.self.inside.last c.self.inside.latest.entries c.self.invariant.rises

same : (c : goal.After-self-1) → fields c ≡ swept c.args.self.now c.args.keep (max c.args.self.now.last c.args.now)
same c =
    (λ i. contents (ap (λ r. r.limit) c.forget.ensures i) (ap (λ r. r.bytes) c.forget.ensures i) c.self.inside.next c.max-now.result (left c i))
    ∙ ap (λ m. swept (old c) c.args.keep m) c.max-now.ensures
    ∙ ap (λ v. swept v c.args.keep (max v.last c.args.now)) c.self.view_is

pub invariant_of-self : goal.invariant_of-self
invariant_of-self c =
    let late : c.self.inside.last ≤ c.max-now.result = omega (arith, c.max-now.ensures) in
    subst (λ s. IsLog (contents s.limit s.bytes c.self.inside.next c.max-now.result s.entries)) (sym c.forget.ensures)
    (log_shrunk (old c) c.args.keep c.max-now.result c.count_outdated-outdated.result _ c.self.invariant refl late)

pub returns-clause-swept : goal.returns-clause-swept
returns-clause-swept c = same c

pub returns-clause-leads : goal.returns-clause-leads
returns-clause-leads c first history is =
    let late : latest history ≤ max c.args.self.now.last c.args.now = omega (arith, is.last) in
    subst (IsLogOf first (Swept c.args.keep (max c.args.self.now.last c.args.now) ∷ history)) (sym (same c))
    (log_swept first history c.args.self.now c.args.keep (max c.args.self.now.last c.args.now) is late)
