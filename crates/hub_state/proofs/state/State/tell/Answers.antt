use Rattle.hub_state.specs.Changes.{refusal_now}
use Rattle.journal.specs.declared.step.What.TheVariants.{Told}
use Rattle.std.proofs.Common.{rules, refl, arith, ◌≡◌, None, sym}
use Rattle.journal.proofs.CommandLemmas.{told, can_tell, puts_told}
use Rattle.hub_state.proofs.EndedLemmas.{hub-of, none-ended, plus}
use Rattle.hub_state.proofs.state.State.tell.Goals as goal

pub invariant_of-self-2 : goal.invariant_of-self-2
invariant_of-self-2 c =
    let s = c.in_ok-may_count.ensures (Told (record { client = c.args.client; entry = c.args.entry })) (puts_told _ _ _ (record { client = c.args.client; entry = c.args.entry })) refl (omega arith) in
    let free : refusal_now c.args.self.now (Told (record { client = c.args.client; entry = c.args.entry })) ≡ None = search (rules, s) in
    let hub = hub-of c.self.inside c.self.invariant in
    rw (c.add.ensures.steps, c.add.ensures.last, c.reserve.ensures.same, c.add.ensures.counts, c.in_ok-entry.ensures.ok)
    (plus (told _ _ (record { client = c.args.client; entry = c.args.entry }) c.args.now _ _ _ _ _ _ _ _ _ _ hub (rw (← c.self.view_is) at (sym free)) (rw (c.in_ok-shared.ensures, c.in_ok-entry.ensures.ok) at c.in_ok-put_entry.ensures.ok))
    (none-ended _ _ _ _ c.self.invariant.4 refl))

pub add-requires-clause-counted : goal.add-requires-clause-counted
add-requires-clause-counted c =
    let s = c.in_ok-may_count.ensures (Told (record { client = c.args.client; entry = c.args.entry })) (puts_told _ _ _ (record { client = c.args.client; entry = c.args.entry })) refl (omega arith) in
    let free : refusal_now c.args.self.now (Told (record { client = c.args.client; entry = c.args.entry })) ≡ None = search (rules, s) in
    can_tell _ _ _ _ c.self.invariant.3 c.self.invariant.2 (record { client = c.args.client; entry = c.args.entry }) (rw (← c.self.view_is) at (sym free))

pub returns-in_err-may_count : goal.returns-in_err-may_count
returns-in_err-may_count c =
    let s = c.in_err-may_count.ensures (Told (record { client = c.args.client; entry = c.args.entry })) (puts_told _ _ _ (record { client = c.args.client; entry = c.args.entry })) refl (omega arith) in
    search (rules, s)

pub returns-in_err-entry : goal.returns-in_err-entry
returns-in_err-entry c =
    let s = c.in_ok-may_count.ensures (Told (record { client = c.args.client; entry = c.args.entry })) (puts_told _ _ _ (record { client = c.args.client; entry = c.args.entry })) refl (omega arith) in
    let free : refusal_now c.args.self.now (Told (record { client = c.args.client; entry = c.args.entry })) ≡ None = search (rules, s) in
    search (rules, free)

pub returns-in_err-shared : goal.returns-in_err-shared
returns-in_err-shared c =
    let s = c.in_ok-may_count.ensures (Told (record { client = c.args.client; entry = c.args.entry })) (puts_told _ _ _ (record { client = c.args.client; entry = c.args.entry })) refl (omega arith) in
    let free : refusal_now c.args.self.now (Told (record { client = c.args.client; entry = c.args.entry })) ≡ None = search (rules, s) in
    search (rules, free)

pub returns-in_err-reserve : goal.returns-in_err-reserve
returns-in_err-reserve c =
    let s = c.in_ok-may_count.ensures (Told (record { client = c.args.client; entry = c.args.entry })) (puts_told _ _ _ (record { client = c.args.client; entry = c.args.entry })) refl (omega arith) in
    let free : refusal_now c.args.self.now (Told (record { client = c.args.client; entry = c.args.entry })) ≡ None = search (rules, s) in
    search (rules, free)

pub returns-in_err-put_entry : goal.returns-in_err-put_entry
returns-in_err-put_entry c =
    let s = c.in_ok-may_count.ensures (Told (record { client = c.args.client; entry = c.args.entry })) (puts_told _ _ _ (record { client = c.args.client; entry = c.args.entry })) refl (omega arith) in
    let free : refusal_now c.args.self.now (Told (record { client = c.args.client; entry = c.args.entry })) ≡ None = search (rules, s) in
    search (rules, free)

pub returns : goal.returns
returns c =
    let s = c.in_ok-may_count.ensures (Told (record { client = c.args.client; entry = c.args.entry })) (puts_told _ _ _ (record { client = c.args.client; entry = c.args.entry })) refl (omega arith) in
    let free : refusal_now c.args.self.now (Told (record { client = c.args.client; entry = c.args.entry })) ≡ None = search (rules, s) in
    search (rules, free)
