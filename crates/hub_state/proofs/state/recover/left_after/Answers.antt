use Rattle.std.proofs.Common.{arith, rules, ◌≡◌, ◌+◌, ◌<◌, ◌||◌, ◌∙◌, ap, true, false, ℕ, List, [], ◌∷◌, length, map, nat_lt, if◌then◌else◌}
use Rattle.std.proofs.lemmas.Bool.Decides.{nat_tests}
use Rattle.recovery.specs.Missed.{is_for}
use Rattle.recovery.specs.PacketLog.{PlainLogged}
use Rattle.journal.specs.Outboxes.{total_size}
use Rattle.journal.specs.Recovery.{gets}
use Rattle.journal.proofs.RecoverLemmas.{places-next, bytes-next, lacks-all, none-so, total_size-none, none-got, one-got, one-lacks}
use Rattle.hub_state.proofs.state.recover.left_after.Goals.{then-is_for+in_ok-free+in_ok-checked_sub, else-is_for}
use Rattle.hub_state.proofs.state.recover.left_after.Goals as goal

-- how many a socket gets of one broadcast
none_of : (space : ℕ) (rooms : List (List ℕ)) (e : PlainLogged) → is_for space rooms e ≡ false → length (gets space rooms (e ∷ [])) ≡ 0
none_of space rooms e is = ap (λ b. length (map (λ (e : PlainLogged). e.entry) (if b then e ∷ [] else []))) is

one_of : (space : ℕ) (rooms : List (List ℕ)) (e : PlainLogged) → is_for space rooms e ≡ true → length (gets space rooms (e ∷ [])) ≡ 1
one_of space rooms e is = ap (λ b. length (map (λ (e : PlainLogged). e.entry) (if b then e ∷ [] else []))) is

no_place : (space : ℕ) (rooms : List (List ℕ)) (e : PlainLogged) (places bytes : ℕ) → is_for space rooms e ≡ true → places < 1
    → (nat_lt places (length (gets space rooms (e ∷ []))) || nat_lt bytes (total_size (gets space rooms (e ∷ [])))) ≡ true
no_place space rooms e places bytes is few =
    let one = one_of space rooms e is in
    let lacks : nat_lt places (length (gets space rooms (e ∷ []))) ≡ true = grind (arith, nat_tests, one, few) in
    ap (λ b. b || nat_lt bytes (total_size (gets space rooms (e ∷ [])))) lacks

pub loop-logged-init : goal.loop-logged-init
loop-logged-init c = let none = total_size-none in record { places = omega arith; bytes = omega (arith, none) }

pub returns-in_err-free-clause-none : goal.returns-in_err-free-clause-none
returns-in_err-free-clause-none c =
    let yes : is_for c.args.space c.args.rooms.now c.logged-item.result ≡ true = search rules in
    let same : c.deref.result.now ≡ c.logged-item.result.entry = c.deref.ensures ∙ ap (λ v. v.entry) c.logged.view_is in
    none-so _ _ (lacks-all c.args.space c.args.rooms.now c.logged-item.result c.loop-logged.logged-index c.args.broadcasts.now c.loop-logged-test.true c.logged-item.is
    c.args.places c.loop-logged.left.0 c.args.bytes c.loop-logged.left.1 c.loop-logged.invariant.places c.loop-logged.invariant.bytes
    (one-lacks c.args.space c.args.rooms.now c.logged-item.result c.deref.result.now c.loop-logged.left.0 c.loop-logged.left.1 yes same c.in_err-free.ensures.none))

pub returns-in_err-checked_sub-clause-none : goal.returns-in_err-checked_sub-clause-none
returns-in_err-checked_sub-clause-none c =
    let yes : is_for c.args.space c.args.rooms.now c.logged-item.result ≡ true = search rules in
    let few : c.loop-logged.left.0 < 1 = search rules in
    none-so _ _ (lacks-all c.args.space c.args.rooms.now c.logged-item.result c.loop-logged.logged-index c.args.broadcasts.now c.loop-logged-test.true c.logged-item.is
    c.args.places c.loop-logged.left.0 c.args.bytes c.loop-logged.left.1 c.loop-logged.invariant.places c.loop-logged.invariant.bytes
    (no_place c.args.space c.args.rooms.now c.logged-item.result c.loop-logged.left.0 c.loop-logged.left.1 yes few))

pub loop-logged-preserved : goal.loop-logged-preserved
loop-logged-preserved c =
    let e = c.logged-item.result in
    let at = c.loop-logged in
    elim c.if-is_for.branch [
      | then-is_for+in_ok-free+in_ok-checked_sub w ↦
          let yes : is_for c.args.space c.args.rooms.now e ≡ true = search rules in
          let same : w.deref.result.now ≡ e.entry = w.deref.ensures ∙ ap (λ v. v.entry) c.logged.view_is in
          let one = one_of c.args.space c.args.rooms.now e yes in
          let left : w.in_ok-checked_sub.field-0 + 1 ≡ at.left.0 = search rules in
          rw w.left-is (record {
            places = places-next c.args.space c.args.rooms.now e at.logged-index c.args.broadcasts.now c.loop-logged-test.true c.logged-item.is
                c.args.places at.left.0 w.in_ok-checked_sub.field-0 at.invariant.places (omega (arith, one, left));
            bytes = bytes-next c.args.space c.args.rooms.now e at.logged-index c.args.broadcasts.now c.loop-logged-test.true c.logged-item.is
                c.args.bytes at.left.1 w.in_ok-free.free at.invariant.bytes (one-got c.args.space c.args.rooms.now e w.deref.result.now at.left.1 w.in_ok-free.free yes same w.in_ok-free.ensures.some);
          })
      | else-is_for w ↦
          let no : is_for c.args.space c.args.rooms.now e ≡ false = search rules in
          let none = none_of c.args.space c.args.rooms.now e no in
          rw w.left-is (record {
            places = places-next c.args.space c.args.rooms.now e at.logged-index c.args.broadcasts.now c.loop-logged-test.true c.logged-item.is
                c.args.places at.left.0 at.left.0 at.invariant.places (omega (arith, none));
            bytes = bytes-next c.args.space c.args.rooms.now e at.logged-index c.args.broadcasts.now c.loop-logged-test.true c.logged-item.is
                c.args.bytes at.left.1 at.left.1 at.invariant.bytes (none-got c.args.space c.args.rooms.now e at.left.1 no);
          })
    ]
