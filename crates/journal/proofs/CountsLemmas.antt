-- The counts that a hub keeps against the totals of its history.
use Rattle.std.proofs.Common.{◌≡◌, ℕ, ◌+◌, ◌-◌, ◌≤◌, Bool, true, false, ◌||◌, List, ◌∷◌, length, refl, sym, ◌∙◌, ap, subst, arith, if◌then◌else◌, nat_eq, Option, None, Some}
use Rattle.std.specs.Prelude.{is_some}
use Rattle.std.specs.List.{list_any, IsDistinct}
use Rattle.std.specs.Map.{keys_of}
use Rattle.std.specs.Set.{is_member}
use Rattle.std.specs.Ordering.{nat_cmp, eq_by_cmp}
use Rattle.std.specs.Cmp.{unsigned_tied}
use Rattle.std.specs.HashMap.{HashMap, get, hash_map_len, IsUnique}
use Rattle.std.proofs.lemmas.Cmp.{nat_eq_equiv}
use Rattle.std.proofs.lemmas.Map.Keys.{IsDistinct-from_sorted}
use Rattle.std.proofs.lemmas.Map.Made.{is_some-lookup, length-from_same_keys}
use Rattle.std.proofs.lemmas.Map.Entries.{length-keys_of}
use Rattle.journal.specs.declared.error.HubError.{HubError}
use Rattle.journal.specs.declared.step.Step.{Step}
use Rattle.journal.specs.declared.step.What.{What}
use Rattle.journal.specs.declared.totals.Counts.{Counts}
use Rattle.journal.specs.Plain.{PlainBase, Limits, PlainClient}
use Rattle.journal.specs.Membership.{open_clients, is_open}
use Rattle.journal.specs.Outboxes.{waiting}
use Rattle.journal.specs.Totals.{placed_by, dropped_by, handed_out_by, discarded_by, commands, placed, dropped, handed_out, discarded, waiting_in_all, totals, IsConserved, is_past, is_spent}
use Rattle.journal.specs.Refusals.{or_spent}
use Rattle.journal.specs.Fields.{Counted, CanCount, client_at}
use Rattle.journal.proofs.TotalsLemmas.{commands-step, placed-step, dropped-step, handed_out-step, discarded-step}
use Rattle.journal.proofs.SumsLemmas.{sum-without}

module _ (base : PlainBase) (limits : Limits) (journal : List Step) (counts : Counts) (was : Counted base limits counts journal) (conserved : IsConserved base limits journal) where
  balance : counts.placed ≡ counts.taken + counts.discarded + waiting_in_all base limits journal
  balance = let p = was.placed in let t = was.taken in let d = was.discarded in omega (arith, conserved, p, t, d)

  pub taken_fits : counts.taken ≤ counts.placed
  taken_fits = let b = balance in omega (arith, b)

  pub discarded_fits : counts.discarded ≤ counts.placed - counts.taken
  discarded_fits = let b = balance in omega (arith, b)

  pub totals_are : record { commands = counts.commands; placed = counts.placed; dropped = counts.dropped; taken = counts.taken; discarded = counts.discarded; waiting = counts.placed - counts.taken - counts.discarded } ≡ totals base limits journal
  totals_are = let b = balance in let e : counts.placed - counts.taken - counts.discarded ≡ waiting_in_all base limits journal = omega (arith, b) in
      λ i. record { commands = was.commands i; placed = was.placed i; dropped = was.dropped i; taken = was.taken i; discarded = was.discarded i; waiting = e i }

  -- one more step
  pub counted : (step : Step) (puts drops takes discards : ℕ) → placed_by base limits journal step.what ≡ puts → dropped_by step.what ≡ drops → handed_out_by step.what ≡ takes → discarded_by base limits journal step.what ≡ discards
      → Counted base limits (record { commands = counts.commands + 1; placed = counts.placed + puts; dropped = counts.dropped + drops; taken = counts.taken + takes; discarded = counts.discarded + discards }) (step ∷ journal)
  counted step puts drops takes discards ep ed et es = record {
    commands = let s = commands-step base limits step journal in let w = was.commands in omega (arith, s, w);
    placed = let s = placed-step base limits step journal in let w = was.placed in omega (arith, s, w, ep);
    dropped = let s = dropped-step base limits step journal in let w = was.dropped in omega (arith, s, w, ed);
    taken = let s = handed_out-step base limits step journal in let w = was.taken in omega (arith, s, w, et);
    discarded = let s = discarded-step base limits step journal in let w = was.discarded in omega (arith, s, w, es);
  }

  -- a step that isn't spent can be counted
  pub can : (what : What) (puts drops takes discards : ℕ) → placed_by base limits journal what ≡ puts → dropped_by what ≡ drops → handed_out_by what ≡ takes → discarded_by base limits journal what ≡ discards
      → is_spent base limits journal what ≡ false → CanCount counts puts drops takes discards
  can what puts drops takes discards ep ed et es e =
      let w = was.commands in let p = was.placed in let d = was.dropped in let t = was.taken in let s = was.discarded in
      (grind (arith, e, w), grind (arith, e, p, ep), grind (arith, e, d, ed), grind (arith, e, t, et), grind (arith, e, s, es))

  not_past : (n : ℕ) → n ≤ 18446744073709551615 → is_past n ≡ false
  not_past n h = grind (arith, h)

  drop_false : (a b c d e : Bool) → d ≡ false → e ≡ false → (a || b || c || d || e) ≡ (a || b || c)
  drop_false true b c d e hd he = refl
  drop_false false true c d e hd he = refl
  drop_false false false true d e hd he = refl
  drop_false false false false d e hd he = rw (hd, he) refl

  -- what is handed out or discarded was put, so these counts pass the greatest u64 no sooner
  spent : counts.placed ≤ 18446744073709551615 → (what : What) (puts drops : ℕ) → placed_by base limits journal what ≡ puts → dropped_by what ≡ drops
      → handed_out_by what + discarded_by base limits journal what ≤ waiting_in_all base limits journal
      → is_spent base limits journal what ≡ (is_past (commands base journal + 1) || is_past (placed base limits journal + puts) || is_past (dropped base journal + drops))
  spent small what puts drops ep ed within =
      let b = balance in let t = was.taken in let d = was.discarded in
      rw (ep, ed) (drop_false (is_past (commands base journal + 1)) (is_past (placed base limits journal + puts)) (is_past (dropped base journal + drops)) _ _
      (not_past (handed_out base journal + handed_out_by what) (omega (arith, b, t, within, small)))
      (not_past (discarded base limits journal + discarded_by base limits journal what) (omega (arith, b, d, within, small))))

  -- as the clause of `is_spent` says it
  pub spent_for : placed base limits journal ≤ 18446744073709551615 → (puts drops : ℕ) → (b : Bool) → b ≡ (is_past (commands base journal + 1) || is_past (placed base limits journal + puts) || is_past (dropped base journal + drops)) → (what : What)
      → placed_by base limits journal what ≡ puts → dropped_by what ≡ drops → handed_out_by what + discarded_by base limits journal what ≤ waiting_in_all base limits journal → b ≡ is_spent base limits journal what
  spent_for small puts drops b e what ep ed within = e ∙ sym (spent (let w = was.placed in omega (arith, w, small)) what puts drops ep ed within)

-- what an accepted command knows
pub unrefused : (refusal : Option HubError) (spent : Bool) → None ≡ or_spent refusal spent → refusal ≡ None
unrefused None b e = refl
unrefused (Some x) b e = cc

pub unspent : (refusal : Option HubError) (spent : Bool) → None ≡ or_spent refusal spent → spent ≡ false
unspent None true e = cc
unspent None false e = refl
unspent (Some x) b e = cc

pub or_none : {refusal : Option HubError} {spent : Bool} → refusal ≡ None → spent ≡ false → or_spent refusal spent ≡ None
or_none e f = rw (e, f) refl

-- no more waits for an open client than for all
pub waits-within : (base : PlainBase) (limits : Limits) (journal : List Step) (c : ℕ) → IsDistinct nat_eq (open_clients base journal) → is_open base journal c ≡ true → length (waiting base limits journal c) ≤ waiting_in_all base limits journal
unfolding waiting_in_all is_open
waits-within base limits journal c once known =
    let w = sum-without (λ c. length (waiting base limits journal c)) c (open_clients base journal) once known in omega (arith, w)

pub is_open-member : (base : PlainBase) (journal : List Step) (q : ℕ) → is_open base journal q ≡ is_member nat_eq (open_clients base journal) q
unfolding is_open
is_open-member base journal q = refl

-- the map has an entry for each open client
pub clients_counted : {S : Type 0} (base : PlainBase) (limits : Limits) (journal : List Step) (m : HashMap ℕ PlainClient S) → IsUnique nat_eq m → ((c : ℕ) → get nat_eq m c ≡ client_at base limits journal c)
    → IsDistinct nat_eq (open_clients base journal) → hash_map_len m ≡ length (open_clients base journal)
clients_counted base limits journal m apart finds once =
    sym (length-keys_of m.entries)
    ∙ length-from_same_keys nat_eq_equiv (keys_of m.entries) (open_clients base journal) apart once has
  where
    known : (c : ℕ) (b : Bool) (x : PlainClient) → is_some (if b then Some x else None) ≡ b
    known c true x = refl
    known c false x = refl

    has : (q : ℕ) → is_member nat_eq (keys_of m.entries) q ≡ is_member nat_eq (open_clients base journal) q
    has q = sym (is_some-lookup (nat_eq q) m.entries) ∙ ap is_some (finds q) ∙ known q (is_open base journal q) _ ∙ is_open-member base journal q
