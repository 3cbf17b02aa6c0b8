-- A seal keeps within the limits what was within them.
use Rattle.std.proofs.Common.{◌≡◌, ℕ, ◌≤◌, ◌==◌, Bool, true, false, List, [], ◌∷◌, length, map, refl, sym, ◌∙◌, ap, subst, arith, if◌then◌else◌, Some, None, nat_cmp, nat_eq}
use Rattle.std.specs.List.{find, IsDistinct}
use Rattle.std.specs.Option.{option_map_or}
use Rattle.std.specs.Set.{is_member}
use Rattle.std.specs.Cmp.{unsigned_tied}
use Rattle.std.proofs.lemmas.Cmp.{nat_eq_equiv}
use Rattle.std.proofs.lemmas.Map.Keys.{IsDistinct-from_sorted}
use Rattle.std.proofs.lemmas.Map.Made.{length-le_from_is_member}
use Rattle.terms.specs.declared.entry.Entry.{Entry}
use Rattle.journal.specs.declared.step.Step.{Step}
use Rattle.journal.specs.Plain.{PlainBase, PlainBaseClient, Limits}
use Rattle.journal.specs.Journal.{History}
use Rattle.journal.specs.Membership.{open_clients, is_open}
use Rattle.journal.specs.Outboxes.{placements, taken, waiting, total_size}
use Rattle.journal.specs.Legal.{IsSound}
use Rattle.journal.specs.Seal.{client_of, LeadsTo, IsSealed, SaysTheSame, IsLegalAndSound}
use Rattle.journal.proofs.SealLemmas.{says-same}
use Rattle.continuity.specs.Within.{IsWithin}
use Rattle.continuity.proofs.WithinLemmas.{neither}

-- who is none of a base's clients isn't found among them
not-found : (c : ℕ) (bs : List PlainBaseClient) → is_member nat_eq (map client_of bs) c ≡ false → find (λ (b : PlainBaseClient). b.client == c) bs ≡ None
not-found c [] e = refl
not-found c (b ∷ bs) e = on (b.client == c) refl (not-found c bs (neither (nat_eq c b.client) (is_member nat_eq (map client_of bs) c) e).1)
  where
    on : (t : Bool) → (b.client == c) ≡ t → find (λ (b : PlainBaseClient). b.client == c) bs ≡ None → (if t then Some b else find (λ (b : PlainBaseClient). b.client == c) bs) ≡ None
    on true is rest =
        let other = (neither (nat_eq c b.client) (is_member nat_eq (map client_of bs) c) e).0 in
        let both : true ≡ false = sym is ∙ nat_eq_equiv.symm b.client c ∙ other in
        absurd (cc both)
    on false is rest = rest

module _ (base : PlainBase) (limits : Limits) (journal : List Step) (after : PlainBase) (sound : IsSound base limits journal) (leads : LeadsTo base limits journal after) (was : IsWithin base limits journal) where
  same : SaysTheSame (record { base = base; limits = limits; journal = journal }) (record { base = after; limits = limits; journal = [] })
  same = says-same base limits journal after sound leads

  ids-once : IsDistinct nat_eq (map client_of after.clients)
  ids-once = subst (λ e. IsDistinct e (map client_of after.clients)) (λ i x y. unsigned_tied x y i) (IsDistinct-from_sorted nat_cmp (map client_of after.clients) leads.clients_open.rises)

  no-more : length (open_clients after []) ≤ length (open_clients base journal)
  unfolding open_clients is_open
  no-more = length-le_from_is_member nat_eq_equiv (map client_of after.clients) (open_clients base journal) ids-once (λ q e. sym (same.same_open q) ∙ e)

  nothing-waits : (c : ℕ) → is_open base journal c ≡ false → waiting after limits [] c ≡ []
  unfolding waiting taken placements open_clients is_open
  nothing-waits c e = ap (λ o. option_map_or (λ (b : PlainBaseClient). b.waiting) o []) (not-found c after.clients (same.same_open c ∙ e))

  abbrev Fits : List Entry → Type 0
  Fits es = (length es ≤ limits.capacity) × (total_size es ≤ limits.bytes)

  nothing-fits : Fits []
  unfolding total_size
  nothing-fits = (omega arith, omega arith)

  waits : (c : ℕ) → Fits (waiting after limits [] c)
  waits c = on (is_open base journal c) refl
    where
      on : (b : Bool) → is_open base journal c ≡ b → Fits (waiting after limits [] c)
      on true e = subst Fits (sym (same.same_waiting c e)) (was.entries c, was.bytes c)
      on false e = subst Fits (sym (nothing-waits c e)) nothing-fits

  within-at-base : IsWithin after limits []
  within-at-base = record {
    clients = (let fewer = no-more in let few = was.clients in omega (arith, fewer, few));
    saved = subst (λ ss. length ss ≤ limits.saved) (sym same.same_sessions) was.saved;
    entries = λ c. (waits c).0;
    bytes = λ c. (waits c).1;
  }

pub sealed-within : (before after : History) → IsLegalAndSound before → IsSealed before after → IsWithin before.base before.limits before.journal → IsWithin after.base after.limits after.journal
sealed-within before after allowed sealed was =
    subst (λ (limits : Limits). IsWithin after.base limits after.journal) (sym sealed.same_limits)
    (subst (λ (steps : List Step). IsWithin after.base before.limits steps) (sym sealed.no_steps)
    (within-at-base before.base before.limits before.journal after.base allowed.1 sealed.leads was))
