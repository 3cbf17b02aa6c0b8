-- An account of one epoch goes on from those before it.
use Rattle.std.proofs.Common.{◌≡◌, ◌≢◌, ℕ, Bool, true, false, ◌||◌, List, [], ◌∷◌, ◌++◌, refl, sym, ◌∙◌, ap, subst, arith, if◌then◌else◌, append-nil, append_assoc}
use Rattle.std.proofs.lemmas.Bool.Decides.{nat_tests}
use Rattle.std.proofs.lemmas.List.{append_cancel_left}
use Rattle.terms.specs.declared.entry.Entry.{Entry}
use Rattle.journal.specs.declared.step.Step.{Step}
use Rattle.journal.specs.declared.step.What.{What}
use Rattle.journal.specs.declared.step.What.TheVariants.{Opened}
use Rattle.journal.specs.Plain.{Limits, PlainBase}
use Rattle.journal.specs.Journal.{History, history, moment_at, with_step}
use Rattle.journal.specs.Membership.{is_open}
use Rattle.journal.specs.Outboxes.{begins, put, entries_for, placements, taken, waiting}
use Rattle.dispatch.specs.Following.{is_turn, AreMade, Follows, Spares}
use Rattle.epochs.specs.Epochs.{placed_on, all_placements, BeginsAfter, HandedInAll, SparesInAll}
use Rattle.dispatch.specs.Handed.{Turn, opens, takes, HandsOut, HandedOut, is_opened_in, is_begun_in, Handed}

-- ---- what steps put

-- the same is put at the end of what two accounts have
abbrev Same : (a b a' b' : List Entry) → Type 0
Same a b a' b' = (more : List Entry) × (a' ≡ a ++ more) × (b' ≡ b ++ more)

same-more : (a b a' b' more : List Entry) → Same a b a' b' → Same a b (a' ++ more) (b' ++ more)
same-more a b a' b' more same =
    (same.0 ++ more, ap (λ (es : List Entry). es ++ more) same.1 ∙ append_assoc a same.0 more, ap (λ (es : List Entry). es ++ more) same.2 ∙ append_assoc b same.0 more)

module _ (earlier : List Entry) (base : PlainBase) (limits : Limits) (c : ℕ) where
  abbrev now_placed : List Step → List Entry
  now_placed journal = placements base limits journal c

  abbrev all_placed : List Step → List Entry
  all_placed journal = placed_on earlier base limits journal c

  -- by steps that don't open the client
  grows : (steps before : List Step) → is_begun_in c steps ≡ false → Same (now_placed before) (all_placed before) (now_placed (steps ++ before)) (all_placed (steps ++ before))
  unfolding placements placed_on
  grows [] before none = ([], sym (append-nil (now_placed before)), sym (append-nil (all_placed before)))
  grows (step ∷ steps) before none = on (grows steps before) (begins c step.what) none
    where
      more : List Entry
      more = entries_for c (put base limits (steps ++ before) step.what)

      on : (is_begun_in c steps ≡ false → Same (now_placed before) (all_placed before) (now_placed (steps ++ before)) (all_placed (steps ++ before)))
          → (b : Bool) → (b || is_begun_in c steps) ≡ false
          → Same (now_placed before) (all_placed before) (if b then [] else now_placed (steps ++ before) ++ more) (if b then [] else all_placed (steps ++ before) ++ more)
      on was true none = absurd (cc none)
      on was false none = same-more (now_placed before) (all_placed before) (now_placed (steps ++ before)) (all_placed (steps ++ before)) more (was none)

  -- by an epoch that doesn't open it
  since : (journal : List Step) → is_begun_in c journal ≡ false → Same (waiting base limits [] c) earlier (now_placed journal) (all_placed journal)
  unfolding waiting taken placements placed_on
  since journal none =
      subst (λ (steps : List Step). Same (waiting base limits [] c) earlier (now_placed steps) (all_placed steps)) (append-nil journal) (grows journal [] none)

  -- where a step opened it, nothing earlier counts
  begun-anew : (journal : List Step) → is_begun_in c journal ≡ true → all_placed journal ≡ now_placed journal
  unfolding placements placed_on
  begun-anew [] some = absurd (cc some)
  begun-anew (step ∷ before) some = on (begun-anew before) (begins c step.what) some
    where
      more : List Entry
      more = entries_for c (put base limits before step.what)

      on : (is_begun_in c before ≡ true → all_placed before ≡ now_placed before) → (b : Bool) → (b || is_begun_in c before) ≡ true
          → (if b then [] else all_placed before ++ more) ≡ (if b then [] else now_placed before ++ more)
      on each true some = refl
      on each false some = ap (λ (es : List Entry). es ++ more) (each some)

-- ---- what turns handed out

module _ (c : ℕ) where
  abbrev Row : (opened took : Bool) → Turn → List Turn → List Entry → Type 0
  Row opened took turn before entries = elim opened [
    | true ↦ entries ≡ []
    | false ↦ elim took [
      | false ↦ HandedOut c before entries
      | true ↦ (earlier : List Entry) × (more : List Entry) × HandedOut c before earlier × HandsOut turn.1 more × (entries ≡ earlier ++ more)
    ]
  ]

  out-after : (turns earlier : List Turn) (es more : List Entry) → is_opened_in c turns ≡ false → HandedOut c earlier es → HandedOut c turns more → HandedOut c (turns ++ earlier) (es ++ more)
  unfolding HandedOut
  out-after [] earlier es more none was nothing = subst (HandedOut c earlier) (sym (append-nil es) ∙ ap (λ (xs : List Entry). es ++ xs) (sym nothing)) was
  out-after (turn ∷ turns) earlier es more none was out = on (λ first. out-after turns earlier es first) (opens c turn.0 turn.1) (takes c turn.0) none out
    where
      on : ((first : List Entry) → is_opened_in c turns ≡ false → HandedOut c earlier es → HandedOut c turns first → HandedOut c (turns ++ earlier) (es ++ first))
          → (a b : Bool) → (a || is_opened_in c turns) ≡ false → Row a b turn turns more → Row a b turn (turns ++ earlier) (es ++ more)
      on each true b none out = absurd (cc none)
      on each false false none out = each more none was out
      on each false true none (first, last, out, handed, is) =
          (es ++ first, last, each first none was out, handed, ap (λ (xs : List Entry). es ++ xs) is ∙ sym (append_assoc es first last))

  out-anew : (turns earlier : List Turn) (es : List Entry) → is_opened_in c turns ≡ true → HandedOut c turns es → HandedOut c (turns ++ earlier) es
  unfolding HandedOut
  out-anew [] earlier es some out = absurd (cc some)
  out-anew (turn ∷ turns) earlier es some out = on (λ first. out-anew turns earlier first) (opens c turn.0 turn.1) (takes c turn.0) some out
    where
      on : ((first : List Entry) → is_opened_in c turns ≡ true → HandedOut c turns first → HandedOut c (turns ++ earlier) first) → (a b : Bool) → (a || is_opened_in c turns) ≡ true → Row a b turn turns es → Row a b turn (turns ++ earlier) es
      on each true b some out = out
      on each false false some out = each es some out
      on each false true some (first, last, out, handed, is) = (first, last, each first some out, handed, is)

  -- ---- accounts

  pub account-anew : (earlier turns : List Turn) (sealed : List History) (h : History) → is_opened_in c turns ≡ true → Handed c turns h → HandedInAll c (turns ++ earlier) sealed h
  account-anew earlier turns sealed h some now = record {
    entries = now.entries;
    out = out-anew turns earlier now.entries some now.out;
    whole = now.are.whole ∙ on sealed;
  }
    where
      on : (sealed : List History) → placements h.base h.limits h.journal c ≡ all_placements sealed h c
      on [] = refl
      on (g ∷ sealed) = sym (begun-anew (all_placements sealed g c) h.base h.limits c h.journal (now.opened ∙ some))

  pub account-next : (earlier turns : List Turn) (sealed : List History) (g h : History) → HandedInAll c earlier sealed g → is_open g.base g.journal c ≡ true → BeginsAfter g h
      → Handed c turns h → HandedInAll c (turns ++ earlier) (g ∷ sealed) h
  account-next earlier turns sealed g h was known begins now = on (is_opened_in c turns) refl
    where
      on : (b : Bool) → is_opened_in c turns ≡ b → HandedInAll c (turns ++ earlier) (g ∷ sealed) h
      on true some = account-anew earlier turns (g ∷ sealed) h some now
      on false none =
          let before = all_placements sealed g c in
          let more = since before h.base h.limits c h.journal (now.opened ∙ none) in
          record {
            entries = was.entries ++ now.entries;
            out = out-after turns earlier was.entries now.entries none was.out now.out;
            whole =
                append_assoc was.entries now.entries (waiting h.base h.limits h.journal c)
                ∙ ap (λ (es : List Entry). was.entries ++ es) (now.are.whole ∙ more.1 ∙ ap (λ (es : List Entry). es ++ more.0) (begins.same_waiting c known))
                ∙ sym (append_assoc was.entries (waiting g.base g.limits g.journal c) more.0)
                ∙ ap (λ (es : List Entry). es ++ more.0) was.whole
                ∙ sym more.2;
          }

-- ---- whom an event spares

-- a step of a client's event opens no other client
begins-none : (c d : ℕ) (h : History) (what : What) → is_turn c h what ≡ true → d ≢ c → begins d what ≡ false
begins-none c d h (Opened e) own other = grind (arith, nat_tests, own, other)
begins-none c d h _ own other = refl

opens-only : (c d : ℕ) → d ≢ c → (h : History) (steps : List Step) → AreMade (is_turn c) h steps → is_begun_in d steps ≡ false
opens-only c d other h [] own = refl
opens-only c d other h (step ∷ steps) own = rw (begins-none c d (history h.base h.limits (steps ++ h.journal)) step.what own.0 other) (opens-only c d other h steps own.1)

-- where steps put the same at the end of both, what they put at the end of the one they put at the end of the other
as-in-one : (sealed : List History) (base : PlainBase) (limits : Limits) (steps before : List Step) (c : ℕ) (more : List Entry) → is_begun_in c steps ≡ false
    → placements base limits (steps ++ before) c ≡ placements base limits before c ++ more
    → all_placements sealed (history base limits (steps ++ before)) c ≡ all_placements sealed (history base limits before) c ++ more
as-in-one [] base limits steps before c more none is = is
as-in-one (g ∷ sealed) base limits steps before c more none is =
    let earlier = all_placements sealed g c in
    let same = grows earlier base limits c steps before none in
    same.2 ∙ ap (λ (es : List Entry). placed_on earlier base limits before c ++ es) (append_cancel_left (placements base limits before c) same.0 more (sym same.1 ∙ is))

pub put-in-all : (h : History) (now : ℕ) (what : What) (sealed : List History) (c : ℕ) (more : List Entry) → begins c what ≡ false
    → all_placements [] (with_step h now what) c ≡ all_placements [] h c ++ more → all_placements sealed (with_step h now what) c ≡ all_placements sealed h c ++ more
put-in-all h now what sealed c more none is = as-in-one sealed h.base h.limits (record { at = moment_at h now; what = what } ∷ []) h.journal c more (rw none refl) is

pub spared-in-all : (c : ℕ) (before after : History) (sealed : List History) (lists : List (List ℕ)) → Follows (is_turn c) before after → Spares c before after lists → SparesInAll sealed c before after lists
spared-in-all c before after sealed lists follows spares d other unlisted =
    on follows.base follows.limits follows.journal (spares d other unlisted)
  where
    on : after.base ≡ before.base → after.limits ≡ before.limits → after.journal ≡ follows.steps ++ before.journal
        → placements after.base after.limits after.journal d ≡ placements before.base before.limits before.journal d → all_placements sealed after d ≡ all_placements sealed before d
    on base limits journal same =
        let none = opens-only c d other before follows.steps follows.own in
        let here : placements before.base before.limits (follows.steps ++ before.journal) d ≡ placements before.base before.limits before.journal d = rw (base, limits, journal) at same in
        ap (λ (b : PlainBase). all_placements sealed (history b after.limits after.journal) d) base
        ∙ ap (λ (l : Limits). all_placements sealed (history before.base l after.journal) d) limits
        ∙ ap (λ (j : List Step). all_placements sealed (history before.base before.limits j) d) journal
        ∙ as-in-one sealed before.base before.limits follows.steps before.journal d [] none (here ∙ sym (append-nil (placements before.base before.limits before.journal d)))
        ∙ append-nil (all_placements sealed before d)
