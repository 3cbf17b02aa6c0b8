-- Broadcasts, and commands for many sockets, after two histories that say the same.
use Rattle.std.proofs.Common.{◌≡◌, ℕ, ◌+◌, ◌==◌, Bool, true, false, not, ◌&&◌, ◌||◌, List, [], ◌∷◌, ◌++◌, length, nat_lt, refl, sym, ◌∙◌, ap, subst, Option, None, Some, if◌then◌else◌, inl, inr, is_some, append-nil}
use Rattle.std.specs.Prelude.{IfSome}
use Rattle.std.specs.List.{list_any}
use Rattle.terms.specs.Refusal.{first_refusal}
use Rattle.sio_wire.specs.Offset.{is_bracket}
use Rattle.journal.specs.declared.error.HubError.TheVariants.{UnknownNamespace, BadPayload}
use Rattle.journal.specs.declared.step.What.TheVariants.{Cast}
use Rattle.journal.specs.declared.totals.Totals.{Totals}
use Rattle.journal.specs.Plain.{Limits, PlainBroadcast, PlainCast, PlainCastDone}
use Rattle.journal.specs.Journal.{History, moment_at, with_step}
use Rattle.journal.specs.Membership.{is_space, place_of}
use Rattle.journal.specs.Log.{next}
use Rattle.terms.specs.declared.entry.Entry.{Entry}
use Rattle.journal.specs.Outboxes.{put, placements, is_addressed, is_full, has_no_space}
use Rattle.journal.specs.declared.form.Form.{Form}
use Rattle.journal.specs.Broadcast.{RightCast, Spells, is_logged, reaches}
use Rattle.journal.specs.Casting.{refusal_of, has_no_offset, IsCastOf, IsSpentBy, IsCast}
use Rattle.journal.specs.Totals.{dropped_by, handed_out_by, is_past, is_spent}
use Rattle.journal.specs.Refusals.{cast_refusal}
use Rattle.journal.specs.Legal.{IsAllowed}
use Rattle.journal.proofs.CastStepLemmas.{given-where-asked}
use Rattle.journal.proofs.CountsLemmas.{or_none}
use Rattle.journal.proofs.EpochsOutboxesLemmas.{reaches-same, placed-same, placements-cast, addressed-same}
use Rattle.journal.proofs.EpochsSocketsLemmas.{any-socket-as}
use Rattle.events.specs.declared.fault.CoreFault.{CoreFault}
use Rattle.dispatch.specs.Broadcasting.{Work, work, Broadcasts, CannotBroadcast}
use Rattle.epochs.specs.Epochs.{AreAlike}
use Rattle.epochs.proofs.EpochSteps.{with-limits, Grown, grown-step, StaysSound}

-- ---- what is read from a history

pub refusal_of-alike : (h g : History) → AreAlike h g → (c : PlainCast) → refusal_of g c ≡ refusal_of h c
refusal_of-alike h g alike c = ap (λ (l : Limits). cast_refusal l (place_of l c.space) c.payload (length c.attachments)) alike.same.same_limits

no-offset-alike : (h g : History) → AreAlike h g → (form : Form) → has_no_offset g form ≡ has_no_offset h form
no-offset-alike h g alike form = ap (λ (n : Option ℕ). is_logged form && not (is_some n)) alike.same.same_next

spent-alike : (h g : History) → AreAlike h g → (b : PlainBroadcast) → is_spent g.base g.limits g.journal (Cast b) ≡ is_spent h.base h.limits h.journal (Cast b)
spent-alike h g alike b =
    with-limits (λ k. is_spent k.base k.limits k.journal (Cast b) ≡ is_spent h.base h.limits h.journal (Cast b)) h g alike
    (λ base journal a i.
    is_past (Totals.commands (a.same.same_totals i) + 1)
    || is_past (Totals.placed (a.same.same_totals i) + placed-same h.limits h.base base h.journal journal a.first.1 a.second.1 a.same (Cast b) i)
    || is_past (Totals.dropped (a.same.same_totals i) + dropped_by (Cast b))
    || is_past (Totals.taken (a.same.same_totals i) + handed_out_by (Cast b))
    || is_past (Totals.discarded (a.same.same_totals i) + 0))

reaches-alike : (h g : History) → AreAlike h g → (b : PlainBroadcast) (c : ℕ) → reaches g.base g.journal b c ≡ reaches h.base h.journal b c
reaches-alike h g alike b c =
    with-limits (λ k. reaches k.base k.journal b c ≡ reaches h.base h.journal b c) h g alike (λ base journal a. reaches-same h.limits h.base base h.journal journal a.first.1 a.second.1 a.same b c)

placed-alike : (h g : History) → AreAlike h g → (b : PlainBroadcast) → length (put g.base g.limits g.journal (Cast b)) ≡ length (put h.base h.limits h.journal (Cast b))
placed-alike h g alike b =
    with-limits (λ k. length (put k.base k.limits k.journal (Cast b)) ≡ length (put h.base h.limits h.journal (Cast b))) h g alike
    (λ base journal a. placed-same h.limits h.base base h.journal journal a.first.1 a.second.1 a.same (Cast b))

asked-alike : (h g : History) → AreAlike h g → (c : PlainCast) (b : PlainBroadcast) → IsCastOf h c b → IsCastOf g c b
asked-alike h g alike c b asked = record {
  space = asked.space ∙ ap (λ (l : Limits). place_of l c.space) (sym alike.same.same_limits);
  rooms = asked.rooms;
  excepted = asked.excepted;
  offset = asked.offset ∙ ap (λ (n : Option ℕ). if is_logged c.form then n else None) (sym alike.same.same_next);
  text = subst (λ (l : Limits). Spells l b c.form c.payload) (sym alike.same.same_limits) asked.text;
  attachments = asked.attachments;
}

-- it reaches the same clients, and drops the same sockets
pub right-cast : (h g : History) → AreAlike h g → (at : ℕ) (b : PlainBroadcast) → RightCast h.base h.limits h.journal (record { at = at; what = Cast b }) b → RightCast g.base g.limits g.journal (record { at = at; what = Cast b }) b
right-cast h g alike at b right =
    with-limits (λ k. RightCast k.base k.limits k.journal (record { at = at; what = Cast b }) b) h g alike (λ base journal a.
    let cast = placements-cast base h.limits journal a.second.1.sockets_apart b at in
    let more : ℕ → Bool → List Entry = λ q t. placements base h.limits journal q ++ (if t then b.entry ∷ [] else []) in
    let same-reach : (q : ℕ) → reaches h.base h.journal b q ≡ reaches base journal b q = λ q. sym (reaches-same h.limits h.base base h.journal journal a.first.1 a.second.1 a.same b q) in
    record {
      drops = λ s. right.drops s ∙ sym (any-socket-as h.limits h.base base h.journal journal a.first.1 a.second.1 a.same
          (λ k. k.sid == s && (is_addressed base journal b k && is_full base h.limits journal k.client b.entry))
          (λ k. k.sid == s && (is_addressed h.base h.journal b k && is_full h.base h.limits h.journal k.client b.entry))
          (λ k known i. k.sid == s && (addressed-same h.limits h.base base h.journal journal a.first.1 a.second.1 a.same b k i && has_no_space h.limits.capacity h.limits.bytes (a.same.same_waiting k.client known i) b.entry)));
      each_once = right.each_once;
      places = λ q e. cast q ∙ ap (more q) e;
      others = λ q e. cast q ∙ ap (more q) e ∙ append-nil (placements base h.limits journal q);
    })

pub spent-by-alike : (h g : History) → AreAlike h g → (c : PlainCast) → IsSpentBy h c → IsSpentBy g c
spent-by-alike h g alike c (inl none) = inl (no-offset-alike h g alike c.form ∙ none)
spent-by-alike h g alike c (inr (b, asked, right, spent)) =
    inr (b, asked-alike h g alike c b asked, (λ at. right-cast h g alike at b (right at)), spent-alike h g alike b ∙ spent)

-- ---- a broadcast that is asked for

-- it isn't refused
free : (limits : Limits) (space attachments : ℕ) (payload : List ℕ) → cast_refusal limits space payload attachments ≡ None
    → first_refusal ((not (is_space limits space), UnknownNamespace) ∷ (nat_lt 32 attachments, BadPayload) ∷ []) ≡ None
free limits space attachments payload e = on (is_space limits space) (list_any is_bracket payload) (nat_lt 32 attachments) e
  where
    on : (s p n : Bool) → first_refusal ((not s, UnknownNamespace) ∷ (not p || n, BadPayload) ∷ []) ≡ None → first_refusal ((not s, UnknownNamespace) ∷ (n, BadPayload) ∷ []) ≡ None
    on false p n e = cc
    on true true true e = cc
    on true true false e = refl
    on true false n e = cc

-- its offset is the next one
numbered : (logged : Bool) (n : Option ℕ) → (logged && not (is_some n)) ≡ false → IfSome (if logged then n else None) (λ (offset : ℕ). n ≡ Some offset)
numbered true (Some o) e = refl
numbered true None e = absurd (cc e)
numbered false n e = tt

module _ (h : History) (c : PlainCast) (unrefused : refusal_of h c ≡ None) (b : PlainBroadcast) (asked : IsCastOf h c b) where
  its-refusal : cast_refusal h.limits b.space c.payload (length b.entry.attachments) ≡ None
  its-refusal = (λ i. cast_refusal h.limits (asked.space i) c.payload (length (asked.attachments i))) ∙ unrefused

  pub cast-allowed : (at : ℕ) → has_no_offset h c.form ≡ false → RightCast h.base h.limits h.journal (record { at = at; what = Cast b }) b → is_spent h.base h.limits h.journal (Cast b) ≡ false
      → IsAllowed h.base h.limits h.journal (record { at = at; what = Cast b }) (Cast b)
  cast-allowed at some right unspent = (
    or_none (free h.limits b.space (length b.entry.attachments) c.payload its-refusal) unspent,
    record {
      formed = record {
        form = c.form;
        payload = c.payload;
        refusal = its-refusal;
        text = asked.text;
        logged = ap is_some asked.offset ∙ given-where-asked (is_logged c.form) (next h.base h.journal) some;
      };
      offset = subst (λ (o : Option ℕ). IfSome o (λ (offset : ℕ). next h.base h.journal ≡ Some offset)) (sym asked.offset) (numbered (is_logged c.form) (next h.base h.journal) some);
      cast = right;
    },
  )

module _ (keeps : StaysSound) where
  -- it is the same broadcast in both
  pub cast-alike : (h g k : History) (now : ℕ) (c : PlainCast) (done : PlainCastDone) → AreAlike h g → refusal_of h c ≡ None → (was : IsCast h k now c done)
      → Grown h k g (with_step g now (Cast was.b)) × IsCast g (with_step g now (Cast was.b)) now c done
  cast-alike h g k now c done alike unrefused was =
      let b = was.b in
      let allowed : (at : ℕ) → IsAllowed h.base h.limits h.journal (record { at = at; what = Cast b }) (Cast b) = λ at. cast-allowed h c unrefused b was.asked at was.numbered (was.right at) was.unspent in (
        grown-step keeps h g k alike now (Cast b) (allowed (moment_at h now)) was.step,
        record {
          b = b;
          asked = asked-alike h g alike c b was.asked;
          numbered = no-offset-alike h g alike c.form ∙ was.numbered;
          right = λ at. right-cast h g alike at b (was.right at);
          unspent = spent-alike h g alike b ∙ was.unspent;
          step = refl;
          offset = was.offset;
          placed = was.placed ∙ sym (placed-alike h g alike b);
          dropped = was.dropped;
          clients_once = was.clients_once;
          clients_are = λ d. was.clients_are d ∙ sym (reaches-alike h g alike b d);
        },
      )

-- ---- an event that the app sends

-- the work with another history
abbrev pub turned : Work → History → Work
turned s g = work g s.done

-- what leads from the one work to the other leads so from the first with another history too
abbrev pub SimWork : (Work → Work → Type 0) → Work → Work → History → Type 0
SimWork R s t g = (m : History) × Grown s.history t.history g m × R (turned s g) (turned t m)

pub says-alike : StaysSound → (c : ℕ) (e : PlainCast) (now : ℕ) (s t : Work) (g : History) → AreAlike s.history g → Broadcasts c e now s t → SimWork (Broadcasts c e now) s t g
says-alike keeps c e now s t g alike (unrefused, done, cast, is) =
    let both = cast-alike keeps s.history g t.history now e done alike unrefused cast in
    (with_step g now (Cast cast.b), both.0, (refusal_of-alike s.history g alike e ∙ unrefused, done, both.1, is))

pub cannot-say : (e : PlainCast) (h g : History) → AreAlike h g → (fault : CoreFault) → CannotBroadcast e h fault → CannotBroadcast e g fault
cannot-say e h g alike fault (inl short) = inl short
cannot-say e h g alike fault (inr (spent, by)) = inr (spent, spent-by-alike h g alike e by)
