-- What the server itself acknowledges with can be sent, and holds no U+001E.
use Rattle.std.proofs.Common.{◌≡◌, ℕ, ◌+◌, ◌<◌, Bool, true, false, not, ◌||◌, List, [], ◌∷◌, ◌++◌, take, get_or, length, refl, ap, sym, ◌∙◌, append_assoc, Option, None, Some, codes}
use Rattle.std.specs.List.{list_any}
use Rattle.std.proofs.lemmas.List.{append-nil, take_more}
use Rattle.std.proofs.lemmas.List.Folds.{list_any-append}
use Rattle.terms.specs.Ids.{id_digits}
use Rattle.eio_wire.specs.Payload.{IsWhole}
use Rattle.room_maps.specs.declared.error.RoomError.{RoomError}
use Rattle.room_maps.specs.declared.error.RoomError.TheVariants as refusal
use Rattle.sio_wire.specs.Offset.{is_bracket}
use Rattle.events.proofs.WholeLemmas.{holds_none, both, whole, whole-digits}
use Rattle.dispatch.specs.Answering.{refusal_words, report_text, quoted, more_ids, ids_text, list_text}
use Rattle.dispatch.specs.Effects.{is_unsendable}

more_ids-snoc : (ids : List ℕ) (id : ℕ) → more_ids (ids ++ id ∷ []) ≡ more_ids ids ++ quoted (codes ",\"") id
more_ids-snoc [] id = append-nil (quoted (codes ",\"") id)
more_ids-snoc (other ∷ ids) id =
    ap (λ l. quoted (codes ",\"") other ++ l) (more_ids-snoc ids id) ∙ sym (append_assoc (quoted (codes ",\"") other) (more_ids ids) (quoted (codes ",\"") id))

pub more_ids-more : (ids : List ℕ) (i id : ℕ) → i < length ids → id ≡ get_or ids i id → more_ids (take (i + 1) ids) ≡ more_ids (take i ids) ++ quoted (codes ",\"") id
more_ids-more ids i id low is = rw (take_more ids i id low, ← is) (more_ids-snoc (take i ids) id)

-- ---- they can be sent

ends-so : (front : List ℕ) → not (list_any is_bracket (front ++ codes "]]")) ≡ false
ends-so front = ap not (list_any-append is_bracket front (codes "]]") ∙ or-true (list_any is_bracket front))
  where
    or-true : (b : Bool) → (b || true) ≡ true
    or-true true = refl
    or-true false = refl

pub list-fine : (sids : List ℕ) → is_unsendable (list_text sids) [] ≡ false
list-fine sids = rw (ends-so (codes "[\"ok\",[" ++ ids_text sids)) refl

pub report-fine : (refused : Option RoomError) → is_unsendable (report_text refused) [] ≡ false
report-fine None = refl
report-fine (Some refusal.Memory) = refl
report-fine (Some refusal.UnknownSocket) = refl
report-fine (Some refusal.AlreadyIn) = refl
report-fine (Some refusal.NotIn) = refl
report-fine (Some refusal.OwnRoom) = refl
report-fine (Some refusal.TooManyRooms) = refl
report-fine (Some refusal.SidTaken) = refl

-- ---- they hold no U+001E

whole-words : (refused : RoomError) → IsWhole (refusal_words refused)
unfolding holds_none
whole-words refusal.Memory = whole (codes "no memory") refl
whole-words refusal.UnknownSocket = whole (codes "unknown socket") refl
whole-words refusal.AlreadyIn = whole (codes "already in") refl
whole-words refusal.NotIn = whole (codes "not in") refl
whole-words refusal.OwnRoom = whole (codes "own room") refl
whole-words refusal.TooManyRooms = whole (codes "too many rooms") refl
whole-words refusal.SidTaken = whole (codes "sid taken") refl

pub report-whole : (refused : Option RoomError) → IsWhole (report_text refused)
unfolding holds_none
report-whole None = whole (codes "[\"ok\"]") refl
report-whole (Some refused) =
    let front = codes "[\"error\",\"" in
    both (front ++ refusal_words refused) (codes "\"]") (both front (refusal_words refused) (whole front refl) (whole-words refused)) (whole (codes "\"]") refl)

whole-quoted : (before : List ℕ) (sid : ℕ) → IsWhole before → IsWhole (quoted before sid)
unfolding holds_none
whole-quoted before sid clean = both (before ++ id_digits sid) (codes "\"") (both before (id_digits sid) clean (whole-digits 32 sid)) (whole (codes "\"") refl)

whole-more : (sids : List ℕ) → IsWhole (more_ids sids)
unfolding holds_none
whole-more [] = whole [] refl
whole-more (sid ∷ sids) = both (quoted (codes ",\"") sid) (more_ids sids) (whole-quoted (codes ",\"") sid (whole (codes ",\"") refl)) (whole-more sids)

whole-ids : (sids : List ℕ) → IsWhole (ids_text sids)
unfolding holds_none
whole-ids [] = whole [] refl
whole-ids (sid ∷ sids) = both (quoted (codes "\"") sid) (more_ids sids) (whole-quoted (codes "\"") sid (whole (codes "\"") refl)) (whole-more sids)

pub list-whole : (sids : List ℕ) → IsWhole (list_text sids)
unfolding holds_none
list-whole sids =
    let front = codes "[\"ok\",[" in
    both (front ++ ids_text sids) (codes "]]") (both front (ids_text sids) (whole front refl) (whole-ids sids)) (whole (codes "]]") refl)
