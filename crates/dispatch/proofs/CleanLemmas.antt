-- Which texts hold no U+001E, which separates the packets of a payload.
use Rattle.std.proofs.Common.{◌≡◌, ◌≢◌, ℕ, zero, suc, ◌+◌, ◌<◌, ◌/◌, ◌%◌, ◌^◌, ◌==◌, Bool, true, false, not, ◌||◌, cond, List, [], ◌∷◌, ◌++◌, length, take, get_or, refl, sym, ◌∙◌, ap, subst, arith, nat_lt, Option, None, Some}
use Rattle.std.specs.Prelude.{codes, decimal, IfSome, bytes_eq, position, unwrap_or, if◌then◌else◌}
use Rattle.std.specs.Char.{digit_value}
use Rattle.std.specs.List.{AllByRecursion, list_any, before_last}
use Rattle.std.specs.Option.{option_map_or}
use Rattle.std.proofs.lemmas.Bool.Decides.{nat_tests}
use Rattle.std.proofs.lemmas.Fmt.{digits_decimal}
use Rattle.std.proofs.lemmas.List.Elements.{All-nil}
use Rattle.std.proofs.lemmas.List.Folds.{list_any-append, list_any_none}
use Rattle.std.proofs.lemmas.List.Quantifiers.{position-Some}
use Rattle.std.proofs.lemmas.Slice.Eq.{bytes_eq-Decides}
use Rattle.std.specs.Str.Parse.{AllDigits}
use Rattle.terms.specs.Refusal.{first_refusal}
use Rattle.terms.specs.Hexadecimal.{hex_digit, hex_digits}
use Rattle.eio_wire.specs.Payload.{IsWhole}
use Rattle.sio_wire.specs.declared.header.Kind.{Kind}
use Rattle.sio_wire.specs.declared.header.Kind.TheVariants.{Connect, Disconnect, Event, Ack, ConnectError, BinaryEvent, BinaryAck}
use Rattle.terms.specs.declared.entry.Entry.{Entry}
use Rattle.sio_wire.specs.declared.header.Header.{Header}
use Rattle.sio_wire.specs.Kinds.{digit_of, is_binary}
use Rattle.sio_wire.specs.Header.{Plain, count_text, space_text, id_text}
use Rattle.sio_wire.specs.Offset.{offset_text, is_bracket, payload_with_offset}
use Rattle.sio_wire.specs.Disconnect.{disconnect_text}
use Rattle.sio_wire.proofs.DigitsLemmas.{own}
use Rattle.journal.specs.declared.error.HubError.TheVariants.{UnknownNamespace, BadPayload}
use Rattle.journal.specs.declared.socket.Socket.{Socket}
use Rattle.journal.specs.Journal.{History}
use Rattle.journal.specs.Plain.{Limits, PlainBroadcast, PlainCast}
use Rattle.journal.specs.Broadcast.{broadcast_header, id_of, kind_of}
use Rattle.journal.specs.Casting.{refusal_of, IsCastOf}
use Rattle.journal.specs.Membership.{place_of, is_space}
use Rattle.journal.specs.Outboxes.{answer, farewell}
use Rattle.journal.proofs.SocketsLemmas.{neither}
use Rattle.dispatch.specs.Effects.{IsPacket, is_unsendable, header_of}
use Rattle.dispatch.specs.Following.{is_clean}

-- the separator stands nowhere in the text
abbrev pub Lacks : List ℕ → Type 0
Lacks text = list_any (λ b. b == 30) text ≡ false

other : (b : ℕ) → b ≢ 30 → (b == 30) ≡ false
other b differs = grind (arith, nat_tests, differs)

lacks : (text : List ℕ) → IsWhole text → Lacks text
lacks text whole = list_any_none (λ b. b == 30) text (λ k d within. other (get_or text k d) (whole k d within))

both : (xs ys : List ℕ) → Lacks xs → Lacks ys → Lacks (xs ++ ys)
both xs ys a b = list_any-append (λ c. c == 30) xs ys ∙ rw (a, b) refl

lacks-take : (n : ℕ) (xs : List ℕ) → Lacks xs → Lacks (take n xs)
lacks-take zero xs none = refl
lacks-take (suc n) [] none = refl
lacks-take (suc n) (x ∷ xs) none = on (x == 30) refl none (lacks-take n xs)
  where
    on : (b : Bool) → (x == 30) ≡ b → (b || list_any (λ c. c == 30) xs) ≡ false → (Lacks xs → Lacks (take n xs)) → ((x == 30) || list_any (λ c. c == 30) (take n xs)) ≡ false
    on true is e more = absurd (cc e)
    on false is e more = rw is (more e)

-- ---- digits

hex-other : (d : ℕ) → (hex_digit d == 30) ≡ false
hex-other d = on (nat_lt d 10)
  where
    on : (b : Bool) → (cond b (d + 48) (d + 87) == 30) ≡ false
    on true = other (d + 48) (λ e. omega arith)
    on false = other (d + 87) (λ e. omega arith)

lacks-hex : (width number : ℕ) → Lacks (hex_digits width number)
unfolding hex_digits
lacks-hex zero number = refl
lacks-hex (suc width) number = both (hex_digits width (number / 16)) (hex_digit (number % 16) ∷ []) (lacks-hex width (number / 16)) (rw (hex-other (number % 16)) refl)

digit-value-other : (d : ℕ) → digit_value d < 10 → (d == 30) ≡ false
digit-value-other d small = grind (arith, nat_tests, small)

lacks-digits : (digits : List ℕ) → AllDigits 10 digits → Lacks digits
lacks-digits [] each = refl
lacks-digits (d ∷ digits) each = rw (digit-value-other d each.0) (lacks-digits digits each.1)

lacks-decimal : (number : ℕ) → number < 2 ^ 64 → Lacks (decimal number)
lacks-decimal number small = lacks-digits (decimal number) (digits_decimal own number small)

-- ---- headers

lacks-space : (space : List ℕ) → Lacks space → Lacks (space_text space)
lacks-space space none = on (bytes_eq space (codes "/"))
  where
    on : (b : Bool) → Lacks (if b then [] else space ++ codes ",")
    on true = refl
    on false = both space (codes ",") none refl

digit-other : (kind : Kind) → (digit_of kind == 30) ≡ false
digit-other Connect = refl
digit-other Disconnect = refl
digit-other Event = refl
digit-other Ack = refl
digit-other ConnectError = refl
digit-other BinaryEvent = refl
digit-other BinaryAck = refl

-- ---- namespaces

-- the name at the place of a namespace that the hub has
space-at : (limits : Limits) (space : List ℕ) → is_space limits (place_of limits space) ≡ true → get_or limits.spaces (place_of limits space) [] ≡ space
unfolding place_of
space-at limits space is = on (position (bytes_eq space) limits.spaces) refl is
  where
    on : (o : Option ℕ) → position (bytes_eq space) limits.spaces ≡ o → nat_lt (unwrap_or o (length limits.spaces)) (length limits.spaces) ≡ true → get_or limits.spaces (unwrap_or o (length limits.spaces)) [] ≡ space
    on None found within = absurd (grind (arith, nat_tests, within))
    on (Some i) found within = sym ((bytes_eq-Decides space (get_or limits.spaces i [])).0 (position-Some (bytes_eq space) limits.spaces i [] found).1)

-- such a name holds no separator, where none of the hub's does
whole-at : (names : List (List ℕ)) (i : ℕ) → AllByRecursion IsWhole names → IsWhole (get_or names i [])
whole-at [] i all = All-nil (λ (b : ℕ). b ≢ 30)
whole-at (name ∷ names) zero all = all.0
whole-at (name ∷ names) (suc i) all = whole-at names i all.1

pub whole-there : (limits : Limits) (space : List ℕ) → is_space limits (place_of limits space) ≡ true → AllByRecursion IsWhole limits.spaces → IsWhole space
whole-there limits space is names = subst IsWhole (space-at limits space is) (whole-at limits.spaces (place_of limits space) names)

-- ---- entries

pub clean-answer : (limits : Limits) (k : Socket) → IsWhole (get_or limits.spaces k.space []) → is_clean (answer limits k) ≡ true
unfolding answer
clean-answer limits k whole =
    let space = space_text (get_or limits.spaces k.space []) in
    let named = codes "0" ++ space in
    let with_key = named ++ codes "{\"sid\":\"" in
    let with_sid = with_key ++ hex_digits 32 k.sid in
    let with_next = with_sid ++ codes "\",\"pid\":\"" in
    let with_pid = with_next ++ hex_digits 32 k.pid in
    ap not
    (both with_pid (codes "\"}")
    (both with_next (hex_digits 32 k.pid)
    (both with_sid (codes "\",\"pid\":\"")
    (both with_key (hex_digits 32 k.sid)
    (both named (codes "{\"sid\":\"")
    (both (codes "0") space refl (lacks-space (get_or limits.spaces k.space []) (lacks (get_or limits.spaces k.space []) whole)))
    refl)
    (lacks-hex 32 k.sid))
    refl)
    (lacks-hex 32 k.pid))
    refl)

-- the answer to a CONNECT to a namespace whose name holds no separator
pub clean-answer-at : (limits : Limits) (space : List ℕ) (k : Socket) → is_space limits (place_of limits space) ≡ true → k.space ≡ place_of limits space → IsWhole space → is_clean (answer limits k) ≡ true
clean-answer-at limits space k is at whole = clean-answer limits k (rw (at, space-at limits space is) whole)

-- the plain text of a header
lacks-plain : (h : Header) (text : List ℕ) → Plain h text → Lacks (count_text h.kind h.count) → Lacks h.space → Lacks (id_text h.id) → Lacks h.payload → Lacks text
unfolding Plain
lacks-plain h text is count space id payload =
    rw is (rw (digit-other h.kind)
    (both (count_text h.kind h.count) (space_text h.space ++ (id_text h.id ++ h.payload)) count
    (both (space_text h.space) (id_text h.id ++ h.payload) (lacks-space h.space space)
    (both (id_text h.id) h.payload id payload))))

lacks-offset : (payload : List ℕ) (offset : Option ℕ) → Lacks payload → Lacks (option_map_or (payload_with_offset payload) offset payload)
lacks-offset payload None none = none
lacks-offset payload (Some o) none =
    both (before_last is_bracket payload) (offset_text o) (lacks-take _ payload none)
    (both (codes ",\"" ++ hex_digits 16 o) (codes "\"]") (both (codes ",\"") (hex_digits 16 o) refl (lacks-hex 16 o)) refl)

lacks-id : (id : Option ℕ) → IfSome id (λ n. n < 2 ^ 64) → Lacks (id_text id)
lacks-id None fits = refl
lacks-id (Some n) fits = lacks-decimal n fits

pub clean-disconnect : (space : List ℕ) → IsWhole space → Lacks (disconnect_text space)
clean-disconnect space whole = both (codes "1") (space_text space) refl (lacks-space space (lacks space whole))

-- what a client is told whose socket in a namespace of the hub is ended
pub clean-farewell : (limits : Limits) (space : List ℕ) → is_space limits (place_of limits space) ≡ true → IsWhole space → is_clean (farewell limits (place_of limits space)) ≡ true
unfolding farewell
clean-farewell limits space is whole =
    let none : Lacks (disconnect_text (get_or limits.spaces (place_of limits space) [])) = rw (space-at limits space is) (clean-disconnect space whole) in
    ap not none

-- ---- broadcasts

few-digits : (kind : Kind) (count : ℕ) → count < 2 ^ 64 → Lacks (count_text kind count)
few-digits kind count small = on (is_binary kind)
  where
    on : (b : Bool) → Lacks (if b then decimal count ++ codes "-" else [])
    on true = both (decimal count) (codes "-") (lacks-decimal count small) refl
    on false = refl

-- a broadcast that isn't refused has a namespace and few attachments
sent : (known short few : Bool) → first_refusal ((not known, UnknownNamespace) ∷ (short || few, BadPayload) ∷ []) ≡ None → (known ≡ true) × (few ≡ false)
sent true false false e = (refl, refl)
sent true true few e = absurd (cc e)
sent true false true e = absurd (cc e)
sent false short few e = absurd (cc e)

pub clean-cast : (h : History) (c : PlainCast) (b : PlainBroadcast) → IsCastOf h c b → refusal_of h c ≡ None → AllByRecursion IsWhole h.limits.spaces → IsWhole c.payload → is_clean b.entry ≡ true
clean-cast h c b asked allowed names payload =
    let fine = sent (is_space h.limits (place_of h.limits c.space)) (not (list_any is_bracket c.payload)) (nat_lt 32 (length c.attachments)) allowed in
    let few : length b.entry.attachments < 2 ^ 64 = rw asked.attachments (grind (arith, nat_tests, fine.1)) in
    let named : get_or h.limits.spaces b.space [] ≡ c.space = rw asked.space (space-at h.limits c.space fine.0) in
    ap not
    (lacks-plain (broadcast_header c.form (get_or h.limits.spaces b.space []) c.payload (length b.entry.attachments) b.offset) b.entry.text asked.text.text
    (few-digits (kind_of c.form (length b.entry.attachments)) (length b.entry.attachments) few)
    (rw named (lacks c.space (whole-there h.limits c.space fine.0 names)))
    (lacks-id (id_of c.form) asked.text.fits)
    (lacks-offset c.payload b.offset (lacks c.payload payload)))

-- ---- acknowledgements and questions

pub clean-packet : (kinds : Kind × Kind) (space : List ℕ) (id : ℕ) (payload : List ℕ) (parts : List (List ℕ)) (entry : Entry) → is_unsendable payload parts ≡ false → IsPacket kinds space id payload parts entry → IsWhole space → IsWhole payload
    → is_clean entry ≡ true
clean-packet kinds space id payload parts entry fine is named whole =
    let few = (neither (not (list_any is_bracket payload)) (nat_lt 32 (length parts)) fine).1 in
    ap not
    (lacks-plain (header_of kinds space id payload parts) entry.text is.text
    (few-digits (header_of kinds space id payload parts).kind (length parts) (grind (arith, nat_tests, few)))
    (lacks space named)
    (lacks-decimal id is.fits)
    (lacks payload whole))
