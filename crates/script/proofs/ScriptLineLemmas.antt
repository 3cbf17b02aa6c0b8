-- Words, names and rests of a script line.
use Rattle.std.proofs.Common.{◌≡◌, ◌≢◌, ◌↔◌, ℕ, ◌<◌, List, ◌∷◌, ◌++◌, length, ◌≤◌, inl, inr, get_or, Bool, true, false, IsTrue, Option, Some, None, sym, ◌∙◌, ap, ◌==◌, ◌||◌, arith, append_assoc, [], refl, subst}
use Rattle.std.specs.Prelude.{IfNone, IfSome, MatchOption, codes}
use Rattle.std.specs.List.{list_any}
use Rattle.std.proofs.lemmas.List.Elements.{All-nil, All-cons, All-head, All-tail, All-from_get_or}
use Rattle.std.specs.Borrow.{Bor}
use Rattle.std.proofs.lemmas.List.{append_cancel_left}
use Rattle.std.proofs.lemmas.Str.Pattern.{IsSplitOnceResult, split_after, split_parts}
use Rattle.std.specs.Char.{is_ascii_alphabetic}
use Rattle.script.specs.declared.script_line.Key.{Key}
use Rattle.script.specs.declared.script_line.Key.TheVariants.{Capacity, Clients, Bytes, Log, LogBytes, Saved, Keep, FirstOffset}
use Rattle.script.specs.declared.script_line.ScriptLine.{ScriptLine}
use Rattle.script.specs.declared.script_line.ScriptLine.TheVariants as line
use Rattle.script.specs.ScriptLine.{IsName, IsNumber, IsWord, IsSilent, Spells, IsNoServerLine, IsNoClientLine, IsNoOpenLine, IsNoTakeLine, SPACE, key_text}

-- a word and a space are followed by one rest
pub rest_after_same : (word x y : List ℕ) → word ++ SPACE ∷ x ≡ word ++ SPACE ∷ y → x ≡ y
rest_after_same word x y e =
    let same : SPACE ∷ x ≡ SPACE ∷ y = append_cancel_left word (SPACE ∷ x) (SPACE ∷ y) e in cc

-- a text without a space after the word has no rest
pub no_rest_after : (word text x : List ℕ) (r : Option (Bor (List ℕ))) → text ≡ word ++ x
    → MatchOption r ((rest : List ℕ) → x ≢ SPACE ∷ rest) (λ y. x ≡ SPACE ∷ y.now)
    → IfNone r ((rest : List ℕ) → text ≢ word ++ SPACE ∷ rest)
no_rest_after word text x None e lacks = λ rest h. lacks rest (append_cancel_left word x (SPACE ∷ rest) (sym e ∙ h))
no_rest_after word text x (Some y) e found = tt

-- the test of a name failed
pub no_name : (test : Bool) (text name : List ℕ) → (IsTrue test ↔ IsName text) → test ≡ false → text ≡ name → ¬ IsName name
no_name test text name decides failed same is_name =
    let holds : test ≡ true = decides.1 (rw same is_name) in cc

-- no letter is a space
pub name_without_space : (name : List ℕ) → IsName name → (i : ℕ) → i < length name → get_or name i 0 ≢ SPACE
name_without_space name is_name i low e =
    let letter : is_ascii_alphabetic (get_or name i 0) ≡ true = is_name.letters i 0 low in
    let wrong : false ≡ true = rw e at letter in cc

-- what stands after the word is cut at the space after the name
pub cut_after_name : (word text after name rest : List ℕ) (r : Option (Bor (List ℕ) × Bor (List ℕ)))
    → text ≡ word ++ SPACE ∷ after → IsSplitOnceResult SPACE after r → IsName name
    → text ≡ word ++ SPACE ∷ name ++ SPACE ∷ rest
    → MatchOption r ⊥ (λ parts. (parts.0.now ≡ name) × (parts.1.now ≡ rest))
cut_after_name word text after name rest r e cut is_name h =
    let whole : word ++ SPACE ∷ after ≡ word ++ SPACE ∷ (name ++ SPACE ∷ rest) = sym e ∙ h ∙ append_assoc word (SPACE ∷ name) (SPACE ∷ rest) in
    let tail : after ≡ name ++ SPACE ∷ rest = rest_after_same word after (name ++ SPACE ∷ rest) whole in
    split_after SPACE after name rest r cut (omega arith) tail (name_without_space name is_name)

differs : (b : ℕ) → (b == SPACE) ≡ false → b ≢ SPACE
differs b unlike = λ same. let wrong : true ≡ false = rw same at unlike in cc

no_space : (xs : List ℕ) → list_any (λ b. b == SPACE) xs ≡ false → IsWord xs
no_space [] none = All-nil (λ b. b ≢ SPACE)
no_space (b ∷ bs) none = on (b == SPACE) refl none (no_space bs)
  where
    on : (t : Bool) → (b == SPACE) ≡ t → (t || list_any (λ c. c == SPACE) bs) ≡ false → (list_any (λ c. c == SPACE) bs ≡ false → IsWord bs) → IsWord (b ∷ bs)
    on true is e more = absurd (cc e)
    on false is e more = All-cons (λ c. c ≢ SPACE) b bs (differs b is) (more e)

pub key_is_word : (key : Key) → IsWord (key_text key)
key_is_word Capacity = no_space (codes "capacity") refl
key_is_word Clients = no_space (codes "clients") refl
key_is_word Bytes = no_space (codes "bytes") refl
key_is_word Log = no_space (codes "log") refl
key_is_word LogBytes = no_space (codes "log-bytes") refl
key_is_word Saved = no_space (codes "saved") refl
key_is_word Keep = no_space (codes "keep") refl
key_is_word FirstOffset = no_space (codes "first-offset") refl

pub name_is_word : (name : List ℕ) → IsName name → IsWord name
name_is_word name is_name = All-from_get_or (λ b. b ≢ SPACE) name 0 (name_without_space name is_name)

same_cut : (a b x y : List ℕ) → IsWord a → IsWord x → a ++ SPACE ∷ b ≡ x ++ SPACE ∷ y → (a ≡ x) × (b ≡ y)
same_cut [] b [] y _ _ e = (refl, cc e)
same_cut [] b (d ∷ x) y _ right e = absurd (All-head (λ c. c ≢ SPACE) d x right (cc e))
same_cut (c ∷ a) b [] y left _ e = absurd (All-head (λ c. c ≢ SPACE) c a left (cc e))
same_cut (c ∷ a) b (d ∷ x) y left right e =
    let heads : c ≡ d = cc e in
    let tails : a ++ SPACE ∷ b ≡ x ++ SPACE ∷ y = cc e in
    let parts = same_cut a b x y (All-tail (λ c. c ≢ SPACE) c a left) (All-tail (λ c. c ≢ SPACE) d x right) tails in
    (cc (heads, parts.0), parts.1)

-- a line is cut in one way into its two words and a rest
pub one_cut : (word a b x y : List ℕ) → IsWord a → IsWord x → word ++ SPACE ∷ a ++ SPACE ∷ b ≡ word ++ SPACE ∷ x ++ SPACE ∷ y → (a ≡ x) × (b ≡ y)
one_cut word a b x y left right e =
    let whole : word ++ SPACE ∷ (a ++ SPACE ∷ b) ≡ word ++ SPACE ∷ (x ++ SPACE ∷ y)
    = sym (append_assoc word (SPACE ∷ a) (SPACE ∷ b)) ∙ e ∙ append_assoc word (SPACE ∷ x) (SPACE ∷ y) in
    same_cut a b x y left right (rest_after_same word (a ++ SPACE ∷ b) (x ++ SPACE ∷ y) whole)

-- what follows a word is cut at its first space
pub split_word : (word text after : List ℕ) (r : Option (Bor (List ℕ) × Bor (List ℕ))) → text ≡ word ++ SPACE ∷ after → IsSplitOnceResult SPACE after r
    → IfSome r (λ parts. IsWord parts.0.now × (text ≡ word ++ SPACE ∷ parts.0.now ++ SPACE ∷ parts.1.now))
split_word word text after None e cut = tt
split_word word text after (Some parts) e cut =
    let split = split_parts SPACE after (Some parts) cut (omega arith) in (
      All-from_get_or (λ b. b ≢ SPACE) parts.0.now 0 split.1,
      e ∙ ap (λ l. word ++ SPACE ∷ l) split.0 ∙ sym (append_assoc word (SPACE ∷ parts.0.now) (SPACE ∷ parts.1.now)),
    )

-- what follows a word has no space where it can't be cut
pub no_split_word : (word text after : List ℕ) (r : Option (Bor (List ℕ) × Bor (List ℕ))) → text ≡ word ++ SPACE ∷ after → IsSplitOnceResult SPACE after r
    → IfNone r ((second rest : List ℕ) → IsWord second → text ≢ word ++ SPACE ∷ second ++ SPACE ∷ rest)
no_split_word word text after None e cut = λ second rest is_word h.
    let whole : word ++ SPACE ∷ after ≡ word ++ SPACE ∷ (second ++ SPACE ∷ rest) = sym e ∙ h ∙ append_assoc word (SPACE ∷ second) (SPACE ∷ rest) in
    let tail : after ≡ second ++ SPACE ∷ rest = rest_after_same word after (second ++ SPACE ∷ rest) whole in
    split_after SPACE after second rest None cut (omega arith) tail (λ i low. is_word i 0 low)
no_split_word word text after (Some parts) e cut = tt

-- a word that no number follows
pub no_number_after : (word text after : List ℕ) (r : Option ℕ) → text ≡ word ++ SPACE ∷ after → IfNone r ((number : ℕ) → ¬ IsNumber after number)
    → IfNone r ((digits : List ℕ) (number : ℕ) → IsNumber digits number → text ≢ word ++ SPACE ∷ digits)
no_number_after word text after None e lacks = λ digits number is_number h.
    lacks number (subst (λ d. IsNumber d number) (sym (rest_after_same word after digits (sym e ∙ h))) is_number)
no_number_after word text after (Some number) e lacks = tt

-- a name and a rest that isn't `socket`
pub no_open : (text a b : List ℕ) → ((name : List ℕ) → IsName name → text ≢ codes "open" ++ SPACE ∷ name) → IsName a × (text ≡ codes "open" ++ SPACE ∷ a ++ SPACE ∷ b)
    → b ≢ codes "socket" → IsNoOpenLine text
no_open text a b lacks spelt other = record {
  polling = λ name h. lacks name.now h.0 h.1;
  socket = λ name h. other ((one_cut (codes "open") a b name.now (codes "socket") (name_is_word a spelt.0) (name_is_word name.now h.0) (sym spelt.1 ∙ h.1)).1);
}

-- a name and digits that are no number but perhaps 0
pub no_take : (text a d : List ℕ) → ((name : List ℕ) → IsName name → text ≢ codes "take" ++ SPACE ∷ name) → IsName a × (text ≡ codes "take" ++ SPACE ∷ a ++ SPACE ∷ d)
    → ((number : ℕ) → 1 ≤ number → ¬ IsNumber d number) → IsNoTakeLine text
no_take text a d lacks spelt none name most (is_name, inl plain) = lacks name.now is_name plain.0
no_take text a d lacks spelt none name most (is_name, inr (digits, is_number, positive, e)) =
    let parts = one_cut (codes "take") a d name.now digits (name_is_word a spelt.0) (name_is_word name.now is_name) (sym spelt.1 ∙ e) in
    none most positive (subst (λ x. IsNumber x most) (sym parts.1) is_number)

-- digits that are 0 are no other number
pub not_positive : (d : List ℕ) (most number : ℕ) → most ≡ 0 → IsNumber d most → 1 ≤ number → ¬ IsNumber d number
not_positive d most number nothing is positive other =
    let first = is.value in
    let second = other.value in
    omega (arith, first, second)

-- a word that is no key
pub no_key : (word text a d : List ℕ) → IsWord a × (text ≡ word ++ SPACE ∷ a ++ SPACE ∷ d) → ((key : Key) → a ≢ key_text key)
    → (key : Key) (digits : List ℕ) (number : ℕ) → IsNumber digits number → text ≢ word ++ SPACE ∷ key_text key ++ SPACE ∷ digits
no_key word text a d spelt lacks key digits number is_number e =
    lacks key ((one_cut word a d (key_text key) digits spelt.0 (key_is_word key) (sym spelt.1 ∙ e)).0)

-- a word whose digits are no number
pub no_key_number : (word text a d : List ℕ) → IsWord a × (text ≡ word ++ SPACE ∷ a ++ SPACE ∷ d) → ((number : ℕ) → ¬ IsNumber d number)
    → (key : Key) (digits : List ℕ) (number : ℕ) → IsNumber digits number → text ≢ word ++ SPACE ∷ key_text key ++ SPACE ∷ digits
no_key_number word text a d spelt lacks key digits number is_number e =
    lacks number (subst (λ x. IsNumber x number) (sym ((one_cut word a d (key_text key) digits spelt.0 (key_is_word key) (sym spelt.1 ∙ e)).1)) is_number)

-- a text that spells none of the lines is a bad one
pub none_spelled : (text : List ℕ) → ¬ IsSilent text → IsNoServerLine text → IsNoClientLine text → (line : ScriptLine) → ¬ Spells text line
none_spelled text heard server client (line.Config key number) = server.limit key number
none_spelled text heard server client (line.At moment) = server.moment moment
none_spelled text heard server client (line.Open name) = client.opening.polling name
none_spelled text heard server client (line.OpenSocket name) = client.opening.socket name
none_spelled text heard server client (line.Text name rest) = client.sending.posting name rest
none_spelled text heard server client (line.Frame name rest) = client.sending.framing name rest
none_spelled text heard server client (line.Bytes name hex) = client.sending.byte_framing name hex
none_spelled text heard server client (line.Notice word name) = client.noticing word name
none_spelled text heard server client (line.Take name most) = client.taking name most
none_spelled text heard server client (line.Members space room) = server.members space room
none_spelled text heard server client line.Totals = server.totals
none_spelled text heard server client line.Seal = server.seal
none_spelled text heard server client line.Sweep = server.sweep
none_spelled text heard server client line.Nothing = heard
none_spelled text heard server client line.Bad = λ h. h

-- the test of silence failed
pub is_heard : (test : Bool) (text : List ℕ) → (IsTrue test ↔ IsSilent text) → test ≡ false → ¬ IsSilent text
is_heard test text decides failed silent =
    let holds : test ≡ true = decides.1 silent in cc
