-- A script of which a part was read.
use Rattle.std.proofs.Common.{◌≡◌, ℕ, ◌==◌, false, List, [], ◌∷◌, ◌++◌, Option, Result, Ok, Err, refl, sym, subst, append_assoc, append-nil, length, arith}
use Rattle.std.proofs.KnownBytes.{Appends-nil, Appends-trans, Appends-kept, Consumes-trans, Consumes-whole}
use Rattle.std.proofs.lemmas.List.Elements.{All-nil, All-push}
use Rattle.std.proofs.lemmas.List.Splits.{slice_split_at, slice_split_none}
use Rattle.std.specs.Result.{OnOk}
use Rattle.std.specs.Io.KnownBytes.{Appends, Consumes, Keeps, IsAtEnd}
use Rattle.events.specs.App.{Policy}
use Rattle.journal.specs.Plain.{Limits}
use Rattle.script.specs.Script.{PlainRun, Setting, AnswersBytes, IsAnswered, IsUnended, Continues, WritesOn, WritesLine, Script, LF, lines_of, printed}

-- ---- lines

pub unended_nothing : IsUnended []
unended_nothing = All-nil (λ byte. (byte == LF) ≡ false)

pub unended_more : (line : List ℕ) (byte : ℕ) → (byte == LF) ≡ false → IsUnended line → IsUnended (line ++ byte ∷ [])
unended_more line byte other unended = All-push (λ b. (b == LF) ≡ false) line byte unended other

-- a text in which no line ends is one line
one_line : (line : List ℕ) → IsUnended line → lines_of line ≡ line ∷ []
one_line line unended = slice_split_none (λ byte. byte == LF) line unended

-- a line that is ended, and what follows it
line_ended : (line rest : List ℕ) → IsUnended line → lines_of (line ++ LF ∷ rest) ≡ line ∷ lines_of rest
line_ended line rest unended = slice_split_at (λ byte. byte == LF) line LF rest unended refl

-- ---- calls and reads

-- two facts of a call that succeeds
pub both_ok : {X E P Q R : Type 0} (r : Result X E) → (P → Q → R) → OnOk r P → OnOk r Q → OnOk r R
both_ok (Ok x) join p q = join p q
both_ok (Err e) join p q = tt

empty_list : (xs : List ℕ) → length xs ≡ 0 → xs ≡ []
empty_list [] none = refl
empty_list (x ∷ xs) none = absurd (omega arith)

-- a read that gave nothing
pub consumes_nothing : (a b c : Option (List ℕ)) (read bytes : List ℕ) → Consumes a b read → Consumes b c bytes → length bytes ≡ 0 → Consumes a c read
consumes_nothing a b c read bytes before got none =
    let nothing : Consumes b c [] = subst (Consumes b c) (empty_list bytes none) got in
    subst (Consumes a c) (append-nil read) (Consumes-trans a b c read [] before nothing)

-- ---- scripts

module _ (policy : Policy) where
  nothing_more : (s : PlainRun) → Script policy [] s [] s
  unfolding Script
  nothing_more s = (refl, refl)

  one_more : (line : List ℕ) (lines : List (List ℕ)) (s m t : PlainRun) (said : Option (List ℕ)) (output : List ℕ)
      → AnswersBytes policy line s said m → Script policy lines m output t → Script policy (line ∷ lines) s (printed said ++ output) t
  unfolding Script
  one_more line lines s m t said output answers rest = (said, m, output, answers, refl, rest)

  -- ---- what continues

  pub continues_nothing : (s : PlainRun) (line : List ℕ) → Continues policy s line [] [] line s
  continues_nothing s line rest output t h = h

  pub continues_byte : (s m : PlainRun) (begun read written left : List ℕ) (byte : ℕ)
      → Continues policy s begun read written left m → Continues policy s begun (read ++ byte ∷ []) written (left ++ byte ∷ []) m
  continues_byte s m begun read written left byte before rest output t h =
      let later : Script policy (lines_of (left ++ byte ∷ rest)) m output t = subst (λ text. Script policy (lines_of text) m output t) (append_assoc left (byte ∷ []) rest) h in
      subst (λ text. Script policy (lines_of (begun ++ text)) s (written ++ output) t) (sym (append_assoc read (byte ∷ []) rest)) (before (byte ∷ rest) output t later)

  pub continues_line : (s m n : PlainRun) (begun read written left : List ℕ) (said : Option (List ℕ)) → Continues policy s begun read written left m → IsUnended left
      → AnswersBytes policy left m said n → Continues policy s begun (read ++ LF ∷ []) (written ++ printed said) [] n
  continues_line s m n begun read written left said before unended answers rest output t h =
      let later : Script policy (lines_of (left ++ LF ∷ rest)) m (printed said ++ output) t
      = subst (λ lines. Script policy lines m (printed said ++ output) t) (sym (line_ended left rest unended)) (one_more left (lines_of rest) m n t said output answers h) in
      let whole : Script policy (lines_of (begun ++ (read ++ LF ∷ rest))) s (written ++ (printed said ++ output)) t = before (LF ∷ rest) (printed said ++ output) t later in
      subst (λ text. Script policy (lines_of (begun ++ text)) s ((written ++ printed said) ++ output) t) (sym (append_assoc read (LF ∷ []) rest))
      (subst (λ out. Script policy (lines_of (begun ++ (read ++ LF ∷ rest))) s out t) (sym (append_assoc written (printed said) output)) whole)

  pub continues_further : (s m n : PlainRun) (begun read written mid more added left : List ℕ) → Continues policy s begun read written mid m → Continues policy m mid more added left n
      → Continues policy s begun (read ++ more) (written ++ added) left n
  continues_further s m n begun read written mid more added left before after rest output t h =
      let whole : Script policy (lines_of (begun ++ (read ++ (more ++ rest)))) s (written ++ (added ++ output)) t = before (more ++ rest) (added ++ output) t (after rest output t h) in
      subst (λ text. Script policy (lines_of (begun ++ text)) s ((written ++ added) ++ output) t) (sym (append_assoc read more rest))
      (subst (λ out. Script policy (lines_of (begun ++ (read ++ (more ++ rest)))) s out t) (sym (append_assoc written added output)) whole)

  -- the last line may lack its LF
  continues_to_end : (s m n : PlainRun) (read written left : List ℕ) (said : Option (List ℕ)) → Continues policy s [] read written left m → IsUnended left
      → AnswersBytes policy left m said n → Script policy (lines_of read) s (written ++ printed said) n
  continues_to_end s m n read written left said before unended answers =
      let last : Script policy (lines_of (left ++ [])) m (printed said ++ []) n
      = subst (λ text. Script policy (lines_of text) m (printed said ++ []) n) (sym (append-nil left))
      (subst (λ lines. Script policy lines m (printed said ++ []) n) (sym (one_line left unended)) (one_more left [] m n n said [] answers (nothing_more n))) in
      subst (λ text. Script policy (lines_of text) s (written ++ printed said) n) (append-nil read)
      (subst (λ out. Script policy (lines_of (read ++ [])) s (written ++ out) n) (append-nil (printed said)) (before [] (printed said ++ []) n last))

  -- ---- what is written

  pub writes_nothing : (a : Option (List ℕ)) (s : PlainRun) (line : List ℕ) → WritesOn policy a a s line [] line s
  writes_nothing a s line = ([], Appends-nil a, continues_nothing s line)

  pub writes_byte : (a b : Option (List ℕ)) (s m : PlainRun) (begun read left : List ℕ) (byte : ℕ)
      → WritesOn policy a b s begun read left m → WritesOn policy a b s begun (read ++ byte ∷ []) (left ++ byte ∷ []) m
  writes_byte a b s m begun read left byte before = (before.0, before.1, continues_byte s m begun read before.0 left byte before.2)

  pub writes_line : (a b c : Option (List ℕ)) (s m n : PlainRun) (begun read left : List ℕ)
      → WritesOn policy a b s begun read left m → IsUnended left → WritesLine policy b c left m n → WritesOn policy a c s begun (read ++ LF ∷ []) [] n
  writes_line a b c s m n begun read left before unended line = (
    before.0 ++ printed line.0,
    Appends-trans a b c before.0 (printed line.0) before.1 line.1,
    continues_line s m n begun read before.0 left line.0 before.2 unended line.2,
  )

  pub writes_further : (a b c : Option (List ℕ)) (s m n : PlainRun) (begun read mid more left : List ℕ)
      → WritesOn policy a b s begun read mid m → WritesOn policy b c m mid more left n → WritesOn policy a c s begun (read ++ more) left n
  writes_further a b c s m n begun read mid more left before after = (
    before.0 ++ after.0,
    Appends-trans a b c before.0 after.0 before.1 after.1,
    continues_further s m n begun read before.0 mid more after.0 left before.2 after.2,
  )

  pub writes_kept : (a b c : Option (List ℕ)) (s m : PlainRun) (begun read left : List ℕ)
      → WritesOn policy a b s begun read left m → Keeps b c → WritesOn policy a c s begun read left m
  writes_kept a b c s m begun read left before kept = (before.0, Appends-kept a b c before.0 before.1 kept, before.2)

  -- a line that an LF ends
  pub ends_line : (a b : Option (List ℕ)) (s n : PlainRun) (line : List ℕ) (byte : ℕ) → byte ≡ LF → IsUnended line → WritesLine policy a b line s n → WritesOn policy a b s line (byte ∷ []) [] n
  ends_line a b s n line byte ends unended answered =
      subst (λ x. WritesOn policy a b s line (x ∷ []) [] n) (sym ends) (writes_line a a b s s n line [] line (writes_nothing a s line) unended answered)

  -- the whole input was read, and the last line is answered
  pub writes_all : (limits : Limits) (input left_over a b c d : Option (List ℕ)) (s m n : PlainRun) (read left : List ℕ) → s ≡ Setting limits → Consumes input left_over read → IsAtEnd left_over
      → WritesOn policy a b s [] read left m → IsUnended left → WritesLine policy b c left m n → Keeps c d → IsAnswered policy limits input a d
  writes_all limits input left_over a b c d s m n read left start consumed end before unended line kept =
      let output = before.0 ++ printed line.0 in
      let appended : Appends a c output = Appends-trans a b c before.0 (printed line.0) before.1 line.1 in
      let whole : Script policy (lines_of read) s output n = continues_to_end s m n read before.0 left line.0 before.2 unended line.2 in
      Consumes-whole input left_over read (λ text. (out : List ℕ) × (last : PlainRun) × Script policy (lines_of text) (Setting limits) out last × Appends a d out) consumed end
      (output, n, subst (λ x. Script policy (lines_of read) x output n) start whole, Appends-kept a c d output appended kept)
