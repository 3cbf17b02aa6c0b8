-- What events put, one after another, is told.
use Rattle.std.proofs.Common.{◌≡◌, ◌∙◌, ℕ, ◌+◌, ◌<◌, ◌≤◌, Bool, true, false, Option, None, Some, nat_eq, List, [], All, Decides, IfSome, length, map, slice_index_or, refl, sym, subst, arith}
use Rattle.std.specs.Cmp.Derive.Mapped.{pointwise-map}
use Rattle.std.specs.Cmp.Lexicographic.{pointwise}
use Rattle.std.specs.List.{AllWithin}
use Rattle.std.proofs.lemmas.List.Elements.{AllWithin-more, at_read}
use Rattle.std.proofs.lemmas.Slice.Eq.{bytes_eq-Decides, slice_eq-Decides}
use Rattle.events.specs.Answer.{Answer}
use Rattle.events.specs.Plain.{PlainDone}
use Rattle.loop_rules.specs.declared.roster.Roster.{Roster}
use Rattle.loop_rules.specs.declared.roster.Notes.{Notes}
use Rattle.loop_rules.specs.Concerns.{AreAllTold, AreToldOf}
use Rattle.loop_rules.specs.Heard.{done_of}
use Rattle.loop_rules.specs.Ids.{loop_of}
use Rattle.loop_rules.specs.Notes.{is_noted}
use Rattle.loop_rules.specs.Rosters.{AreTold, IsToldBy, Remembers}
use Rattle.loop_rules.proofs.RosterLemmas.{told_on}

-- a test of each pair says whether they are the same lists
pub same_lists : {V : Type 0} (f : V → List ℕ) (xs ys : List V) (r : Bool) → r ≡ pointwise (λ x y. pointwise nat_eq (f x) (f y)) xs ys
    → Decides r (map f xs ≡ map f ys)
same_lists f xs ys r is = slice_eq-Decides bytes_eq-Decides (map f xs) (map f ys) r (is ∙ sym (pointwise-map f (pointwise nat_eq) xs ys))

noted-by : (b : Bool) (owner client : ℕ) (r : Roster) (m n : Notes) → ((k c : ℕ) → is_noted k c m ≡ true → is_noted k c n ≡ true)
    → IsToldBy b owner client r m → IsToldBy b owner client r n
noted-by true owner client r m n noted is = is
noted-by false owner client r m n noted is = noted owner client is

-- all in these lists are told
abbrev pub Told : (own loops : ℕ) → List (List ℕ) → Roster → Notes → Type 0
Told own loops lists r n = (k : ℕ) → k < length lists → AreTold own loops (slice_index_or lists k []) r n

-- and stay so where nothing is forgotten
pub lists_kept : (own loops : ℕ) (lists : List (List ℕ)) (q r : Roster) (m n : Notes) → Remembers q r m n
    → Told own loops lists q m → Told own loops lists r n
lists_kept own loops lists q r m n keeps was k below j inside =
    let client = slice_index_or (slice_index_or lists k []) j 0 in
    noted-by (nat_eq (loop_of client loops) own) (loop_of client loops) client r m n keeps.noted
    (told_on own loops client q r m keeps.takers keeps.looks (was k below j inside))

of-kept : (own loops : ℕ) (o : Option PlainDone) (q r : Roster) (m n : Notes) → Remembers q r m n
    → IfSome o (λ done. AreAllTold own loops done q m) → IfSome o (λ done. AreAllTold own loops done r n)
of-kept own loops None q r m n keeps was = was
of-kept own loops (Some done) q r m n keeps was = lists_kept own loops done.clients q r m n keeps was

-- all for whom an event put something are told where these are its lists
pub told_by : (own loops : ℕ) (got : Answer) (done : PlainDone) (lists : List (List ℕ)) (r : Roster) (n : Notes)
    → Some done ≡ done_of got → lists ≡ done.clients → Told own loops lists r n → AreToldOf own loops got r n
told_by own loops got done lists r n is same told =
    subst (λ o. IfSome o (λ d. AreAllTold own loops d r n)) is (subst (λ ls. Told own loops ls r n) same told)

-- and where it put nothing
pub none_told : (own loops : ℕ) (got : Answer) (r : Roster) (n : Notes) → None ≡ done_of got → AreToldOf own loops got r n
none_told own loops got r n is = subst (λ o. IfSome o (λ d. AreAllTold own loops d r n)) is tt

-- one answer more
pub run_more : (own loops : ℕ) (run : List (ℕ × Answer)) (i : ℕ) (x : ℕ × Answer) (q r : Roster) (m n : Notes) → i < length run
    → x ≡ slice_index_or run i x → Remembers q r m n → AllWithin (λ of. AreToldOf own loops of.1 q m) run 0 i
    → AreToldOf own loops x.1 r n → AllWithin (λ of. AreToldOf own loops of.1 r n) run 0 (i + 1)
run_more own loops run i x q r m n below is keeps before here =
    AllWithin-more (λ (of : ℕ × Answer). AreToldOf own loops of.1 r n) run 0 i
    (λ k d low under. of-kept own loops (done_of (slice_index_or run k d).1) q r m n keeps (before k d low under))
    (at_read run (λ (of : ℕ × Answer). AreToldOf own loops of.1 r n) i x below is here)

-- all were heard
pub run_whole : (own loops : ℕ) (run : List (ℕ × Answer)) (i : ℕ) (r : Roster) (n : Notes) → length run ≤ i
    → AllWithin (λ of. AreToldOf own loops of.1 r n) run 0 i → All (λ of. AreToldOf own loops of.1 r n) run
run_whole own loops run i r n over all = λ k d below. all k d (omega arith) (omega (arith, over, below))

-- nothing changed
pub nothing_forgotten : (r : Roster) (n : Notes) → Remembers r r n n
nothing_forgotten r n = record {
  takers = refl;
  looks = record { long = refl; kept = λ k is. is; takes = λ k is. is };
  noted = λ k c is. is;
}
