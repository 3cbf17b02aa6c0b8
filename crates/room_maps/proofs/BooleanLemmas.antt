-- Tests that hold together, or one of which does.
use Rattle.std.proofs.Common.{◌≡◌, Bool, true, false, ◌&&◌, ◌||◌, not, refl, sym, ap, ◌∙◌, true≢false}
use Rattle.std.specs.Prelude.{cond, Option, None, Some, Result, Ok, Err, OnErr}
use Rattle.room_maps.specs.declared.error.RoomError.{RoomError}

pub or_right : (b c : Bool) → c ≡ true → (b || c) ≡ true
or_right true c e = refl
or_right false c e = e

pub and_comm : (b c : Bool) → (b && c) ≡ (c && b)
and_comm true true = refl
and_comm true false = refl
and_comm false true = refl
and_comm false false = refl

pub or_comm : (b c : Bool) → (b || c) ≡ (c || b)
or_comm true true = refl
or_comm true false = refl
or_comm false true = refl
or_comm false false = refl

pub both_true : (b c : Bool) → b ≡ true → c ≡ true → (b && c) ≡ true
both_true b c e f = ap (λ x. x && c) e ∙ f

pub right : (b c : Bool) → (b && c) ≡ true → c ≡ true
right true c e = e
right false c e = absurd (true≢false (sym e))

pub left : (b c : Bool) → (b && c) ≡ true → b ≡ true
left true c e = refl
left false c e = e

pub not_both : (b c : Bool) → (b ≡ true → c ≡ false) → not (b && c) ≡ true
not_both true true e = absurd (true≢false (e refl))
not_both true false e = refl
not_both false c e = refl

pub same_bool : (b c : Bool) → (b ≡ true → c ≡ true) → (c ≡ true → b ≡ true) → b ≡ c
same_bool true true f g = refl
same_bool true false f g = absurd (true≢false (sym (f refl)))
same_bool false true f g = absurd (true≢false (sym (g refl)))
same_bool false false f g = refl

-- what was added is taken back
pub taken_back_bool : (e x : Bool) → (e ≡ true → x ≡ false) → (not e && (e || x)) ≡ x
taken_back_bool true x h = sym (h refl)
taken_back_bool false x h = refl

-- what is there already adds nothing
pub added_again_bool : (e x : Bool) → (e ≡ true → x ≡ true) → (e || x) ≡ x
added_again_bool true x h = sym (h refl)
added_again_bool false x h = refl

pub on_err : {T E : Type 0} (P : Type 0) (r : Result T E) → P → OnErr r P
on_err P (Ok x) h = tt
on_err P (Err e) h = h

-- where nothing is refused, neither the first test holds nor the second
pub first_fails : (b : Bool) (e : RoomError) (rest : Option RoomError) → cond b (Some e) rest ≡ None → b ≡ false
first_fails true e rest h = absurd (cc h)
first_fails false e rest h = refl

pub second_fails : (b c : Bool) (e f : RoomError) (rest : Option RoomError) → cond b (Some e) (cond c (Some f) rest) ≡ None → c ≡ false
second_fails true c e f rest h = absurd (cc h)
second_fails false true e f rest h = absurd (cc h)
second_fails false false e f rest h = refl
