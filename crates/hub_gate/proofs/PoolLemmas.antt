-- What the workers of a pool did, put together.
use Rattle.std.proofs.Common.{◌≡◌, ℕ, zero, suc, List, [], ◌∷◌, ◌++◌, map, Option, None, Some, option_map, Result, Ok, Err, IfOk, append_assoc, refl, sym, ◌∙◌, ap, subst}
use Rattle.std.proofs.lemmas.List.{map-append}
use Rattle.std.proofs.lemmas.Option.{slice_get-map}
use Rattle.std.specs.Iterator.{Drains, Yields}
use Rattle.std.specs.List.{AllZip, slice_get}
use Rattle.std.specs.Prelude.{IfNone, option_to_list}
use Rattle.std.specs.Vec.Iter.{into_iter_items}
use Rattle.hub_totals.specs.Pass.{PlainPass, new_pass}
use Rattle.hub_gate.specs.declared.worker.Queue.{Queue}
use Rattle.hub_gate.specs.declared.worker.WorkerCounts.{WorkerCounts}
use Rattle.hub_gate.specs.Serving.{AreDealt, dealt}

-- ---- two lists, element by element

pub zip_push : {A B : Type 0} (R : A → B → Type 0) (xs : List A) (ys : List B) (x : A) (y : B) → AllZip R xs ys → R x y → AllZip R (xs ++ x ∷ []) (ys ++ y ∷ [])
zip_push R [] [] x y all one = (one, all)
zip_push R [] (b ∷ ys) x y all one = absurd all
zip_push R (a ∷ xs) [] x y all one = absurd all
zip_push R (a ∷ xs) (b ∷ ys) x y all one = (all.0, zip_push R xs ys x y all.1 one)

pub zip_join : {A B C : Type 0} (R : A → B → Type 0) (S : B → C → Type 0) (Q : A → C → Type 0) → ((x : A) (y : B) (z : C) → R x y → S y z → Q x z)
    → (xs : List A) (ys : List B) (zs : List C) → AllZip R xs ys → AllZip S ys zs → AllZip Q xs zs
zip_join R S Q both [] [] [] one two = two
zip_join R S Q both [] [] (z ∷ zs) one two = two
zip_join R S Q both [] (y ∷ ys) zs one two = absurd one
zip_join R S Q both (x ∷ xs) [] zs one two = absurd one
zip_join R S Q both (x ∷ xs) (y ∷ ys) [] one two = absurd two
zip_join R S Q both (x ∷ xs) (y ∷ ys) (z ∷ zs) one two = (both x y z one.0 two.0, zip_join R S Q both xs ys zs one.1 two.1)

zip_at : {A B : Type 0} (R : A → B → Type 0) (xs : List A) (ys : List B) (k : ℕ) (x : A) (y : B) → AllZip R xs ys → slice_get xs k ≡ Some x → slice_get ys k ≡ Some y → R x y
zip_at R [] ys k x y all here there = absurd (cc (here))
zip_at R (a ∷ xs) [] k x y all here there = absurd all
zip_at R (a ∷ xs) (b ∷ ys) zero x y all here there =
    let one : a ≡ x = cc (here) in
    let other : b ≡ y = cc (there) in
    subst (λ v. R v y) one (subst (λ v. R a v) other all.0)
zip_at R (a ∷ xs) (b ∷ ys) (suc k) x y all here there = zip_at R xs ys k x y all.1 here there

from_map : {A B : Type 0} (f : A → B) (xs : List A) (k : ℕ) (y : B) → slice_get (map f xs) k ≡ Some y → (x : A) × (slice_get xs k ≡ Some x) × (f x ≡ y)
from_map f [] k y is = absurd (cc (is))
from_map f (x ∷ xs) zero y is = let same : f x ≡ y = cc (is) in (x, refl, same)
from_map f (x ∷ xs) (suc k) y is = from_map f xs k y is

-- what stood first in the rest is the last of what is mapped
pub moved_on : {A X : Type 0} (f : A → X) (xs : List A) (x : A) (y : X) (rest all : List X) → f x ≡ y → map f xs ++ y ∷ rest ≡ all → map f (xs ++ x ∷ []) ++ rest ≡ all
moved_on {A} {X} f xs x y rest all same is =
    ap (λ (l : List X). l ++ rest) (map-append f xs (x ∷ [])) ∙ append_assoc (map f xs) (f x ∷ []) rest ∙ ap (λ (v : X). map f xs ++ v ∷ rest) same ∙ is

-- ---- what each worker did

-- worker w had the job at its index, and its counts are those there
pub served : {J P I : Type 0} (peers_of : J → List P) (ids_of : J → I) (Works : List P → I → WorkerCounts → Type 0)
    (jobs : List J) (queues : List (List P)) (ids : List I) (workers : List WorkerCounts) (n : ℕ) (peers : List P)
    → map peers_of jobs ≡ queues → map ids_of jobs ≡ ids
    → AllZip (λ j counts. Works (peers_of j) (ids_of j) counts) jobs workers → AreDealt n peers queues
    → (w : ℕ) (own : I) (counts : WorkerCounts) → slice_get ids w ≡ Some own → slice_get workers w ≡ Some counts → Works (dealt n peers w) own counts
served {J} {P} {I} peers_of ids_of Works jobs queues ids workers n peers queues_are ids_are all deals w own counts at there =
    let j = from_map ids_of jobs w own (ap (λ (xs : List I). slice_get xs w) ids_are ∙ at) in
    let works = zip_at (λ (x : J) (y : WorkerCounts). Works (peers_of x) (ids_of x) y) jobs workers w j.0 counts all j.1 there in
    let found : slice_get queues w ≡ Some (peers_of j.0) = ap (λ (xs : List (List P)). slice_get xs w) (sym queues_are) ∙ slice_get-map peers_of jobs w ∙ ap (option_map peers_of) j.1 in
    let queue : peers_of j.0 ≡ dealt n peers w = deals w (peers_of j.0) found in
    subst (λ (q : List P). Works q own counts) queue (subst (λ (i : I). Works (peers_of j.0) i counts) j.2 works)

-- what holds of the workers holds of those that a report lists
pub reported : {S E W : Type 0} (r : Result S E) (w : W) (workers_of : S → W) (Q : W → Type 0) → IfOk r (λ s. workers_of s ≡ w) → Q w → IfOk r (λ s. Q (workers_of s))
reported (Ok s) w workers_of Q is holds = subst Q (sym is) holds
reported (Err e) w workers_of Q is holds = tt

-- ---- a queue that was worked off

abbrev pub queue_steps : {P : Type 0} → Queue P → Option P → Queue P → Type 0
queue_steps s r t = (into_iter_items s.peers ≡ option_to_list r ++ into_iter_items t.peers) × IfNone r (into_iter_items s.peers ≡ [])

drained_by : {P : Type 0} (s : Queue P) (xs : List P) (t u : Queue P) → Yields queue_steps s xs t → queue_steps t None u → xs ≡ into_iter_items s.peers
drained_by s [] t u run end = sym (ap (λ (q : Queue _). into_iter_items q.peers) run ∙ end.1)
drained_by s (x ∷ xs) t u run end = ap (λ ys. x ∷ ys) (drained_by run.0 xs t u run.2 end) ∙ sym run.1.0

-- all that the queue had came out of it, in order
pub drained : {P : Type 0} (s : Queue P) (xs : List P) → Drains queue_steps s xs → xs ≡ into_iter_items s.peers
drained s xs run = drained_by s xs run.1.0 run.0 run.1.1 run.1.2

pub is_new : (p : PlainPass) → p.commands ≡ 0 → p.taken ≡ 0 → p.parts ≡ 1 → p ≡ new_pass
is_new p commands taken parts = λ i. record { commands = commands i; taken = taken i; parts = parts i }
