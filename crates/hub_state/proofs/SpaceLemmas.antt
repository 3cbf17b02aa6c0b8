-- Where there is no namespace, no client has a socket.
use Rattle.std.proofs.Common.{◌≡◌, ◌==◌, ◌∙◌, ℕ, Bool, true, false, List, [], ◌∷◌, None, filter, refl, sym, ap, arith, if◌then◌else◌}
use Rattle.std.proofs.lemmas.Bool.Decides.{nat_tests}
use Rattle.std.specs.List.{find, AllByRecursion}
use Rattle.journal.specs.declared.socket.Socket.{Socket}
use Rattle.journal.specs.Plain.{Limits}
use Rattle.journal.specs.Journal.{History}
use Rattle.journal.specs.Membership.{sockets, sockets_of, socket_of, is_space}

absent : (limits : Limits) (c place : ℕ) (ks : List Socket) → AllByRecursion (λ (l : Socket). is_space limits l.space ≡ true) ks → is_space limits place ≡ false
    → find (λ (l : Socket). l.space == place) (filter (λ (l : Socket). l.client == c) ks) ≡ None
absent limits c place [] all lacks = refl
absent limits c place (l ∷ ks) all lacks = on (l.client == c) (absent limits c place ks all.1 lacks)
  where
    other : (b : Bool) → (l.space == place) ≡ b → (l.space == place) ≡ false
    other true is =
        let same : l.space ≡ place = grind (arith, nat_tests, is) in
        let clash : true ≡ false = sym all.0 ∙ ap (λ (n : ℕ). is_space limits n) same ∙ lacks in
        absurd (cc clash)
    other false is = is

    on : (b : Bool) → find (λ (l : Socket). l.space == place) (filter (λ (l : Socket). l.client == c) ks) ≡ None
        → find (λ (l : Socket). l.space == place) (if b then l ∷ filter (λ (l : Socket). l.client == c) ks else filter (λ (l : Socket). l.client == c) ks) ≡ None
    on true rest = rw (other (l.space == place) refl) rest
    on false rest = rest

-- a client has no socket where there is no namespace
pub no-socket : (h : History) (c place : ℕ) → AllByRecursion (λ (l : Socket). is_space h.limits l.space ≡ true) (sockets h.base h.journal) → is_space h.limits place ≡ false
    → socket_of h.base h.journal c place ≡ None
unfolding socket_of sockets_of
no-socket h c place all lacks = absent h.limits c place (sockets h.base h.journal) all lacks
