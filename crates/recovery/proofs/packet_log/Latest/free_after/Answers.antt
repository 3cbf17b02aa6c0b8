use Rattle.std.proofs.Common.{◌≡◌, ◌+◌, ◌-◌, ◌<◌, ⊎_elim, [], ◌∷◌, ◌++◌, true, false, Bool, subst, arith}
use Rattle.recovery.specs.PacketLog.{PlainLogged, fits, logged_size, logged_bytes}
use Rattle.recovery.specs.Latest.{Shelf}
use Rattle.recovery.proofs.LatestLemmas.{bytes_push, has_space, lacks_place, lacks_bytes}
use Rattle.recovery.proofs.packet_log.Latest.free_after.Goals as goal

-- whether one more has space on the shelf
abbrev Fits : PlainLogged → Bool → Shelf → Type 0
Fits e b s = fits s.limit s.bytes (s.entries ++ e ∷ []) ≡ b

pub returns-in_err-size-clause-none : goal.returns-in_err-size-clause-none
returns-in_err-size-clause-none c =
    let big : 18446744073709551615 < logged_size c.args.logged.now = c.in_err-size.ensures.none in
    rw c.from_residual.ensures
    (subst (Fits c.args.logged.now false) c.self.view_is
    (lacks_bytes c.self.inside.ring.capacity c.self.inside.bytes c.self.inside.ring.items c.args.logged.now (omega (arith, big, c.self.invariant))))

pub returns-then-len-capacity-clause-none : goal.returns-then-len-capacity-clause-none
returns-then-len-capacity-clause-none c =
    subst (Fits c.args.logged.now false) c.self.view_is
    (⊎_elim
    (λ full. lacks_place c.self.inside.ring.capacity c.self.inside.bytes c.self.inside.ring.items c.args.logged.now (omega (arith, full, c.len.ensures.len, c.capacity.ensures.capacity)))
    (λ both. lacks_bytes c.self.inside.ring.capacity c.self.inside.bytes c.self.inside.ring.items c.args.logged.now (omega (arith, both.1, c.self.invariant, c.in_ok-size.ensures.some)))
    c.then-len-capacity.either)

pub returns-clause-some : goal.returns-clause-some
returns-clause-some c =
    subst (λ (s : Shelf). c.self.inside.free - c.in_ok-size.size + logged_bytes (s.entries ++ c.args.logged.now ∷ []) ≡ s.bytes) c.self.view_is
    (omega (arith, c.if-free-size.false, c.self.invariant, c.in_ok-size.ensures.some, bytes_push c.self.inside.ring.items c.args.logged.now))

pub returns-clause-space : goal.returns-clause-space
returns-clause-space c =
    subst (Fits c.args.logged.now true) c.self.view_is
    (has_space c.self.inside.ring.capacity c.self.inside.bytes c.self.inside.ring.items c.args.logged.now
    (omega (arith, c.if-len-capacity.false, c.len.ensures.len, c.capacity.ensures.capacity))
    (omega (arith, c.if-free-size.false, c.self.invariant, c.in_ok-size.ensures.some)))
