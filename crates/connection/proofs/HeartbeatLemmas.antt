-- No moment that a clock holds is later than its last one.
use Rattle.std.proofs.Common.{◌≡◌, ℕ, ◌≤◌, max, List, [], ◌∷◌, Option, None, Some, arith, sym, ◌∙◌, subst}
use Rattle.std.specs.Prelude.{IfSome}
use Rattle.connection.specs.declared.clock.Due.TheVariants.{Nothing, SendPing, PingTimeout, ConnectTimeout}
use Rattle.connection.specs.ClockHistory.{Opening, Call, Ticked, Ponged, Joined, Probed, Upgraded, ProbeLost, moment}
use Rattle.connection.specs.Heartbeat.{awaited_ping, interval_start}
use Rattle.connection.specs.ClockContents.{Contents}
use Rattle.connection.specs.Clock.{HasHistory}

pub opening-not_later : (o : Opening) (h : List Call) → o.now ≤ moment o h
unfolding moment
opening-not_later o [] = omega arith
opening-not_later o (Ticked now answer ∷ h) = omega (arith, opening-not_later o h)
opening-not_later o (Ponged now ∷ h) = omega (arith, opening-not_later o h)
opening-not_later o (Joined ∷ h) = opening-not_later o h
opening-not_later o (Probed ∷ h) = opening-not_later o h
opening-not_later o (Upgraded ∷ h) = opening-not_later o h
opening-not_later o (ProbeLost ∷ h) = opening-not_later o h

pub interval_start-not_later : (o : Opening) (h : List Call) → interval_start o h ≤ moment o h
unfolding moment interval_start awaited_ping
interval_start-not_later o [] = omega arith
interval_start-not_later o (Ticked now answer ∷ h) = omega (arith, interval_start-not_later o h)
interval_start-not_later o (Ponged now ∷ h) = grind (arith, interval_start-not_later o h)
interval_start-not_later o (Joined ∷ h) = interval_start-not_later o h
interval_start-not_later o (Probed ∷ h) = interval_start-not_later o h
interval_start-not_later o (Upgraded ∷ h) = interval_start-not_later o h
interval_start-not_later o (ProbeLost ∷ h) = interval_start-not_later o h

earlier : (ping : Option ℕ) (m now : ℕ) → IfSome ping (λ p. p ≤ m) → IfSome ping (λ p. p ≤ max m now)
earlier None m now before = before
earlier (Some p) m now before = omega arith

pub awaited_ping-not_later : (o : Opening) (h : List Call) → IfSome (awaited_ping o h) (λ p. p ≤ moment o h)
unfolding moment awaited_ping
awaited_ping-not_later o [] = tt
awaited_ping-not_later o (Ticked now Nothing ∷ h) = earlier _ _ now (awaited_ping-not_later o h)
awaited_ping-not_later o (Ticked now SendPing ∷ h) = omega arith
awaited_ping-not_later o (Ticked now PingTimeout ∷ h) = earlier _ _ now (awaited_ping-not_later o h)
awaited_ping-not_later o (Ticked now ConnectTimeout ∷ h) = earlier _ _ now (awaited_ping-not_later o h)
awaited_ping-not_later o (Ponged now ∷ h) = tt
awaited_ping-not_later o (Joined ∷ h) = awaited_ping-not_later o h
awaited_ping-not_later o (Probed ∷ h) = awaited_ping-not_later o h
awaited_ping-not_later o (Upgraded ∷ h) = awaited_ping-not_later o h
awaited_ping-not_later o (ProbeLost ∷ h) = awaited_ping-not_later o h

pub opened-in_time : (c : Contents) → HasHistory c → c.opened ≤ c.last
opened-in_time c was = omega (arith, opening-not_later was.opening was.calls, was.leads.opened, was.leads.last)

pub interval_start-in_time : (c : Contents) → HasHistory c → c.interval_start ≤ c.last
interval_start-in_time c was =
    omega (arith, interval_start-not_later was.opening was.calls, was.leads.interval_start, was.leads.last)

pub ping-in_time : (c : Contents) (ping : ℕ) → HasHistory c → c.ping ≡ Some ping → ping ≤ c.last
ping-in_time c ping was is =
    let awaited : IfSome (Some ping) (λ p. p ≤ moment was.opening was.calls) =
    subst (λ (o : Option ℕ). IfSome o (λ p. p ≤ moment was.opening was.calls)) (sym was.leads.ping ∙ is) (awaited_ping-not_later was.opening was.calls) in
    omega (arith, awaited, was.leads.last)
