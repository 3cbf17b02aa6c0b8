-- Which histories lead to what a clock holds.
use Rattle.std.specs.Prelude.{◌≡◌, List, [], ◌∷◌, is_some, Option, None, Result, OnOk, OnErr}
use Rattle.terms.specs.Refusal.{ok_unless}
use Rattle.connection.specs.declared.clock.ClockError.{ClockError}
use Rattle.connection.specs.declared.clock.Transport.{Transport}
use Rattle.connection.specs.declared.clock.ClockState.{ClockState}
use Rattle.connection.specs.ClockHistory.{Opening, Call, Ticked, Probed, Upgraded, ProbeLost, moment, was_joined}
use Rattle.connection.specs.Heartbeat.{awaited_ping, interval_start, due}
use Rattle.connection.specs.Upgrade.{transport, probe_refusal, unprobed_refusal}
use Rattle.connection.specs.ClockContents.{Contents}

-- each tick was answered by what was due then, and no change of transport was one that is refused
unfoldable pub IsLegal : Opening → List Call → Type 0
IsLegal o [] = Unit {0}
IsLegal o (Ticked now answer ∷ h) = (answer ≡ due o h now) × IsLegal o h
IsLegal o (Probed ∷ h) = (probe_refusal (transport o h) ≡ None) × IsLegal o h
IsLegal o (Upgraded ∷ h) = (unprobed_refusal (transport o h) ≡ None) × IsLegal o h
IsLegal o (ProbeLost ∷ h) = (unprobed_refusal (transport o h) ≡ None) × IsLegal o h
IsLegal o (_ ∷ h) = IsLegal o h

-- a clock that was opened so and then had these calls holds this
pub record LeadsTo (o : Opening) (h : List Call) (c : Contents) : Type 0 where
  pub legal : IsLegal o h
  pub timing : c.timing ≡ o.timing
  pub opened : c.opened ≡ o.now
  pub last : c.last ≡ moment o h
  pub interval_start : c.interval_start ≡ interval_start o h
  pub ping : c.ping ≡ awaited_ping o h
  pub joined : c.joined ≡ was_joined h
  pub transport : c.transport ≡ transport o h

-- each history that leads to these contents is such
abbrev pub ForEachHistory : Contents → (Opening → List Call → Type 0) → Type 0
ForEachHistory c P = (o : Opening) (h : List Call) → LeadsTo o h c → P o h

-- with this call more, each history that leads to the one contents leads to the other
abbrev pub Advances : Contents → Call → Contents → Type 0
Advances old call new = ForEachHistory old (λ o h. LeadsTo o (call ∷ h) new)

-- a call that may be refused, by the transport: then nothing has changed
pub record StepsBy (call : Call) (refusal : Transport → Option ClockError)
    (old : Contents) (result : Result (Unit {0}) ClockError) (new : Contents) : Type 0 where
  pub answer : ForEachHistory old (λ o h. result ≡ ok_unless (refusal (transport o h)))
  pub leads : OnOk result (Advances old call new)
  pub unchanged : OnErr result (new ≡ old)

-- some history leads to these contents
pub record HasHistory (c : Contents) : Type 0 where
  pub opening : Opening
  pub calls : List Call
  pub leads : LeadsTo opening calls c

-- what a clock shows after a history
abbrev pub state_after : Opening → List Call → ClockState
state_after o h =
    record {
      transport = transport o h;
      awaiting = is_some (awaited_ping o h);
      joined = was_joined h;
      last = moment o h;
    }
