-- Whose event it is.
use Rattle.std.specs.Prelude.{ℕ, Option, None, Some}
use Rattle.events.specs.declared.event.Event.{Event}
use Rattle.events.specs.declared.event.Event.TheVariants.{Opened, Post, Frame, PollBegin, PollEnd, PollTake, FrameTake, Probe, Upgraded, ProbeLost, TransportLost, Tick, Sweep}

-- the client that the event is of; one that opens a client, and a sweep, are of none
abbrev pub client_of : Event → Option ℕ
client_of (Opened socket) = None
client_of (Post c body) = Some c
client_of (Frame c frame) = Some c
client_of (PollBegin c) = Some c
client_of (PollEnd c) = Some c
client_of (PollTake c most) = Some c
client_of (FrameTake c most) = Some c
client_of (Probe c) = Some c
client_of (Upgraded c) = Some c
client_of (ProbeLost c) = Some c
client_of (TransportLost c) = Some c
client_of (Tick c) = Some c
client_of Sweep = None
