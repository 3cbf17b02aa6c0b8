-- What the answer to an event does to a WebSocket.
use Rattle.std.specs.Prelude.{◌&&◌, not, ℕ, Bool, true, false, List, [], ◌∷◌, is_none, Result, Ok, Err, is_err, cond}
use Rattle.events.specs.declared.fault.CoreFault.{CoreFault}
use Rattle.events.specs.declared.fault.CoreFault.TheVariants as fault
use Rattle.events.specs.declared.event.WsFrame.{WsFrame}
use Rattle.events.specs.declared.event.WsFrame.TheVariants as frame
use Rattle.events.specs.declared.outcome.Outcome.TheVariants as outcome
use Rattle.events.specs.Answer.{Answer}
use Rattle.events.specs.declared.peer.PeerFault.{PeerFault}
use Rattle.peers.specs.declared.socket_stage.Phase.{Phase}
use Rattle.peers.specs.declared.socket_stage.Phase.TheVariants as phase
use Rattle.peers.specs.declared.socket_stage.SocketStage.{SocketStage}
use Rattle.peers.specs.declared.socket_stage.SocketStage.TheVariants as stage

-- ---- what an answer leads to

abbrev pub is_unknown : CoreFault → Bool
is_unknown fault.UnknownClient = true
is_unknown _ = false

-- there is no such client
abbrev pub is_gone : Answer → Bool
is_gone (Ok o) = false
is_gone (Err e) = is_unknown e.fault

abbrev pub is_refused : Answer → Bool
is_refused got = is_err got

abbrev pub after_opening : Answer → SocketStage
after_opening (Ok (outcome.Opened o)) = stage.Reads o.client phase.Speaks false
after_opening _ = stage.Over

abbrev pub after_probe : ℕ → Answer → SocketStage
after_probe c (Ok (outcome.Probed text)) = stage.Reads c phase.Probes false
after_probe c _ = stage.Over

abbrev pub after_upgrade : ℕ → Answer → SocketStage
after_upgrade c (Ok (outcome.Done done)) = stage.Reads c phase.Speaks false
after_upgrade c _ = stage.Over

-- a frame that was refused is passed over
abbrev pub after_frame : ℕ → Answer → SocketStage
after_frame c got = cond (is_gone got) stage.Over (stage.Takes c)

abbrev pub after_take : ℕ → Bool → Answer → SocketStage
after_take c idle (Ok (outcome.Frames frames)) = stage.Ticks c false
after_take c idle got = cond (is_gone got) stage.Over (stage.Ticks c idle)

-- nothing is due, and the client was not given up
abbrev pub is_quiet : Answer → Bool
is_quiet (Ok (outcome.Ticked ping done)) = not ping && is_none done.closed
is_quiet _ = true

-- until a client has come over, a refusal ends the peer, after a probe that runs was lost
abbrev pub after_refusal : ℕ → Phase → Bool → SocketStage
after_refusal c phase.Knocks idle = stage.Over
after_refusal c phase.Probes idle = stage.Loses c
after_refusal c phase.Speaks idle = stage.Reads c phase.Speaks idle

abbrev pub after_tick : ℕ → Phase → Bool → Answer → SocketStage
after_tick c p idle got = cond (is_gone got) stage.Over
    (cond (is_refused got) (after_refusal c p idle) (stage.Reads c p (idle && is_quiet got)))

abbrev pub after : SocketStage → Answer → SocketStage
after stage.Opening got = after_opening got
after (stage.Probing c) got = after_probe c got
after (stage.Upgrading c) got = after_upgrade c got
after (stage.Framed c) got = after_frame c got
after (stage.Taking c idle) got = after_take c idle got
after (stage.Ticking c p idle) got = after_tick c p idle got
after (stage.Losing c) got = stage.Over
after other got = other

-- ---- what is sent

-- the open packet, the answer to a probe, and what was taken
abbrev pub to_send : SocketStage → Answer → List WsFrame
to_send stage.Opening (Ok (outcome.Opened o)) = frame.Text o.text ∷ []
to_send (stage.Probing c) (Ok (outcome.Probed text)) = frame.Text text ∷ []
to_send (stage.Taking c idle) (Ok (outcome.Frames frames)) = frames.list
to_send s got = []

-- what could not be sent loses a probe, or else the peer has failed
abbrev pub unsent : SocketStage → PeerFault → SocketStage × Result (Unit {0}) PeerFault
unsent (stage.Reads c phase.Probes idle) why = (stage.Loses c, Ok tt)
unsent other why = (stage.Over, Err why)
