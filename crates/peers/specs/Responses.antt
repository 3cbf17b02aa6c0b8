-- What a request over HTTP is answered with (Engine.IO protocol 4, "HTTP long-polling").
use Rattle.std.specs.Prelude.{◌==◌, ◌&&◌, ℕ, Bool, true, false, List, [], codes, Option, None, Some, Ok, Err, cond}
use Rattle.events.specs.declared.cause.Cause.{Cause}
use Rattle.events.specs.declared.cause.Cause.TheVariants as cause
use Rattle.events.specs.declared.fault.CoreFault.{CoreFault}
use Rattle.events.specs.declared.fault.CoreFault.TheVariants as fault
use Rattle.events.specs.Plain.{PlainDone}
use Rattle.events.specs.declared.outcome.Outcome.TheVariants as outcome
use Rattle.events.specs.Answer.{Answer}
use Rattle.http_edge.specs.declared.error.EdgeError.{EdgeError}
use Rattle.http_edge.specs.declared.error.EdgeError.TheVariants as edge
use Rattle.http_edge.specs.declared.response.Status.{Status}
use Rattle.http_edge.specs.declared.response.Status.TheVariants as status
use Rattle.http_edge.specs.declared.routes.Refusal.{Refusal}
use Rattle.http_edge.specs.declared.routes.Refusal.TheVariants as why
use Rattle.http_edge.specs.declared.routes.Target.{Target}
use Rattle.http_edge.specs.declared.routes.Target.TheVariants as target
use Rattle.http_edge.specs.Routes.{refusal_text}
use Rattle.peers.specs.declared.poll_stage.PollRequest.{PollRequest}
use Rattle.peers.specs.declared.poll_stage.PollRequest.TheVariants as request
use Rattle.peers.specs.declared.socket_stage.SocketRequest.{SocketRequest}
use Rattle.peers.specs.declared.socket_stage.SocketRequest.TheVariants as upgrade
use Rattle.peers.specs.declared.responses.Response.{Response}
use Rattle.peers.specs.declared.poll_stage.PollStage.{PollStage}
use Rattle.peers.specs.declared.poll_stage.PollStage.TheVariants as stage

-- ---- what a target asks for

abbrev pub poll_request : Target → List ℕ → Option PollRequest
poll_request target.OpenPoll body = Some request.Open
poll_request (target.Poll c) body = Some (request.Get c)
poll_request (target.Post c) body = Some (request.Post c body)
poll_request _ body = None

abbrev pub socket_request : Target → Option SocketRequest
socket_request target.OpenSocket = Some upgrade.Open
socket_request (target.ProbeSocket c) = Some (upgrade.Probe c)
socket_request _ = None

-- ---- answers

-- a status and a body
pub record PlainResponse : Type 0 where
  pub status : Status
  pub body : List ℕ

abbrev pub plain_response : Response → PlainResponse
plain_response response = record { status = response.status; body = response.body.now }

abbrev pub success : List ℕ → PlainResponse
success body = record { status = status.Success; body = body }

abbrev pub refused : Refusal → PlainResponse
refused refusal = record { status = status.BadRequest; body = refusal_text refusal }

abbrev pub unavailable : PlainResponse
unavailable = record { status = status.Unavailable; body = [] }

-- where no request was read; a stream that ended or failed has nobody to be answered
abbrev pub of_edge : EdgeError → Option PlainResponse
of_edge edge.Memory = Some unavailable
of_edge edge.Device = None
of_edge edge.EarlyEnd = None
of_edge edge.BadHead = Some (refused why.BadRequest)
of_edge edge.HeadTooLong = Some (refused why.BadRequest)
of_edge edge.BodyTooLong = Some (record { status = status.TooLarge; body = [] })
of_edge edge.NoLength = Some (refused why.BadRequest)
of_edge edge.NotUtf8 = Some (refused why.BadRequest)
of_edge edge.TurnsSpent = None

-- where a request asks for nothing that is here, or that is allowed, or for what a page may ask
abbrev pub of_target : Target → Option PlainResponse
of_target target.NotFound = Some (record { status = status.NotFound; body = [] })
of_target (target.Refuse refusal) = Some (refused refusal)
of_target target.Preflight = Some (record { status = status.NoContent; body = [] })
of_target _ = None

-- where an event was refused
abbrev pub of_refusal : CoreFault → Option PlainResponse
of_refusal fault.UnknownClient = Some (refused why.UnknownSession)
of_refusal fault.WrongTransport = Some (refused why.BadRequest)
of_refusal fault.Memory = Some unavailable
of_refusal fault.TooManyClients = Some unavailable
of_refusal fault.IdTaken = Some unavailable
of_refusal fault.Spent = Some unavailable
of_refusal fault.BadEffect = Some unavailable
of_refusal _ = None

-- where an event was refused of a GET that was begun: a client that is gone is told a close packet, and what passes lets
-- it wait on
abbrev pub of_begun : CoreFault → Option PlainResponse
of_begun fault.UnknownClient = Some (success (codes "1"))
of_begun fault.WrongTransport = Some (refused why.BadRequest)
of_begun _ = None

-- the client was closed since its payload could not be read
abbrev pub is_misread : Option Cause → Bool
is_misread (Some cause.Empty) = true
is_misread (Some cause.BadType) = true
is_misread (Some cause.BadBase64) = true
is_misread _ = false

abbrev pub is_unread : PlainDone → Bool
is_unread done = (done.packets == 0) && is_misread done.closed

-- a payload that was read is answered `ok`, also where one of its packets closed the client
abbrev pub of_post : PlainDone → PlainResponse
of_post done = cond (is_unread done) (refused why.BadRequest) (success (codes "ok"))

-- a GET beside another one
abbrev pub of_closed : Option Cause → Option PlainResponse
of_closed (Some cause.DoubleGet) = Some (refused why.BadRequest)
of_closed _ = None

abbrev pub of_begin : PlainDone → Option PlainResponse
of_begin done = of_closed done.closed

-- ---- the table, by the event that was answered

abbrev pub answer_to : PollStage → Answer → Option PlainResponse
answer_to stage.Opening (Ok (outcome.Opened o)) = Some (success o.text)
answer_to stage.Opening (Err e) = of_refusal e.fault
answer_to (stage.Posting c) (Ok (outcome.Done done)) = Some (of_post done)
answer_to (stage.Posting c) (Err e) = of_refusal e.fault
answer_to (stage.Beginning c) (Ok (outcome.Done done)) = of_begin done
answer_to (stage.Beginning c) (Err e) = of_refusal e.fault
answer_to (stage.Taking c left) (Ok (outcome.Payload text)) = Some (success text)
answer_to (stage.Taking c left) (Err e) = of_begun e.fault
answer_to (stage.Ending c) (Ok (outcome.Done done)) = Some (success (codes "6"))
answer_to (stage.Ending c) (Err e) = of_begun e.fault
answer_to _ _ = None
