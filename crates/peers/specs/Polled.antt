-- What the calls of a peer do that serves one request over HTTP.
use Rattle.std.specs.Prelude.{◌≡◌, ℕ, Bool, true, List, Option, None, Some, Result, Ok, Err, option_map}
use Rattle.std.specs.Io.KnownBytes.{Appends}
use Rattle.events.specs.declared.event.Event.{Event}
use Rattle.events.specs.Answer.{Answer}
use Rattle.events.specs.declared.peer.PeerFault.{PeerFault}
use Rattle.events.specs.declared.peer.PeerFault.TheVariants as fault
use Rattle.http_edge.specs.Answer as http
use Rattle.http_edge.specs.Written.{AppendsFront}
use Rattle.peers.specs.declared.poll_stage.PollStage.{PollStage}
use Rattle.peers.specs.Moments.{PausesIf, IsTimed}
use Rattle.peers.specs.Noops.{is_noop}
use Rattle.peers.specs.Polling.{next_of, after, is_idle}
use Rattle.peers.specs.Responses.{PlainResponse, answer_to}

-- how far the request has come, the wire that it came by, its moments, how many entries one payload may have, and the
-- origin that the answer names, if it names one
pub record Polled (W M : Type 0) : Type 0 where
  pub stage : PollStage
  pub wire : W
  pub moments : M
  pub most : ℕ
  pub origin : Option (List ℕ)

-- the event of an event and its moment
abbrev pub event_of : Option (Event × ℕ) → Option Event
event_of given = option_map (λ pair. pair.0) given

module _ {W M : Type 0} (gives : M → ℕ → M → Type 0) (pauses : M → M → Type 0) where
  -- a GET that waits pauses before it asks again; the next event is the table's, with the moment that was given for it
  pub record Asks (old : Polled W M) (given : Option (Event × ℕ)) (new : Polled W M) : Type 0 where
    pub next : (new.stage, event_of given) ≡ next_of old.most old.stage
    pub kept : (new.wire ≡ old.wire) × (new.most ≡ old.most) × (new.origin ≡ old.origin)
    pub paused : M
    pub pauses_first : PausesIf pauses (is_idle old.stage) old.moments paused
    pub timed : IsTimed gives given paused new.moments

  -- it never fails
  abbrev pub Gives : Polled W M → Result (Option (Event × ℕ)) PeerFault → Polled W M → Type 0
  Gives old (Ok given) new = Asks old given new
  Gives old (Err e) new = ⊥

module _ {W : Type 0} (written : W → Option (List ℕ)) (is_broken : W → Bool) where
  -- the whole answer was written; or memory was refused, and nothing was asked of the wire; or the wire broke, and a
  -- first part was written
  abbrev pub Writes : Option (List ℕ) → PlainResponse → W → Result (Unit {0}) PeerFault → W → Type 0
  Writes origin response old (Ok _) new = Appends (written old) (written new) (http.answer response.status origin response.body)
  Writes origin response old (Err fault.Memory) new = new ≡ old
  Writes origin response old (Err fault.Device) new =
      AppendsFront (written old) (written new) (http.answer response.status origin response.body) × (is_broken new ≡ true)
  Writes origin response old (Err fault.Ended) new = ⊥

  -- where the table names no answer, nothing is written
  abbrev pub Responds : Option (List ℕ) → Option PlainResponse → W → Result (Unit {0}) PeerFault → W → Type 0
  Responds origin None old result new = (result ≡ Ok tt) × (new ≡ old)
  Responds origin (Some response) old result new = Writes origin response old result new

  -- so a response is told, and nothing but the wire changes
  abbrev pub Tells : {M : Type 0} → Polled W M → PlainResponse → Result (Unit {0}) PeerFault
      → Polled W M → Type 0
  Tells old response result new =
      Writes old.origin response old.wire result new.wire × (new ≡ record old { wire = new.wire })

-- so a peer pauses, and nothing but its moments changes
abbrev pub Pauses : {W M : Type 0} → (pauses : M → M → Type 0) → (old new : Polled W M) → Type 0
Pauses pauses old new =
    pauses old.moments new.moments × (new ≡ record old { moments = new.moments })

module _ {T : Type 0} (pauses : T → T → Type 0)
    (tells : T → PlainResponse → Result (Unit {0}) PeerFault → T → Type 0) where
  -- where there is to be a pause it is first, and then the response is told
  pub record TellsPaced (is_paced : Bool) (old : T) (response : PlainResponse)
      (result : Result (Unit {0}) PeerFault) (new : T) : Type 0 where
    pub paused : T
    pub pauses_first : PausesIf pauses is_paced old paused
    pub tells_then : tells paused response result new

module _ {W M : Type 0} (written : W → Option (List ℕ)) (is_broken : W → Bool) (pauses : M → M → Type 0) where
  -- before it is written that nothing waits, the peer pauses, and before no other answer
  abbrev pub Paces : Option PlainResponse → Answer → M → M → Type 0
  Paces None got old new = new ≡ old
  Paces (Some response) got old new = PausesIf pauses (is_noop got) old new

  -- the stage and the answer are the tables'
  pub record Hears (old : Polled W M) (got : Answer) (result : Result (Unit {0}) PeerFault) (new : Polled W M) : Type 0 where
    pub stage : new.stage ≡ after old.stage got
    pub answered : Responds written is_broken old.origin (answer_to old.stage got) old.wire result new.wire
    pub paces : Paces (answer_to old.stage got) got old.moments new.moments
    pub kept : (new.most ≡ old.most) × (new.origin ≡ old.origin)
