-- The calls on a client's line so far, and what is read from them. The newest call stands first.
use Rattle.std.specs.Prelude.{◌≡◌, ℕ, ◌==◌, Bool, true, false, if◌then◌else◌, List, [], ◌∷◌, ◌++◌, Option, None, Some}
use Rattle.sio_wire.specs.declared.error.SioError.{SioError}
use Rattle.sio_wire.specs.Frames.{Frame}
use Rattle.connection.specs.declared.clock.Due.{Due}
use Rattle.connection.specs.declared.clock.Due.TheVariants.{SendPing}
use Rattle.connection.specs.ClockHistory as clock
use Rattle.connection.specs.Questions as book

-- a call that changed the line: a frame that the assembler took, or one that it refused for an error; a tick at a moment,
-- with what was due, and a pong; the steps of an upgrade; a GET that begins to wait or waits no more; a ping that was
-- carried to the client; a socket that was connected or disconnected; a question to it with a tag and the moment at
-- which it runs out, and the answer to an id
pub data Call : Type 0 where
  Framed : Frame → Call
  FrameRefused : SioError → Call
  Ticked : ℕ → Due → Call
  Ponged : ℕ → Call
  Probed : Call
  Upgraded : Call
  ProbeLost : Call
  GetBegan : Call
  GetEnded : Call
  PingCarried : Call
  Connected : ℕ → Call
  Disconnected : ℕ → Call
  Asked : ℕ → ℕ → ℕ → Call
  Answered : ℕ → ℕ → Call

-- the frames that the assembler took, the oldest first
unfoldable pub frames : List Call → List Frame
frames [] = []
frames (Framed frame ∷ h) = frames h ++ frame ∷ []
frames (_ ∷ h) = frames h

-- the assembler has failed: it refused a frame for this error
unfoldable pub failure : List Call → Option SioError
failure [] = None
failure (FrameRefused error ∷ h) = Some error
failure (_ ∷ h) = failure h

-- once it has failed it takes no frame
unfoldable pub IsLegal : List Call → Type 0
IsLegal [] = Unit {0}
IsLegal (Framed frame ∷ h) = (failure h ≡ None) × IsLegal h
IsLegal (_ ∷ h) = IsLegal h

-- the calls on the clock: a socket that joins ends the connection timeout
unfoldable pub clock_calls : List Call → List clock.Call
clock_calls [] = []
clock_calls (Ticked now due ∷ h) = clock.Ticked now due ∷ clock_calls h
clock_calls (Ponged now ∷ h) = clock.Ponged now ∷ clock_calls h
clock_calls (Probed ∷ h) = clock.Probed ∷ clock_calls h
clock_calls (Upgraded ∷ h) = clock.Upgraded ∷ clock_calls h
clock_calls (ProbeLost ∷ h) = clock.ProbeLost ∷ clock_calls h
clock_calls (Connected s ∷ h) = clock.Joined ∷ clock_calls h
clock_calls (_ ∷ h) = clock_calls h

-- the calls on the book of a socket since it joined; each tick forgets the questions that ran out
unfoldable pub book_calls : ℕ → List Call → List book.Call
book_calls s [] = []
book_calls s (Connected t ∷ h) = if t == s then [] else book_calls s h
book_calls s (Disconnected t ∷ h) = if t == s then [] else book_calls s h
book_calls s (Asked t tag until ∷ h) = if t == s then book.Asked tag until ∷ book_calls s h else book_calls s h
book_calls s (Answered t id ∷ h) = if t == s then book.Answered id ∷ book_calls s h else book_calls s h
book_calls s (Ticked now due ∷ h) = book.Expired now ∷ book_calls s h
book_calls s (_ ∷ h) = book_calls s h

-- a GET waits: the last word on one is that it began
unfoldable pub is_getting : List Call → Bool
is_getting [] = false
is_getting (GetBegan ∷ h) = true
is_getting (GetEnded ∷ h) = false
is_getting (_ ∷ h) = is_getting h

-- a ping is due: one was to be sent, and none was carried since
unfoldable pub is_ping_due : List Call → Bool
is_ping_due [] = false
is_ping_due (Ticked now SendPing ∷ h) = true
is_ping_due (PingCarried ∷ h) = false
is_ping_due (_ ∷ h) = is_ping_due h
