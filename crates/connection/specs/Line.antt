-- What a line holds, and which histories lead to it.
use Rattle.std.specs.Prelude.{◌≡◌, ◌⊎◌, ℕ, Bool, List, [], ◌∷◌, ◌++◌, Option, None, Some, unwrap_or, Result, IfOk, IfErr, OnOk, OnErr}
use Rattle.std.specs.Ordering.{nat_cmp}
use Rattle.std.specs.Map.{lookup}
use Rattle.std.specs.BTreeMap.{is_at}
use Rattle.eio_wire.specs.Payload.{IsWhole}
use Rattle.sio_wire.specs.declared.assembler.SioPacket.{SioPacket}
use Rattle.sio_wire.specs.declared.assembler.Progress.{Progress}
use Rattle.sio_wire.specs.declared.assembler.Progress.TheVariants.{Failed}
use Rattle.sio_wire.specs.declared.error.SioError.{SioError}
use Rattle.sio_wire.specs.declared.error.SioError.TheVariants.{Memory}
use Rattle.sio_wire.specs.Frames.{Frame, Accepted, Accepts}
use Rattle.terms.specs.Refusal.{ok_unless}
use Rattle.connection.specs.declared.clock.ClockError.{ClockError}
use Rattle.connection.specs.declared.clock.Transport.{Transport}
use Rattle.connection.specs.Upgrade.{transport}
use Rattle.connection.specs.ClockHistory.{Opening}
use Rattle.connection.specs.Clock as clock
use Rattle.connection.specs.ClockContents as clock_contents
use Rattle.connection.specs.Book as book
use Rattle.connection.specs.BookContents as book_contents
use Rattle.connection.specs.History.{Call, Framed, frames, failure, IsLegal, clock_calls, book_calls, is_getting, is_ping_due}

-- the assembler and the clock, whether a GET waits and whether a ping is due, and the books of sockets by their ids
pub record PlainLine : Type 0 where
  pub assembler : Progress
  pub clock : clock_contents.Contents
  pub getting : Bool
  pub ping : Bool
  pub books : List (ℕ × book_contents.Contents)

abbrev pub plain_line : Progress → clock_contents.Contents → Bool → Bool → List (ℕ × book_contents.Contents) → PlainLine
plain_line assembler clock getting ping books = record { assembler = assembler; clock = clock; getting = getting; ping = ping; books = books }

-- a book before its first question
abbrev pub fresh_book : book_contents.Contents
fresh_book = record { next = 0; questions = [] }

-- a socket's book: before its first question it has none, which is as good as a fresh one
abbrev pub book_in : List (ℕ × book_contents.Contents) → ℕ → book_contents.Contents
book_in books s = unwrap_or (lookup (is_at (nat_cmp s)) books) fresh_book

-- the error for which the assembler has failed
abbrev pub failure_of : Progress → Option SioError
failure_of (Failed error) = Some error
failure_of _ = None

-- the assembler took these frames; of one that has failed `failure` says all
abbrev pub HasTaken : Progress → List Frame → Type 0
HasTaken (Failed error) taken = Unit {0}
HasTaken progress taken = (packets : List SioPacket) × Accepted progress taken packets

-- a line that was opened so and then had these calls holds this
pub record LeadsTo (o : Opening) (h : List Call) (l : PlainLine) : Type 0 where
  pub legal : IsLegal h
  pub taken : HasTaken l.assembler (frames h)
  pub failed : failure_of l.assembler ≡ failure h
  pub clock : clock.LeadsTo o (clock_calls h) l.clock
  pub getting : l.getting ≡ is_getting h
  pub ping : l.ping ≡ is_ping_due h
  pub books : (s : ℕ) → book.LeadsTo 0 (book_calls s h) (book_in l.books s)

-- each history that leads to this line is such
abbrev pub ForEachHistory : PlainLine → (Opening → List Call → Type 0) → Type 0
ForEachHistory l P = (o : Opening) (h : List Call) → LeadsTo o h l → P o h

-- some history leads to this line
pub record HasHistory (l : PlainLine) : Type 0 where
  pub opening : Opening
  pub calls : List Call
  pub leads : LeadsTo opening calls l

-- with these calls more, the newest first, each history that leads to the one line leads to the other
abbrev pub Advances : PlainLine → List Call → PlainLine → Type 0
Advances old calls new = ForEachHistory old (λ o h. LeadsTo o (calls ++ h) new)

-- a call of the clock that it may refuse, by how the client speaks: then nothing has changed
pub record StepsBy (call : Call) (refusal : Transport → Option ClockError)
    (old : PlainLine) (result : Result (Unit {0}) ClockError) (new : PlainLine) : Type 0 where
  pub answer : ForEachHistory old (λ o h. result ≡ ok_unless (refusal (transport o (clock_calls h))))
  pub reached : HasHistory old
  pub advances : OnOk result (Advances old (call ∷ []) new)
  pub unchanged : OnErr result (new ≡ old)

-- the assembler has failed with this error, and nothing else has changed
abbrev pub FailsWith : SioError → PlainLine → PlainLine → Type 0
FailsWith e old new = new ≡ record old { assembler = Failed e }

-- U+001E, which separates the packets of a payload, stands neither in the packet's namespace nor in its payload
abbrev pub IsWholeIfGiven : Option SioPacket → Type 0
IsWholeIfGiven None = Unit {0}
IsWholeIfGiven (Some packet) = IsWhole packet.header.space × IsWhole packet.header.payload

-- a frame came, and the packet that it makes whole is given; after an error other than Memory, which is one of these, the
-- assembler has failed
pub record Hears (frame : Frame) (Refuses : SioError → Type 0)
    (old : PlainLine) (result : Result (Option SioPacket) SioError) (new : PlainLine) : Type 0 where
  pub given : IfOk result (λ given. Accepts old.assembler frame given new.assembler)
  pub advances : OnOk result (Advances old (Framed frame ∷ []) new)
  pub whole : IfOk result IsWholeIfGiven
  pub fault : IfErr result (λ e. ((e ≡ Memory) × (new ≡ old)) ⊎ (Refuses e × FailsWith e old new))
