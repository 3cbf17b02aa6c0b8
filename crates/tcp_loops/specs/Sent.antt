-- What goes out over a connection.
use Rattle.std.specs.Prelude.{◌≡◌, ◌++◌, ℕ, false, List, [], Option, Some, cond, bytes_eq, codes, length, option_map}
use Rattle.std.specs.Box.{box_value}
use Rattle.mio.specs.declared.net.stream.TcpStream.{TcpStream}
use Rattle.http_edge.specs.Answer as http
use Rattle.page.specs.Answer.{head_of}
use Rattle.page.specs.declared.file.File.{File}
use Rattle.peers.specs.Responses.{PlainResponse}
use Rattle.tcp_streams.specs.Outputs.{is_cut, waiting}
use Rattle.tcp_streams.specs.declared.buffered.Buffered.{Buffered}
use Rattle.tcp_loops.specs.Services.{Turns}
use Rattle.tcp_loops.specs.declared.service.Service.{Service}
use Rattle.tcp_loops.specs.declared.service.Service.TheVariants as service

-- the first of these bytes may be gone, and the others are left in their order
abbrev pub LosesFront : (before after : List ℕ) → Type 0
LosesFront before after = (gone : List ℕ) × (before ≡ gone ++ after)

-- a piece of what is left of a file waits behind what waited; a stream that is cut forgets it
pub record TakesPiece (old new : Buffered TcpStream) (left after : List ℕ) : Type 0 where
  pub piece : List ℕ
  pub first : left ≡ piece ++ after
  pub waits : waiting new ≡ waiting old ++ cond (is_cut old) [] piece

-- this goes out behind what waited, of which the last bytes are left
abbrev pub GoesOut : (text : List ℕ) → (old new : Buffered TcpStream) → (left : List ℕ) → Type 0
GoesOut text old new left = is_cut old ≡ false → waiting new ++ left ≡ waiting old ++ text

-- the bytes of an answer that pages of an origin may read, if there is one
abbrev pub answer_of : Option (List ℕ) → Option PlainResponse → Option (List ℕ)
answer_of origin response = option_map (λ (r : PlainResponse). http.answer r.status origin r.body) response

-- what stands behind its head in the answer to a request for a file: nothing where just the head was asked for
abbrev pub file_bytes : (method : List ℕ) → File → List ℕ
file_bytes method f = cond (bytes_eq method (codes "HEAD")) [] f.bytes

abbrev pub file_answer : (method : List ℕ) → Option (List ℕ) → File → List ℕ
file_answer method origin f = head_of f.name (length f.bytes) origin ++ file_bytes method f

module _ {R : Type 0} where
  -- bytes that waited were sent: no byte goes before those in front of it, none is lost, and none goes twice
  abbrev pub Sends : (old new : Service R) → Type 0
  Sends (service.Answered s left) (service.Answered s' left') =
      LosesFront (waiting (box_value s) ++ left.now) (waiting (box_value s') ++ left'.now)
  Sends old new = Turns (λ before after. LosesFront (waiting before) (waiting after)) old new

  -- nobody serves it any more: just this goes out behind what waited, or it is gone
  abbrev pub Tells : Option (List ℕ) → (old new : Service R) → Type 0
  Tells text old service.Gone = Unit {0}
  Tells (Some text) (service.Gathering s g) (service.Answered s' left) = GoesOut text (box_value s) (box_value s') left.now
  Tells _ _ _ = ⊥
