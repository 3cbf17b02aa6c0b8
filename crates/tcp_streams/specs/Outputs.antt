-- What was written to a buffered stream, what of it goes out, and what its reads give.
use Rattle.std.specs.Prelude.{◌≡◌, ◌≤◌, ◌++◌, ◌&&◌, ◌||◌, not, leb, ℕ, Bool, List, [], Option, None, Some, cond, drop, length}
use Rattle.std.specs.Io.KnownBytes.{Appends}
use Rattle.tcp_streams.specs.declared.buffered.Buffered.{Buffered}

module _ {S : Type 0} where
  -- what was written and has not gone, in order
  abbrev pub waiting : Buffered S → List ℕ
  waiting b = drop b.sent b.output.items

  -- nothing more is read of it, or sent
  abbrev pub is_cut : Buffered S → Bool
  is_cut b = b.cut

  -- what it holds for its stream, until it is cut
  abbrev pub held : Buffered S → Option (List ℕ)
  held b = cond b.cut None (Some (waiting b))

  -- what its reads will give, where that is known: what its stream has, and nothing once it is cut
  abbrev pub left : (S → Option (List ℕ)) → Buffered S → Option (List ℕ)
  left remaining b = cond b.cut (Some []) (remaining b.inner)

  -- its stream isn't asked: that has no byte, or has not ended and too many of its bytes are unbrought
  abbrev pub rests : Buffered S → Bool
  rests b = b.drained || (leb b.most b.unbrought && not b.ended)

  -- what its reads go by
  abbrev pub reads_by : Buffered S → Bool × Bool × Bool × ℕ × ℕ
  reads_by b = (b.drained, b.ended, b.cut, b.unbrought, b.most)

-- of what was written so many bytes have gone, and the others wait
pub record HasGone (written : List ℕ) (gone : ℕ) (waits : List ℕ) : Type 0 where
  pub some : gone ≤ length written
  pub others : waits ≡ drop gone written

-- the first of the bytes that waited were handed to the stream, each once, and the others wait on
pub record HandsFirst (before after : Option (List ℕ)) (waited waits : List ℕ) : Type 0 where
  pub handed : List ℕ
  pub first : waited ≡ handed ++ waits
  pub once : Appends before after handed
