-- Bytes that come, and frames that are whole.
use Rattle.std.proofs.Common.{◌≡◌, inl, inr, ℕ, List, [], ◌++◌, Option, None, Ok, Err, Result, true, refl, sym, ap, subst, ◌∙◌, append_assoc, append-nil}
use Rattle.tungstenite.proofs.SocketLemmas.{consumes-nil, consumes-chain}
use Rattle.websocket.specs.Connection.{Connection, Effect, can_read, check_open, read_step}
use Rattle.websocket.specs.Frame.{decode_frame}
use Rattle.websocket.specs.FrameHeader.{decode_header}
use Rattle.websocket.specs.declared.protocol.config.Role.{Role}
use Rattle.websocket.specs.declared.protocol.state.WebSocketState.{WebSocketState}
use Rattle.websocket.specs.declared.protocol.state.WebSocketState.TheVariants as state
use Rattle.websocket.specs.declared.error.Error.{Error}
use Rattle.websocket.specs.declared.protocol.frame.codec.FrameStatus.{FrameStatus}
use Rattle.websocket.specs.declared.protocol.frame.codec.FrameStatus.TheVariants.{Partial, Complete}
use Rattle.peers.specs.FrameSocket.{Socket}
use Rattle.peers.specs.Incoming.{HasRead, Steps, Works}

is-open : (r : Role) (s : WebSocketState) → can_read s ≡ true → check_open r s ≡ Ok tt
is-open r state.Active h = refl
is-open r state.ClosedByUs h = refl
is-open r state.ClosedByPeer h = cc h
is-open r state.CloseAcknowledged h = cc h
is-open r state.Failed h = cc h
is-open r state.Terminated h = cc h

-- of no bytes there is no frame yet, as long as it is read
nothing-read : (c : Connection) → can_read c.state ≡ true → read_step c [] ≡ Ok (Partial 1)
unfolding read_step decode_frame decode_header
nothing-read c h = rw (is-open c.role c.state h) refl

module _ {S : Type 0} where
  pub read-none : (rem : S → Option (List ℕ)) (v : Socket S) → HasRead rem [] v v
  read-none rem v = record { conn = refl; input = sym (append-nil v.input); taken = consumes-nil (rem v.stream) }

  pub read-more : (rem : S → Option (List ℕ)) (a b c : Socket S) (got more : List ℕ) → HasRead rem got a b → HasRead rem more b c → HasRead rem (got ++ more) a c
  read-more rem a b c got more h k = record {
    conn = k.conn ∙ h.conn;
    input = k.input ∙ ap (λ x. x ++ more) h.input ∙ append_assoc a.input got more;
    taken = consumes-chain (rem a.stream) (rem b.stream) (rem c.stream) got more h.taken k.taken;
  }

  works-none : (contents : S → Option (List ℕ)) (r : Result (FrameStatus (ℕ × Effect)) Error) (a b : Socket S) → Works contents r a None b → b ≡ a
  works-none contents (Ok (Partial n)) a b h = h.1
  works-none contents (Ok (Complete p)) a b h = absurd h
  works-none contents (Err e) a b h = absurd h

  -- where no frame is whole nothing has changed
  pub same-without-frame : (contents : S → Option (List ℕ)) (a b : Socket S) → Steps contents a None b → b ≡ a
  same-without-frame contents a b (inl h) = works-none contents (read_step a.conn a.input) a b h
  same-without-frame contents a b (inr h) = cc h

  works-nothing : (contents : S → Option (List ℕ)) (r : Result (FrameStatus (ℕ × Effect)) Error) (a : Socket S) → r ≡ Ok (Partial 1) → Works contents r a None a
  works-nothing contents r a e = subst (λ q. Works contents q a None a) (sym e) (refl, refl)

  pub no-frame-of-nothing : (contents : S → Option (List ℕ)) (a : Socket S) → a.input ≡ [] → can_read a.conn.state ≡ true → Steps contents a None a
  no-frame-of-nothing contents a none reads = inl (works-nothing contents _ a (ap (λ i. read_step a.conn i) none ∙ nothing-read a.conn reads))
