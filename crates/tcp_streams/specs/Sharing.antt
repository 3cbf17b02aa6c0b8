-- What the threads of a server share.
use Rattle.std.specs.Prelude.{◌≡◌, ◌+◌, min, Bool, Option, is_some, vec_len}
use Rattle.std.specs.declared.alloc.Global.{Global}
use Rattle.std.specs.declared.vec.Vec.{Vec}
use Rattle.tcp_streams.specs.declared.shared.Backends.{Backends}
use Rattle.tcp_streams.specs.declared.inbox.Inbox.{Inbox}
use Rattle.tcp_streams.specs.declared.shared.Shared.{Shared}

-- each loop has its inbox; there is a place for what is shown to each loop and to the keeper; and it is known who is
-- there where somebody hears of clients
pub record Begins (its_inboxes : Vec Inbox Global) (known : Option Backends) (hears_clients : Bool) (s : Shared) : Type 0 where
  pub inboxes : s.inboxes ≡ its_inboxes
  pub backends : s.backends ≡ known
  pub lives : is_some s.lives ≡ hears_clients
  pub places : vec_len s.showing ≡ min (vec_len its_inboxes + 1) 18446744073709551615
