-- What a server that listens is.
use Rattle.std.specs.Prelude.{ℕ}
use Rattle.std.specs.Arc.{arc_value}
use Rattle.tcp_streams.specs.declared.shared.Shared.{Shared}
use Rattle.tcp_server.specs.declared.server.Server.{Server}

module _ {L : Type 0} where
  -- the port at which it listens
  abbrev pub port : Server L → ℕ
  port s = s.port

  -- what all of its threads share
  abbrev pub shared_by : Server L → Shared
  shared_by s = arc_value s.shared
