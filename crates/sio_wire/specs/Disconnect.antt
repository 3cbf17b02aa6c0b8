-- The server's DISCONNECT (Socket.IO protocol 5, "Disconnection from a namespace").
use Rattle.std.specs.Prelude.{ℕ, List, ◌++◌, codes}
use Rattle.sio_wire.specs.Header.{space_text}

-- a DISCONNECT packet for a namespace
abbrev pub disconnect_text : List ℕ → List ℕ
disconnect_text space = codes "1" ++ space_text space
