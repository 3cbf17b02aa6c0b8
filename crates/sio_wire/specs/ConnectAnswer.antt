-- The server's answers to a CONNECT (Socket.IO protocol 5, "Connection to a namespace").
use Rattle.std.specs.Prelude.{ℕ, List, ◌++◌, codes}
use Rattle.json.specs.Print.{quoted}
use Rattle.terms.specs.Ids.{id_digits}
use Rattle.sio_wire.specs.Header.{space_text}

-- a CONNECT packet with the socket's session id and its private session id
abbrev pub connected_text : List ℕ → ℕ → ℕ → List ℕ
connected_text space sid pid = codes "0" ++ space_text space
    ++ codes "{\"sid\":\"" ++ id_digits sid ++ codes "\",\"pid\":\"" ++ id_digits pid ++ codes "\"}"

-- a CONNECT_ERROR packet with a message
abbrev pub refused_text : List ℕ → List ℕ → List ℕ
refused_text space message =
    codes "4" ++ space_text space ++ codes "{\"message\":" ++ quoted message ++ codes "}"
