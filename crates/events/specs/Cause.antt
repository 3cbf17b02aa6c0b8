-- Why a client is closed that sent what can't be read, and the names of all causes.
use Rattle.std.specs.Prelude.{ℕ, List, codes}
use Rattle.eio_wire.specs.declared.error.WireError.{WireError}
use Rattle.eio_wire.specs.declared.error.WireError.TheVariants as wire
use Rattle.sio_wire.specs.declared.error.SioError.{SioError}
use Rattle.sio_wire.specs.declared.error.SioError.TheVariants as sio
use Rattle.events.specs.declared.cause.Cause.{Cause}
use Rattle.events.specs.declared.cause.Cause.TheVariants as cause

-- a payload's fault by its name; the last two are no faults of a payload that came
abbrev pub cause_of_wire : WireError → Cause
cause_of_wire wire.Empty = cause.Empty
cause_of_wire wire.BadType = cause.BadType
cause_of_wire wire.BadBase64 = cause.BadBase64
cause_of_wire wire.Memory = cause.BadType
cause_of_wire wire.Separator = cause.BadType

-- a packet's fault by its name; want of memory is none
abbrev pub cause_of_sio : SioError → Cause
cause_of_sio sio.BadKind = cause.BadKind
cause_of_sio sio.BadCount = cause.BadCount
cause_of_sio sio.BadId = cause.BadId
cause_of_sio sio.BadJson = cause.BadJson
cause_of_sio sio.BadShape = cause.BadShape
cause_of_sio sio.Reserved = cause.Reserved
cause_of_sio sio.BadPlaceholder = cause.BadPlaceholder
cause_of_sio sio.TooMany = cause.TooMany
cause_of_sio sio.TextAwaitingBinary = cause.TextAwaitingBinary
cause_of_sio sio.BinaryUnawaited = cause.BinaryUnawaited
cause_of_sio sio.Memory = cause.BadKind

-- the name of a cause
abbrev pub cause_name : Cause → List ℕ
cause_name cause.Empty = codes "Empty"
cause_name cause.BadType = codes "BadType"
cause_name cause.BadBase64 = codes "BadBase64"
cause_name cause.BadKind = codes "BadKind"
cause_name cause.BadCount = codes "BadCount"
cause_name cause.BadId = codes "BadId"
cause_name cause.BadJson = codes "BadJson"
cause_name cause.BadShape = codes "BadShape"
cause_name cause.Reserved = codes "Reserved"
cause_name cause.BadPlaceholder = codes "BadPlaceholder"
cause_name cause.TooMany = codes "TooMany"
cause_name cause.TextAwaitingBinary = codes "TextAwaitingBinary"
cause_name cause.BinaryUnawaited = codes "BinaryUnawaited"
cause_name cause.NotJoined = codes "NotJoined"
cause_name cause.AlreadyConnected = codes "AlreadyConnected"
cause_name cause.PingFromClient = codes "PingFromClient"
cause_name cause.ClientClosed = codes "ClientClosed"
cause_name cause.DoubleGet = codes "DoubleGet"
cause_name cause.TooLong = codes "TooLong"
cause_name cause.PingTimeout = codes "PingTimeout"
cause_name cause.ConnectTimeout = codes "ConnectTimeout"
cause_name cause.OutboxFull = codes "OutboxFull"
