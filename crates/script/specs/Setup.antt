-- The limits of a server.
use Rattle.std.specs.Prelude.{ℕ}
use Rattle.eio_wire.specs.declared.handshake.Numbers.{Numbers}
use Rattle.journal.specs.Plain.{Limits}
use Rattle.dispatch.specs.Holding.{PlainCore, new_core as core_with}
use Rattle.script.specs.declared.script_line.Key.{Key}
use Rattle.script.specs.declared.script_line.Key.TheVariants.{Capacity, Clients, Bytes, Log, LogBytes, Saved, Keep, FirstOffset}
use Rattle.settings.specs.Usual as usual

-- the limits where nothing is set, with the usual namespaces
abbrev pub USUAL : Limits
USUAL = record usual.hub { clients = 1024; capacity = 64 }

-- the limits with one that is set
abbrev pub with_limit : Key → ℕ → Limits → Limits
with_limit Capacity n s = record s { capacity = n }
with_limit Clients n s = record s { clients = n }
with_limit Bytes n s = record s { bytes = n }
with_limit Log n s = record s { log = n }
with_limit LogBytes n s = record s { log_bytes = n }
with_limit Saved n s = record s { saved = n }
with_limit Keep n s = record s { keep = n }
with_limit FirstOffset n s = record s { first_offset = n }

-- what a client is told of the usual timing, and that a payload has a million bytes at most
abbrev pub usual_numbers : Numbers
usual_numbers = record { ping_interval = 25000; ping_timeout = 20000; max_payload = 1000000 }

-- a core with these limits, to which nothing has happened
abbrev pub new_core : Limits → PlainCore
new_core limits = core_with limits (record { timing = usual.timing; numbers = usual_numbers })
