-- A ping goes before the frames of entries, which are messages.
use Rattle.std.proofs.Common.{◌≡◌, Bool, true, false, List, [], ◌∷◌, refl}
use Rattle.terms.specs.declared.entry.Entry.{Entry}
use Rattle.events.specs.Frames.{frames_taken}
use Rattle.tcp_server.specs.Progress.{has_ping}

pub has_ping_of_taken : (ping : Bool) (entries : List Entry) → has_ping (frames_taken ping entries) ≡ ping
has_ping_of_taken true entries = refl
has_ping_of_taken false [] = refl
has_ping_of_taken false (first ∷ others) = refl
