-- What the server itself acknowledges an event with (Socket.IO protocol 5, "Acknowledgement").
use Rattle.std.specs.Prelude.{ℕ, List, [], ◌∷◌, ◌++◌, Option, None, Some, codes}
use Rattle.terms.specs.Ids.{id_digits}
use Rattle.room_maps.specs.declared.error.RoomError.{RoomError}
use Rattle.room_maps.specs.declared.error.RoomError.TheVariants as refusal

-- why an effect was skipped, in words
abbrev pub refusal_words : RoomError → List ℕ
refusal_words refusal.Memory = codes "no memory"
refusal_words refusal.UnknownSocket = codes "unknown socket"
refusal_words refusal.AlreadyIn = codes "already in"
refusal_words refusal.NotIn = codes "not in"
refusal_words refusal.OwnRoom = codes "own room"
refusal_words refusal.TooManyRooms = codes "too many rooms"
refusal_words refusal.SidTaken = codes "sid taken"

-- what a report says: nothing was skipped, or why the first effect was
abbrev pub report_text : Option RoomError → List ℕ
report_text None = codes "[\"ok\"]"
report_text (Some refused) = codes "[\"error\",\"" ++ refusal_words refused ++ codes "\"]"

-- an id in quotes, after this
abbrev pub quoted : (before : List ℕ) → (sid : ℕ) → List ℕ
quoted before sid = before ++ id_digits sid ++ codes "\""

-- further ids, each after a comma
abbrev pub more_ids : List ℕ → List ℕ
more_ids [] = []
more_ids (sid ∷ sids) = quoted (codes ",\"") sid ++ more_ids sids

-- ids in quotes with commas between
abbrev pub ids_text : List ℕ → List ℕ
ids_text [] = []
ids_text (sid ∷ sids) = quoted (codes "\"") sid ++ more_ids sids

-- the ids of sockets as a list
abbrev pub list_text : List ℕ → List ℕ
list_text sids = codes "[\"ok\",[" ++ ids_text sids ++ codes "]]"
