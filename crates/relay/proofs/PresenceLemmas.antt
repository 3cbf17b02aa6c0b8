-- What is told of a socket that has ended holds no U+001E.
use Rattle.std.proofs.Common.{refl, ℕ, List, [], ◌∷◌, ◌++◌}
use Rattle.std.specs.Prelude.{codes}
use Rattle.terms.specs.Ids.{id_digits}
use Rattle.terms.specs.Room.{own_room}
use Rattle.eio_wire.specs.Payload.{IsWhole}
use Rattle.journal.specs.declared.ending.Ending.{Ending}
use Rattle.events.specs.App.{AllClean}
use Rattle.events.specs.declared.app.Who.{Who}
use Rattle.events.specs.Ending.{ending_word}
use Rattle.events.proofs.WholeLemmas.{holds_none, both, whole, whole-digits, whole-word}
use Rattle.relay.specs.Presence.{payload, others, event_for, told_of}

whole-payload : (sid : ℕ) (ending : Ending) → IsWhole (payload sid ending)
unfolding holds_none
whole-payload sid ending =
    let head = codes "[\"left\",\"" in
    let middle = codes "\",\"" in
    both (head ++ id_digits sid ++ middle ++ ending_word ending) (codes "\"]")
    (both (head ++ id_digits sid ++ middle) (ending_word ending)
    (both (head ++ id_digits sid) middle
    (both head (id_digits sid) (whole head refl) (whole-digits 32 sid))
    (whole middle refl))
    (whole-word ending))
    (whole (codes "\"]") refl)

clean-event_for : (rooms : List (List ℕ)) (who : Who) (ending : Ending) → AllClean (event_for rooms who ending)
clean-event_for [] who ending = tt
clean-event_for (room ∷ rooms) who ending = (whole-payload who.sid ending, tt)

pub clean-told : (who : Who) (rooms : List (List ℕ)) (ending : Ending) → AllClean (told_of who rooms ending)
clean-told who rooms ending = clean-event_for (others (own_room who.sid) rooms) who ending
