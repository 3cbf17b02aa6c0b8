-- What connections have to send.
use Rattle.std.specs.Prelude.{◌≡◌, ◌<◌, ℕ, Bool, true, false, Option, None, Some, cond, List, [], ◌∷◌, length}
use Rattle.loop_rules.specs.Rotas.{Waiting, called_at, look_of, will_look}
use Rattle.loop_rules.specs.declared.looks.LookState.{LookState}
use Rattle.loop_rules.specs.declared.looks.LookState.TheVariants as state
use Rattle.loop_rules.specs.Link as link
use Rattle.loop_rules.specs.Links.{link_at, put_at}
use Rattle.loop_rules.specs.declared.link.Do.{Do}
use Rattle.loop_rules.specs.declared.link.Do.TheVariants as what
use Rattle.loop_rules.specs.declared.link.Link.{Link}
use Rattle.loop_rules.specs.declared.link.Seen.{Seen}
use Rattle.loop_rules.specs.declared.links.Links.{Links}

-- one that may have bytes to send stands in the list, or where there is no memory for that, it will look
pub record IsNoted (key : ℕ) (old new : Links) : Type 0 where
  pub listed : key < length old.links.items → key < length old.roster.rota.looks → (link_at new.links.items key).unsent ≡ false
      → will_look (look_of new.roster.rota.looks key) ≡ true

abbrev pub first_of : List ℕ → Option ℕ
first_of [] = None
first_of (key ∷ keys) = Some key

abbrev pub others_of : List ℕ → List ℕ
others_of [] = []
others_of (key ∷ keys) = keys

-- what a driver is told once bytes were sent: others were called
abbrev pub told : Do → Do
told what.Shut = what.Shut
told what.End = what.End
told _ = what.Nothing

abbrev pub after_sent : Seen → (is_request : Bool) → Link → Do
after_sent seen is_request l = told (link.after_sending seen is_request l)

abbrev pub sent_link : (count : ℕ) → Seen → (is_request : Bool) → (now : ℕ) → Link → Link
sent_link count seen is_request now l =
    link.shut_if (link.after_sending seen is_request l) now (link.moved_on count seen.unsent now l)

abbrev pub sent_at : (key count : ℕ) → Seen → (is_request : Bool) → (now : ℕ) → List Link → List Link
sent_at key count seen is_request now links =
    put_at key (sent_link count seen is_request now (link_at links key)) links

abbrev pub is_full_look : LookState → Bool
is_full_look state.Full = true
is_full_look _ = false

-- the next piece of a file, one whose stream is shut, and one that waits until its bytes have gone
abbrev pub is_called : Do → LookState → Bool
is_called what.Queue s = true
is_called what.Shut s = true
is_called what.Fit s = is_full_look s
is_called _ s = false

abbrev pub called_by : (key : ℕ) → Do → Waiting → Waiting
called_by key d w = cond (is_called d (look_of w.looks key)) (called_at key w) w

abbrev pub called_after : (key : ℕ) → Seen → (is_request : Bool) → Links → Waiting
called_after key seen is_request l =
    called_by key (link.after_sending seen is_request (link_at l.links.items key)) l.roster.rota

-- what a driver is told where bytes can't be sent
abbrev pub told_failure : Do → Do
told_failure what.Queue = what.Nothing
told_failure d = d

abbrev pub after_failure : (is_request : Bool) → Link → Do
after_failure is_request l = told_failure (link.after_failure is_request l)

abbrev pub failed_at : (key : ℕ) → (is_request : Bool) → (now : ℕ) → List Link → List Link
failed_at key is_request now links = put_at key (link.after_unsendable is_request now (link_at links key)) links
