-- What a connection does in its stint.
use Rattle.std.specs.Prelude.{◌≡◌, ◌⊎◌, ◌<◌, ◌||◌, ℕ, Bool, true, false, Option, Some, cond, List, nat_lt}
use Rattle.loop_rules.specs.Paces.{allowance, WaitsUntil}
use Rattle.loop_rules.specs.declared.looks.Pause.TheVariants as pause
use Rattle.loop_rules.specs.declared.receiving.Receiving.{Receiving}
use Rattle.loop_rules.specs.declared.receiving.Sender.{Sender}
use Rattle.loop_rules.specs.declared.receiving.Sender.TheVariants as sender
use Rattle.loop_rules.specs.Course.{events_next, is_post}
use Rattle.loop_rules.specs.Link.{closed, failed, next_of, sender_of}
use Rattle.loop_rules.specs.Links.{limit_for, put_at}
use Rattle.loop_rules.specs.declared.link.Course.{Course}
use Rattle.loop_rules.specs.declared.link.Do.{Do}
use Rattle.loop_rules.specs.declared.link.Do.TheVariants as what
use Rattle.loop_rules.specs.declared.link.Link.{Link}
use Rattle.loop_rules.specs.declared.link.Seen.{Seen}
use Rattle.loop_rules.specs.declared.paces.Paces.{Paces}

-- until when it waits whose client sends it: no time where that isn't bounded
abbrev pub PacesClient : Option Paces → Sender → Course → (now until : ℕ) → Type 0
PacesClient (Some p) (sender.Client client) c now until =
    WaitsUntil p.pace (allowance p client) (events_next c) now until
PacesClient _ s c now until = until ≡ 0

-- where much waits for its backend, that stays as it was
abbrev pub IsPaced : (pressed : Bool) → Option Paces → Sender → Link → (now until : ℕ) → Type 0
IsPaced true p s l now until = until ≡ l.paced
IsPaced false p s l now until = PacesClient p s l.course now until

-- a connection waits where much waits for its backend, or where its client sent too fast; nothing else of it changes
pub record LooksAhead (pressed : Bool) (p : Option Paces) (key now : ℕ) (old new : Link) : Type 0 where
  pub link : new ≡ record old { waits = new.waits; paced = new.paced }
  pub waits : new.waits ≡ (pressed || nat_lt 0 new.paced)
  pub paced : IsPaced pressed p (sender_of key old) old now new.paced

-- a POST brings its packets only where it needn't wait and there is room for what isn't whole; else it rests
abbrev pub Posts : (key : ℕ) → Seen → (now : ℕ) → Receiving → Link → Do → (old new : List Link) → Type 0
Posts key seen now r l d old new =
    ((l.waits ≡ false) × (seen.unbrought < limit_for (sender_of key l) r) × (d ≡ next_of seen now l) × (new ≡ old))
    ⊎ ((d ≡ what.Rest pause.Done) × ((new ≡ old) ⊎ (new ≡ put_at key (record l { waits = true }) old)))

abbrev pub PostsOrNot : Bool → (key : ℕ) → Seen → (now : ℕ) → Receiving → Link → Do → (old new : List Link) → Type 0
PostsOrNot true key seen now r l d old new = Posts key seen now r l d old new
PostsOrNot false key seen now r l d old new = (d ≡ next_of seen now l) × (new ≡ old)

-- it does what is next once it was found whether it waits
abbrev pub DoesNext : (pressed : Bool) → Option Paces → (key : ℕ) → Seen → (now : ℕ) → Receiving → Link → Do
    → (old new : List Link) → Type 0
DoesNext pressed p key seen now r l d old new =
    (ahead : Link) × LooksAhead pressed p key now l ahead
    × PostsOrNot (is_post ahead.course) key seen now r ahead d (put_at key ahead old) new

-- its peer brings no event: where it has failed, its client is lost and the stint goes on; else it closes, and rests
abbrev pub ended : Bool → (now : ℕ) → Link → Link
ended has_failed now l = cond has_failed (failed now l) (closed now l)

abbrev pub after_end : Bool → Do
after_end has_failed = cond has_failed what.GoOn (what.Rest pause.Done)
