-- Who isn't read on, where much of what comes isn't whole.
use Rattle.std.specs.Prelude.{◌≡◌, ◌⊎◌, ℕ, false, Option, None, Some, List}
use Rattle.loop_rules.specs.Receiving.{counted_of, overdue_of}
use Rattle.loop_rules.specs.Rotas.{Waiting, called_at}
use Rattle.loop_rules.specs.declared.receiving.Receiving.{Receiving}
use Rattle.loop_rules.specs.declared.receiving.Sender.{Sender}
use Rattle.loop_rules.specs.declared.receiving.Sender.TheVariants as sender
use Rattle.loop_rules.specs.Course.{is_receiving}
use Rattle.loop_rules.specs.Link.{bytes_unfinished}
use Rattle.loop_rules.specs.Links.{link_at, put_at}
use Rattle.loop_rules.specs.declared.link.Link.{Link}
use Rattle.loop_rules.specs.declared.link.Seen.{Seen}
use Rattle.loop_rules.specs.declared.links.Links.{Links}

-- whose turn it is, and who is held, stays the same
pub record SameTurns (old new : Receiving) : Type 0 where
  pub share : new.share ≡ old.share
  pub held : new.held ≡ old.held
  pub ahead : new.ahead ≡ old.ahead

-- what came of a connection counts from now on, or where there is no memory for it, what did before
pub record IsCounted (seen : Seen) (old new : Link) : Type 0 where
  pub link : new ≡ record old { counted = new.counted }
  pub counted : (new.counted ≡ counted_of (bytes_unfinished seen old)) ⊎ (new.counted ≡ old.counted)

-- only one that is received is held, and one that is held stays so
pub record IsSettled (seen : Seen) (old new : Link) : Type 0 where
  pub link : new ≡ record old { counted = new.counted; held = new.held }
  pub counted : (new.counted ≡ counted_of (bytes_unfinished seen old)) ⊎ (new.counted ≡ old.counted)
  pub receives : is_receiving old.course ≡ false → new.held ≡ old.held

-- the first connection that is held is held no more
abbrev pub IsCalled : Option ℕ → (old new : List Link) → Type 0
IsCalled None old new = new ≡ old
IsCalled (Some key) old new = new ≡ put_at key (record (link_at old key) { held = false }) old

-- and has something to do
abbrev pub called_if : Option ℕ → Waiting → Waiting
called_if None w = w
called_if (Some key) w = called_at key w

-- the client of who goes on beyond the share for too long
abbrev pub client_by : Option Sender → List Link → Option ℕ
client_by None links = None
client_by (Some (sender.Client client)) links = Some client
client_by (Some (sender.Connection key)) links = (link_at links key).client

abbrev pub overdue_client : (now : ℕ) → Links → Option ℕ
overdue_client now l = client_by (overdue_of now l.receiving.ahead) l.links.items
