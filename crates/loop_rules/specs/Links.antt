-- The connections of a loop as values, by their keys.
use Rattle.std.specs.Prelude.{◌≡◌, ◌≢◌, ◌-◌, ℕ, Bool, false, Option, None, Some, cond, nat_lt, List, length, slice_index_or, slice_set}
use Rattle.events.specs.Answer.{Answer}
use Rattle.events.specs.declared.event.Event.{Event}
use Rattle.events.specs.declared.outcome.Outcome.TheVariants as outcome
use Rattle.std.specs.Prelude.{Ok}
use Rattle.loop_rules.specs.declared.looks.Decision.{Decision}
use Rattle.loop_rules.specs.declared.looks.Decision.TheVariants as decision
use Rattle.loop_rules.specs.declared.looks.Found.{Found}
use Rattle.loop_rules.specs.declared.receiving.Receiving.{Receiving}
use Rattle.loop_rules.specs.declared.receiving.Sender.{Sender}
use Rattle.loop_rules.specs.declared.receiving.Sender.TheVariants as sender
use Rattle.loop_rules.specs.declared.pressure.Pressure.{Pressure}
use Rattle.loop_rules.specs.declared.roster.Takers.{Takers}
use Rattle.loop_rules.specs.Pressures.{holds}
use Rattle.loop_rules.specs.Receiving.{has_room, limit_of, next_of, IsDone}
use Rattle.loop_rules.specs.Rotas.{Waiting, decision_at, followed_at}
use Rattle.loop_rules.specs.Decisions.{left_after}
use Rattle.loop_rules.specs.Takers.{is_taker, taker_of}
use Rattle.loop_rules.specs.Unfinished.{bytes_of}
use Rattle.loop_rules.specs.Course.{assigned, brought}
use Rattle.loop_rules.specs.Heard.{asks_due}
use Rattle.loop_rules.specs.Link.{most_of, over, sender_of}
use Rattle.loop_rules.specs.declared.link.Do.{Do}
use Rattle.loop_rules.specs.declared.link.Do.TheVariants as what
use Rattle.loop_rules.specs.declared.link.Link.{Link}
use Rattle.loop_rules.specs.declared.links.Links.{Links}

-- the connection with a key; one that is over where there is none
abbrev pub link_at : List Link → (key : ℕ) → Link
link_at links key = slice_index_or links key over

-- it is so now
abbrev pub put_at : (key : ℕ) → Link → List Link → List Link
put_at key l links = cond (nat_lt key (length links)) (slice_set links key l) links

-- nothing but the connections changed
pub record KeepsAllBut (old new : Links) : Type 0 where
  pub roster : new.roster ≡ old.roster
  pub receiving : new.receiving ≡ old.receiving
  pub pressure : new.pressure ≡ old.pressure
  pub paces : new.paces ≡ old.paces
  pub delays : new.delays ≡ old.delays
  pub unsent : new.unsent ≡ old.unsent

-- each other one is as it was
abbrev pub KeepsOthers : (key : ℕ) → (old new : Links) → Type 0
KeepsOthers key old new = (k : ℕ) → k ≢ key → link_at new.links.items k ≡ link_at old.links.items k

-- what befalls one befalls none of the others
abbrev pub changed_at : (key : ℕ) → (Link → Link) → Links → List Link
changed_at key change l = put_at key (change (link_at l.links.items key)) l.links.items

-- who sends over a connection
abbrev pub sender_at : (key : ℕ) → List Link → Sender
sender_at key links = sender_of key (link_at links key)

-- how many bytes of attachments a sender has begun to send
abbrev pub bytes_attached : Sender → Receiving → ℕ
bytes_attached (sender.Client client) r = bytes_of r.attachments client
bytes_attached (sender.Connection key) r = 0

-- how many bytes of a sender may be unfinished, beside its attachments
abbrev pub limit_for : Sender → Receiving → ℕ
limit_for s r = limit_of (has_room r) s r.ahead - bytes_attached s r

abbrev pub limit_at : (key : ℕ) → Links → ℕ
limit_at key l = limit_for (sender_at key l.links.items) l.receiving

-- up to how many bytes that aren't whole a connection is read
abbrev pub most_at : (key : ℕ) → Links → ℕ
most_at key l = most_of (limit_at key l) (link_at l.links.items key)

-- a backend of its client is pressed
abbrev pub is_pressed : Sender → (now : ℕ) → Pressure → Bool
is_pressed (sender.Client client) now p = holds p client now
is_pressed (sender.Connection key) now p = false

-- what is put for a client doesn't go over this connection
abbrev pub IsReleased : (key : ℕ) → Option ℕ → Takers → Type 0
IsReleased key None t = Unit {0}
IsReleased key (Some client) t = is_taker (taker_of t client) key ≡ false

-- so it is, and who is held stays so
pub record IsLeft (s : Sender) (bytes : ℕ) (old new : Receiving) : Type 0 where
  pub turn : IsDone s bytes old new
  pub held : new.held ≡ old.held

-- the first connection that is held, if it may be read on
abbrev pub next_held : Receiving → Option ℕ
next_held r = next_of (has_room r) r.ahead r.held.items

-- the connection over which its client is told what is put for it
abbrev pub takes_for : Option ℕ → (key : ℕ) → Takers → Bool
takes_for None key t = false
takes_for (Some client) key t = is_taker (taker_of t client) key

abbrev pub is_taker_at : (key : ℕ) → Links → Bool
is_taker_at key l = takes_for (link_at l.links.items key).client key l.roster.takers

-- ## Stints

abbrev pub begun_link : Option ℕ → List Link → List Link
begun_link None links = links
begun_link (Some key) links = put_at key (record (link_at links key) { left = 48 }) links

-- an event was brought
abbrev pub brought_at : (key : ℕ) → Event → (moment : ℕ) → List Link → List Link
brought_at key e moment links =
    let l : Link = link_at links key in
    put_at key (record l { course = brought (asks_due e) moment l.course }) links

-- where a client was opened, it is known from then on whose the connection is
abbrev pub known_by : (key : ℕ) → Answer → List Link → List Link
known_by key (Ok (outcome.Opened o)) links = put_at key (record (link_at links key) { client = Some o.client }) links
known_by key _ links = links

-- what follows an answer that says this
abbrev pub decision_after : (key : ℕ) → Found → (full : Bool) → Links → Decision
decision_after key f full l = decision_at key (link_at l.links.items key).left f full l.roster.rota

-- so many events are left of its stint then
abbrev pub followed_links : (key : ℕ) → Found → (full : Bool) → Links → List Link
followed_links key f full l =
    let one : Link = link_at l.links.items key in
    put_at key (record one { left = left_after one.left (decision_after key f full l) }) l.links.items

abbrev pub do_by : Decision → Do
do_by decision.GoesOn = what.GoOn
do_by _ = what.Send

abbrev pub after_answer : (key : ℕ) → Found → (full : Bool) → Links → Do
after_answer key f full l = do_by (decision_after key f full l)

abbrev pub followed : (key : ℕ) → Found → (full : Bool) → Links → Waiting
followed key f full l = followed_at key f (decision_after key f full l) l.roster.rota

-- what is put for its client goes over it
abbrev pub assigned_at : (key : ℕ) → List Link → List Link
assigned_at key links = let l : Link = link_at links key in put_at key (record l { course = assigned l.course }) links
