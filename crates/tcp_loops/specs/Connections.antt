-- The connections of a loop: what is done with one leaves the others as they were.
use Rattle.std.specs.Prelude.{◌≡◌, ◌≢◌, ◌⊎◌, ◌&&◌, if◌then◌else◌, ℕ, Bool, true, false, Option, None, Some, is_some, List}
use Rattle.std.specs.Box.{box_value}
use Rattle.std.specs.declared.boxed.Box.{Box}
use Rattle.std.specs.declared.alloc.Global.{Global}
use Rattle.events.specs.declared.event.Event.{Event}
use Rattle.http_edge.specs.declared.routes.Target.{Target}
use Rattle.loop_rules.specs.Course as courses
use Rattle.loop_rules.specs.Lateness.{due_at, kept_link}
use Rattle.loop_rules.specs.Link as one
use Rattle.loop_rules.specs.Link.{seen_gone}
use Rattle.loop_rules.specs.Heard.{reads_ahead}
use Rattle.loop_rules.specs.Links.{after_answer, link_at, put_at}
use Rattle.loop_rules.specs.Sending.{after_failure, after_sent, failed_at, sent_at}
use Rattle.loop_rules.specs.declared.link.Do.{Do}
use Rattle.loop_rules.specs.declared.link.Do.TheVariants as what
use Rattle.loop_rules.specs.declared.link.Link.{Link}
use Rattle.loop_rules.specs.declared.link.Seen.{Seen}
use Rattle.loop_rules.specs.declared.links.Links.{Links}
use Rattle.loop_rules.specs.declared.looks.Found.TheVariants as found
use Rattle.slab.specs.Slab.{get, slab_len}
use Rattle.tcp_loops.specs.Services.{seen_of}
use Rattle.tcp_loops.specs.declared.connections.Connection.{Connection}
use Rattle.tcp_loops.specs.declared.connections.Connections.{Connections}
use Rattle.tcp_loops.specs.declared.service.Service.{Service}
use Rattle.tcp_loops.specs.declared.service.Service.TheVariants as service

module _ {R : Type 0} where
  abbrev pub count_of : Connections R → ℕ
  count_of c = slab_len c.slots

  -- the connection with a key, if there is one
  abbrev pub connection_at : (key : ℕ) → Connections R → Option (Box (Connection R) Global)
  connection_at key c = get c.slots key

  abbrev pub is_there : (key : ℕ) → Connections R → Bool
  is_there key c = is_some (connection_at key c)

  abbrev pub seen_so : Option (Box (Connection R) Global) → Seen
  seen_so None = seen_gone
  seen_so (Some b) = seen_of (box_value b).service

  abbrev pub seen_at : (key : ℕ) → Connections R → Seen
  seen_at key c = seen_so (connection_at key c)

  abbrev pub link_of : (key : ℕ) → Connections R → Link
  link_of key c = link_at c.links.links.items key

  abbrev pub service_so : Option (Box (Connection R) Global) → Service R
  service_so None = service.Gone
  service_so (Some b) = (box_value b).service

  -- who serves the connection with a key
  abbrev pub service_at : (key : ℕ) → Connections R → Service R
  service_at key c = service_so (connection_at key c)

  -- what follows where a connection goes on before its event is answered, if it does
  abbrev pub what_ahead : (key : ℕ) → Event → Connections R → Option Do
  what_ahead key event c =
      if is_there key c && reads_ahead (seen_at key c).unbrought (link_of key c).left event
      then Some (after_answer key found.More (one.is_full (seen_at key c)) c.links) else None

  -- each other connection stays as it was, and so does what it is about
  pub record OnlyAt (key : ℕ) (old new : Connections R) : Type 0 where
    pub connections : (k : ℕ) → k ≢ key → connection_at k new ≡ connection_at k old
    pub links : (k : ℕ) → k ≢ key → link_of k new ≡ link_of k old

  abbrev pub SameConnections : (old new : Connections R) → Type 0
  SameConnections old new = (k : ℕ) → connection_at k new ≡ connection_at k old

  -- a connection has come whose request is to come
  pub record Adds (key now : ℕ) (old new : Connections R) : Type 0 where
    pub was : connection_at key old ≡ None
    pub there : is_there key new ≡ true
    pub begins : link_of key new ≡ one.first now
    pub only : OnlyAt key old new

-- a connection closes
abbrev pub Closes : (key now : ℕ) → (old new : List Link) → Type 0
Closes key now old new = new ≡ put_at key (one.closed now (link_at old key)) old

-- a request is served as its target wants from some moment on, or its connection closes
abbrev pub IsServedOrCloses : (key : ℕ) → Target → (now : ℕ) → (old new : List Link) → Type 0
IsServedOrCloses key t now old new =
    Closes key now old new
    ⊎ ((events : ℕ) × (from : ℕ)
    × (new ≡ put_at key (one.served (courses.serving_of t events from) (courses.client_of t) now (link_at old key)) old))

-- what is sent, or can't be, moves the link as `links` says, and so follows what is to be done
abbrev pub SendsAt : (key now : ℕ) → (old new : List Link) → Do → Type 0
SendsAt key now old new d =
    ((count : ℕ) × (seen : Seen) × (is_request : Bool) × (d ≡ after_sent seen is_request (link_at old key))
    × (new ≡ sent_at key count seen is_request now old))
    ⊎ ((is_request : Bool) × (d ≡ after_failure is_request (link_at old key)) × (new ≡ failed_at key is_request now old))

-- it is over where that is to be done, or where the other side can't be told that nothing more comes
abbrev pub IsOver : Do → (over : Bool) → Type 0
IsOver what.End over = over ≡ true
IsOver what.Shut over = Unit {0}
IsOver _ over = over ≡ false

-- it is over, as what is sent wants
abbrev pub IsSent : (key now : ℕ) → (old new : List Link) → (over : Bool) → Type 0
IsSent key now old new over = (d : Do) × SendsAt key now old new d × IsOver d over

-- so `links` says of one of which this is seen
abbrev pub KeepsDeadline : (key : ℕ) → (cutting : Bool) → (now : ℕ) → (old : Links) → (new : List Link) → (over : Bool) → Type 0
KeepsDeadline key cutting now old new over =
    (seen : Seen) × (new ≡ put_at key (kept_link key seen cutting now old) old.links.items)
    × IsOver (due_at key seen cutting now old) over
