-- What a connection is about.
use Rattle.std.specs.Prelude.{ℕ, Bool, true, false, Option, None, Some, cond, List}
use Rattle.http_edge.specs.declared.routes.Target.{Target}
use Rattle.http_edge.specs.declared.routes.Target.TheVariants as target
use Rattle.loop_rules.specs.Packets.{carried}
use Rattle.loop_rules.specs.declared.link.Course.{Course}
use Rattle.loop_rules.specs.declared.link.Course.TheVariants as course
use Rattle.loop_rules.specs.declared.link.Serving.{Serving}
use Rattle.loop_rules.specs.declared.link.Serving.TheVariants as serving

-- by what a request is served
abbrev pub serving_of : Target → (events from : ℕ) → Serving
serving_of (target.Post client) events from = serving.Post events
serving_of target.OpenSocket events from = serving.Socket false 0
serving_of (target.ProbeSocket client) events from = serving.Socket false 0
serving_of _ events from = serving.Request from

-- how many events of its client it brings, where they count
abbrev pub events_in : Target → (body : List ℕ) → (count : Bool) → ℕ
events_in (target.Post client) body count = cond count (carried body) 0
events_in _ body count = 0

-- whose it is, where it names a client
abbrev pub client_of : Target → Option ℕ
client_of (target.Poll client) = Some client
client_of (target.Post client) = Some client
client_of (target.ProbeSocket client) = Some client
client_of _ = None

abbrev pub is_post : Course → Bool
is_post (course.Serves (serving.Post events)) = true
is_post _ = false

abbrev pub is_socket : Course → Bool
is_socket (course.Serves (serving.Socket speaks asked)) = true
is_socket _ = false

-- a client is known to send over it
abbrev pub speaks : Course → Bool
speaks (course.Serves (serving.Post events)) = true
speaks (course.Serves (serving.Socket own asked)) = own
speaks _ = false

-- it is read for a request or for messages, or is to bring packets
abbrev pub is_receiving : Course → Bool
is_receiving course.Gathers = true
is_receiving (course.Serves (serving.Post events)) = true
is_receiving (course.Serves (serving.Socket speaks asked)) = true
is_receiving _ = false

-- how many events it brings next
abbrev pub events_next : Course → ℕ
events_next (course.Serves (serving.Post events)) = events
events_next (course.Serves (serving.Socket speaks asked)) = 1
events_next _ = 0

-- an event was brought: a POST has no more packets, and a WebSocket was asked what is due
abbrev pub brought : (asks_due : Bool) → (moment : ℕ) → Course → Course
brought asks_due moment (course.Serves (serving.Post events)) = course.Serves (serving.Request 0)
brought true moment (course.Serves (serving.Socket speaks asked)) = course.Serves (serving.Socket speaks moment)
brought asks_due moment other = other

-- what is put for its client goes over it
abbrev pub assigned : Course → Course
assigned (course.Serves (serving.Socket speaks asked)) = course.Serves (serving.Socket true asked)
assigned other = other
