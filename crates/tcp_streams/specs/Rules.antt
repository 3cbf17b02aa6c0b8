-- What a server's settings come to.
use Rattle.std.specs.Prelude.{◌&&◌, ◌||◌, ◌*◌, ◌/◌, ℕ, Bool, cond, List, Option, None, Some, max, bytes_eq, codes, string_bytes}
use Rattle.http_edge.specs.Routes.{is_value}
use Rattle.http_edge.specs.declared.request.Request.{Request}
use Rattle.loop_rules.specs.declared.paces.Pace.{Pace}
use Rattle.page.specs.Pages as pages
use Rattle.page.specs.Pages.{Files}
use Rattle.page.specs.declared.file.File.{File}
use Rattle.settings.specs.declared.settings.Pace.{Pace as Asked}

-- a client that sent too fast waits for three eighths of the time for the answer to a ping at most, or for a second
abbrev pub pace_of : (ping_timeout : ℕ) → Option Asked → Option Pace
pace_of ping_timeout None = None
pace_of ping_timeout (Some asked) =
    Some (record { rate = asked.rate; burst = asked.burst; stretch = max (ping_timeout / 8 * 3) 1000 })

-- its method is a GET, or a HEAD
abbrev pub is_get : Request → Bool
is_get r = bytes_eq (string_bytes r.method) (codes "GET")

abbrev pub is_head : Request → Bool
is_head r = bytes_eq (string_bytes r.method) (codes "HEAD")

-- a GET at their path asks for the counts, if they have one
abbrev pub asks_for_counts : (path : Option (List ℕ)) → Request → Bool
asks_for_counts path r = is_get r && is_value (string_bytes r.path) path

-- a GET or a HEAD asks for the file that the page has at its path (RFC 9110, sections 9.3.1 and 9.3.2)
abbrev pub file_for : Files → Request → Option File
file_for page r = cond (is_get r || is_head r) (pages.file_for (string_bytes r.path) page) None
