-- Which pages use the server, and which of them may read its answers (Fetch standard, "CORS protocol").
use Rattle.std.specs.Prelude.{◌≡◌, ◌||◌, ℕ, Bool, List, [], ◌∷◌, Option, None, Some, String, bytes_eq, codes, cond, option_map, string_bytes}
use Rattle.std.specs.declared.alloc.Global.{Global}
use Rattle.std.specs.List.{list_any}
use Rattle.http_edge.specs.declared.request.Request.{Request}
use Rattle.http_edge.specs.declared.routes.Refusal.TheVariants.{BadRequest}
use Rattle.http_edge.specs.declared.routes.Target.{Target}
use Rattle.http_edge.specs.declared.routes.Target.TheVariants.{Refuse, Preflight}
use Rattle.http_edge.specs.declared.routes.Access.{Access}
use Rattle.http_edge.specs.declared.routes.Access.TheVariants.{Served, Granted, Refused}
use Rattle.http_edge.specs.Routes.{IsRouted}

-- the server names this origin, or all of them
abbrev pub is_named : (origin : List ℕ) → List (String Global) → Bool
is_named origin named =
    list_any (λ name. bytes_eq (string_bytes name) (codes "*") || bytes_eq (string_bytes name) origin) named

-- a server that names origins serves those alone, and requests that have none
abbrev pub access_of : List (String Global) → Option (List ℕ) → Access
access_of named None = Served
access_of [] (Some origin) = Served
access_of (name ∷ names) (Some origin) = cond (is_named origin (name ∷ names)) Granted Refused

-- a page that may read the answers and asks by OPTIONS is told what it may ask
abbrev pub preflight_or : List ℕ → Target → Target
preflight_or method (Refuse why) = cond (bytes_eq method (codes "OPTIONS")) Preflight (Refuse why)
preflight_or method target = target

-- what a request asks for, where the table of routes says this
abbrev pub target_for : Access → (method : List ℕ) → Target → Target
target_for Served method target = target
target_for Granted method target = preflight_or method target
target_for Refused method target = Refuse BadRequest

-- the origin that an answer names
abbrev pub origin_for : Access → Option (String Global) → Option (String Global)
origin_for Granted origin = origin
origin_for access origin = None

-- this is what the request asks for, and its origin is kept where the answer names it
pub record IsDirected (named : List (String Global)) (old : Request) (wanted : Target) (new : Request) : Type 0 where
  -- by the table of routes
  pub routed : Target
  pub row : IsRouted old routed
  pub target : wanted
      ≡ target_for (access_of named (option_map string_bytes old.origin)) (string_bytes old.method) routed
  pub origin : new ≡ record old
      { origin = origin_for (access_of named (option_map string_bytes old.origin)) old.origin }
