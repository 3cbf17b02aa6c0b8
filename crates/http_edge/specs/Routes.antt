-- What a request asks for (Engine.IO protocol 4, "HTTP long-polling", "WebSocket" and "Upgrade"):
-- the table of the server's one path.
use Rattle.std.specs.Prelude.{◌≡◌, ◌≢◌, ◌||◌, ◌&&◌, ℕ, Bool, not, false, List, [], ◌∷◌, Option, None, Some, is_some, is_none, bytes_eq, codes, cond, string_bytes}
use Rattle.std.specs.Option.{option_or}
use Rattle.std.specs.Str.Lossy.{utf8_lossy}
use Rattle.form_urlencoded.specs.Form.{raw_pairs, decode}
use Rattle.terms.specs.Ids.{id_digits}
use Rattle.http_edge.specs.declared.request.Request.{Request}
use Rattle.http_edge.specs.declared.routes.Refusal.{Refusal}
use Rattle.http_edge.specs.declared.routes.Refusal.TheVariants.{UnknownTransport, UnknownSession, BadMethod, BadRequest, UnsupportedVersion}
use Rattle.http_edge.specs.declared.routes.Target.{Target}

-- the text that a name or a value of a query stands for
abbrev pub decoded : List ℕ → List ℕ
decoded bytes = utf8_lossy (decode bytes)

-- the value, where the name is this key
abbrev pub under : List ℕ → List ℕ → List ℕ → Option (List ℕ)
under key name value = cond (bytes_eq name key) (Some value) None

-- the value of the first pair with this key
unfoldable pub first_among : List ℕ → List (List ℕ × List ℕ) → Option (List ℕ)
first_among key [] = None
first_among key (pair ∷ pairs) =
    option_or (under key (decoded pair.0) (decoded pair.1)) (first_among key pairs)

-- the value of a query's key: a key that comes again counts by its first
abbrev pub value_of : List ℕ → List ℕ → Option (List ℕ)
value_of key query = first_among key (raw_pairs query)

-- the value is there, and is this text
abbrev pub is_value : List ℕ → Option (List ℕ) → Bool
is_value text None = false
is_value text (Some value) = bytes_eq value text

-- the session id that a text is: its 32 digits, or none
abbrev pub IsIdOf : Option ℕ → List ℕ → Type 0
IsIdOf None text = (id : ℕ) → text ≢ id_digits id
IsIdOf (Some id) text = text ≡ id_digits id

-- the session id that is given: no `sid`, a `sid` that is no id, or an id
abbrev pub GivesId : Option (List ℕ) → Option (Option ℕ) → Type 0
GivesId None given = given ≡ None
GivesId (Some text) None = ⊥
GivesId (Some text) (Some id) = IsIdOf id text

-- the first row whose case holds, or the last answer
abbrev pub first_row : List (Bool × Target) → Target → Target
first_row [] last = last
first_row (row ∷ rows) last = cond row.0 row.1 (first_row rows last)

-- which end is asked for, where no row refuses: without a `sid` a new client,
-- else the one with this id
abbrev pub wanted : Bool → Bool → Option (Option ℕ) → Target
wanted socket get None = cond socket Target.OpenSocket Target.OpenPoll
wanted socket get (Some None) = Target.Refuse UnknownSession
wanted socket get (Some (Some id)) =
    cond socket (Target.ProbeSocket id) (cond get (Target.Poll id) (Target.Post id))

-- a `sid` is given, and it is no id
abbrev pub is_no_id : Option (Option ℕ) → Bool
is_no_id None = false
is_no_id (Some id) = is_none id

-- the table, row by row, for a path, a method, whether an upgrade is asked for, and
-- three keys of the query
unfoldable pub table :
    List ℕ → List ℕ → Bool → Option (List ℕ) → Option (Option ℕ) → Option (List ℕ) → Target
table path method upgrade transport sid version =
    let get = bytes_eq method (codes "GET") in
    let post = bytes_eq method (codes "POST") in
    let socket = is_value (codes "websocket") transport in
    let polling = is_value (codes "polling") transport in
    let served = bytes_eq path (codes "/socket.io/") || bytes_eq path (codes "/socket.io") in
    let misused = (socket && not (get && upgrade)) || (is_some sid && not (get || post)) in
    first_row
    ((not served, Target.NotFound)
    ∷ (not (polling || socket), Target.Refuse UnknownTransport)
    ∷ (is_no_id sid, Target.Refuse UnknownSession)
    ∷ (misused, Target.Refuse BadRequest)
    ∷ (is_none sid && not get, Target.Refuse BadMethod)
    ∷ (is_none sid && not (is_value (codes "4") version), Target.Refuse UnsupportedVersion)
    ∷ [])
    (wanted socket get sid)

-- what this request asks for
pub record IsRouted (q : Request) (target : Target) : Type 0 where
  -- the session id of its query
  pub sid : Option (Option ℕ)
  pub gives : GivesId (value_of (codes "sid") (string_bytes q.query)) sid
  -- the row of the table
  pub row : target ≡ table (string_bytes q.path) (string_bytes q.method) q.upgrade
      (value_of (codes "transport") (string_bytes q.query))
      sid
      (value_of (codes "EIO") (string_bytes q.query))

-- the body of status 400 (Engine.IO's server documentation, "connection_error":
-- its codes and messages)
abbrev pub refusal_text : Refusal → List ℕ
refusal_text UnknownTransport = codes "{\"code\":0,\"message\":\"Transport unknown\"}"
refusal_text UnknownSession = codes "{\"code\":1,\"message\":\"Session ID unknown\"}"
refusal_text BadMethod = codes "{\"code\":2,\"message\":\"Bad handshake method\"}"
refusal_text BadRequest = codes "{\"code\":3,\"message\":\"Bad request\"}"
refusal_text UnsupportedVersion = codes "{\"code\":5,\"message\":\"Unsupported protocol version\"}"
