-- A request (RFC 9112): a head, of which `httparse` has the grammar, and the
-- body that belongs to it.
use Rattle.std.specs.Prelude.{◌≡◌, ◌<◌, ◌≤◌, ◌==◌, ℕ, Bool, true, false, cond, List, [], ◌∷◌, Option, None, Some, length, map, filter, option_map, All, IsTrue, IsUtf8, codes, bytes_eq, string_bytes}
use Rattle.std.specs.List.{list_any, before_first, after_first}
use Rattle.std.specs.Char.{is_ascii_digit}
use Rattle.std.specs.Str.{str_eq_ignore_ascii_case}
use Rattle.std.specs.Str.Parse.{digits_value}
use Rattle.httparse.specs.Grammar.{RequestHead, ReadsRequest, print_request}
use Rattle.httparse.specs.Spans.{name_and_value}
use Rattle.http_edge.specs.declared.request.Request.{Request}

-- ---- fields (section 5)

abbrev pub Fields : Type 0
Fields = List (List ℕ × List ℕ)

-- the names and values of a head
abbrev pub fields_of : RequestHead → Fields
fields_of h = map name_and_value h.fields

-- the values under this name, in any case
abbrev pub values : List ℕ → Fields → List (List ℕ)
values name fields =
    map (λ field. field.1) (filter (λ field. str_eq_ignore_ascii_case field.0 name) fields)

-- the one value of a name, where it is text
abbrev pub IsOnlyText : List (List ℕ) → Option (List ℕ) → Type 0
IsOnlyText found None = (value : List ℕ) → found ≡ value ∷ [] → ¬ IsUtf8 value
IsOnlyText found (Some text) = (found ≡ text ∷ []) × IsUtf8 text

-- an Upgrade field that is `websocket`, in any case (RFC 6455, section 4.2.1)
abbrev pub is_upgrade : List ℕ × List ℕ → Bool
is_upgrade field =
    cond (str_eq_ignore_ascii_case field.0 (codes "upgrade"))
    (str_eq_ignore_ascii_case field.1 (codes "websocket"))
    false

-- ---- the length of a body (section 6)

-- one to nine digits
abbrev pub IsLength : List ℕ → Type 0
IsLength text = (0 < length text) × (length text ≤ 9) × All (λ b. IsTrue (is_ascii_digit b)) text

-- the fields name this length: one Content-Length, and no Transfer-Encoding
abbrev pub NamesLength : Fields → ℕ → Type 0
NamesLength fields n =
    (text : List ℕ) × (values (codes "content-length") fields ≡ text ∷ [])
    × IsLength text × (n ≡ digits_value 10 text)
    × (values (codes "transfer-encoding") fields ≡ [])

abbrev pub is_post : RequestHead → Bool
is_post h = bytes_eq h.method (codes "POST")

-- how long a body is: that of a POST has the length that is named, and no other request has one
abbrev pub HasLength : Bool → Fields → ℕ → Type 0
HasLength true fields n = NamesLength fields n × (n ≤ 1000000)
HasLength false fields n = n ≡ 0

-- the length of the body that belongs to a head
abbrev pub HasBodyOf : RequestHead → ℕ → Type 0
HasBodyOf h n = HasLength (is_post h) (fields_of h) n

-- ---- a request and its parts

abbrev pub is_question : ℕ → Bool
is_question b = b == 63

-- the path stands before the target's first `?`, and the query behind it (section 3.2)
abbrev pub IsTargetOf : List ℕ → List ℕ → List ℕ → Type 0
IsTargetOf target path query =
    (path ≡ before_first is_question target) × (query ≡ after_first is_question target)

-- the bytes are one request, and q holds its parts
pub record Asked (q : Request) (bytes : List ℕ) : Type 0 where
  pub parsed : RequestHead
  pub reads : ReadsRequest bytes parsed (string_bytes q.body)
  pub few : length parsed.fields ≤ 100
  pub short : length (print_request parsed) ≤ 16384
  pub belongs : HasBodyOf parsed (length (string_bytes q.body))
  pub method : string_bytes q.method ≡ parsed.method
  pub target : IsTargetOf parsed.target (string_bytes q.path) (string_bytes q.query)
  pub upgrade : q.upgrade ≡ list_any is_upgrade (fields_of parsed)
  pub origin : IsOnlyText
      (values (codes "origin") (fields_of parsed)) (option_map string_bytes q.origin)
  pub head : q.head.items ≡ print_request parsed
