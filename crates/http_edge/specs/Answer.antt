-- An HTTP answer (RFC 9112, sections 4 to 6), after which the connection closes.
use Rattle.std.specs.Prelude.{ℕ, List, [], ◌∷◌, ◌++◌, Option, Some, None, length, codes}
use Rattle.std.specs.Fmt.{decimal}
use Rattle.http_edge.specs.declared.response.Status.{Status}
use Rattle.http_edge.specs.declared.response.Status.TheVariants.{Success, NoContent, BadRequest, NotFound, TooLarge, Unavailable}

abbrev pub crlf : List ℕ
crlf = 13 ∷ 10 ∷ []

-- status-code (RFC 9110, section 15)
abbrev pub code_of : Status → ℕ
code_of Success = 200
code_of NoContent = 204
code_of BadRequest = 400
code_of NotFound = 404
code_of TooLarge = 413
code_of Unavailable = 503

-- reason-phrase
abbrev pub reason : Status → List ℕ
reason Success = codes "OK"
reason NoContent = codes "No Content"
reason BadRequest = codes "Bad Request"
reason NotFound = codes "Not Found"
reason TooLarge = codes "Payload Too Large"
reason Unavailable = codes "Service Unavailable"

-- a refusal says by JSON why it is one, all else is text
abbrev pub media_type : Status → List ℕ
media_type Success = codes "text/plain; charset=UTF-8"
media_type NoContent = codes "text/plain; charset=UTF-8"
media_type BadRequest = codes "application/json"
media_type NotFound = codes "text/plain; charset=UTF-8"
media_type TooLarge = codes "text/plain; charset=UTF-8"
media_type Unavailable = codes "text/plain; charset=UTF-8"

-- field-line CRLF
abbrev pub field : List ℕ → List ℕ → List ℕ
field name value = name ++ codes ": " ++ value ++ crlf

-- status-line = HTTP-version SP status-code SP reason-phrase, CRLF
abbrev pub status_line : ℕ → List ℕ → List ℕ
status_line code phrase = codes "HTTP/1.1 " ++ decimal code ++ codes " " ++ phrase ++ crlf

-- what a page of another origin may ask, and how many seconds its browser may remember that (Fetch standard, "CORS protocol")
abbrev pub permission : List ℕ
permission =
    field (codes "Access-Control-Allow-Methods") (codes "GET, POST")
    ++ field (codes "Access-Control-Allow-Headers") (codes "Content-Type")
    ++ field (codes "Access-Control-Max-Age") (codes "7200")

-- what so long a body is; an answer without one says what may be asked
abbrev pub content : Status → ℕ → List ℕ
content NoContent length = permission
content status length =
    field (codes "Content-Type") (media_type status)
    ++ field (codes "Content-Length") (decimal length)

-- whose pages may read the answer (the same section): those of this origin, if one is named
abbrev pub granted : Option (List ℕ) → List ℕ
granted None = []
granted (Some origin) =
    field (codes "Access-Control-Allow-Origin") origin ++ field (codes "Vary") (codes "Origin")

-- the bytes of an answer
unfoldable pub answer : Status → Option (List ℕ) → List ℕ → List ℕ
answer status origin body =
    status_line (code_of status) (reason status)
    ++ content status (length body)
    ++ granted origin
    ++ field (codes "Connection") (codes "close")
    ++ crlf ++ body
