-- The head of an answer that is a file (RFC 9112, sections 4 and 5), after which
-- the connection closes.
use Rattle.std.specs.Prelude.{ℕ, List, ◌++◌, Option, codes}
use Rattle.std.specs.Fmt.{decimal}
use Rattle.http_edge.specs.Answer.{crlf, field, granted}
use Rattle.page.specs.Media.{media_type}

-- what stands before so many bytes of the file with this name; it may name an origin
unfoldable pub head_of : List ℕ → ℕ → Option (List ℕ) → List ℕ
head_of name length origin =
    codes "HTTP/1.1 200 OK" ++ crlf
    ++ field (codes "Content-Type") (media_type name)
    ++ field (codes "Content-Length") (decimal length)
    ++ field (codes "X-Content-Type-Options") (codes "nosniff")
    ++ field (codes "Cache-Control") (codes "no-cache")
    ++ granted origin
    ++ field (codes "Connection") (codes "close")
    ++ crlf
