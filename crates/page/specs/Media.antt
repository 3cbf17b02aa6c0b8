-- What a file is, by the end of its name (RFC 9110, section 8.3.1; the types are
-- registered with IANA).
use Rattle.std.specs.Prelude.{ℕ, Bool, cond, List, codes, nat_eq}
use Rattle.std.specs.List.{ends_with}

-- a name ends so
abbrev pub ends : List ℕ → List ℕ → Bool
ends name ending = ends_with nat_eq name ending

-- the type of a picture, or bytes
abbrev pub image_type : List ℕ → List ℕ
image_type name =
    cond (ends name (codes ".svg")) (codes "image/svg+xml")
    (cond (ends name (codes ".png")) (codes "image/png")
    (cond (ends name (codes ".jpg")) (codes "image/jpeg")
    (cond (ends name (codes ".jpeg")) (codes "image/jpeg")
    (cond (ends name (codes ".gif")) (codes "image/gif")
    (cond (ends name (codes ".webp")) (codes "image/webp")
    (cond (ends name (codes ".ico")) (codes "image/x-icon")
    (codes "application/octet-stream")))))))

-- the type of a file
abbrev pub media_type : List ℕ → List ℕ
media_type name =
    cond (ends name (codes ".html")) (codes "text/html; charset=UTF-8")
    (cond (ends name (codes ".css")) (codes "text/css; charset=UTF-8")
    (cond (ends name (codes ".js")) (codes "text/javascript; charset=UTF-8")
    (cond (ends name (codes ".json")) (codes "application/json")
    (cond (ends name (codes ".txt")) (codes "text/plain; charset=UTF-8")
    (cond (ends name (codes ".woff2")) (codes "font/woff2")
    (image_type name))))))
