-- Of which options no server is made.
use Rattle.std.specs.Prelude.{◌≡◌, ◌-◌, ◌++◌, drop, if◌then◌else◌, ◌&&◌, ◌||◌, ◌==◌, ℕ, Bool, true, false, List, [], ◌∷◌, Option, None, Some, Result, Ok, Err, bytes_eq, codes, is_some, length, map, nat_lt, not, option_map, slice_index, string_bytes}
use Rattle.std.specs.Char.{is_ascii_digit, is_ascii_graphic, is_ascii_lowercase}
use Rattle.std.specs.List.{after_first, before_first, list_any, position_or_len}
use Rattle.terms.specs.Refusal.{first_refusal}
use Rattle.journal.specs.Config.{is_bad_config}
use Rattle.journal.specs.Plain.{Limits}
use Rattle.settings.specs.Wrong.{wrong_setting}
use Rattle.settings.specs.declared.settings.Settings.{Settings}
use Rattle.arguments.specs.declared.wrong.Wrong.{Wrong}
use Rattle.arguments.specs.declared.wrong.Wrong.TheVariants as wrong

-- a byte that the scheme or the host of an origin may have
abbrev pub is_part_byte : ℕ → Bool
is_part_byte b = is_ascii_lowercase b || is_ascii_digit b || list_any (λ c. b == c) (codes "+-._:[]")

abbrev pub has_strange_part : List ℕ → Bool
has_strange_part text = list_any (λ b. not (is_part_byte b)) text

-- a scheme with its colon
abbrev pub is_scheme : List ℕ → Bool
is_scheme text =
    nat_lt 1 (length text) && slice_index text (length text - 1) == 58 && not (has_strange_part text)

-- a slash with a host behind it
abbrev pub is_host : List ℕ → Bool
is_host text = nat_lt 1 (length text) && slice_index text 0 == 47 && not (has_strange_part (drop 1 text))

-- SCHEME://HOST, which has a slash behind the colon and another behind that; without a slash only `*`,
-- which stands for all, and `null`
abbrev pub is_origin : List ℕ → Bool
is_origin text =
    if nat_lt (position_or_len (λ b. b == 47) text) (length text)
    then is_scheme (before_first (λ b. b == 47) text) && is_host (after_first (λ b. b == 47) text)
    else bytes_eq text (codes "*") || bytes_eq text (codes "null")

abbrev pub are_origins : List (List ℕ) → Bool
are_origins origins = not (list_any (λ origin. not (is_origin origin)) origins)

-- ASCII without blanks, `?` and `#`
abbrev pub is_path_byte : ℕ → Bool
is_path_byte b = is_ascii_graphic b && not (b == 63) && not (b == 35)

abbrev pub is_of_socket : List ℕ → Bool
is_of_socket path = bytes_eq path (codes "/socket.io") || bytes_eq path (codes "/socket.io/")

-- it begins with `/`, and is not the socket's
abbrev pub is_path : List ℕ → Bool
is_path text =
    slice_index text 0 == 47 && not (list_any (λ b. not (is_path_byte b)) text) && not (is_of_socket text)

-- limits with the namespaces that are left are allowed, and with this one more they aren't
pub record IsFirstBad (left : Limits) (space : List ℕ) : Type 0 where
  pub allowed : is_bad_config left ≡ false
  pub refused : is_bad_config (record left { spaces = left.spaces ++ space ∷ [] }) ≡ true

-- a namespace is told where one is wrong, else the setting
abbrev pub ChecksSetting : Settings → Settings → Result Unit Wrong → Type 0
ChecksSetting old new (Ok done) = wrong_setting old ≡ None
ChecksSetting old new (Err (wrong.Space space)) = IsFirstBad new.hub space
ChecksSetting old new (Err (wrong.Setting setting)) = wrong_setting old ≡ Some setting
ChecksSetting old new (Err other) = ⊥

-- the path of the counts, where there is one
abbrev pub is_right_path : Option (List ℕ) → Bool
is_right_path None = true
is_right_path (Some path) = is_path path

-- something is asked for, and what it needs isn't there
abbrev pub need_refusal : (is_asked is_there : Bool) → Wrong → Option Wrong
need_refusal is_asked is_there wrong = first_refusal ((is_asked && not is_there, wrong) ∷ [])

-- how many at once is said, and not how many a second
abbrev pub burst_refusal : Option ℕ → Option ℕ → Option Wrong
burst_refusal rate burst = need_refusal (is_some burst) (is_some rate) wrong.BurstAlone

-- sockets are to be ended by tokens, and no token is verified
abbrev pub expiry_refusal : Bool → Bool → Option Wrong
expiry_refusal ends has_keys = need_refusal ends has_keys wrong.NothingExpires

abbrev pub same_token : Option (List ℕ) → Option (List ℕ) → Bool
same_token (Some a) (Some b) = bytes_eq a b
same_token a b = false

-- the demonstration app isn't there to tell who left; clients would be backends
abbrev pub backend_refusal : Option (List ℕ) → Option (List ℕ) → Bool → Option Wrong
backend_refusal backend token tells =
    first_refusal ((is_some backend && tells, wrong.NobodyTells) ∷ (same_token backend token, wrong.OneToken) ∷ [])

-- settings of which a server is made
pub record IsRight (s : Settings) (rate burst : Option ℕ) : Type 0 where
  pub settings : wrong_setting s ≡ None
  pub origins : are_origins (map string_bytes s.origins.items) ≡ true
  pub metrics : is_right_path (option_map string_bytes s.metrics) ≡ true
  pub at_once : burst_refusal rate burst ≡ None
