-- With what a hub may be made, and how it begins.
use Rattle.std.specs.Prelude.{ℕ, ◌==◌, Bool, false, not, ◌&&◌, ◌||◌, List, [], ◌∷◌, length, slice_index, nat_lt, bytes_eq, Option, Some}
use Rattle.std.specs.List.{list_any}
use Rattle.terms.specs.Refusal.{first_refusal}
use Rattle.journal.specs.declared.error.HubError.{HubError}
use Rattle.journal.specs.declared.error.HubError.TheVariants.{BadConfig}
use Rattle.journal.specs.Plain.{Limits, PlainBase}

-- a namespace begins with `/` and has no comma and no character under U+0020
abbrev pub is_namespace : List ℕ → Bool
is_namespace name = slice_index name 0 == 47 && not (list_any (λ b. b == 44 || nat_lt b 32) name)

-- some name stands twice
abbrev pub has_repeat : List (List ℕ) → Bool
has_repeat [] = false
has_repeat (name ∷ names) = list_any (bytes_eq name) names || has_repeat names

-- a limit that must be at least 1 is 0, the capacity is over 65,536, or the list of namespaces is
-- empty, longer than 65,536, names one twice or one that is none
abbrev pub is_bad_config : Limits → Bool
is_bad_config limits =
    limits.clients == 0
    || limits.capacity == 0 || limits.bytes == 0 || limits.log == 0 || limits.log_bytes == 0
    || limits.first_offset == 0
    || nat_lt 65536 limits.capacity
    || length limits.spaces == 0 || nat_lt 65536 (length limits.spaces)
    || has_repeat limits.spaces || list_any (λ name. not (is_namespace name)) limits.spaces

abbrev pub config_refusal : Limits → Option HubError
config_refusal limits = first_refusal ((is_bad_config limits, BadConfig) ∷ [])

-- the state of a new hub, whose first offset this is
abbrev pub empty_base : ℕ → PlainBase
empty_base first =
    record {
      at = 0;
      next = Some first;
      clients = [];
      pairs = [];
      log = [];
      saved = [];
      totals =
          record { commands = 0; placed = 0; dropped = 0; taken = 0; discarded = 0; waiting = 0 };
    }
