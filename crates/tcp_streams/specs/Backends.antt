-- What is known of the backends before one has come.
use Rattle.std.specs.Prelude.{ℕ, not, List, filter, bytes_eq}
use Rattle.journal.specs.Plain.{Limits}
use Rattle.tcp_streams.specs.declared.shared.Backends.{Backends}

-- the names but for one
abbrev pub others_than : (space : List ℕ) → (names : List (List ℕ)) → List (List ℕ)
others_than space names = filter (λ name. not (bytes_eq name space)) names

-- the namespace that they join, the names of the others, and how many entries and bytes an outbox may have
pub record Known : Type 0 where
  pub space : List ℕ
  pub others : List (List ℕ)
  pub capacity : ℕ
  pub bytes : ℕ

abbrev pub known_of : Backends → Known
known_of b = record { space = b.space; others = b.others.items; capacity = b.capacity; bytes = b.bytes }

-- what is known, by the limits of the hub, of the backends that join a namespace
abbrev pub known_by : Limits → (space : List ℕ) → Known
known_by limits space =
    record {
      space = space;
      others = others_than space limits.spaces;
      capacity = limits.capacity;
      bytes = limits.bytes;
    }
