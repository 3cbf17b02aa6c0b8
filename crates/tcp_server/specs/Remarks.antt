-- What is counted, and when the log is told how much of it.
use Rattle.std.specs.Prelude.{◌≡◌, ℕ, ◌+◌, ◌-◌, ◌*◌, ◌&&◌, ◌||◌, min, max, nat_lt, nat_le, Bool, is_some, if◌then◌else◌, List, length, slice_get, Option, None, Some}
use Rattle.std.specs.Option.{option_map_or}
use Rattle.std.specs.BTreeMap.{btree_map_len}
use Rattle.room_maps.specs.Mirror.{SocketMap, RoomMap, IsMirrored}
use Rattle.hub_state.specs.Words.{logs, rooms_now, saves}
use Rattle.dispatch.specs.Holding.{PlainCore}
use Rattle.metrics.specs.declared.metrics.Refusals.{Refusals}
use Rattle.metrics.specs.declared.metrics.Sizes.{Sizes}
use Rattle.metrics.specs.declared.reason.Reason.{Reason}
use Rattle.metrics.specs.Reason.{number_of}
use Rattle.tcp_server.specs.declared.keeper.Remarks.{Remarks}
use Rattle.tcp_server.specs.declared.keeper.Sums.{Sums}

-- ---- the totals

-- they are told every so many seconds, and the moment has come
abbrev pub reports : (every : Option ℕ) → (now : ℕ) → Remarks → Bool
reports every now r = is_some every && nat_le r.report now

-- the next ones are told so many seconds later
abbrev pub after_report : (every : Option ℕ) → (now : ℕ) → Remarks → Remarks
after_report None now r = r
after_report (Some every) now r =
    if nat_le r.report now then record r { report = min (now + every * 1000) 18446744073709551615 } else r

-- ---- what is told at most once a minute

-- how many more there are than were told, where there are more, and the moment has come
abbrev pub more_to_tell : (sum told now from : ℕ) → Option ℕ
more_to_tell sum told now from = if nat_lt told sum && nat_le from now then Some (sum - told) else None

abbrev pub more_unheard : Sums → (now : ℕ) → Remarks → Option ℕ
more_unheard sums now r = more_to_tell sums.unheard r.told.unheard now r.remark

abbrev pub more_crowded : Sums → (now : ℕ) → Remarks → Option ℕ
more_crowded sums now r = more_to_tell sums.crowded r.told.crowded now r.remark

abbrev pub has_more : Sums → Sums → Bool
has_more sums told = nat_lt told.unheard sums.unheard || nat_lt told.crowded sums.crowded

-- so much was told, and more is told a minute later at the earliest
abbrev pub with_told : Sums → (now : ℕ) → Remarks → Remarks
with_told sums now r =
    record {
      report = r.report;
      remark = min (now + 60000) 18446744073709551615;
      told = record { unheard = max sums.unheard r.told.unheard; crowded = max sums.crowded r.told.crowded };
    }

abbrev pub after_remark : Sums → (now : ℕ) → Remarks → Remarks
after_remark sums now r = if has_more sums r.told && nat_le r.remark now then with_told sums now r else r

-- ---- what is counted

-- the warden has one client, with one socket in one room
abbrev pub own : (has_warden : Bool) → ℕ
own has_warden = if has_warden then 1 else 0

-- how many there are of each, but for so many; of sockets and rooms as the two maps of the history's rooms have them
pub record AreSizes (core : PlainCore) (own : ℕ) (sizes : Sizes) : Type 0 where
  pub clients : sizes.clients ≡ length core.lines - own
  pub of_socket : SocketMap
  pub of_room : RoomMap
  pub mirrored : IsMirrored (rooms_now core.hub.history) of_socket of_room
  pub sockets : sizes.sockets ≡ btree_map_len of_socket - own
  pub rooms : sizes.rooms ≡ btree_map_len of_room - own
  pub saved : sizes.saved ≡ length (saves core.hub.history)
  pub logged : sizes.logged ≡ length (logs core.hub.history)

-- each reason has its place
abbrev pub refused_for : Reason → List Refusals → ℕ
refused_for reason counts = option_map_or (λ it. it.count) (slice_get counts (number_of reason)) 0
