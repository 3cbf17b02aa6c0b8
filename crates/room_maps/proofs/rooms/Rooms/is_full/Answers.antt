use Rattle.std.proofs.Common.{◌≡◌, sym, ap, ◌∙◌, rules}
use Rattle.std.specs.Prelude.{None, Some}
use Rattle.std.specs.FinSet as set
use Rattle.std.specs.List.Sorted.{IsStrictlySortedBy}
use Rattle.room_maps.specs.Membership.{rooms_in}
use Rattle.room_maps.proofs.MirrorLemmas.{room_count_of}
use Rattle.room_maps.proofs.rooms.Rooms.is_full.Goals as goal

pub returns-in-Some : goal.returns-in-Some
returns-in-Some c =
    let count : c.len.result ≡ set.len (rooms_in c.args.self.now c.args.sid) = c.len.ensures.len
    ∙ sym (room_count_of c.self.inside.by_socket c.args.self.now c.args.sid (ap (λ v. v.pairs) (sym c.self.view_is)) (Some c.in-Some.rooms.now) (sym c.in-Some.ensures.value) c.len.ensures.ordered) in
    rw (← count) (search rules)

pub returns-in-None : goal.returns-in-None
unfolding IsStrictlySortedBy
returns-in-None c =
    let count : 0 ≡ set.len (rooms_in c.args.self.now c.args.sid) =
    sym (room_count_of c.self.inside.by_socket c.args.self.now c.args.sid (ap (λ v. v.pairs) (sym c.self.view_is)) None (sym c.in-None.ensures.value) tt) in
    rw (← count) (search rules)
