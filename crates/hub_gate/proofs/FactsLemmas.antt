-- What a core keeps, said of the history that its look-ups show.
use Rattle.std.proofs.Common.{◌≡◌, ℕ, subst, sym, ◌∙◌}
use Rattle.room_maps.specs.Membership.{RoomSets}
use Rattle.room_maps.specs.Mirror.{SocketMap, RoomMap, IsMirrored}
use Rattle.journal.specs.Journal.{History}
use Rattle.journal.specs.Seal.{PlainEpoch}
use Rattle.journal.specs.Membership.{rooms}
use Rattle.journal.specs.Legal.{IsLegal, IsSound}
use Rattle.hub_gate.specs.Facts.{CastsOnce, HasMirror, HoldSame, IsKept, IsLong, IsOfCore}

-- two maps that hold these sets hold what two others hold that do
hold_same : (sets : RoomSets) (a : SocketMap) (b : RoomMap) (c : SocketMap) (d : RoomMap) → IsMirrored sets a b → IsMirrored sets c d → HoldSame a b c d
hold_same sets a b c d one two = record {
  sockets = λ sid. one.sockets sid ∙ sym (two.sockets sid);
  rooms_of = λ sid room. one.pairs.sockets_side sid room ∙ sym (two.pairs.sockets_side sid room);
  sockets_in = λ sid room. one.pairs.rooms_side sid room ∙ sym (two.pairs.rooms_side sid room);
}

mirror : (h : History) (a : SocketMap) (b : RoomMap) → IsMirrored (rooms h.base h.journal) a b → HasMirror h
mirror h a b mirrored = record {
  of_socket = a;
  of_room = b;
  mirrored = mirrored;
  lent = λ c d other. hold_same (rooms h.base h.journal) c d a b other mirrored;
}

pub kept-shown : (h s : History) (a : SocketMap) (b : RoomMap) → s ≡ h
    → IsLegal s.base s.limits s.journal → CastsOnce s → IsSound s.base s.limits s.journal → IsMirrored (rooms h.base h.journal) a b → IsKept h
kept-shown h s a b is legal casts sound mirrored = record {
  legal = subst (λ (k : History). IsLegal k.base k.limits k.journal) is legal;
  mirror = mirror h a b mirrored;
  sound = subst (λ (k : History). IsSound k.base k.limits k.journal) is sound;
  casts = subst CastsOnce is casts;
}

-- an epoch is all that a core had, whose journal is long
pub of-core : (least bytes : ℕ) (h shown k : History) (epoch : PlainEpoch) → h ≡ k → shown ≡ k → IsKept h → IsLong least bytes shown → epoch ≡ record { base = k.base; journal = k.journal } → IsOfCore least bytes epoch
of-core least bytes h shown k epoch same shows kept long is =
    rw is (record { limits = k.limits; kept = subst IsKept same kept; enough = subst (IsLong least bytes) shows long })
