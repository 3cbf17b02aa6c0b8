use Rattle.std.proofs.Common.{rules, ◌≡◌, ◌++◌, refl, append_assoc, string_bytes}
use Rattle.std.specs.Option.{option_map_or}
use Rattle.std.specs.List.{before_last}
use Rattle.sio_wire.specs.Header.{front_text}
use Rattle.sio_wire.specs.Offset.{is_bracket, payload_with_offset}
use Rattle.sio_wire.proofs.OffsetLemmas.{Plain-packet}
use Rattle.sio_wire.proofs.header.write_packet.Goals as goal
use Rattle.sio_wire.proofs.header.write_packet.Goals.{in-Some+in_ok-kept-in-Some, in-None, in-Some-offset+in_ok-push_offset, in_default}

pub returns-clause-ok : goal.returns-clause-ok
returns-clause-ok c =
    let front = c.args.front.now in
    let payload = c.args.payload.now in
    let begun : string_bytes c.push_str.new.self ≡ front_text front ++ c.match-offset.kept.now = rw (c.in_ok-push_str.ensures.bytes, c.in_ok-push_front.ensures, c.in_ok-text.ensures.bytes) refl in
    let written : string_bytes c.match-offset-2.text ≡ front_text front ++ option_map_or (payload_with_offset payload) c.args.offset payload = elim c.match-offset-2.branch [
      | in-Some-offset+in_ok-push_offset w ↦ elim c.match-offset.branch [
        | in-Some+in_ok-kept-in-Some v ↦ (let cut : v.in_ok-kept-in-Some.kept.now ≡ before_last is_bracket payload = rw v.in_ok-kept-in-Some.ensures.ok_part at v.before_bracket.ensures.front in
            rw (w.text-is, w.in_ok-push_offset.ensures, begun, v.kept-is, cut, w.in-Some-offset.is) (append_assoc (front_text front) _ _))
        | in-None v ↦ cc
      ]
      | in_default w ↦ elim c.match-offset.branch [
        | in-Some+in_ok-kept-in-Some v ↦ absurd (search rules)
        | in-None v ↦ rw (w.text-is, begun, v.kept-is, v.in-None.is) refl
      ]
    ] in
    rw written (Plain-packet front payload c.args.offset)
