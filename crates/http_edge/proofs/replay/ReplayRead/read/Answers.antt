use Rattle.std.proofs.Common.{rules, ◌≡◌, ◌≤◌, drop, length, arith, length-take}
use Rattle.http_edge.proofs.WireLemmas.{reads_behind, reads_front, reads_some}
use Rattle.http_edge.proofs.replay.ReplayRead.read.Goals as goal

-- src/replay.rt:36:13
pub returns-then-self-len-clause-bytes : goal.returns-then-self-len-clause-bytes
returns-then-self-len-clause-bytes g c =
    let past : length c.args.self.now.bytes.items ≤ c.args.self.now.start = search rules in
    reads_behind c.args.self.now.bytes.items c.args.self.now.start _ _ _ _ past c.read.ensures.bytes

-- src/replay.rt:34:5
pub returns-clause-bytes : goal.returns-clause-bytes
returns-clause-bytes g c =
    let start = c.args.self.now.start in
    let items = c.args.self.now.bytes.items in
    let given = c.copy_from_slice.new.self in
    let n = c.min-count.result in
    let from : c.deref.result.now ≡ c.args.self.now.bytes.items = c.deref.ensures.value in
    let after = rw from at c.copy_from_slice.ensures.after in
    let least = rw from at c.min-count.ensures in
    let count : length c.copy_from_slice.new.self ≡ c.min-count.result = grind (arith, length-take, c.copy_from_slice.ensures.len, c.min-count.ensures) in (
      reads_front items (drop n c.args.buf.now) given start n _ after count,
      λ none free. reads_some items c.args.buf.now given start n (search rules) least count none free,
    )
