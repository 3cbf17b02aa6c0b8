use Rattle.std.proofs.Common.{◌^◌, ◌<◌, sym, subst, arith, Some, []}
use Rattle.recovery.specs.PacketLog.{IsLog, IsLogOf, contents}
use Rattle.recovery.specs.Latest.{Shelf}
use Rattle.recovery.proofs.PacketLogLemmas.{log_new, log_empty}
use Rattle.recovery.proofs.packet_log.PacketLog.new.Goals as goal

pub invariant_of-result : goal.invariant_of-result
invariant_of-result c =
    let P : Shelf → Type 0 = λ s. IsLog (contents s.limit s.bytes (Some c.args.first) 0 s.entries) in
    subst P (sym c.in_ok-latest.ensures) (log_empty c.args.limit c.args.bytes c.args.first c.requires.limit)

pub returns-clause-leads : goal.returns-clause-leads
returns-clause-leads c =
    let P : Shelf → Type 0 = λ s. IsLogOf c.args.first [] (contents s.limit s.bytes (Some c.args.first) 0 s.entries) in
    let fits : c.args.first < 2 ^ 64 = omega arith in
    subst P (sym c.in_ok-latest.ensures) (log_new c.args.limit c.args.bytes c.args.first fits)
