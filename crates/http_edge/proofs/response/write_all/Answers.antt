use Rattle.http_edge.proofs.WireLemmas.{on_err, front_kept, written_more}
use Rattle.http_edge.proofs.response.write_all.Goals as goal

-- src/response.rt:105:18
pub returns-in_err-start-clause-front : goal.returns-in_err-start-clause-front
returns-in_err-start-clause-front g c =
    on_err _ _ (front_kept c.args.bytes.now c.loop-start.start _ _ _ c.loop-start.invariant.1 c.in_err-start.ensures.bytes)

-- src/response.rt:104:5
pub loop-start-preserved : goal.loop-start-preserved
loop-start-preserved g c =
    written_more c.args.bytes.now c.loop-start.start c.in_ok-start.field-0 _ _ _ c.loop-start.invariant.0 c.in_ok-start.ensures.bound c.loop-start.invariant.1 c.in_ok-start.ensures.bytes
