use Rattle.judge_audit.proofs.Placings.{placed_next}
use Rattle.judge_audit.proofs.placing.place_told.Goals as goal

pub loop-index-preserved : goal.loop-index-preserved
loop-index-preserved c =
    placed_next c.args.accounts.now c.args.recent.now c.args.least.now c.loop-index.least c.place.new.least c.loop-index.index c.queue_at-queue.result
    c.queue_at-queue.ensures c.loop-index.invariant c.place.ensures.placed c.place.ensures.tree
