use Rattle.std.proofs.Common.{string_bytes}
use Rattle.fairexec_report.proofs.StatLemmas.{before_queues, after_queue}
use Rattle.fairexec_report.proofs.stats.put_queues.Goals as goal

pub loop-queue-init : goal.loop-queue-init
loop-queue-init c = λ burst journal knows. before_queues c.args.core burst journal (string_bytes c.args.page.now)

pub loop-queue-preserved : goal.loop-queue-preserved
loop-queue-preserved c = λ burst journal knows. after_queue c.loop-queue.queue c.args.core burst journal _ _ _ (c.loop-queue.invariant burst journal knows) (c.in_ok-put_queue.ensures burst journal knows)
