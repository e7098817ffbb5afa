use Rattle.core_queues.proofs.Words.{ap, arith, Queue, queues_alone, sym}
use Rattle.core_queues.proofs.Spots.{queue_read}
use Rattle.core_queues.proofs.Views.{exists-view, length-parked_of}
use Rattle.core_queues.proofs.queues.Queues.parked_count.Goals as goal

pub index-requires : goal.index-requires
index-requires g c =
    let exists = exists-view c.self.inside.room c.self.inside.jobs c.self.inside.lines.items (ap queues_alone c.self.view_is) c.requires.exists in
    omega (arith, exists, c.queue.view_is)

pub returns : goal.returns
returns g c =
    let inside = c.self.inside in
    let lines = inside.lines.items in
    let exists = exists-view inside.room inside.jobs lines (ap queues_alone c.self.view_is) c.requires.exists in
    let here = queue_read lines c.queue.inside.0 c.args.queue c.index.result.now (omega (arith, exists, c.queue.view_is)) c.index.ensures c.queue.view_is in
    rw (← c.self.view_is) (sym (length-parked_of c.self.invariant.0 c.args.queue c.index.result.now.parked (ap (λ (q : Queue). q.parked) here)))
