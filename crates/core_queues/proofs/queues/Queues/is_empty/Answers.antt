use Rattle.core_queues.proofs.Words.{ap, arith, eq-eqb, eqb-true, length, nil_from_length, Queue, queues_alone, sym, ◌∙◌}
use Rattle.core_queues.specs.Queues.{waiting_of}
use Rattle.core_queues.proofs.Spots.{queue_read}
use Rattle.core_queues.proofs.Views.{alone, exists-view, length-waiting_of}
use Rattle.core_queues.proofs.queues.Queues.is_empty.Goals as goal

pub index-requires : goal.index-requires
index-requires g c =
    let exists = exists-view c.self.inside.room c.self.inside.jobs c.self.inside.lines.items (ap queues_alone c.self.view_is) c.requires.exists in
    omega (arith, exists, c.queue.view_is)

pub returns : goal.returns
returns g c =
    let inside = c.self.inside in
    let lines = inside.lines.items in
    let exists = exists-view inside.room inside.jobs lines (ap queues_alone c.self.view_is) c.requires.exists in
    let here = queue_read lines c.queue.inside.0 c.args.queue c.index.result.now (omega (arith, exists, c.queue.view_is)) c.index.ensures c.queue.view_is in
    let counted = length-waiting_of c.self.invariant.0 c.args.queue c.index.result.now.waiting (ap (λ (q : Queue). q.waiting) here) in
    rw (← c.self.view_is) (
      λ t. nil_from_length (waiting_of c.args.queue (alone inside.room inside.jobs lines)) (counted ∙ eqb-true c.index.result.now.waiting.count 0 t),
      λ h. eq-eqb c.index.result.now.waiting.count 0 (sym counted ∙ ap length h),
    )
