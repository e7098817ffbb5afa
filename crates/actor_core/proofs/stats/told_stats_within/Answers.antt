use Rattle.actor_core.proofs.Words.{◌≡◌, ◌<◌, ◌∙◌, ap, subst, ◌↔◌, IsTrue, Some, slice_get, queue_count, core_stats, queue_stats}
use Rattle.arrayvec.specs.ArrayVec.{array_vec_len}
use Rattle.core_core.specs.Closing as closing
use Rattle.actor_core.proofs.StatsTold.{core_told, exact_told, queues_told}
use Rattle.actor_core.proofs.stats.told_stats_within.Goals as goal

pub returns-clause-core : goal.returns-clause-core
returns-clause-core g c =
    let its = c.core.ensures in
    core_told _ c.requires.sound c.stats_within.result.0 (subst (λ core. c.stats_within.result.0 ≡ core_stats core c.stats_within.result.0.drained) its c.stats_within.ensures.core)
    (subst (λ core. IsTrue c.stats_within.result.0.drained ↔ closing.IsDrained core) its c.stats_within.ensures.drained)

pub returns-clause-queues : goal.returns-clause-queues
returns-clause-queues g c =
    let its = c.core.ensures in
    queues_told _ c.requires.sound (array_vec_len c.stats_within.result.1) c.stats_within.result.1.items (c.stats_within.ensures.count ∙ ap (λ core. queue_count core.queues) its)
    (subst (λ core. (queue : _) → queue < queue_count core.queues → slice_get c.stats_within.result.1.items queue ≡ Some (queue_stats queue core)) its c.stats_within.ensures.queues)

pub returns-clause-exact : goal.returns-clause-exact
returns-clause-exact g c =
    let its = c.core.ensures in
    exact_told _ c.requires.sound (array_vec_len c.stats_within.result.1) c.stats_within.result.1.items (c.stats_within.ensures.count ∙ ap (λ core. queue_count core.queues) its)
    (subst (λ core. (queue : _) → queue < queue_count core.queues → slice_get c.stats_within.result.1.items queue ≡ Some (queue_stats queue core)) its c.stats_within.ensures.queues)
