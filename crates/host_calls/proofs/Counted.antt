-- The counts of a queue among those of all.
use Rattle.std.specs.Prelude.{◌≡◌, ℕ, ◌+◌, ◌<◌, ◌≤◌, List, slice_index_or}
use Rattle.std.proofs.Common.{◌∙◌, sym, subst, arith}
use Rattle.std.proofs.lemmas.Option.{get_or_from_slice_get}
use Rattle.base_words.specs.declared.stats.QueueStats.{QueueStats}
use Rattle.base_words.specs.Commands.{created_count}
use Rattle.base_words.specs.Journal.{Journal}
use Rattle.actor_core.specs.Stats.{TellsQueue, TellsQueues}

pub told_at : {burst count : ℕ} {notes : Journal ℕ} {items : List QueueStats} (queue : ℕ) (stats : QueueStats) → TellsQueues burst notes count items → queue < count
    → stats ≡ slice_index_or items queue stats → (queue ≤ created_count notes) × TellsQueue burst queue notes stats
told_at {burst} {count} {notes} {items} queue stats tells below here =
    let inside : queue ≤ created_count notes = omega (arith, tells.count_is, below) in
    let told = tells.each queue inside in
    (inside, subst (TellsQueue burst queue notes) (sym (here ∙ get_or_from_slice_get items queue told.0 stats told.1)) told.2)
