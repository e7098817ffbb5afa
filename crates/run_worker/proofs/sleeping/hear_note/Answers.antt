use Rattle.run_worker.proofs.Names.{HearsNote, inl, inr, JobId, LosesTimer, Note, Option, Reason, subst, sym, Timers, ℕ, ◌≡◌, ◌⊎◌}
use Rattle.base_words.specs.declared.note.Note.TheVariants.{Resume, Returned}
use Rattle.core_queues.specs.View.{QueuesView}
use Rattle.run_worker.proofs.sleeping.hear_note.Goals as goal

pub returns-in-Park : goal.returns-in-Park
returns-in-Park g c =
    subst (λ note. HearsNote g.J.Task.sleeps c.args.core.now.queues c.args.reading note c.args.timers.now c.set_sleep.new.timers) (sym c.in-Park.is) c.set_sleep.ensures

-- by either of these notes the job's timer is lost
loses : {J T : Type 0} (sleeps : J → Option ℕ) (queues : QueuesView J) (reading : ℕ) (note : Note T) (name : JobId) (old new : Timers) → (note ≡ Resume name) ⊎ ((reason : Reason) × (note ≡ Returned name reason)) →
    LosesTimer old name new → HearsNote sleeps queues reading note old new
loses sleeps queues reading note name old new (inl is) lost = subst (λ note. HearsNote sleeps queues reading note old new) (sym is) lost
loses sleeps queues reading note name old new (inr is) lost = subst (λ note. HearsNote sleeps queues reading note old new) (sym is.1) lost

pub returns-in-Resume : goal.returns-in-Resume
returns-in-Resume g c = loses g.J.Task.sleeps c.args.core.now.queues c.args.reading c.args.note.now c.in-Resume.name c.args.timers.now c.lose.new.timers c.in-Resume.is c.lose.ensures
