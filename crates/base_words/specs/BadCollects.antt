-- Journals of an actor that collects, redeems and detaches as no actor may.
use Rattle.std.specs.Prelude.{ℕ, [], ◌∷◌}
use Rattle.base_words.specs.declared.note.Note.TheVariants.{Collected, Redeemed, Detached}
use Rattle.base_words.specs.declared.note.OutcomeNote.TheVariants.{Finished, Answered}
use Rattle.base_words.specs.declared.order.Answer.TheVariants.{NoMemory, SharesSet}
use Rattle.base_words.specs.BadJournals.{submission, outside_terms, one_job, one_command}
use Rattle.base_words.specs.Journal.{Journal, EachNote}
use Rattle.base_words.specs.Lawful.{MayStand}

-- an outcome is collected under a name that was never given
abbrev pub collected_unsent : Journal ℕ
collected_unsent = Collected (submission 1) (Finished 7) ∷ []

-- an outcome is collected
abbrev pub collected : Journal ℕ
collected = Collected (submission 1) (Finished 7) ∷ one_job

-- and again
abbrev pub collected_twice : Journal ℕ
collected_twice = Collected (submission 1) (Finished 7) ∷ collected

-- a command is done as a job
abbrev pub command_finished : Journal ℕ
command_finished = Collected (submission 1) (Finished 7) ∷ one_command

-- a job is answered as a command
abbrev pub job_answered : Journal ℕ
job_answered = Collected (submission 1) (Answered NoMemory) ∷ one_job

-- a creation is answered as if it set shares
abbrev pub creation_set_shares : Journal ℕ
creation_set_shares = Collected (submission 1) (Answered SharesSet) ∷ one_command

-- an outcome is redeemed that isn't collected
abbrev pub redeemed_uncollected : Journal ℕ
redeemed_uncollected = Redeemed (submission 1) (Finished 7) ∷ one_job

-- another answer is redeemed than the one that was collected
abbrev pub redeemed_another : Journal ℕ
redeemed_another = Redeemed (submission 1) (Finished 8) ∷ collected

-- an outcome is redeemed twice
abbrev pub redeemed_twice : Journal ℕ
redeemed_twice = Redeemed (submission 1) (Finished 7) ∷ Redeemed (submission 1) (Finished 7) ∷ collected

-- the outcome of a detached submission is redeemed
abbrev pub redeemed_detached : Journal ℕ
redeemed_detached = Redeemed (submission 1) (Finished 7) ∷ Detached (submission 1) ∷ collected

-- a submission is detached that was never sent
abbrev pub detached_unsent : Journal ℕ
detached_unsent = Detached (submission 1) ∷ []

-- a submission is detached twice
abbrev pub detached_twice : Journal ℕ
detached_twice = Detached (submission 1) ∷ Detached (submission 1) ∷ one_job

-- a redeemed submission is detached
abbrev pub detached_redeemed : Journal ℕ
detached_redeemed = Detached (submission 1) ∷ Redeemed (submission 1) (Finished 7) ∷ collected

-- the notes of the outside actor may stand
abbrev pub MayWriteOutside : Journal ℕ → Type 0
MayWriteOutside journal = EachNote (MayStand outside_terms) journal

-- none of them may stand
pub record CollectsAreRefused : Type 0 where
  pub unsent : MayWriteOutside collected_unsent → ⊥
  pub twice : MayWriteOutside collected_twice → ⊥
  pub command : MayWriteOutside command_finished → ⊥
  pub job : MayWriteOutside job_answered → ⊥
  pub creation : MayWriteOutside creation_set_shares → ⊥
  pub uncollected : MayWriteOutside redeemed_uncollected → ⊥
  pub another : MayWriteOutside redeemed_another → ⊥
  pub redeemed : MayWriteOutside redeemed_twice → ⊥
  pub detached : MayWriteOutside redeemed_detached → ⊥
  pub nothing : MayWriteOutside detached_unsent → ⊥
  pub again : MayWriteOutside detached_twice → ⊥
  pub gone : MayWriteOutside detached_redeemed → ⊥
