-- Journals that the first clause of soundness refuses.
use Rattle.std.specs.Prelude.{ℕ, [], ◌∷◌}
use Rattle.base_words.specs.declared.note.Note.TheVariants.{Took, Pick, Start, Resume, Returned}
use Rattle.base_words.specs.declared.order.Reason.TheVariants.{QueueReturned}
use Rattle.base_words.specs.Assembly.{Assembly}
use Rattle.base_words.specs.BadJournals.{submission, with_journals, one_job, one_command, yielded, done}
use Rattle.base_words.specs.Sound.{StartsAreSound}

-- a job starts twice
abbrev pub started_twice : Assembly ℕ
started_twice = with_journals (Start (submission 1) ∷ Pick 0 10 ∷ yielded) one_job

-- a job resumes before it started
abbrev pub resumed_first : Assembly ℕ
resumed_first = with_journals (Resume (submission 1) ∷ Pick 0 0 ∷ Took (submission 1) 0 ∷ []) one_job

-- a job starts that nobody sent
abbrev pub started_unsent : Assembly ℕ
started_unsent = with_journals (Start (submission 1) ∷ Pick 0 0 ∷ Took (submission 1) 0 ∷ []) []

-- a job starts that entered no queue
abbrev pub started_outside : Assembly ℕ
started_outside = with_journals (Start (submission 1) ∷ Pick 0 0 ∷ []) one_job

-- a command starts
abbrev pub started_command : Assembly ℕ
started_command = with_journals (Start (submission 1) ∷ Pick 0 0 ∷ Took (submission 1) 0 ∷ []) one_command

-- a job that is done resumes
abbrev pub resumed_done : Assembly ℕ
resumed_done = with_journals (Resume (submission 1) ∷ Pick 0 10 ∷ done) one_job

-- a job that was handed back stays in its queue and starts later
abbrev pub started_returned : Assembly ℕ
started_returned =
    with_journals (Start (submission 1) ∷ Pick 0 0 ∷ Returned (submission 1) QueueReturned ∷ Pick 0 0 ∷ Took (submission 1) 0 ∷ []) one_job

-- none of them is sound
pub record StartsAreRefused : Type 0 where
  pub twice : StartsAreSound started_twice → ⊥
  pub first : StartsAreSound resumed_first → ⊥
  pub unsent : StartsAreSound started_unsent → ⊥
  pub outside : StartsAreSound started_outside → ⊥
  pub command : StartsAreSound started_command → ⊥
  pub ended : StartsAreSound resumed_done → ⊥
  pub returned : StartsAreSound started_returned → ⊥
