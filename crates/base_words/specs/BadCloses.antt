-- Journals that the third clause of soundness refuses.
use Rattle.std.specs.Prelude.{ℕ, [], ◌∷◌}
use Rattle.base_words.specs.declared.note.Note.TheVariants.{Took, Created, QueueClosed, CoreClosed, Shut}
use Rattle.base_words.specs.declared.order.Mode.TheVariants.{Finish, Return}
use Rattle.base_words.specs.Assembly.{Assembly}
use Rattle.base_words.specs.BadJournals.{submission, with_journals, one_job}
use Rattle.base_words.specs.Sound.{ClosesAreSound}

-- a job enters a queue that is closed
abbrev pub taken_into_closed : Assembly ℕ
taken_into_closed = with_journals (Took (submission 1) 0 ∷ QueueClosed 0 Finish ∷ []) one_job

-- a job enters a core that hands back what it holds
abbrev pub taken_by_returning : Assembly ℕ
taken_by_returning = with_journals (Took (submission 1) 0 ∷ CoreClosed Return ∷ []) one_job

-- so does one after a later close in the other mode
abbrev pub taken_after_return : Assembly ℕ
taken_after_return = with_journals (Took (submission 1) 0 ∷ CoreClosed Finish ∷ CoreClosed Return ∷ []) one_job

-- a closed core creates a queue
abbrev pub created_when_closed : Assembly ℕ
created_when_closed = with_journals (Created 1 500 ∷ CoreClosed Finish ∷ []) []

-- an open core shuts a gate
abbrev pub shut_when_open : Assembly ℕ
shut_when_open = with_journals (Shut 1 0 ∷ []) []

-- a gate is shut twice
abbrev pub shut_twice : Assembly ℕ
shut_twice = with_journals (Shut 1 0 ∷ Shut 1 0 ∷ CoreClosed Finish ∷ []) []

-- a gate is shut at another count than that of the accepted orders
abbrev pub shut_at_wrong_count : Assembly ℕ
shut_at_wrong_count = with_journals (Shut 1 0 ∷ CoreClosed Finish ∷ []) one_job

-- none of them is sound
pub record ClosesAreRefused : Type 0 where
  pub closed_queue : ClosesAreSound taken_into_closed → ⊥
  pub returning : ClosesAreSound taken_by_returning → ⊥
  pub returned_before : ClosesAreSound taken_after_return → ⊥
  pub created : ClosesAreSound created_when_closed → ⊥
  pub open_core : ClosesAreSound shut_when_open → ⊥
  pub twice : ClosesAreSound shut_twice → ⊥
  pub count : ClosesAreSound shut_at_wrong_count → ⊥
