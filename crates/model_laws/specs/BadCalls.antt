-- Answers that no core beside its journal gives, each refused by the definition that judges it.
use Rattle.std.specs.Prelude.{◌≡◌, ℕ, true, false, Option, Some, None, List, [], ◌∷◌, Ok, Err}
use Rattle.std.proofs.Common.{ap, arith}
use Rattle.base_words.specs.declared.names.JobId.{JobId}
use Rattle.base_words.specs.declared.note.Note.{Note}
use Rattle.base_words.specs.declared.note.Note.TheVariants as writes
use Rattle.base_words.specs.declared.order.Mode.TheVariants.{Finish, Return}
use Rattle.base_words.specs.declared.order.Order.TheVariants.{Job}
use Rattle.base_words.specs.declared.order.Reason.TheVariants.{CoreClosing}
use Rattle.core_queues.specs.declared.queues.CreateError.TheVariants.{TooMany}
use Rattle.core_core.specs.declared.turn.PickError.TheVariants.{Spent}
use Rattle.core_core.specs.declared.turn.Turn.TheVariants.{Back, Idle}
use Rattle.base_jobs.specs.Meanings.{Meaning}
use Rattle.note_journal.specs.Journals.{JournalView}
use Rattle.actor_core.specs.Further.{EndsTurn, Follows}
use Rattle.actor_core.specs.Recorded.{RecordedView}
use Rattle.actor_core.specs.Steps.{ClosesItself, CreatesQueue, TellsShut, opened_beside, with_notes}
use Rattle.actor_core.specs.Turns.{Picks}

abbrev pub job : JobId
job = record { from = 1; to = 0; number = 1 }

-- a core that was just opened, alone in its house
abbrev pub fresh : RecordedView ℕ ℕ
fresh = opened_beside 0 1 1 9 1

-- the same, whose journal says that a job waits in queue 0
abbrev pub working : RecordedView ℕ ℕ
working = record fresh { journal = with_notes (writes.Took job 0 ∷ []) fresh.journal }

-- the same, whose journal says that it is closed and hands back
abbrev pub returning : RecordedView ℕ ℕ
returning = record fresh { journal = with_notes (writes.CoreClosed Return ∷ []) fresh.journal }

module _ (new : RecordedView ℕ ℕ) where
  -- a core that has one queue can't have more
  pub one_is_too_many : CreatesQueue 1000 fresh (Err TooMany) new → ⊥
  one_is_too_many told = absurd (omega (arith, told.0))

  -- the second queue has the number of the third
  pub skips_a_number : CreatesQueue 1000 fresh (Ok 2) new → ⊥
  skips_a_number told = absurd (omega (arith, told.0))

  -- an open core isn't closed
  pub stays_open : ClosesItself fresh Finish false new → ⊥
  stays_open told = let open_core : true ≡ false = told.0 in cc

  -- a core that hands back finishes its jobs after all
  pub finishes_after_all : ClosesItself returning Finish true new → ⊥
  finishes_after_all told = let returns : false ≡ true = told.0 in cc

  -- a core is idle beside a job that waits
  pub idle_beside_a_job : (meaning : Meaning ℕ ℕ) → Picks meaning working (Ok Idle) new → ⊥
  idle_beside_a_job meaning told = let works : true ≡ false = told.0 0 in cc

  -- all turns of a core are used that made none
  pub spent_before_its_first_turn : (meaning : Meaning ℕ ℕ) → Picks meaning fresh (Err Spent) new → ⊥
  spent_before_its_first_turn meaning told = absurd (omega (arith, told.0))

  -- a job is handed back within a turn
  pub hands_back_within_a_turn : Follows fresh (Some (Back job (Job 0 7) CoreClosing)) new → ⊥
  hands_back_within_a_turn told = told

  -- a turn ends that nobody began
  pub ends_no_turn : (time : ℕ) → EndsTurn fresh time new → ⊥
  ends_no_turn time told = let no_turn : ◌≡◌ {A = Option ℕ} None (Some told.queue) = told.ends.in_turn in cc

-- a gate is shut, and no note says so
pub shuts_in_silence : TellsShut fresh 1 0 fresh → ⊥
shuts_in_silence told =
    let notes : ◌≡◌ {A = List (Note ℕ)} [] (writes.Shut 1 0 ∷ []) = ap (λ (journal : JournalView ℕ). journal.notes) told.journal in cc
