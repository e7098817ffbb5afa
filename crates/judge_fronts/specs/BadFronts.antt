-- Small fronts of one core and the outside actor: some that no later notes make sound, and some that later notes do.
use Rattle.std.specs.Prelude.{ℕ, [], ◌∷◌}
use Rattle.base_words.specs.declared.note.Note.TheVariants.{Pick, Collected}
use Rattle.base_words.specs.declared.note.OutcomeNote.TheVariants.{Finished}
use Rattle.base_words.specs.Assembly.{Assembly}
use Rattle.base_words.specs.BadCloses.{shut_at_wrong_count}
use Rattle.base_words.specs.BadJournals.{submission, with_journals, one_job, done}
use Rattle.base_words.specs.BadOrder.{delivered_out_of_turn, delivered_twice}
use Rattle.base_words.specs.BadOutcomes.{collected_another}
use Rattle.base_words.specs.BadStarts.{started_twice, started_command}
use Rattle.base_words.specs.GoodJournals.{closing, served}
use Rattle.base_words.specs.Sound.{IsSound}
use Rattle.judge_fronts.specs.Fronts.{IsLost}

-- a queue without work is picked, and no note stands behind the pick yet
abbrev pub idle_picked_last : Assembly ℕ
idle_picked_last = with_journals (Pick 0 0 ∷ []) one_job

-- an outcome is collected twice
abbrev pub collected_twice : Assembly ℕ
collected_twice = with_journals done (Collected (submission 1) (Finished 7) ∷ Collected (submission 1) (Finished 7) ∷ one_job)

-- no later notes make these sound
pub record FrontsAreLost : Type 0 where
  pub twice : IsLost started_twice
  pub command : IsLost started_command
  pub delivered : IsLost delivered_out_of_turn
  pub delivered_again : IsLost delivered_twice
  pub collected_again : IsLost collected_twice
  pub count : IsLost shut_at_wrong_count
  pub another : IsLost collected_another
  pub idle : IsLost idle_picked_last

-- no note is told
abbrev pub nothing_told : Assembly ℕ
nothing_told = with_journals [] []

-- the last note is a pick
abbrev pub picked_last : Assembly ℕ
picked_last = with_journals (Pick 0 0 ∷ closing) one_job

-- the core is ahead of the outside actor: a job entered, and a gate is shut at its count, and nobody sent it yet
abbrev pub core_ahead : Assembly ℕ
core_ahead = with_journals closing []

-- the outside actor is ahead of the core: it collected and redeemed an outcome that isn't given yet
abbrev pub outside_ahead : Assembly ℕ
outside_ahead = with_journals closing served

-- as it stands it isn't sound, and later notes make it so
pub record IsOpen (front : Assembly ℕ) : Type 0 where
  pub unsound : IsSound front → ⊥
  pub not_lost : IsLost front → ⊥

-- no note is at fault in the first, and later notes make the others sound
pub record FrontsAreOpen : Type 0 where
  pub nothing : IsLost nothing_told → ⊥
  pub picked : IsOpen picked_last
  pub core : IsOpen core_ahead
  pub outside : IsOpen outside_ahead

-- which of them are lost, and which are not
pub record FrontsAreToldApart : Type 0 where
  pub lost : FrontsAreLost
  pub still_open : FrontsAreOpen
