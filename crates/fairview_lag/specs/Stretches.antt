-- A stretch of two queues: the notes of a core over which both have work without a break.
use Rattle.std.specs.Prelude.{◌≡◌, ℕ, [], ◌∷◌, if◌then◌else◌, Option, Some, None}
use Rattle.base_words.specs.Journal.{Journal}
use Rattle.base_words.specs.Lag.{gained}
use Rattle.base_words.specs.Sums.{charges}
use Rattle.fairview_marks.specs.Leads.{are_together, KnowsStanding}
use Rattle.fairview_lag.specs.declared.stretch.Begun.{Begun}
use Rattle.fairview_lag.specs.declared.stretch.Stretch.{Stretch}

module _ {T : Type 0} (first second : ℕ) where
  -- the notes since both queues have work, the newest first
  abbrev pub later_notes : Journal T → Journal T
  later_notes [] = []
  later_notes (note ∷ before) = if are_together first second before then note ∷ later_notes before else []

  -- the notes up to the one from which on both queues have work
  abbrev pub earlier_notes : Journal T → Journal T
  earlier_notes [] = []
  earlier_notes (note ∷ before) = if are_together first second before then earlier_notes before else note ∷ before

module _ {T : Type 0} (burst first second : ℕ) where
  -- what a queue gained since both have work
  abbrev pub gained_together : ℕ → Journal T → ℕ
  gained_together queue journal = gained burst queue (later_notes first second journal) (earlier_notes first second journal)

  -- all charges of the two queues
  abbrev pub charged_of : Journal T → Begun
  charged_of journal = record { first = charges burst first journal; second = charges burst second journal }

  -- the same when both began to have work
  abbrev pub begun_of : Journal T → Begun
  begun_of journal = charged_of (earlier_notes first second journal)

  -- they are known while both have work
  abbrev pub begun : Journal T → Option Begun
  begun journal = if are_together first second journal then Some (begun_of journal) else None

  -- what is known of all queues, if a turn may have so many polls, and the beginning of the stretch of these two
  pub record KnowsStretch (stretch : Stretch) (journal : Journal T) : Type 0 where
    pub standing : KnowsStanding burst stretch.standing journal
    pub begun : stretch.begun ≡ begun journal
