-- Laws of lags.
use Rattle.std.specs.Prelude.{◌≡◌, ℕ, ◌+◌, ◌≤◌, true, false, All, ◌++◌, [], ◌∷◌}
use Rattle.base_words.specs.Journal.{Journal, EachNote}
use Rattle.base_words.specs.Lag.{KeepsWork}
use Rattle.base_words.specs.Lawful.{MayStand}
use Rattle.base_words.specs.Terms.{Terms}
use Rattle.fairview_marks.specs.Leads.{are_together}
use Rattle.fairview_lag.specs.Lags.{lags, greatest_lag, IsGreatest}
use Rattle.fairview_lag.specs.Stretches.{later_notes, earlier_notes}
use Rattle.fairview_lag.specs.declared.stretch.Lag.{Lag}

-- neither queue is ahead of the other by more than the bound
pub record IsWithinBound (lag : Lag) : Type 0 where
  pub first : lag.first ≤ lag.second + lag.bound
  pub second : lag.second ≤ lag.first + lag.bound

-- each lag of a lawful journal is within its bound
abbrev pub LagsAreBounded : Type 0
LagsAreBounded = (terms : Terms) (first second : ℕ) (journal : Journal ℕ) → EachNote (MayStand terms) journal → All IsWithinBound (lags terms.burst first second journal)

-- a journal in which two queues have work at its end: both keep it in the later notes, and those stand behind the earlier ones
pub record IsStretch (first second : ℕ) (later earlier journal : Journal ℕ) : Type 0 where
  pub whole : later ++ earlier ≡ journal
  pub first_keeps : KeepsWork first later earlier
  pub second_keeps : KeepsWork second later earlier

-- the notes since two queues have work are a stretch in which both keep it
abbrev pub StretchesKeepWork : Type 0
StretchesKeepWork =
    (first second : ℕ) (journal : Journal ℕ) → are_together first second journal ≡ true →
    IsStretch first second (later_notes first second journal) (earlier_notes first second journal) journal

-- the note before a stretch leaves one of the two queues without work
abbrev pub BeginsHere : ℕ → ℕ → Journal ℕ → Type 0
BeginsHere first second [] = Unit {0}
BeginsHere first second (note ∷ before) = are_together first second before ≡ false

abbrev pub StretchesAreWhole : Type 0
StretchesAreWhole = (first second : ℕ) (journal : Journal ℕ) → BeginsHere first second (earlier_notes first second journal)

-- what is told as the greatest lag is the greatest of all
abbrev pub GreatestIsOfAll : Type 0
GreatestIsOfAll = (burst first second : ℕ) (journal : Journal ℕ) → IsGreatest (lags burst first second journal) (greatest_lag burst first second journal)
