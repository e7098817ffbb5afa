-- How the numbers of a core change as its notes become more.
use Rattle.std.specs.Prelude.{ℕ, ◌≤◌}
use Rattle.base_words.specs.HandBacks.{picks_of}
use Rattle.base_words.specs.Journal.{Journal}
use Rattle.base_words.specs.Picks.{turns}
use Rattle.base_words.specs.Runtimes.{floor}
use Rattle.base_words.specs.Sums.{run_time, finished_count, returned_count}
use Rattle.run_watch.specs.Growth.{Grows}

-- turns and floor of the core, and of each queue the picks, the times, the jobs done and the jobs handed back are no less than before
pub record NoLess (old new : Journal ℕ) : Type 0 where
  pub turns_rise : turns old ≤ turns new
  pub floor_rises : floor old ≤ floor new
  pub picks_rise : (queue : ℕ) → picks_of queue old ≤ picks_of queue new
  pub times_rise : (burst queue : ℕ) → run_time burst queue old ≤ run_time burst queue new
  pub done_rise : (queue : ℕ) → finished_count queue old ≤ finished_count queue new
  pub returns_rise : (queue : ℕ) → returned_count queue old ≤ returned_count queue new

-- numbers never fall from one look to the next
abbrev pub NumbersNeverFall : Type 0
NumbersNeverFall = (old new : Journal ℕ) → Grows old new → NoLess old new
