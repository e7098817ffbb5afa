-- What is counted of a queue: as its core counts it, and as a journal tells it.
use Rattle.std.specs.Prelude.{ℕ, ◌+◌, ◌-◌, ◌^◌, min}
use Rattle.base_words.specs.declared.note.Note.{Note}
use Rattle.base_words.specs.Filters.{name_finished}
use Rattle.base_words.specs.HandBacks.{picks_of, queue_picked}
use Rattle.base_words.specs.Journal.{Journal}
use Rattle.base_words.specs.Names.{is_number}
use Rattle.base_words.specs.Work.{number_if}
use Rattle.base_words.specs.Sums.{run_time, time_noted, finished_count, returned_count, queue_of_told, name_returned}
use Rattle.core_core.specs.declared.tally.Tally.{Tally}
use Rattle.core_core.specs.State.{CoreView, tally_of}

-- picks of a queue, the clamped time of its polls, or of its turns where these have several polls, and how many of its jobs are done and how many a pick handed back
pub record Figures : Type 0 where
  pub selected : ℕ
  pub time : ℕ
  pub finished : ℕ
  pub returned : ℕ

abbrev pub no_figures : Figures
no_figures = record { selected = 0; time = 0; finished = 0; returned = 0 }

-- a core counts jobs that are done up to the greatest number that it holds
abbrev pub counted_up : ℕ → ℕ
counted_up count = min count (2 ^ 64 - 1)

abbrev pub plus : Figures → Figures → Figures
plus some more = record {
  selected = some.selected + more.selected;
  time = some.time + more.time;
  finished = counted_up (some.finished + more.finished);
  returned = some.returned + more.returned;
}

abbrev pub figures_in : Tally → Figures
figures_in tally = record { selected = tally.selected; time = tally.time; finished = tally.finished; returned = tally.returned }

-- as the core counts them
abbrev pub figures_of : {J : Type 0} → ℕ → CoreView J → Figures
figures_of queue core = figures_in (tally_of queue core)

module _ {T : Type 0} where
  -- as the journal tells them
  abbrev pub figures_told : ℕ → ℕ → Journal T → Figures
  figures_told burst queue journal = record {
    selected = picks_of queue journal;
    time = run_time burst queue journal;
    finished = counted_up (finished_count queue journal);
    returned = returned_count queue journal;
  }

  -- what one note adds to them
  abbrev pub figures_noted : ℕ → ℕ → Note T → Journal T → Figures
  figures_noted burst queue note before = record {
    selected = number_if (is_number queue (queue_picked note));
    time = time_noted burst queue note before;
    finished = number_if (is_number queue (queue_of_told (name_finished note) before));
    returned = number_if (is_number queue (queue_of_told (name_returned note) before));
  }
