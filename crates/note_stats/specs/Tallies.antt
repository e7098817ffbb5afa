-- What is counted of a queue, and how a note changes it.
use Rattle.std.specs.Prelude.{◌≡◌, ℕ, ◌+◌, ◌*◌, ◌^◌, ◌≤◌, min, max, Bool, not, if◌then◌else◌, Option, Some, None, length}
use Rattle.base_words.specs.Charge.{charge, clamped}
use Rattle.base_words.specs.declared.note.Note.{Note}
use Rattle.base_words.specs.declared.note.Note.TheVariants.{Pick, Start, Resume, Yield, Park, Stayed, Done, Returned, Turned}
use Rattle.base_words.specs.Bursts.{has_bursts}
use Rattle.base_words.specs.HandBacks.{picks_of}
use Rattle.base_words.specs.Journal.{Journal}
use Rattle.base_words.specs.Lag.{greatest_charge}
use Rattle.note_facts.specs.Accounts.{greatest_runtime, greatest_count}
pub use Rattle.note_facts.specs.Spots.{queue_noted}
use Rattle.note_stats.specs.declared.tally.Tally.{Tally}
use Rattle.base_words.specs.Sums.{run_time, charges, begun_count, settled_count, finished_count, returned_count}

-- before the first note
abbrev pub no_tally : Tally
no_tally = record { selected = 0; time = 0; charged = 0; greatest = 0; begun = 0; settled = 0; finished = 0; returned = 0 }

-- the time that a note tells: that of the poll that it settles, or of the turn that it ends
abbrev pub time_told : {T : Type 0} → Note T → Option ℕ
time_told (Yield name time) = Some time
time_told (Park name time) = Some time
time_told (Stayed name time) = Some time
time_told (Done name time value) = Some time
time_told (Turned queue time) = Some time
time_told _ = None

-- what a time costs a queue of these shares
abbrev pub cost_of : ℕ → Option ℕ → ℕ
cost_of weight None = 0
cost_of weight (Some time) = charge time weight

-- what a note costs it, where its time is charged
abbrev pub cost_told : {T : Type 0} → ℕ → Note T → ℕ
cost_told weight note = cost_of weight (time_told note)

-- one more, within the type
abbrev pub one_more : ℕ → ℕ
one_more count = min (count + 1) greatest_count

-- a time is charged, at this cost, if it counts
abbrev pub charged_if : Bool → ℕ → ℕ → Tally → Tally
charged_if counts cost time tally =
    record tally {
      time = if counts then min (tally.time + clamped time) greatest_runtime else tally.time;
      charged = if counts then min (tally.charged + cost) greatest_runtime else tally.charged;
      greatest = if counts then max tally.greatest cost else tally.greatest;
    }

-- a poll is settled: its time is charged where it ends its turn
abbrev pub settling : ℕ → ℕ → ℕ → Tally → Tally
settling burst cost time tally = record (charged_if (not (has_bursts burst)) cost time tally) { settled = one_more tally.settled }

-- a note ends a turn: its time is charged where turns end so
abbrev pub turning : ℕ → ℕ → ℕ → Tally → Tally
turning burst cost time tally = charged_if (has_bursts burst) cost time tally

-- the tally after a note of its queue
abbrev pub tally_after : {T : Type 0} → ℕ → ℕ → Note T → Tally → Tally
tally_after burst cost (Pick queue runtime) tally = record tally { selected = one_more tally.selected }
tally_after burst cost (Start name) tally = record tally { begun = one_more tally.begun }
tally_after burst cost (Resume name) tally = record tally { begun = one_more tally.begun }
tally_after burst cost (Yield name time) tally = settling burst cost time tally
tally_after burst cost (Park name time) tally = settling burst cost time tally
tally_after burst cost (Stayed name time) tally = settling burst cost time tally
tally_after burst cost (Done name time value) tally = record (settling burst cost time tally) { finished = one_more tally.finished }
tally_after burst cost (Returned name reason) tally = record tally { returned = one_more tally.returned }
tally_after burst cost (Turned queue time) tally = turning burst cost time tally
tally_after burst cost _ tally = tally

-- what these notes say of a queue
abbrev pub tally_of : {T : Type 0} → ℕ → ℕ → Journal T → Tally
tally_of burst queue journal = record {
  selected = picks_of queue journal;
  time = run_time burst queue journal;
  charged = charges burst queue journal;
  greatest = greatest_charge burst queue journal;
  begun = begun_count queue journal;
  settled = settled_count queue journal;
  finished = finished_count queue journal;
  returned = returned_count queue journal;
}

-- a tally says of its queue what these notes say, and each note costs less than 2^50
pub record KnowsTally {T : Type 0} (burst queue : ℕ) (tally : Tally) (journal : Journal T) : Type 0 where
  pub figures : tally ≡ tally_of burst queue journal
  pub cheap : charges burst queue journal ≤ length journal * 2 ^ 50
