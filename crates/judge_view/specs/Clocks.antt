-- How far a core came, told by its notes.
use Rattle.std.specs.Prelude.{ℕ, ◌+◌, min, [], ◌∷◌}
use Rattle.base_words.specs.Charge.{clamped}
use Rattle.base_words.specs.declared.note.Note.{Note}
use Rattle.base_words.specs.declared.note.Note.TheVariants.{Pick, Yield, Park, Stayed, Done}
use Rattle.base_words.specs.Journal.{Journal}
use Rattle.base_words.specs.Picks.{turns}
use Rattle.note_facts.specs.Accounts.{greatest_runtime, greatest_count}
use Rattle.judge_view.specs.declared.clocks.CoreTime.{CoreTime}

-- the time of the poll that a note settles, as it counts for its charge
abbrev pub time_settled : {T : Type 0} → Note T → ℕ
time_settled (Yield name time) = clamped time
time_settled (Park name time) = clamped time
time_settled (Stayed name time) = clamped time
time_settled (Done name time value) = clamped time
time_settled _ = 0

-- the processor time of a core: that of all polls that it settled
abbrev pub busy_time : {T : Type 0} → Journal T → ℕ
busy_time [] = 0
busy_time (note ∷ before) = busy_time before + time_settled note

-- the clock of a core: its turns and its processor time
abbrev pub clock_of : {T : Type 0} → Journal T → CoreTime
clock_of journal = record { turns = turns journal; time = busy_time journal }

-- a poll of this time is settled
abbrev pub clock_run : ℕ → CoreTime → CoreTime
clock_run time clock = record clock { time = min (clock.time + clamped time) greatest_runtime }

-- the clock after a note, within its types
abbrev pub clock_after : {T : Type 0} → Note T → CoreTime → CoreTime
clock_after (Pick queue runtime) clock = record clock { turns = min (clock.turns + 1) greatest_count }
clock_after (Yield name time) clock = clock_run time clock
clock_after (Park name time) clock = clock_run time clock
clock_after (Stayed name time) clock = clock_run time clock
clock_after (Done name time value) clock = clock_run time clock
clock_after _ clock = clock
