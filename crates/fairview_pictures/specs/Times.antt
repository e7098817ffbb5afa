-- The times of events: the cores have clocks of processor time, and the outside actor the places of its notes.
use Rattle.std.specs.Prelude.{ℕ, zero, suc, ◌+◌, ◌-◌, ◌^◌, min, max, ◌==◌, if◌then◌else◌, length}
use Rattle.base_words.specs.Assembly.{Assembly, journal_of}
use Rattle.judge_view.specs.Clocks.{busy_time}
use Rattle.judge_view.specs.declared.clocks.CoreTime.{CoreTime}
use Rattle.fairview_pictures.specs.declared.times.Times.{Times}

-- within its type
abbrev pub fitting : ℕ → ℕ
fitting time = min time (2 ^ 128 - 1)

-- the greatest processor time of the cores below this number
unfoldable pub longest_below : ℕ → Assembly ℕ → ℕ
longest_below zero assembly = 0
longest_below (suc core) assembly = max (longest_below core assembly) (busy_time (journal_of core assembly))

abbrev pub longest : Assembly ℕ → ℕ
longest assembly = longest_below assembly.cores assembly

-- the clocks of the cores start behind the notes of the outside actor, and the last of them ends after the greatest processor time
abbrev pub times_of : Assembly ℕ → Times
times_of assembly = record {
  outside = assembly.cores;
  start = length (journal_of assembly.cores assembly);
  end = fitting (length (journal_of assembly.cores assembly) + longest assembly);
}

-- where the clock of a core stands
abbrev pub core_time : Times → CoreTime → ℕ
core_time times clock = fitting (times.start + clock.time)

-- the outside actor sends before the cores start
abbrev pub sent_time : Times → ℕ → ℕ → CoreTime → ℕ
sent_time times actor place clock = if actor == times.outside then place else core_time times clock

-- and redeems behind their end
abbrev pub redeemed_time : Times → ℕ → ℕ → CoreTime → ℕ
redeemed_time times actor place clock = if actor == times.outside then fitting (times.end + place) else core_time times clock
