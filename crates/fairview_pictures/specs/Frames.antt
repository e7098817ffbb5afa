-- The place of a lane, and the places of its core's times on it.
use Rattle.std.specs.Prelude.{ℕ, zero, suc, ◌+◌, ◌-◌, ◌*◌, ◌/◌, ◌^◌, min, max, if◌then◌else◌}
use Rattle.base_words.specs.Assembly.{Assembly, journal_of}
use Rattle.base_words.specs.Journal.{Journal}
use Rattle.fairview_pictures.specs.Cuts.{shows, lane, time_before}
use Rattle.fairview_pictures.specs.declared.cut.Cut.{Cut}
use Rattle.fairview_pictures.specs.declared.frame.Frame.{Frame}

-- within its type
abbrev pub fitting : ℕ → ℕ
fitting number = min number (2 ^ 128 - 1)

-- the half point of a time: a lane has 2000, and shows the times from its begin on
abbrev pub cell : Frame → ℕ → ℕ
cell frame time = fitting (min (time - frame.begin) frame.span * 2000) / max frame.span 1

-- where it stands in the picture
abbrev pub x : Frame → ℕ → ℕ
x frame time = fitting (cell frame time + 300)

-- how long the clock of a core goes in the turns that are shown
abbrev pub shown_time : Cut → Journal ℕ → ℕ
shown_time cut journal = time_before (min (cut.to + 1) (2 ^ 64 - 1)) journal - time_before cut.from journal

abbrev pub longer : Cut → ℕ → Journal ℕ → ℕ → ℕ
longer cut core journal most = if shows cut core then max most (shown_time cut journal) else most

-- the longest time of the lanes of the cores below this number
unfoldable pub longest_below : ℕ → Cut → Assembly ℕ → ℕ
longest_below zero cut assembly = 0
longest_below (suc core) cut assembly = longer cut core (journal_of core assembly) (longest_below core cut assembly)

abbrev pub longest : Cut → Assembly ℕ → ℕ
longest cut assembly = longest_below assembly.cores cut assembly

-- the frame of the lane of a core
abbrev pub frame_of : Cut → ℕ → ℕ → Journal ℕ → Frame
frame_of cut span core journal = record { top = lane cut core * 160 + 120; begin = time_before cut.from journal; span = span; cut = cut }
