-- Which part of a run is shown.
use Rattle.std.specs.Prelude.{ℕ, ◌-◌, ◌^◌, ◌==◌, ◌&&◌, nat_lt, nat_le, if◌then◌else◌, Bool, true, Option, Some, None, [], ◌∷◌}
use Rattle.base_words.specs.Journal.{Journal}
use Rattle.judge_view.specs.Clocks.{clock_of}
use Rattle.judge_view.specs.declared.clocks.CoreTime.{CoreTime}
use Rattle.fairview_pictures.specs.declared.cut.Cut.{Cut}

abbrev pub whole : Cut
whole = record { core = None; from = 0; to = 2 ^ 64 - 1 }

-- all cores are shown, or one
abbrev pub is_core : Option ℕ → ℕ → Bool
is_core None core = true
is_core (Some only) core = only == core

abbrev pub shows : Cut → ℕ → Bool
shows cut core = is_core cut.core core

abbrev pub has_turn : Cut → ℕ → Bool
has_turn cut turn = nat_le cut.from turn && nat_le turn cut.to

-- one core has the only lane, else each has the lane of its number
abbrev pub lane_count : Option ℕ → ℕ → ℕ
lane_count None cores = cores
lane_count (Some only) cores = 1

abbrev pub lanes : Cut → ℕ → ℕ
lanes cut cores = lane_count cut.core cores

abbrev pub lane_at : Option ℕ → ℕ → ℕ
lane_at None core = core
lane_at (Some only) core = 0

abbrev pub lane : Cut → ℕ → ℕ
lane cut core = lane_at cut.core core

-- the time of a clock, if this turn hasn't begun
abbrev pub time_reached : CoreTime → ℕ → ℕ → ℕ
time_reached clock turn before = if nat_lt clock.turns turn then clock.time else before

-- the processor time of a core before this turn begins: that of the notes after which it hasn't begun
abbrev pub time_before : {T : Type 0} → ℕ → Journal T → ℕ
time_before turn [] = 0
time_before turn (note ∷ before) = time_reached (clock_of (note ∷ before)) turn (time_before turn before)
