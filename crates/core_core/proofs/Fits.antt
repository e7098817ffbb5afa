-- No count of a core outgrows its turns.
use Rattle.core_core.proofs.Names.{All-get_or, arith, Bool, cases_lt, cond, CoreView, false, FitsTurns, get_or_past, inl, inr, IsBounded, IsWithinTurns, length, max, no_tally, Tally, tally_of, true, unsettled_count, ℕ, ◌*◌, ◌+◌, ◌<◌, ◌^◌}
use Rattle.core_core.proofs.Names.{◌≡◌, ◌≤◌}

pub no_tally_fits : (turns unsettled floor : ℕ) → floor + unsettled * 2 ^ 50 ≤ turns * 2 ^ 50 → FitsTurns turns unsettled no_tally
no_tally_fits turns unsettled floor low = record { runtime = omega arith; selected = omega arith; time = omega arith; finished = omega arith; returned = omega arith }

-- a queue is placed, or not
pub placed_fits : (turns unsettled floor : ℕ) (tally : Tally) (working : Bool) → FitsTurns turns unsettled tally → floor + unsettled * 2 ^ 50 ≤ turns * 2 ^ 50 →
    FitsTurns turns unsettled (record tally { runtime = cond working tally.runtime (max tally.runtime floor) })
placed_fits turns unsettled floor tally true fits low = record { runtime = fits.runtime; selected = fits.selected; time = fits.time; finished = fits.finished; returned = fits.returned }
placed_fits turns unsettled floor tally false fits low =
    record { runtime = omega (arith, fits.runtime); selected = fits.selected; time = fits.time; finished = fits.finished; returned = fits.returned }

-- one more turn is made, and isn't charged yet
pub picked_fits : (turns : ℕ) (tally : Tally) → FitsTurns turns 0 tally → FitsTurns (turns + 1) 1 (record tally { selected = tally.selected + 1 })
picked_fits turns tally fits = record {
  runtime = omega (arith, fits.runtime);
  selected = omega (arith, fits.selected);
  time = omega (arith, fits.time);
  finished = fits.finished;
  returned = omega (arith, fits.returned);
}

pub other_fits : (turns : ℕ) (tally : Tally) → FitsTurns turns 0 tally → FitsTurns (turns + 1) 1 tally
other_fits turns tally fits = record {
  runtime = omega (arith, fits.runtime);
  selected = omega (arith, fits.selected);
  time = omega (arith, fits.time);
  finished = fits.finished;
  returned = omega (arith, fits.returned);
}

-- the turn is charged
pub charged_fits : (turns : ℕ) (tally charged : Tally) → FitsTurns turns 1 tally → charged.runtime ≤ tally.runtime + 2 ^ 50 → charged.selected ≡ tally.selected →
    charged.time ≤ tally.time + 2 ^ 40 → charged.finished < 2 ^ 64 → charged.returned ≡ tally.returned → FitsTurns turns 0 charged
charged_fits turns tally charged fits runtime selected time finished returned = record {
  runtime = omega (arith, fits.runtime);
  selected = omega (arith, fits.selected);
  time = omega (arith, fits.time);
  finished = finished;
  returned = omega (arith, fits.returned);
}

-- the job that is out is handed back
pub returned_fits : (turns : ℕ) (tally : Tally) → FitsTurns turns 1 tally → FitsTurns turns 0 (record tally { returned = tally.returned + 1 })
returned_fits turns tally fits = record {
  runtime = omega (arith, fits.runtime);
  selected = fits.selected;
  time = omega (arith, fits.time);
  finished = fits.finished;
  returned = omega (arith, fits.returned);
}

pub settled_fits : (turns : ℕ) (tally : Tally) → FitsTurns turns 1 tally → FitsTurns turns 0 tally
settled_fits turns tally fits = record {
  runtime = omega (arith, fits.runtime);
  selected = fits.selected;
  time = omega (arith, fits.time);
  finished = fits.finished;
  returned = omega (arith, fits.returned);
}

module _ {J : Type 0} where
  -- also of a queue that there isn't
  pub tally_fits : (view : CoreView J) (queue : ℕ) → IsWithinTurns view → FitsTurns view.turns (unsettled_count view) (tally_of queue view)
  tally_fits view queue within = elim (cases_lt queue (length view.tallies)) [
    | inl there ↦ All-get_or (FitsTurns view.turns (unsettled_count view)) view.tallies queue no_tally there within.tallies
    | inr past ↦ rw (get_or_past view.tallies queue no_tally past) (no_tally_fits view.turns (unsettled_count view) view.floor within.floor)
  ]

  pub IsBounded-from_turns : (view : CoreView J) → IsWithinTurns view → IsBounded view
  IsBounded-from_turns view within = λ queue. let fits = (tally_fits view queue within).runtime in omega arith
