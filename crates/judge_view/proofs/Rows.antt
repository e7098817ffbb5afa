-- The worked rows, by computation.
use Rattle.std.proofs.Common.{refl}
use Rattle.judge_view.specs.Rows.{RowsHold}
use Rattle.judge_view.specs.Shares.{busy_below}

pub rows : RowsHold
unfolding busy_below
rows = record {
  waited = refl;
  ran = refl;
  first_due = refl;
  second_due = refl;
  third_due = refl;
  most = refl;
  nobody = refl;
  polled = refl;
  told = refl;
  parked_due = refl;
  awake_due = refl;
  parked_waits = refl;
  parks = refl;
}
