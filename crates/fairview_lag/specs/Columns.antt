-- The columns of a panel: the greatest leads of two queues in some turns of their core.
use Rattle.std.specs.Prelude.{◌≡◌, ℕ, ◌-◌, ◌*◌, ◌/◌, ◌==◌, min, max, if◌then◌else◌, Option, Some, None, List, [], ◌∷◌, get_or}
use Rattle.base_words.specs.Journal.{Journal}
use Rattle.fairview_lag.specs.Lags.{ahead, behind, lag_told}
use Rattle.fairview_lag.specs.declared.columns.Column.{Column}
use Rattle.fairview_lag.specs.declared.columns.Panel.{Panel}
use Rattle.fairview_lag.specs.declared.stretch.Lag.{Lag}

-- how many of its columns the turns up to this one take: a panel has 1000 for all turns of its core
abbrev pub edge : Panel → ℕ → ℕ
edge panel turn = min (turn * 1000 / max panel.turns 1) 1000

-- the column of a turn
abbrev pub cell : Panel → ℕ → ℕ
cell panel turn = min (edge panel (turn - 1)) 999

-- a column of one lag
abbrev pub column_of : Lag → Column
column_of lag = record { from = lag.turn; to = lag.turn; ahead = ahead lag; behind = behind lag; bound = lag.bound }

-- a column with one lag more: the greatest leads, and the greatest bound
abbrev pub joined : Column → Lag → Column
joined column lag = record {
  from = column.from;
  to = lag.turn;
  ahead = max column.ahead (ahead lag);
  behind = max column.behind (behind lag);
  bound = max column.bound lag.bound;
}

abbrev pub with_lag : Option Column → Lag → Column
with_lag None lag = column_of lag
with_lag (Some column) lag = joined column lag

-- a lag changes the column of its turn
abbrev pub column_after : Panel → ℕ → Option Column → Option Lag → Option Column
column_after panel number old None = old
column_after panel number old (Some lag) = if number == cell panel lag.turn then Some (with_lag old lag) else old

-- the column of this number, if it has any lag
abbrev pub column : Panel → ℕ → Journal ℕ → Option Column
column panel number [] = None
column panel number (note ∷ before) = column_after panel number (column panel number before) (lag_told panel.burst panel.first panel.second note before)

-- each column is changed by a lag as it should be
abbrev pub AreAfter : Panel → Option Lag → List (Option Column) → List (Option Column) → Type 0
AreAfter panel lag old new = (number : ℕ) → get_or new number None ≡ column_after panel number (get_or old number None) lag

-- each column is that of these notes
abbrev pub AreColumns : Panel → List (Option Column) → Journal ℕ → Type 0
AreColumns panel columns journal = (number : ℕ) → get_or columns number None ≡ column panel number journal
