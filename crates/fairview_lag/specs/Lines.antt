-- The greatest lags of a run as lines of text.
use Rattle.std.specs.Prelude.{ℕ, ◌++◌, nat_lt, if◌then◌else◌, List, codes, decimal, flat_map}
use Rattle.base_words.specs.Assembly.{Assembly}
use Rattle.fairview_lag.specs.Lags.{apart}
use Rattle.fairview_lag.specs.Pairs.{run_pairs}
use Rattle.fairview_lag.specs.declared.pairs.PairLag.{PairLag}
use Rattle.fairview_lag.specs.declared.stretch.Lag.{Lag}

-- which of two queues is ahead of which
abbrev pub order_text : ℕ → ℕ → List ℕ
order_text leader other = codes "q" ++ (decimal leader ++ (codes " ahead of q" ++ decimal other))

-- the second queue is ahead only if it gained more
abbrev pub who_text : PairLag → List ℕ
who_text pair = if nat_lt pair.lag.first pair.lag.second then order_text pair.second pair.first else order_text pair.first pair.second

-- how far, the bound, and the turn
abbrev pub numbers_text : Lag → List ℕ
numbers_text lag = codes ": lead " ++ (decimal (apart lag) ++ (codes " of at most " ++ (decimal lag.bound ++ (codes ", at turn " ++ decimal lag.turn))))

-- what is told of a pair
abbrev pub pair_text : PairLag → List ℕ
pair_text pair = codes "core " ++ (decimal pair.core ++ (codes ", " ++ (who_text pair ++ numbers_text pair.lag)))

-- its line
unfoldable pub pair_line : PairLag → List ℕ
pair_line pair = pair_text pair ++ codes "\n"

-- the lines of all pairs of a run
abbrev pub lag_text : Assembly ℕ → List ℕ
lag_text assembly = flat_map pair_line (run_pairs assembly)
