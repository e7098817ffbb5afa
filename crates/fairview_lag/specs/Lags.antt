-- The lags of two queues: what each gained since both have work, behind each turn.
use Rattle.std.specs.Prelude.{◌≡◌, ℕ, ◌+◌, ◌-◌, ◌≤◌, nat_lt, if◌then◌else◌, Option, Some, None, List, [], ◌∷◌, All, Contains}
use Rattle.base_words.specs.declared.note.Note.{Note}
use Rattle.base_words.specs.declared.note.Note.TheVariants.{Yield, Park, Stayed, Done, Turned}
use Rattle.base_words.specs.Bursts.{has_bursts}
use Rattle.base_words.specs.Journal.{Journal, with_last}
use Rattle.base_words.specs.Lag.{greatest_charge}
use Rattle.base_words.specs.Picks.{turns}
use Rattle.fairview_marks.specs.Leads.{are_together}
use Rattle.fairview_lag.specs.Stretches.{gained_together}
use Rattle.fairview_lag.specs.declared.stretch.Lag.{Lag}

-- how far the first queue is ahead of the second
abbrev pub ahead : Lag → ℕ
ahead lag = lag.first - lag.second

-- how far the first queue is behind the second
abbrev pub behind : Lag → ℕ
behind lag = lag.second - lag.first

-- how far the two are apart
abbrev pub apart : Lag → ℕ
apart lag = ahead lag + behind lag

-- the greatest charges of two queues together
abbrev pub bound : {T : Type 0} → ℕ → ℕ → ℕ → Journal T → ℕ
bound burst first second journal = greatest_charge burst first journal + greatest_charge burst second journal

-- the lag of two queues that have work
abbrev pub lag : {T : Type 0} → ℕ → ℕ → ℕ → Journal T → Lag
lag burst first second journal = record {
  turn = turns journal;
  first = gained_together burst first second first journal;
  second = gained_together burst first second second journal;
  bound = bound burst first second journal;
}

-- a lag is told only of queues that both have work
abbrev pub lag_of : {T : Type 0} → ℕ → ℕ → ℕ → Journal T → Option Lag
lag_of burst first second journal = if are_together first second journal then Some (lag burst first second journal) else None

-- the lag behind a settled poll that ends its turn
abbrev pub lag_polled : {T : Type 0} → ℕ → ℕ → ℕ → Journal T → Option Lag
lag_polled burst first second journal = if has_bursts burst then None else lag_of burst first second journal

-- the lag behind a turn that a note of its own ends
abbrev pub lag_turned : {T : Type 0} → ℕ → ℕ → ℕ → Journal T → Option Lag
lag_turned burst first second journal = if has_bursts burst then lag_of burst first second journal else None

-- the lag behind a note that ends a turn
abbrev pub lag_told : {T : Type 0} → ℕ → ℕ → ℕ → Note T → Journal T → Option Lag
lag_told burst first second (Yield name time) before = lag_polled burst first second (Yield name time ∷ before)
lag_told burst first second (Park name time) before = lag_polled burst first second (Park name time ∷ before)
lag_told burst first second (Stayed name time) before = lag_polled burst first second (Stayed name time ∷ before)
lag_told burst first second (Done name time value) before = lag_polled burst first second (Done name time value ∷ before)
lag_told burst first second (Turned queue time) before = lag_turned burst first second (Turned queue time ∷ before)
lag_told burst first second _ before = None

-- the lags of two queues, the oldest first
abbrev pub lags : {T : Type 0} → ℕ → ℕ → ℕ → Journal T → List Lag
lags burst first second [] = []
lags burst first second (note ∷ before) = with_last (lags burst first second before) (lag_told burst first second note before)

-- the first of two lags, unless the queues are further apart in the second
abbrev pub further : Option Lag → Option Lag → Option Lag
further old None = old
further None (Some new) = Some new
further (Some old) (Some new) = if nat_lt (apart old) (apart new) then Some new else Some old

-- the first lag in which the queues are the furthest apart
abbrev pub greatest_lag : {T : Type 0} → ℕ → ℕ → ℕ → Journal T → Option Lag
greatest_lag burst first second [] = None
greatest_lag burst first second (note ∷ before) = further (greatest_lag burst first second before) (lag_told burst first second note before)

-- of no lag nothing is told, else a lag in which the queues are the furthest apart
abbrev pub IsGreatest : List Lag → Option Lag → Type 0
IsGreatest lags None = lags ≡ []
IsGreatest lags (Some greatest) = All (λ lag. apart lag ≤ apart greatest) lags × Contains lags greatest
