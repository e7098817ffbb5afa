-- The greatest lags of all pairs of queues of a run.
use Rattle.std.specs.Prelude.{ℕ, ◌+◌, max, Option, Some, None, List, [], ◌∷◌}
use Rattle.base_words.specs.declared.note.Note.{Note}
use Rattle.base_words.specs.declared.note.Note.TheVariants.{Took}
use Rattle.base_words.specs.Assembly.{Assembly, journal_of}
use Rattle.base_words.specs.Journal.{Journal}
use Rattle.fairview_marks.specs.Lists.{lists_below, one_of}
use Rattle.fairview_lag.specs.Lags.{greatest_lag}
use Rattle.fairview_lag.specs.declared.stretch.Lag.{Lag}
use Rattle.fairview_lag.specs.declared.pairs.PairLag.{PairLag}

-- how many queues there are up to the one that a job enters
abbrev pub queues_told : {T : Type 0} → Note T → ℕ
queues_told (Took name queue) = queue + 1
queues_told _ = 0

-- the count of the queues up to the last one that a job ever entered: no other queue ever has work
abbrev pub queue_count : {T : Type 0} → Journal T → ℕ
queue_count [] = 0
queue_count (note ∷ before) = max (queue_count before) (queues_told note)

-- a pair, if there is a lag of it
abbrev pub pair_of : ℕ → ℕ → ℕ → Option Lag → Option PairLag
pair_of core first second None = None
pair_of core first second (Some lag) = Some (record { core = core; first = first; second = second; lag = lag })

-- the greatest lag of a pair, if both ever had work behind a turn
abbrev pub pair_told : ℕ → ℕ → ℕ → ℕ → Journal ℕ → Option PairLag
pair_told burst core first second journal = pair_of core first second (greatest_lag burst first second journal)

-- the pairs of a queue with each queue of a lower number
abbrev pub pairs_with : ℕ → ℕ → ℕ → Journal ℕ → List PairLag
pairs_with burst core second journal = lists_below (λ first. one_of (pair_told burst core first second journal)) second

-- all pairs of a core
abbrev pub core_pairs : ℕ → ℕ → Journal ℕ → List PairLag
core_pairs burst core journal = lists_below (λ second. pairs_with burst core second journal) (queue_count journal)

-- all pairs of a run
abbrev pub run_pairs : Assembly ℕ → List PairLag
run_pairs assembly = lists_below (λ core. core_pairs assembly.burst core (journal_of core assembly)) assembly.cores
