-- What the walk of the third rule knows of the notes that it has read.
use Rattle.std.specs.Prelude.{◌≡◌, ℕ, true, false, None, slice_index_or}
use Rattle.std.specs.Option.{IsSome}
use Rattle.base_words.specs.Assembly.{Assembly}
use Rattle.base_words.specs.Clauses.{RespectsCloses, return_told}
use Rattle.base_words.specs.Closing.{queue_mode, core_mode, final_count}
use Rattle.base_words.specs.Journal.{Journal, EachNote, latest_told}
use Rattle.judge_audit.specs.declared.closes.Closes.{Closes}

-- what it doesn't have as closed is open, and what it has as closed is closed
pub record KnowsCloses (closes : Closes) (before : Journal ℕ) : Type 0 where
  pub queues : (queue : ℕ) → slice_index_or closes.queues queue false ≡ false → queue_mode queue before ≡ None
  pub gates : (sender : ℕ) → slice_index_or closes.gates sender false ≡ false → final_count sender before ≡ None
  pub queues_closed : (queue : ℕ) → slice_index_or closes.queues queue false ≡ true → IsSome (queue_mode queue before)
  pub gates_shut : (sender : ℕ) → slice_index_or closes.gates sender false ≡ true → IsSome (final_count sender before)
  pub core_open : closes.core ≡ false → core_mode before ≡ None
  pub core_closed : closes.core ≡ true → IsSome (core_mode before)
  pub returning : closes.returning ≡ false → latest_told return_told before ≡ None
  pub handing_back : closes.returning ≡ true → IsSome (latest_told return_told before)

-- the closes are known, and each note kept to them
pub record ClosesSoFar (assembly : Assembly ℕ) (core : ℕ) (closes : Closes) (before : Journal ℕ) : Type 0 where
  pub known : KnowsCloses closes before
  pub right : EachNote (RespectsCloses assembly core) before
