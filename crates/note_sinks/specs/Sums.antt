-- What a caller sees of the sums of all notes that a sink took.
use Rattle.std.specs.Prelude.{◌≡◌, ℕ, ◌≤◌, List, min, length}
use Rattle.base_words.specs.Journal.{Journal, EachNote}
use Rattle.base_words.specs.Lawful.{MayStand}
use Rattle.base_words.specs.Terms.{Terms}
use Rattle.note_facts.specs.Limits.{greatest_count}
use Rattle.note_sinks.specs.Ledgers.{LedgerView, KnowsLedger}

-- how many polls a turn may have, the notes that were taken, the newest first, how often none were taken for want of memory, and how many were taken before
-- each of those times, the first one first
pub record SumsView : Type 0 where
  pub burst : ℕ
  pub has : Journal ℕ
  pub refusals : ℕ
  pub refused : List ℕ

-- the notes are counted, and where they are lawful and fewer than 2^64, all is known of them
pub record IsSums (burst : ℕ) (ledger : LedgerView) (count : ℕ) (has : Journal ℕ) : Type 0 where
  pub counted : count ≡ min (length has) greatest_count
  pub known : (terms : Terms) → EachNote (MayStand terms) has → length has ≤ greatest_count → KnowsLedger burst ledger has
