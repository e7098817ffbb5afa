-- The histories of all journals.
use Rattle.std.specs.Prelude.{◌≡◌, ℕ, Some, List, length, slice_get}
use Rattle.base_words.specs.Assembly.{Assembly, journal_of}
use Rattle.note_facts.specs.declared.histories.History.{History}
use Rattle.note_facts.specs.Histories.{IsHistory}

-- the histories, as many as said, are those of the first actors
pub record AreHistories (histories : List History) (assembly : Assembly ℕ) (count : ℕ) : Type 0 where
  pub counted : length histories ≡ count
  pub each : (actor : ℕ) (history : History) → slice_get histories actor ≡ Some history → IsHistory history (journal_of actor assembly)
