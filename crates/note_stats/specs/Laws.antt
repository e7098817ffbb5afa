-- Laws of the statistics of lawful journals.
use Rattle.std.specs.Prelude.{◌≡◌, ℕ, ◌+◌, length}
use Rattle.base_words.specs.Journal.{Journal, EachNote}
use Rattle.base_words.specs.Lawful.{MayStand}
use Rattle.base_words.specs.Lines.{line}
use Rattle.base_words.specs.Parks.{parked}
use Rattle.base_words.specs.Terms.{Terms}
use Rattle.base_words.specs.Sums.{waiting_count}

-- in a lawful journal the jobs that wait are those of the queue's line and the parked ones
abbrev pub WaitingIsLine : Type 0
WaitingIsLine =
    (terms : Terms) (queue : ℕ) (journal : Journal ℕ) → EachNote (MayStand terms) journal → waiting_count queue journal ≡ length (line queue journal) + length (parked queue journal)
