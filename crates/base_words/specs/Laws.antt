-- Laws of lawful journals.
use Rattle.std.specs.Prelude.{◌≡◌, ℕ, ◌+◌, ◌*◌, ◌^◌, ◌≤◌, true, length}
use Rattle.base_words.specs.declared.note.Note.{Note}
use Rattle.base_words.specs.declared.note.Note.TheVariants.{Pick}
use Rattle.base_words.specs.Journal.{Journal, EachNote}
use Rattle.base_words.specs.Names.{is_number}
use Rattle.base_words.specs.Work.{has_work, entered_count, left_count, number_if}
use Rattle.base_words.specs.Lines.{line, queue_out}
use Rattle.base_words.specs.Parks.{parked}
use Rattle.base_words.specs.Runtimes.{floor, virtual_runtime}
use Rattle.base_words.specs.Picks.{turns}
use Rattle.base_words.specs.Assembly.{Assembly}
use Rattle.base_words.specs.Clauses.{StartsRight, StandsInOrder}
use Rattle.base_words.specs.Lawful.{MayStand}
use Rattle.base_words.specs.Terms.{Terms}

abbrev pub IsNoLowerPick : {T : Type 0} → Note T → Journal T → Type 0
IsNoLowerPick (Pick queue runtime) before = floor before ≤ runtime
IsNoLowerPick _ before = Unit {0}

-- no pick of a lawful journal is lower than one before it
abbrev pub PicksNeverFall : Type 0
PicksNeverFall = (terms : Terms) (journal : Journal ℕ) → EachNote (MayStand terms) journal → EachNote IsNoLowerPick journal

-- each start and each resume of a lawful journal is of an accepted job that is inside, and no job starts twice
abbrev pub StartsOnce : Type 0
StartsOnce =
    (terms : Terms) (assembly : Assembly ℕ) (journal : Journal ℕ) → EachNote (MayStand terms) journal →
    EachNote (StandsInOrder assembly) journal → EachNote (StartsRight assembly) journal

-- what entered a queue has left it, waits in its line, is parked, or is out
abbrev pub JobsAddUp : {T : Type 0} → ℕ → Journal T → Type 0
JobsAddUp queue journal =
    entered_count queue journal ≡ left_count queue journal + length (parked queue journal) + length (line queue journal) + number_if (is_number queue (queue_out journal))

-- in a lawful journal all that entered is counted so
abbrev pub JobsAreCounted : Type 0
JobsAreCounted = (terms : Terms) (queue : ℕ) (journal : Journal ℕ) → EachNote (MayStand terms) journal → JobsAddUp queue journal

-- in a lawful journal a queue with work stands at or above the floor
abbrev pub WorkIsAboveFloor : Type 0
WorkIsAboveFloor =
    (terms : Terms) (queue : ℕ) (journal : Journal ℕ) → EachNote (MayStand terms) journal →
    has_work queue journal ≡ true → floor journal ≤ virtual_runtime terms.burst queue journal

-- a turn costs less than 2^50, so that after n turns of a lawful journal each virtual runtime is at most n * 2^50
abbrev pub NoRuntimeWraps : Type 0
NoRuntimeWraps =
    (terms : Terms) (queue : ℕ) (journal : Journal ℕ) → EachNote (MayStand terms) journal → virtual_runtime terms.burst queue journal ≤ turns journal * 2 ^ 50
