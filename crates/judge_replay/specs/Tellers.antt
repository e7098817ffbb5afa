-- What was told of the journals of a house, and what of that was read.
use Rattle.std.specs.Prelude.{◌≡◌, ◌≢◌, ℕ, ◌+◌, ◌≤◌, List, ◌∷◌, Option, None, Some, length, slice_index_or}
use Rattle.base_words.specs.Assembly.{Assembly, journal_of}
use Rattle.base_words.specs.Journal.{Journal}
use Rattle.base_words.specs.declared.note.Note.{Note}
use Rattle.judge_replay.specs.Houses.{HouseRead, read_at}
use Rattle.judge_replay.specs.declared.reading.Round.{Round}
use Rattle.judge_replay.specs.declared.reading.Round.TheVariants.{Ended}

-- the next note, if there is one, comes behind the others
abbrev pub with_next : Option (Note ℕ) → Journal ℕ → Journal ℕ
with_next None told = told
with_next (Some note) told = note ∷ told

-- the assembly has what was told of each actor of such a house, however much its links may hold
pub record HasTold (cores burst : ℕ) (told : ℕ → Journal ℕ) (assembly : Assembly ℕ) : Type 0 where
  pub cores_are : assembly.cores ≡ cores
  pub burst_is : assembly.burst ≡ burst
  pub many : length assembly.journals ≡ cores + 1
  pub each : (actor : ℕ) → actor ≤ cores → journal_of actor assembly ≡ told actor

abbrev pub waiting_at : List (Option (Note ℕ)) → ℕ → Option (Note ℕ)
waiting_at waiting actor = slice_index_or waiting actor None

-- what was told of the actor was read, except the note that waits
abbrev pub IsReadOf : (ℕ → Journal ℕ) → Option (Note ℕ) → HouseRead → ℕ → Type 0
IsReadOf told waits house actor = told actor ≡ with_next waits (read_at actor house)

-- the same of each actor
pub record AreRead (told : ℕ → Journal ℕ) (waiting : List (Option (Note ℕ))) (house : HouseRead) : Type 0 where
  pub many : length waiting ≡ house.count + 1
  pub each : (actor : ℕ) → actor ≤ house.count → IsReadOf told (waiting_at waiting actor) house actor

module _ {T From : Type 0} (told : T → ℕ → Journal ℕ) (ends : T → ℕ → Type 0) (from : T → From) where
  -- of the other actors as much is told and ended as was
  pub record TellsOne (actor : ℕ) (old new : T) : Type 0 where
    pub others : (other : ℕ) → other ≢ actor → told new other ≡ told old other
    pub stays : (other : ℕ) → other ≢ actor → ends old other → ends new other
    pub same : from new ≡ from old

-- the journal of one actor alone is read on
pub record ReadsOne (actor : ℕ) (old new : HouseRead) : Type 0 where
  pub others : (other : ℕ) → other ≢ actor → read_at other new ≡ read_at other old
  pub numbers : new ≡ record old { cores = new.cores; outside = new.outside }

-- each journal has ended, where that is told of a round
abbrev pub IfEnded : Round → Type 0 → Type 0
IfEnded Ended fact = fact
IfEnded _ fact = Unit {0}
