-- What is known of the jobs that are parked, and how a note changes it.
use Rattle.std.specs.Prelude.{◌≡◌, ℕ, Bool, true, is_some, unwrap_or, if◌then◌else◌, Option, Some, None}
use Rattle.base_words.specs.declared.names.JobId.{JobId}
use Rattle.base_words.specs.declared.note.Note.{Note}
use Rattle.base_words.specs.declared.note.Note.TheVariants.{Woken, Park, Returned}
use Rattle.base_words.specs.Names.{same_name}
use Rattle.note_facts.specs.declared.endings.Endings.{Endings}
use Rattle.note_facts.specs.declared.parks.Nap.{Nap}
use Rattle.note_facts.specs.Names.{Entries, known}
use Rattle.note_facts.specs.Parks.{IsPast, awake, nap_in, resting}

-- nothing is known under this name, and under each other the same as before
abbrev pub Forgets : {V : Type 0} → Entries V → Entries V → JobId → Type 0
Forgets old new name = (other : JobId) → known new other ≡ (if same_name other name then None else known old other)

-- what is known of a job: where nothing is, it is awake
abbrev pub nap_under : Entries Nap → JobId → Nap
nap_under naps name = unwrap_or (known naps name) awake

-- whether there is a place for what is known of a job
abbrev pub has_place : Entries Nap → JobId → Bool
has_place naps name = is_some (known naps name)

-- a note that parks a job needs a place for it
abbrev pub HasPlace : Entries Nap → Note ℕ → Type 0
HasPlace naps (Park name time) = has_place naps name ≡ true
HasPlace naps _ = Unit {0}

-- a note that parks no job
abbrev pub IsNoPark : Note ℕ → Type 0
IsNoPark (Park name time) = ⊥
IsNoPark _ = Unit {0}

-- the same is known of each job
abbrev pub KeepsNaps : Entries Nap → Entries Nap → Type 0
KeepsNaps old new = (name : JobId) → nap_under new name ≡ nap_under old name

-- no place is lost
abbrev pub KeepsPlaces : Entries Nap → Entries Nap → Type 0
KeepsPlaces old new = (name : JobId) → has_place old name ≡ true → has_place new name ≡ true

-- this is known of one job, and of each other the same as before
abbrev pub SetsNap : Entries Nap → Entries Nap → JobId → Nap → Type 0
SetsNap old new name nap = (other : JobId) → nap_under new other ≡ (if same_name other name then nap else nap_under old other)

-- what is known of a job after a note, where this queue was picked last
abbrev pub nap_after : Endings → Option ℕ → Note ℕ → JobId → Nap → Nap
nap_after endings picked (Park other time) name nap = if same_name name other then nap_in endings picked else nap
nap_after endings picked (Woken other) name nap = if same_name name other then awake else nap
nap_after endings picked _ name nap = nap

-- the job that may rest no more behind a note
abbrev pub name_roused : Note ℕ → Option JobId
name_roused (Woken name) = Some name
name_roused (Returned name reason) = Some name
name_roused _ = None

-- each job rests in the same queue, and no park knows of an ending to come
pub record RestsAlike (endings : Endings) (old new : Entries Nap) : Type 0 where
  pub rests : (name : JobId) → resting endings (nap_under new name) ≡ resting endings (nap_under old name)
  pub past : (name : JobId) → IsPast endings (nap_under old name) → IsPast endings (nap_under new name)
