-- One world and the same events have one result, unless a core had no memory for a queue.
use Rattle.std.specs.Prelude.{◌≡◌, ◌⊎◌, ℕ, Bool, true, false, ◌||◌, Option, slice_index_or, List, [], ◌∷◌, ◌++◌, IsTrue}
use Rattle.base_words.specs.declared.note.Note.{Note}
use Rattle.base_words.specs.declared.note.Note.TheVariants.{Answered}
use Rattle.base_words.specs.declared.order.Answer.TheVariants.{NoMemory}
use Rattle.base_words.specs.Assembly.{Assembly}
use Rattle.base_words.specs.Journal.{Journal}
use Rattle.base_jobs.specs.Calls.{Call}
use Rattle.base_jobs.specs.declared.job.Step.{Step}
use Rattle.base_jobs.specs.Meanings.{Meaning}
use Rattle.model_world.specs.declared.event.Event.{Event}
use Rattle.model_world.specs.declared.event.Reply.{Reply}
use Rattle.model_world.specs.State.{WorldView}
use Rattle.model_world.specs.Opening.{HasAllLists, IsFresh}
use Rattle.model_world.specs.Runs.{Happens, RunsTo}
use Rattle.model_laws.specs.Alike.{AskAlike, AreAllAlike}

module _ {T : Type 0} where
  -- whether a note tells that there was no memory for a queue
  abbrev pub is_refusal : Note T → Bool
  is_refusal (Answered name NoMemory) = true
  is_refusal _ = false

  -- whether a journal tells it
  abbrev pub tells_refusal : Journal T → Bool
  tells_refusal [] = false
  tells_refusal (note ∷ before) = is_refusal note || tells_refusal before

  -- a core had no memory for a queue, which its journal tells
  abbrev pub WasRefused : List (Journal T) → Type 0
  WasRefused journals = (core : ℕ) × IsTrue (tells_refusal (slice_index_or journals core []))

  -- the notes that a core's journal got since then tell it
  pub record WasRefusedSince (old new : List (Journal T)) : Type 0 where
    pub core : ℕ
    pub notes : Journal T
    pub since : slice_index_or new core [] ≡ notes ++ slice_index_or old core []
    pub told : IsTrue (tells_refusal notes)

module _ {J T : Type 0} (meaning : Meaning J T) where
  -- each poll of a job owes one step and one time, whatever its post answered, and asks the same of it as long as it is answered alike
  pub record OwesOne : Type 0 where
    pub step : (job : J) (place : ℕ) (calls others : List (Call J T)) (step other : Step T) (told other_told : Option ℕ) →
        meaning.polls job place calls step told → meaning.polls job place others other other_told → step ≡ other
    pub told : (job : J) (place : ℕ) (calls others : List (Call J T)) (step other : Step T) (told other_told : Option ℕ) →
        meaning.polls job place calls step told → meaning.polls job place others other other_told → told ≡ other_told
    pub asks : (job : J) (place : ℕ) (calls others : List (Call J T)) (step other : Step T) (told other_told : Option ℕ) →
        meaning.polls job place calls step told → meaning.polls job place others other other_told → AskAlike calls others

module _ {J : Type 0} (meaning : Meaning J ℕ) where
  -- events, one after another, and what their actors are told
  abbrev pub IsToldRun : List (Event J) → WorldView J ℕ → WorldView J ℕ → List (Reply J) → Type 0
  IsToldRun [] old new replies = (new ≡ old) × (replies ≡ [])
  IsToldRun (event ∷ events) old new replies =
      (between : WorldView J ℕ) × (answer : Reply J) × (rest : List (Reply J))
      × Happens meaning event old between answer × IsToldRun events between new rest × (replies ≡ answer ∷ rest)

  -- two runs of the same events from one world end in one world, with replies that are alike; else one of them was refused memory
  abbrev pub RunIsDetermined : Type 0
  RunIsDetermined =
      (events : List (Event J)) (old new other : WorldView J ℕ) (replies others : List (Reply J)) → HasAllLists old →
      IsToldRun events old new replies → IsToldRun events old other others →
      ((new ≡ other) × AreAllAlike meaning replies others) ⊎ (WasRefusedSince old.journals new.journals ⊎ WasRefusedSince old.journals other.journals)

  -- and so their journals are the same
  abbrev pub AssemblyIsDetermined : Type 0
  AssemblyIsDetermined =
      (events : List (Event J)) (old : WorldView J ℕ) (assembly other : Assembly ℕ) → HasAllLists old →
      RunsTo meaning events old assembly → RunsTo meaning events old other →
      (assembly ≡ other) ⊎ (WasRefusedSince old.journals assembly.journals ⊎ WasRefusedSince old.journals other.journals)

-- two fresh worlds of the same numbers are one
abbrev pub OpeningIsDetermined : Type 0 → Type 0 → Type 0
OpeningIsDetermined J T = (cores cap burst room : ℕ) (world other : WorldView J T) → IsFresh cores cap burst room world → IsFresh cores cap burst room other → world ≡ other
