-- How a runtime whose actors pass their notes on starts and finishes.
use Rattle.std.specs.Prelude.{◌≡◌, ◌⊎◌, All, ℕ, ◌+◌, List, [], ◌∷◌, ◌++◌, length, map, Option, Some, Result, Ok, Err, slice_get}
use Rattle.base_words.specs.Assembly.{Assembly}
use Rattle.base_words.specs.Journal.{EachNote, Journal}
use Rattle.base_jobs.specs.Meanings.{Meaning}
use Rattle.note_journal.specs.Passing.{IsAsked}
use Rattle.run_config.specs.Configs.{Entry, IsGood}
use Rattle.run_worker.specs.Rooms.{ActsByCommand, MayAct, least_free}
use Rattle.run_runtime.specs.declared.error.FinishError.{FinishError}
use Rattle.run_runtime.specs.declared.error.FinishError.TheVariants.{NotClosed}
use Rattle.run_runtime.specs.declared.error.StartError.{StartError}
use Rattle.run_runtime.specs.declared.error.StartError.TheVariants.{BadConfig}
use Rattle.run_runtime.specs.declared.passed.ActorNotes.{ActorNotes}
use Rattle.run_runtime.specs.declared.passed.Passed.{Passed}
use Rattle.run_runtime.specs.Calls.{HasFinishedBy, Starts}
use Rattle.actor_caller.specs.Closings.{IsFirstOpen}
use Rattle.actor_caller.specs.State.{RuntimeView}

-- a start with so many sinks: one for each core and one for the outside actor are wanted, and otherwise the configuration is not good
abbrev pub StartsWithSinks : {J T : Type 0} → ℕ → ℕ → ℕ → ℕ → List Entry → ℕ → ℕ → ℕ → Result (RuntimeView J T) StartError → Type 0
StartsWithSinks cores cap burst room queues clocks gates sinks (Err BadConfig) = IsGood cores cap burst room queues clocks gates → sinks ≡ cores + 1 → ⊥
StartsWithSinks cores cap burst room queues clocks gates sinks answer = (sinks ≡ cores + 1) × Starts cores cap burst room queues clocks gates answer

-- The sinks stand in the order in which they were given, as far as they bear marks: each core has that of its number, and the caller the last one. Of that
-- it is seen how often it was asked.
pub record HasSinks {J T S : Type 0} (asks : S → Option ℕ) (mark : S → ℕ) (sinks : List S) (view : RuntimeView J T) : Type 0 where
  pub marks_are : view.marks ≡ map mark sinks
  pub front : List S
  pub last : S
  pub split : sinks ≡ front ++ last ∷ []
  pub asks_are : view.asks ≡ asks last

module _ {S : Type 0} (has : S → Journal ℕ) where
  -- all notes of an actor: those that are kept, behind those that its sink has
  abbrev pub notes_of : ActorNotes S → Journal ℕ
  notes_of actor = actor.kept.notes ++ has actor.sink

  -- the journals of all actors
  abbrev pub assembly_of : Passed S → Assembly ℕ
  assembly_of passed = record { cores = passed.cores; cap = passed.cap; burst = passed.burst; journals = map notes_of passed.actors.items }

module _ {J S : Type 0} (refused : S → ℕ → Type 0) where
  -- A core never closed by itself, if its sink never refused. Otherwise the sink refused when it had so many notes, and the core closed by itself only where its
  -- journal, with these notes passed on, was short. It sent, redeemed and let go only while one of its jobs was polled.
  abbrev pub MayActBeside : RuntimeView J ℕ → S → Journal ℕ → Type 0
  MayActBeside view sink notes =
      ActsByCommand notes ⊎ ((taken : ℕ) × refused sink taken × EachNote (MayAct (least_free view.desk.cores view.desk.cap view.desk.burst) (taken + view.room)) notes)

  -- the same, beside the sink of this core
  abbrev pub MayActAmong : RuntimeView J ℕ → List (ActorNotes S) → ℕ → Journal ℕ → Type 0
  MayActAmong view actors core notes = (actor : ActorNotes S) × (slice_get actors core ≡ Some actor) × MayActBeside view actor.sink notes

module _ {S : Type 0} (has : S → Journal ℕ) (refused : S → ℕ → Type 0) where
  -- nothing is kept, or the sink refused it
  abbrev pub KeepsRefused : ActorNotes S → Type 0
  KeepsRefused actor = (actor.kept.notes ≡ []) ⊎ refused actor.sink (length (has actor.sink))

module _ {J S : Type 0} (meaning : Meaning J ℕ) (has : S → Journal ℕ) (refused : S → ℕ → Type 0) (asks : S → Option ℕ) (mark : S → ℕ) where
  -- The journals of a runtime that has finished are what the sinks have, and behind it what they refused. Each sink stands at the place at which it was given,
  -- as far as it bears a mark. That of the outside actor was asked once more.
  pub record HasPassed (view : RuntimeView J ℕ) (passed : Passed S) : Type 0 where
    pub finished : HasFinishedBy meaning (MayActAmong refused view passed.actors.items) view (assembly_of has passed)
    pub rest : All (KeepsRefused has refused) passed.actors.items
    pub marks : map (λ actor. mark actor.sink) passed.actors.items ≡ view.marks
    pub outside : ActorNotes S
    pub outside_is : slice_get passed.actors.items view.desk.cores ≡ Some outside
    pub asked : IsAsked view.asks (asks outside.sink)

  -- a finish: a core is still open and the runtime comes back, or all workers have ended
  abbrev pub FinishesWithSinks : RuntimeView J ℕ → Result (Passed S) (FinishError (RuntimeView J ℕ)) → Type 0
  FinishesWithSinks view (Ok passed) = HasPassed view passed
  FinishesWithSinks view (Err (NotClosed core same)) = IsFirstOpen core view × (same ≡ view)
