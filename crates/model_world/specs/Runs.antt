-- Runs: events, one after another, each with the notes of its step and the reply of its actor. Links show all that was sent.
use Rattle.std.specs.Prelude.{◌≡◌, ℕ, List, [], ◌∷◌}
use Rattle.base_jobs.specs.Meanings.{Meaning}
use Rattle.model_world.specs.declared.event.Event.{Event}
use Rattle.model_world.specs.declared.event.Event.TheVariants.{Send, Deliver, Turn, Shut, Collect, Redeem, Detach}
use Rattle.model_world.specs.declared.event.Reply.{Reply}
use Rattle.model_world.specs.declared.event.Reply.TheVariants as reply
use Rattle.base_words.specs.Assembly.{Assembly}
use Rattle.model_world.specs.State.{WorldView, IsNearlyFull, assembly_of}
use Rattle.model_world.specs.Sends.{actor_of, AreThere, Sends}
use Rattle.model_world.specs.Deliveries.{Delivers}
use Rattle.model_world.specs.Turns.{Turns}
use Rattle.model_world.specs.Closings.{Shuts}
use Rattle.model_world.specs.Collections.{Collects, Redeems, Detaches}

-- the words of a task: which jobs are of one task, the polls that a job made before, what a poll owes, and what may answer it
module _ {J : Type 0} (meaning : Meaning J ℕ) where
  -- the step of an event whose actors exist, and for which the journal has room
  abbrev pub Steps : Event J → WorldView J ℕ → WorldView J ℕ → Reply J → Type 0
  Steps (Send sender core order) old new answer = Sends sender core order old new answer
  Steps (Deliver core sender) old new answer = Delivers core sender old new answer
  Steps (Turn core spent) old new answer = Turns meaning core spent old new answer
  Steps (Shut core sender) old new answer = Shuts core sender old new answer
  Steps (Collect sender core) old new answer = Collects sender core old new answer
  Steps (Redeem sender name) old new answer = Redeems meaning sender name old new answer
  Steps (Detach sender name) old new answer = Detaches sender name old new answer

  -- one event: first it is asked whether its actors exist, then whether the journal has room
  abbrev pub Happens : Event J → WorldView J ℕ → WorldView J ℕ → Reply J → Type 0
  Happens event old new (reply.NoActor back) = (back ≡ event) × (AreThere old.cores event → ⊥) × (new ≡ old)
  Happens event old new (reply.NoRoom back) =
      (back ≡ event) × AreThere old.cores event × IsNearlyFull (actor_of event) old × (new ≡ old)
  Happens event old new answer =
      AreThere old.cores event × (IsNearlyFull (actor_of event) old → ⊥) × Steps event old new answer

  -- events, one after another
  abbrev pub IsRun : List (Event J) → WorldView J ℕ → WorldView J ℕ → Type 0
  IsRun [] old new = new ≡ old
  IsRun (event ∷ events) old new =
      (between : WorldView J ℕ) × (answer : Reply J) × Happens event old between answer × IsRun events between new

  -- these are the journals after a run of the events
  abbrev pub RunsTo : List (Event J) → WorldView J ℕ → Assembly ℕ → Type 0
  RunsTo events old assembly = (end : WorldView J ℕ) × IsRun events old end × (assembly ≡ assembly_of end)
