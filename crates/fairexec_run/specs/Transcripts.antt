-- What is printed of a script's events.
use Rattle.std.specs.Prelude.{◌≡◌, ℕ, ◌+◌, ◌*◌, ◌++◌, List, [], ◌∷◌, length, reverse, Some, if◌then◌else◌}
use Rattle.base_words.specs.declared.note.Note.{Note}
use Rattle.base_words.specs.declared.note.Note.TheVariants.{Created}
use Rattle.base_words.specs.Bursts.{has_bursts}
use Rattle.base_words.specs.Commands.{created_count}
use Rattle.base_jobs.specs.Scripts.{Script}
use Rattle.model_world.specs.declared.event.Event.{Event}
use Rattle.fairexec_script.specs.declared.event.ScriptEvent.{ScriptEvent}
use Rattle.model_world.specs.declared.event.Reply.{Reply}
use Rattle.model_world.specs.declared.event.Reply.TheVariants as reply
use Rattle.base_words.specs.Assembly.{Assembly}
use Rattle.base_words.specs.Joining.{AreJoined}
use Rattle.base_words.specs.Sound.{IsSound}
use Rattle.model_world.specs.State.{WorldView, journal_at, noted, assembly_of}
use Rattle.model_world.specs.Sends.{actor_of}
use Rattle.model_world.specs.Opening.{IsFresh, HasAllLists}
use Rattle.model_world.specs.Runs.{Happens, IsRun, RunsTo}
use Rattle.base_jobs.specs.ScriptMeaning.{script_meaning}
use Rattle.fairexec_script.specs.Drafts.{Drafted}
use Rattle.fairexec_run.specs.Replies.{event_of, ends_of, quiet_of}
use Rattle.fairexec_run.specs.EventTexts.{event_text}

-- a world of script jobs
abbrev pub ScriptWorld : Type 0
ScriptWorld = WorldView Script ℕ

-- one event of script jobs
abbrev pub Occurs : Event Script → ScriptWorld → ScriptWorld → Reply Script → Type 0
Occurs event old new answer = Happens script_meaning event old new answer

-- a run of events of script jobs
abbrev pub RunOf : List (Event Script) → ScriptWorld → ScriptWorld → Type 0
RunOf = IsRun script_meaning

-- these are the journals after such a run
abbrev pub RunsOf : List (Event Script) → ScriptWorld → Assembly ℕ → Type 0
RunsOf = RunsTo script_meaning

-- the event was not handed back: its actors exist, and their journals have room
abbrev pub IsHeard : Reply Script → Type 0
IsHeard (reply.NoActor back) = ⊥
IsHeard (reply.NoRoom back) = ⊥
IsHeard _ = Unit {0}

-- the event happens, and this is its text
pub record Prints (event : ScriptEvent) (old new : ScriptWorld) (text : List ℕ) : Type 0 where
  pub answer : Reply Script
  pub occurs : Occurs (event_of event) old new answer
  pub heard : IsHeard answer
  pub notes : List (Note ℕ)
  pub noted : journal_at (actor_of (event_of event)) new ≡ notes ++ journal_at (actor_of (event_of event)) old
  pub printed : text ≡ event_text (ends_of event) (reverse notes) (quiet_of answer)

-- the events happen one after another, and their texts follow one another
abbrev pub PrintsAll : List ScriptEvent → ScriptWorld → ScriptWorld → List ℕ → Type 0
PrintsAll [] old new text = (new ≡ old) × (text ≡ [])
PrintsAll (event ∷ events) old new text =
    (between : ScriptWorld) × (first rest : List ℕ)
    × Prints event old between first × PrintsAll events between new rest × (text ≡ first ++ rest)

-- a queue is made at the opening, under the next number
abbrev pub with_queue : ℕ × ℕ → ScriptWorld → ScriptWorld
with_queue queue world = noted queue.0 (Created (created_count (journal_at queue.0 world) + 1) queue.1 ∷ []) world

abbrev pub with_queues : List (ℕ × ℕ) → ScriptWorld → ScriptWorld
with_queues [] world = world
with_queues (queue ∷ queues) world = with_queues queues (with_queue queue world)

-- The room of a journal in a system of this size, with such turns and so many events: more than they fill. Each event has room for 6 notes, or for
-- three a poll and four if a turn may have many polls; the queues of a core, the places of the links and a turn have their own (`IsRoomy`).
abbrev pub script_room : ℕ → ℕ → ℕ → ℕ → ℕ
script_room cores cap burst events =
    if has_bursts burst then (3 * burst + 4) * events + 256 + 5 * cores * cap + 2 * burst + 2
    else 6 * events + 256 + 3 * cores * cap + 4

-- what is printed of a whole script; behind it stands a journal for each actor, lawful and joined, and they are sound together
pub record IsOutput (script : Drafted) (output : List ℕ) : Type 0 where
  pub cores : ℕ
  pub cap : ℕ
  pub size : script.size ≡ Some (cores, cap)
  pub empty : ScriptWorld
  pub fresh : IsFresh cores cap script.burst (script_room cores cap script.burst (length script.events)) empty
  pub end : ScriptWorld
  pub all : PrintsAll script.events (with_queues script.queues empty) end output
  pub lists : HasAllLists end
  pub joined : AreJoined (assembly_of end)
  pub sound : IsSound (assembly_of end)
