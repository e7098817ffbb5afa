-- Outputs of a script that are refused, each for one thing.
use Rattle.std.specs.Prelude.{◌≡◌, ℕ, Bool, false, List, [], codes, replicate, Option, Some, None}
use Rattle.base_words.specs.Assembly.{Assembly}
use Rattle.base_jobs.specs.Scripts.{Script}
use Rattle.model_world.specs.declared.event.Event.{Event}
use Rattle.model_world.specs.declared.event.Reply.TheVariants as reply
use Rattle.model_world.specs.State.{journal_at}
use Rattle.fairexec_script.specs.Drafts.{Drafted}
use Rattle.fairexec_run.specs.Begun.{IsRearPart, IsCutShort, IsFirstText}
use Rattle.fairexec_run.specs.Outputs.{IsDone}
use Rattle.fairexec_run.specs.Printed.{IsPrinted}
use Rattle.fairexec_run.specs.Rooms.{IsRoomy, MayMake}
use Rattle.fairexec_run.specs.Transcripts.{ScriptWorld, IsHeard, IsOutput}

-- a script whose lines tell no size
abbrev pub unsized : Drafted
unsized = record { size = None; burst = 1; queues = []; events = [] }

-- a script of one core, in which nothing happens
abbrev pub idle : Drafted
idle = record { size = Some (1, 1); burst = 1; queues = []; events = [] }

-- each of these is refused
pub record OutputsAreRefused : Type 0 where
  -- a run that is done, and one that wrote something, over an empty text: it tells no size
  pub no_script : (journal stats : Bool) (sink_old sink_new : Option (List ℕ)) → IsDone journal stats (Some []) sink_old sink_new → ⊥
  pub early : (journal stats : Bool) → IsCutShort journal stats (Some []) (Some []) (Some (codes "x")) → ⊥
  -- an output without a size
  pub without_size : (output : List ℕ) → IsOutput unsized output → ⊥
  -- a text of no event: as a whole output, as a beginning, and with the statistics that nobody asked for
  pub no_event : IsOutput idle (codes "x") → ⊥
  pub no_first_event : IsFirstText idle (codes "x") → ⊥
  pub unasked : IsPrinted false false idle (codes "x") → ⊥
  pub rear_unasked : (assembly : Assembly ℕ) → IsRearPart false assembly (codes "x") → ⊥
  -- an event of an actor that isn't there, and one without room for its notes
  pub of_none : (back : Event Script) → IsHeard (reply.NoActor back) → ⊥
  pub no_room : (back : Event Script) → IsHeard (reply.NoRoom back) → ⊥
  -- journals whose room is a note too small for an event, in turns of one poll and of two; and a queue more than a core may have
  pub short_journals : (world : ScriptWorld) → journal_at 0 world ≡ [] → world.room ≡ 12 → IsRoomy 1 1 1 1 world → ⊥
  pub short_in_bursts : (world : ScriptWorld) → journal_at 0 world ≡ [] → world.room ≡ 20 → IsRoomy 1 1 2 1 world → ⊥
  pub many_queues : (world : ScriptWorld) → MayMake (replicate 256 (0, 500)) world → ⊥
