-- Each script has one output, unless a core had no memory for a queue that it orders.
use Rattle.std.specs.Prelude.{◌≡◌, ◌⊎◌, ℕ, List, map, Bool, Option, Some}
use Rattle.model_laws.specs.Creations.{OrderNoQueues}
use Rattle.model_laws.specs.Determined.{WasRefused}
use Rattle.fairexec_script.specs.Drafts.{Drafted}
use Rattle.fairexec_run.specs.Replies.{event_of}
use Rattle.fairexec_run.specs.Outputs.{IsDone}
use Rattle.fairexec_run.specs.Transcripts.{IsOutput}

-- two outputs of a script are one; else a journal behind one of them tells that there was no memory for a queue
abbrev pub OutputIsDetermined : Type 0
OutputIsDetermined =
    (script : Drafted) (output other : List ℕ) (first : IsOutput script output) (second : IsOutput script other) →
    (output ≡ other) ⊎ (WasRefused first.end.journals ⊎ WasRefused second.end.journals)

-- a script that orders no queue by an event has one output
abbrev pub OutputOfJobsIsDetermined : Type 0
OutputOfJobsIsDetermined =
    (script : Drafted) (output other : List ℕ) → OrderNoQueues (map event_of script.events) → IsOutput script output → IsOutput script other → output ≡ other

-- two runs that are done over one text, with the same flags, wrote one output; else a journal behind one of them tells that there was no memory for a queue
abbrev pub TextHasOneOutput : Type 0
TextHasOneOutput =
    (journal stats : Bool) (text : List ℕ) (sink sink_new other_sink other_new : Option (List ℕ)) (first : IsDone journal stats (Some text) sink sink_new) (second : IsDone journal stats (Some text) other_sink other_new) →
    (first.output ≡ second.output) ⊎ (WasRefused first.right.assembly.journals ⊎ WasRefused second.right.assembly.journals)
