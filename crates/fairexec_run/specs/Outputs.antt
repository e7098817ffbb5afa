-- What a run writes, as far as it comes.
use Rattle.std.specs.Prelude.{◌≡◌, ℕ, Bool, List, Option, Ok}
use Rattle.std.specs.Option.{IfSome}
use Rattle.std.specs.Io.KnownBytes.{Appends}
use Rattle.fairexec_script.specs.declared.event.ScriptEvent.{ScriptEvent}
use Rattle.fairexec_script.specs.Drafts.{Drafted}
use Rattle.fairexec_script.specs.Scripts.{script_of}
use Rattle.text_journal.specs.Pages.{Puts}
use Rattle.fairexec_run.specs.Printed.{IsPrinted}
use Rattle.fairexec_run.specs.Transcripts.{ScriptWorld, PrintsAll}

-- the events happen, and their text is put behind what the page had; a first part of the page may be written already
pub record WritesAll (events : List ScriptEvent) (old new : ScriptWorld) (page_old page_new : List ℕ) (sink_old sink_new : Option (List ℕ)) : Type 0 where
  pub text : List ℕ
  pub prints : PrintsAll events old new text
  pub puts : Puts page_old page_new sink_old sink_new text

-- the source tells this script, and what is wanted of it is written
pub record IsDone (journal stats : Bool) (source sink_old sink_new : Option (List ℕ)) : Type 0 where
  pub script : Drafted
  pub told : IfSome source (λ text. script_of text ≡ Ok script)
  pub output : List ℕ
  pub right : IsPrinted journal stats script output
  pub appends : Appends sink_old sink_new output

-- the source tells a whole script
abbrev pub TellsScript : Option (List ℕ) → Type 0
TellsScript source = (script : Drafted) × IfSome source (λ text. script_of text ≡ Ok script)
