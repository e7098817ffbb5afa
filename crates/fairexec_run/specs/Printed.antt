-- What is printed of a script, by what is wanted: its events or its journals, and the statistics behind them.
use Rattle.std.specs.Prelude.{◌≡◌, ℕ, Bool, true, false, List, ◌++◌, length, map, Option, Some}
use Rattle.base_words.specs.Assembly.{Assembly, journal_of}
use Rattle.base_words.specs.Joining.{AreJoined}
use Rattle.base_words.specs.Sound.{IsSound}
use Rattle.base_words.specs.Spelled.{IsSpelled}
use Rattle.fairexec_report.specs.StatTexts.{IsStatsIf, IsStatsText}
use Rattle.fairexec_script.specs.Drafts.{Drafted}
use Rattle.text_journal.specs.Pages.{Puts}
use Rattle.text_journal.specs.Texts.{journal_text}
use Rattle.model_world.specs.Opening.{IsFresh}
use Rattle.model_world.specs.State.{assembly_of}
use Rattle.fairexec_run.specs.Replies.{event_of}
use Rattle.fairexec_run.specs.Transcripts.{ScriptWorld, RunsOf, IsOutput, script_room, with_queues}

-- these are the journals of a run of the script, they are sound together, and this is their text
pub record IsRunText (script : Drafted) (assembly : Assembly ℕ) (text : List ℕ) : Type 0 where
  pub cores : ℕ
  pub cap : ℕ
  pub size : script.size ≡ Some (cores, cap)
  pub empty : ScriptWorld
  pub fresh : IsFresh cores cap script.burst (script_room cores cap script.burst (length script.events)) empty
  pub runs : RunsOf (map event_of script.events) (with_queues script.queues empty) assembly
  pub spelled : IsSpelled assembly
  pub joined : AreJoined assembly
  pub sound : IsSound assembly
  pub told : text ≡ journal_text assembly

-- the events of the script are printed one after another, and these are the journals at the end
pub record IsEventText (script : Drafted) (assembly : Assembly ℕ) (text : List ℕ) : Type 0 where
  pub output : IsOutput script text
  pub journals : assembly ≡ assembly_of output.end

-- what comes first: the journals, if they are wanted, else the events
abbrev pub IsFront : Bool → Drafted → Assembly ℕ → List ℕ → Type 0
IsFront true script assembly text = IsRunText script assembly text
IsFront false script assembly text = IsEventText script assembly text

-- the statistics of all cores are put behind what the page had; a first part of the page may be written already
pub record PutsStats (assembly : Assembly ℕ) (page_old page_new : List ℕ) (sink_old sink_new : Option (List ℕ)) : Type 0 where
  pub text : List ℕ
  pub told : IsStatsText assembly.cores assembly.burst (λ core. journal_of core assembly) text
  pub puts : Puts page_old page_new sink_old sink_new text

-- all that is printed of a script: behind its front the statistics, if they are wanted
pub record IsPrinted (journal stats : Bool) (script : Drafted) (output : List ℕ) : Type 0 where
  pub assembly : Assembly ℕ
  pub front : List ℕ
  pub rear : List ℕ
  pub printed : IsFront journal script assembly front
  pub counted : IsStatsIf stats assembly rear
  pub whole : output ≡ front ++ rear
