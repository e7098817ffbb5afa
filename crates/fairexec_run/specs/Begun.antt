-- What is written of a run that ends early: a beginning of what it prints.
use Rattle.std.specs.Prelude.{◌≡◌, ◌⊎◌, ℕ, ◌≤◌, Bool, true, false, List, [], ◌++◌, length, Option, Some, Ok}
use Rattle.std.specs.Io.KnownBytes.{Keeps}
use Rattle.std.specs.Option.{IfSome}
use Rattle.base_words.specs.Assembly.{Assembly, journal_of}
use Rattle.fairexec_report.specs.StatTexts.{IsTextBelow}
use Rattle.fairexec_script.specs.declared.event.ScriptEvent.{ScriptEvent}
use Rattle.fairexec_script.specs.Drafts.{Drafted}
use Rattle.fairexec_script.specs.Scripts.{script_of}
use Rattle.text_journal.specs.Pages.{AppendsFront}
use Rattle.model_world.specs.Opening.{IsFresh}
use Rattle.fairexec_run.specs.Printed.{IsFront}
use Rattle.fairexec_run.specs.Transcripts.{ScriptWorld, PrintsAll, script_room, with_queues}

-- the first of the events happen, and a beginning of what the page had and of their text is written
pub record WritesFirst (events : List ScriptEvent) (old : ScriptWorld) (page : List ℕ) (sink_old sink_new : Option (List ℕ)) : Type 0 where
  pub first : List ScriptEvent
  pub others : List ScriptEvent
  pub end : ScriptWorld
  pub text : List ℕ
  pub whole : events ≡ first ++ others
  pub prints : PrintsAll first old end text
  pub front : AppendsFront sink_old sink_new (page ++ text)

-- the text of the first events of a script
pub record IsFirstText (script : Drafted) (text : List ℕ) : Type 0 where
  pub cores : ℕ
  pub cap : ℕ
  pub size : script.size ≡ Some (cores, cap)
  pub empty : ScriptWorld
  pub fresh : IsFresh cores cap script.burst (script_room cores cap script.burst (length script.events)) empty
  pub first : List ScriptEvent
  pub others : List ScriptEvent
  pub end : ScriptWorld
  pub whole : script.events ≡ first ++ others
  pub all : PrintsAll first (with_queues script.queues empty) end text

-- the statistics of so many cores, if they are wanted
abbrev pub IsRearPart : Bool → Assembly ℕ → List ℕ → Type 0
IsRearPart true assembly text = (count : ℕ) × (count ≤ assembly.cores) × IsTextBelow count assembly.cores assembly.burst (λ core. journal_of core assembly) text
IsRearPart false assembly text = text ≡ []

-- the statistics of the first cores are put behind what the page had, and a beginning of that is written
pub record WritesStats (assembly : Assembly ℕ) (page : List ℕ) (sink_old sink_new : Option (List ℕ)) : Type 0 where
  pub text : List ℕ
  pub told : IsRearPart true assembly text
  pub front : AppendsFront sink_old sink_new (page ++ text)

-- nothing, or such a text
abbrev pub IsNoneOr : (List ℕ → Type 0) → List ℕ → Type 0
IsNoneOr is text = (text ≡ []) ⊎ is text

-- all that comes before the statistics, and those of the first cores
pub record IsPrintedPart (journal stats : Bool) (script : Drafted) (text : List ℕ) : Type 0 where
  pub assembly : Assembly ℕ
  pub front : List ℕ
  pub rear : List ℕ
  pub printed : IsFront journal script assembly front
  pub counted : IsRearPart stats assembly rear
  pub whole : text ≡ front ++ rear

-- what is printed of a script up to some place: the journals, or the events, and some of the statistics; or the first events alone
abbrev pub IsPart : Bool → Bool → Drafted → List ℕ → Type 0
IsPart true stats script text = IsPrintedPart true stats script text
IsPart false stats script text = IsFirstText script text ⊎ IsPrintedPart false stats script text

-- a beginning of such a part is written
pub record WritesPart (journal stats : Bool) (script : Drafted) (sink_old sink_new : Option (List ℕ)) : Type 0 where
  pub text : List ℕ
  pub part : IsPart journal stats script text
  pub front : AppendsFront sink_old sink_new text

-- nothing is written, or a beginning of what is printed
abbrev pub BreaksOff : Bool → Bool → Drafted → Option (List ℕ) → Option (List ℕ) → Type 0
BreaksOff journal stats script sink_old sink_new = Keeps sink_old sink_new ⊎ WritesPart journal stats script sink_old sink_new

-- nothing is written, or a beginning of what is printed of the script that the source tells
abbrev pub IsCutShort : Bool → Bool → Option (List ℕ) → Option (List ℕ) → Option (List ℕ) → Type 0
IsCutShort journal stats source sink_old sink_new =
    Keeps sink_old sink_new ⊎ ((script : Drafted) × IfSome source (λ text. script_of text ≡ Ok script) × WritesPart journal stats script sink_old sink_new)
