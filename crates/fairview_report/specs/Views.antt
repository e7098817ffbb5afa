-- What is shown of the text of journals.
use Rattle.std.specs.Prelude.{◌≡◌, ℕ, Bool, true, false, List, Option, Some, None, Err, nat_lt, if◌then◌else◌}
use Rattle.std.specs.Option.{IfSome}
use Rattle.std.specs.Io.KnownBytes.{Appends}
use Rattle.base_words.specs.Assembly.{Assembly}
use Rattle.base_words.specs.Spelled.{IsSpelled}
use Rattle.text_journal.specs.declared.fault.JournalCause.{JournalCause}
use Rattle.text_journal.specs.Drafts.{empty_draft}
use Rattle.text_journal.specs.JournalTexts.{journals_of, judge as journal_judge}
use Rattle.text_journal.specs.Pages.{AppendsFront}
use Rattle.text_journal.specs.Texts.{journal_text}
use Rattle.text_bytes.specs.Taking.{IsReadSoFar, IsToldAtOnce, IsToldByRead}
use Rattle.text_bytes.specs.Texts.{Judge}
use Rattle.text_bytes.specs.Tries.{HasFailedSince}
use Rattle.fairview_lag.specs.Lines.{lag_text}
use Rattle.fairview_lag.specs.Pictures.{lag_picture}
use Rattle.fairview_pictures.specs.Gantts.{gantt_text}
use Rattle.fairview_pictures.specs.Traces.{trace_text}
use Rattle.fairview_report.specs.PollTexts.{polls_text}
use Rattle.fairview_report.specs.ShareTexts.{shares_text}
use Rattle.fairview_report.specs.StoryTexts.{story_text}
use Rattle.fairview_report.specs.WaitTexts.{IsWaitText}
use Rattle.fairview_report.specs.declared.fault.ViewFault.{ViewFault}
use Rattle.fairview_report.specs.declared.fault.ViewFault.TheVariants as fault
use Rattle.fairview_report.specs.declared.view.View.{View}
use Rattle.fairview_report.specs.declared.view.View.TheVariants.{Waits, Shares, Story, Polls, Gantt, Lag, Trace}

-- how far queues were apart, as text or as a picture
abbrev pub lag_shown : Bool → Assembly ℕ → List ℕ
lag_shown true assembly = lag_text assembly
lag_shown false assembly = lag_picture assembly

-- a text shows what is asked for of these journals
abbrev pub IsShown : View → Assembly ℕ → List ℕ → Type 0
IsShown (Waits plain) assembly text = IsWaitText plain assembly text
IsShown (Shares form) assembly text = text ≡ shares_text form assembly
IsShown (Story name) assembly text = text ≡ story_text name assembly
IsShown Polls assembly text = text ≡ polls_text assembly
IsShown (Gantt cut) assembly text = text ≡ gantt_text cut assembly
IsShown (Lag as_text) assembly text = text ≡ lag_shown as_text assembly
IsShown Trace assembly text = text ≡ trace_text assembly

-- a core, if so many cores don't have it
abbrev pub absent_of : Option ℕ → ℕ → Option ℕ
absent_of None cores = None
absent_of (Some core) cores = if nat_lt core cores then None else Some core

-- the core that is asked for, if so many cores don't have it
abbrev pub absent_core : View → ℕ → Option ℕ
absent_core (Gantt cut) cores = absent_of cut.core cores
absent_core _ cores = None

-- a text is that of some journals that have what is asked for, and another shows it
abbrev pub ShowsText : View → List ℕ → List ℕ → Type 0
ShowsText view shown text =
    (assembly : Assembly ℕ) × IsSpelled assembly × (text ≡ journal_text assembly) × (absent_core view assembly.cores ≡ None) × IsShown view assembly shown

-- a text is that of some journals that lack the core that is asked for
abbrev pub LacksCore : View → ℕ → List ℕ → Type 0
LacksCore view core text =
    (assembly : Assembly ℕ) × IsSpelled assembly × (text ≡ journal_text assembly) × (absent_core view assembly.cores ≡ Some core)

-- the source tells journals, and what is asked for of them is written
pub record IsViewed (view : View) (source sink_old sink_new : Option (List ℕ)) : Type 0 where
  pub text : List ℕ
  pub shown : IfSome source (ShowsText view text)
  pub appends : Appends sink_old sink_new text

-- the source tells journals, and a first part of it is written
pub record IsCutShort (view : View) (source sink_old sink_new : Option (List ℕ)) : Type 0 where
  pub text : List ℕ
  pub shown : IfSome source (ShowsText view text)
  pub appends : AppendsFront sink_old sink_new text

-- a faulty line is told before more is read than the page that it ends in; a failed read is told only behind faultless text
abbrev pub IsPromptly : {D : Type 0} → Judge D JournalCause → D → Option (List ℕ) → Option (List ℕ) → ViewFault → Type 0
IsPromptly judge draft old new (fault.Text line cause) = IsToldAtOnce judge draft old new
IsPromptly judge draft old new (fault.Core core) = Unit {0}
IsPromptly judge draft old new fault.Read = IsReadSoFar judge draft old new
IsPromptly judge draft old new fault.Write = Unit {0}
IsPromptly judge draft old new fault.Memory = Unit {0}

-- what is told of a fault that leaves no page, by what was read
abbrev pub IsFaultOf : {R : Type 0} → View → (R → Option (List ℕ)) → (R → Option ℕ) → (R → List ℕ → R → Type 0) → (R → R → Type 0) → (R → R → Type 0) → R → R → ViewFault → Type 0
IsFaultOf view remaining tries reads interrupts fails old new (fault.Text line cause) =
    IfSome (remaining old) (λ text. journals_of text ≡ Err (line, cause)) × IsToldAtOnce journal_judge empty_draft (remaining old) (remaining new)
    × IsToldByRead journal_judge empty_draft remaining tries reads interrupts old new
IsFaultOf view remaining tries reads interrupts fails old new (fault.Core core) = IfSome (remaining old) (LacksCore view core)
IsFaultOf view remaining tries reads interrupts fails old new fault.Read =
    IsReadSoFar journal_judge empty_draft (remaining old) (remaining new) × HasFailedSince tries interrupts fails old new
IsFaultOf view remaining tries reads interrupts fails old new fault.Write = ⊥
IsFaultOf view remaining tries reads interrupts fails old new fault.Memory = Unit {0}
