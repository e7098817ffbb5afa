-- What an answer tells of the source that was read, and of what was written.
use Rattle.std.specs.Prelude.{◌≡◌, ◌⊎◌, ℕ, List, Option, None, Some, Result, Err, IfErr, IfSome, OnOk}
use Rattle.std.specs.Io.KnownBytes.{Keeps}
use Rattle.text_journal.specs.Drafts.{empty_draft}
use Rattle.text_journal.specs.JournalTexts.{journals_of, judge}
use Rattle.text_bytes.specs.Taking.{IsToldByRead}
use Rattle.text_bytes.specs.Tries.{HasFailedSince}
use Rattle.text_bytes.specs.declared.sink.ByteSink as writing
use Rattle.text_bytes.specs.declared.source.Source as reading
use Rattle.fairview_report.specs.Faults.{IfCoreless, IfRead, IfText, IfUnshown, IfUnwritten}
use Rattle.fairview_report.specs.Views.{IsCutShort, IsPromptly, IsViewed, LacksCore}
use Rattle.fairview_report.specs.declared.fault.ViewFault.{ViewFault}
use Rattle.fairview_report.specs.declared.fault.ViewFault.TheVariants as fault
use Rattle.fairview_report.specs.declared.view.View.{View}

-- a file of which the bytes that are left are known, if they are, and nothing else of its reads
abbrev pub file_reads : {F : Type 0} → (F → Option (List ℕ)) → reading.Ghosts F
file_reads remaining = record { remaining = remaining; tries = λ file. None; reads = λ old bytes new. Unit {0}; interrupts = λ old new. Unit {0}; fails = λ old new. Unit {0} }

-- what was read, as it was and as it is, and so what was written to
pub record Passed (R S : Type 0) : Type 0 where
  pub source_old : R
  pub source_new : R
  pub sink_old : S
  pub sink_new : S

-- the devices of the program: the source, the bytes that are left of a file, if they are known, and the sink
pub record Devices (R F S : Type 0) : Type 1 where
  pub source : reading.Ghosts R
  pub file : F → Option (List ℕ)
  pub sink : writing.Ghosts S

-- whether something is shown, or why not
abbrev pub Answer : Type 0
Answer = Result (Unit {0}) ViewFault

module _ {S : Type 0} (sink : writing.Ghosts S) where
  -- The view of this text, if it is known, is written behind what the sink had; or the answer tells why not, and that is so.
  pub record HasShown (view : View) (text : Option (List ℕ)) (old new : S) (answer : Answer) : Type 0 where
    pub done : OnOk answer (IsViewed view text (sink.contents old) (sink.contents new))
    pub faulty : IfErr answer (IfText (λ fault. IfSome text (λ all. journals_of all ≡ Err fault)))
    pub coreless : IfErr answer (IfCoreless (λ core. IfSome text (LacksCore view core)))
    pub silent : IfErr answer (IfUnshown (Keeps (sink.contents old) (sink.contents new)))
    pub unwritten : IfErr answer (IfUnwritten (IsCutShort view text (sink.contents old) (sink.contents new)))
    pub failed : IfErr answer (IfUnwritten (HasFailedSince sink.tries sink.interrupts sink.fails old new))

module _ {R S : Type 0} (source : reading.Ghosts R) (sink : writing.Ghosts S) where
  -- The source was read, and the view of its text is written; or the answer tells why not. This is what `view_text` answers.
  pub record Answers (view : View) (at : Passed R S) (answer : Answer) : Type 0 where
    pub text : HasShown sink view (source.remaining at.source_old) at.sink_old at.sink_new answer
    pub prompt : IfErr answer (IsPromptly judge empty_draft (source.remaining at.source_old) (source.remaining at.source_new))
    pub at_once : IfErr answer (IfText (λ fault. IsToldByRead judge empty_draft source.remaining source.tries source.reads source.interrupts at.source_old at.source_new))
    pub unread : IfErr answer (IfRead (HasFailedSince source.tries source.interrupts source.fails at.source_old at.source_new))

-- a file can't be opened: that is a failed read, or there is no memory
abbrev pub IsUnopened : Answer → Type 0
IsUnopened answer = (answer ≡ Err fault.Read) ⊎ (answer ≡ Err fault.Memory)

-- a file was opened and read, of whose reads nothing else is known; or it can't be opened and nothing is written
abbrev pub OpensFile : {F S : Type 0} → (F → Option (List ℕ)) → writing.Ghosts S → View → S → S → Answer → Type 0
OpensFile {F} file sink view sink_old sink_new answer =
    ((old : F) × (new : F) × Answers (file_reads file) sink view (record { source_old = old; source_new = new; sink_old = sink_old; sink_new = sink_new }) answer)
    ⊎ (IsUnopened answer × (sink_new ≡ sink_old))

module _ {R F S : Type 0} (devices : Devices R F S) (at : Passed R S) where
  -- without a file the source is read, else a file, and the source stays
  abbrev pub ShowsOf : Option (List ℕ) → View → Answer → Type 0
  ShowsOf None view answer = Answers devices.source devices.sink view at answer
  ShowsOf (Some path) view answer = OpensFile devices.file devices.sink view at.sink_old at.sink_new answer × (at.source_new ≡ at.source_old)
