-- What an answer tells of the source that was read, and of what was written.
use Rattle.std.specs.Prelude.{◌≡◌, ℕ, Bool, true, List, Option, None, Result, Ok, Err, IfErr, IfOk, IfSome}
use Rattle.std.specs.Io.KnownBytes.{Appends, Keeps}
use Rattle.fairexec_report.specs.Audits as audits
use Rattle.fairexec_run.specs.Begun as cut
use Rattle.fairexec_run.specs.Outputs.{IsDone, TellsScript}
use Rattle.fairexec_script.specs.Drafts as script
use Rattle.fairexec_script.specs.Scripts as scripts
use Rattle.fairexec_threads.specs.Runs as runs
use Rattle.fairexec_script.specs.ThreadsDrafts as threads
use Rattle.fairexec_script.specs.Faults.{IfOf}
use Rattle.fairexec_script.specs.ThreadsScripts as threads_scripts
use Rattle.fairexec_script.specs.declared.fault.ThreadsFault.{ThreadsFault}
use Rattle.text_journal.specs.Drafts as journal
use Rattle.text_journal.specs.JournalTexts as journals
use Rattle.text_journal.specs.Pages.{AppendsFront}
use Rattle.text_journal.specs.declared.fault.JournalCause.{JournalCause}
use Rattle.text_bytes.specs.Taking.{IsPrompt, IsToldByRead}
use Rattle.text_bytes.specs.Tries.{HasFailedSince}
use Rattle.text_bytes.specs.declared.sink.ByteSink as writing
use Rattle.text_bytes.specs.declared.source.Source as reading
use Rattle.text_words.specs.Faults.{IfEnded, IfRead, IfText, IfUnjudged, IfUnread, IfUnwritten}
use Rattle.text_words.specs.declared.fault.Cause.{Cause}
use Rattle.text_words.specs.declared.fault.Fault.{Fault}
use Rattle.text_words.specs.declared.fault.Fault.TheVariants.{Write}

-- a file of which the bytes that are left are known, if they are, and nothing else of its reads
abbrev pub file_reads : {F : Type 0} → (F → Option (List ℕ)) → reading.Ghosts F
file_reads remaining = record { remaining = remaining; tries = λ file. None; reads = λ old bytes new. Unit {0}; interrupts = λ old new. Unit {0}; fails = λ old new. Unit {0} }

-- what was read, as it was and as it is, and so what was written to
pub record Passed (R S : Type 0) : Type 0 where
  pub source_old : R
  pub source_new : R
  pub sink_old : S
  pub sink_new : S

-- whether a script is run on the model, or why not; the same on threads; and whether journals are sound, or why that isn't known
abbrev pub RunAnswer : Type 0
RunAnswer = Result Bool (Fault Cause)

abbrev pub ThreadsAnswer : Type 0
ThreadsAnswer = Result Bool ThreadsFault

abbrev pub AuditAnswer : Type 0
AuditAnswer = Result Bool (Fault JournalCause)

module _ {S : Type 0} (sink : writing.Ghosts S) where
  -- this text of journals, if it is known, was judged, and the verdict is written; or the answer tells why not
  pub record HasJudgedText (text : Option (List ℕ)) (old new : S) (answer : AuditAnswer) : Type 0 where
    pub done : IfOk answer (audits.IsAudited text (sink.contents old) (sink.contents new))
    pub sound : answer ≡ Ok true → audits.TellsSound text
    pub faulty : IfErr answer (IfText (λ fault. IfSome text (λ all. journals.journals_of all ≡ Err fault)))
    pub silent : IfErr answer (IfUnjudged (Keeps (sink.contents old) (sink.contents new)))
    pub unwritten : IfErr answer (IfUnwritten (audits.IsCutShort text (sink.contents old) (sink.contents new)))
    pub failed : IfErr answer (IfUnwritten (HasFailedSince sink.tries sink.interrupts sink.fails old new))

  -- this text is written; or a write failed, and a first part of it is written
  pub record HasPrinted (text : List ℕ) (old new : S) (answer : RunAnswer) : Type 0 where
    pub done : IfOk answer (λ done. (done ≡ true) × Appends (sink.contents old) (sink.contents new) text)
    pub failed : IfErr answer (λ fault. (fault ≡ Write) × AppendsFront (sink.contents old) (sink.contents new) text × HasFailedSince sink.tries sink.interrupts sink.fails old new)

module _ {R S : Type 0} (source : reading.Ghosts R) (sink : writing.Ghosts S) where
  -- A script was read and run on the model, and what is asked for is written; or the answer tells why not. This is what `run_script` answers.
  pub record HasRun (with_journal with_stats : Bool) (at : Passed R S) (answer : RunAnswer) : Type 0 where
    pub done : IfOk answer (λ done. (done ≡ true) × IsDone with_journal with_stats (source.remaining at.source_old) (sink.contents at.sink_old) (sink.contents at.sink_new))
    pub faulty : IfErr answer (IfText (λ fault. IfSome (source.remaining at.source_old) (λ text. scripts.script_of text ≡ Err fault)))
    pub prompt : IfErr answer (IsPrompt scripts.judge script.empty_draft (source.remaining at.source_old) (source.remaining at.source_new))
    pub at_once : IfErr answer (IfText (λ fault. IsToldByRead scripts.judge script.empty_draft source.remaining source.tries source.reads source.interrupts at.source_old at.source_new))
    pub unread : IfErr answer (IfRead (HasFailedSince source.tries source.interrupts source.fails at.source_old at.source_new))
    pub silent : IfErr answer (IfUnread (Keeps (sink.contents at.sink_old) (sink.contents at.sink_new)))
    pub judged : IfErr answer (IfUnwritten (TellsScript (source.remaining at.source_old)))
    pub begun : IfErr answer (IfEnded (cut.IsCutShort with_journal with_stats (source.remaining at.source_old) (sink.contents at.sink_old) (sink.contents at.sink_new)))
    pub failed : IfErr answer (IfUnwritten (HasFailedSince sink.tries sink.interrupts sink.fails at.sink_old at.sink_new))

  -- A script was read and run on threads, and what is asked for is written; or the answer tells why not. This is what `threads_script` answers.
  pub record HasRunOnThreads (with_journal with_stats : Bool) (at : Passed R S) (answer : ThreadsAnswer) : Type 0 where
    pub done : IfOk answer (runs.IsRun with_journal with_stats (source.remaining at.source_old) (sink.contents at.sink_old) (sink.contents at.sink_new))
    pub sound : IfOk answer (λ sound. sound ≡ true)
    pub faulty : IfErr answer (IfOf (IfText (λ fault. IfSome (source.remaining at.source_old) (λ text. threads_scripts.threads_script_of text ≡ Err fault))))
    pub prompt : IfErr answer (IfOf (IsPrompt threads_scripts.judge threads.empty_draft (source.remaining at.source_old) (source.remaining at.source_new)))
    pub at_once : IfErr answer (IfOf (IfText (λ fault. IsToldByRead threads_scripts.judge threads.empty_draft source.remaining source.tries source.reads source.interrupts at.source_old at.source_new)))
    pub unread : IfErr answer (IfOf (IfRead (HasFailedSince source.tries source.interrupts source.fails at.source_old at.source_new)))
    pub silent : IfErr answer (runs.IfUntold (Keeps (sink.contents at.sink_old) (sink.contents at.sink_new)))
    pub unwritten : IfErr answer (IfOf (IfUnwritten (runs.IsCutShort with_journal with_stats (source.remaining at.source_old) (sink.contents at.sink_old) (sink.contents at.sink_new))))
    pub failed : IfErr answer (IfOf (IfUnwritten (HasFailedSince sink.tries sink.interrupts sink.fails at.sink_old at.sink_new)))

  -- Journals were read, and their text judged; or the answer tells why not. This is what `audit_text` answers.
  pub record HasJudged (at : Passed R S) (answer : AuditAnswer) : Type 0 where
    pub text : HasJudgedText sink (source.remaining at.source_old) at.sink_old at.sink_new answer
    pub prompt : IfErr answer (IsPrompt journals.judge journal.empty_draft (source.remaining at.source_old) (source.remaining at.source_new))
    pub at_once : IfErr answer (IfText (λ fault. IsToldByRead journals.judge journal.empty_draft source.remaining source.tries source.reads source.interrupts at.source_old at.source_new))
    pub unread : IfErr answer (IfRead (HasFailedSince source.tries source.interrupts source.fails at.source_old at.source_new))
