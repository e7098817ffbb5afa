-- Small cases of answers and ends that no command line may have.
use Rattle.std.specs.Prelude.{[], ◌∷◌, ℕ, true, false, List, Option, Some, None, Ok, Err, codes}
use Rattle.clap.specs.declared.error.kind.ErrorKind.TheVariants.{DisplayHelp, UnknownArgument}
use Rattle.fairexec_args.specs.declared.asked.What.{What}
use Rattle.fairexec_args.specs.declared.asked.What.TheVariants.{Run, Threads, Audit, Parts, Journal}
use Rattle.fairexec_script.specs.declared.fault.ThreadsFault.TheVariants.{Thread}
use Rattle.text_bytes.specs.declared.sink.ByteSink as writing
use Rattle.text_journal.specs.declared.fault.JournalCause.{JournalCause}
use Rattle.text_words.specs.declared.status.Status.{Status}
use Rattle.text_words.specs.declared.status.Status.TheVariants as status
use Rattle.fairexec.specs.Answers.{AuditAnswer, HasJudged, HasRun, HasRunOnThreads, Passed, RunAnswer, ThreadsAnswer, file_reads}
use Rattle.fairexec.specs.Ends.{EndsBy, EndsFor, EndsUnasked}
use Rattle.fairexec.specs.Files.{IsUnopened, IsUnopenedScript}

-- a list of bytes is a sink, and nothing is known of a try
abbrev pub list_writes : writing.Ghosts (List ℕ)
list_writes = record { contents = Some; tries = λ sink. None; interrupts = λ old new. Unit {0}; fails = λ old new. Unit {0} }

-- a list is a source, and this is left of it; another is a sink, before and behind
abbrev pub passed : List ℕ → List ℕ → List ℕ → List ℕ → Passed (List ℕ) (List ℕ)
passed source left old new = record { source_old = source; source_new = left; sink_old = old; sink_new = new }

-- a script is run of that source
abbrev pub RunIn : List ℕ → List ℕ → List ℕ → List ℕ → RunAnswer → Type 0
RunIn source left old new answer = HasRun (file_reads Some) list_writes false false (passed source left old new) answer

-- the same on threads
abbrev pub ThreadsIn : List ℕ → List ℕ → List ℕ → List ℕ → ThreadsAnswer → Type 0
ThreadsIn source left old new answer = HasRunOnThreads (file_reads Some) list_writes false false (passed source left old new) answer

-- the journals of such a source are judged
abbrev pub JudgedIn : List ℕ → List ℕ → List ℕ → List ℕ → AuditAnswer → Type 0
JudgedIn source left old new answer = HasJudged (file_reads Some) list_writes (passed source left old new) answer

-- what is asked for ends so, with such a source, a file that is one too, and such a sink
abbrev pub EndsIn : List ℕ → List ℕ → List ℕ → List ℕ → Option (List ℕ) → What → Status → Type 0
EndsIn source left old new file what result = EndsFor {R = List ℕ} {F = List ℕ} {S = List ℕ} (record { source = file_reads Some; file = Some; sink = list_writes }) (passed source left old new) file what result

-- each of these is refused
pub record EndsAreRefused : Type 0 where
  -- an empty text is run, on the model and on threads
  pub empty_is_run : (left old new : List ℕ) → RunIn [] left old new (Ok true) → ⊥
  pub empty_is_run_on_threads : (left old new : List ℕ) → ThreadsIn [] left old new (Ok true) → ⊥
  -- a run has a fault, on the model and on threads
  pub run_is_faulty : (source left old new : List ℕ) → RunIn source left old new (Ok false) → ⊥
  pub threads_are_faulty : (source left old new : List ℕ) → ThreadsIn source left old new (Ok false) → ⊥
  -- there is no thread, and something is written
  pub written_without_threads : (source left : List ℕ) → ThreadsIn source left [] (codes "x") (Err Thread) → ⊥
  -- journals are sound, and no verdict is written
  pub no_verdict : (source left : List ℕ) → JudgedIn source left [] [] (Ok true) → ⊥
  -- an empty text is sound
  pub empty_is_sound : (left old new : List ℕ) → JudgedIn [] left old new (Ok true) → ⊥
  -- one verdict is written, and the other is answered
  pub sound_is_a_fault : (source left : List ℕ) → JudgedIn source left [] (codes "sound\n") (Ok false) → ⊥
  pub fault_is_sound : (source left : List ℕ) → JudgedIn source left [] (codes "fault actor 0 note 1 rule 2\n") (Ok true) → ⊥
  -- parts are judged, and nothing is written
  pub parts_without_verdict : (source : List ℕ) → EndsIn source source [] [] None (Parts false) status.Done → ⊥
  pub followed_without_verdict : (source : List ℕ) → EndsIn source source [] [] None (Parts true) status.Done → ⊥
  -- a file is named, and the input is read
  pub input_is_read : (what : What) (old new : List ℕ) (result : Status) → EndsIn (1 ∷ []) [] old new (Some (codes "a")) what result → ⊥
  -- a file can't be opened, and all is done
  pub unopened : IsUnopened {C = JournalCause} (Ok true) → ⊥
  pub unopened_script : IsUnopenedScript (Ok true) → ⊥
  -- a run ends with status 1, on the model and on threads
  pub run_finds_a_fault : (source left old new : List ℕ) → EndsIn source left old new None (Run false false) status.FaultFound → ⊥
  pub threads_find_a_fault : (source left old new : List ℕ) → EndsIn source left old new None (Threads false false) status.FaultFound → ⊥
  -- no bytes are journals, and they are judged, or have a text; or something is printed although they have none
  pub no_bytes_are_judged : (left old new : List ℕ) → EndsIn [] left old new None (Audit true) status.Done → ⊥
  pub no_bytes_have_a_text : (left old new : List ℕ) → EndsIn [] left old new None Journal status.Done → ⊥
  pub faulty_bytes_are_printed : (left : List ℕ) (result : Status) → EndsIn [] left [] (codes "x") None Journal result → ⊥
  -- a text ends with status 1
  pub text_is_a_fault : (source left old new : List ℕ) → EndsIn source left old new None Journal status.FaultFound → ⊥
  -- a mistake is done, and a call for help is refused
  pub mistake_is_done : EndsUnasked (UnknownArgument ∷ []) (Unit {0}) status.Done → ⊥
  pub help_is_refused : EndsUnasked (DisplayHelp ∷ []) (Unit {0}) status.Refused → ⊥
  -- faultless words do nothing, and all is done
  pub nothing_is_done : EndsBy (λ file what result. ⊥) (Unit {0}) [] (Some (Audit false, None)) status.Done → ⊥
