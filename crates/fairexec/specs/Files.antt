-- What is read: an open file, or the input if no file is named.
use Rattle.std.specs.Prelude.{◌≡◌, ◌⊎◌, ℕ, Bool, List, Option, None, Some, Result, Err}
use Rattle.text_bytes.specs.declared.sink.ByteSink as writing
use Rattle.text_bytes.specs.declared.source.Source as reading
use Rattle.fairexec_script.specs.declared.fault.ThreadsFault.TheVariants.{Of}
use Rattle.text_words.specs.declared.fault.Fault.{Fault}
use Rattle.text_words.specs.declared.fault.Fault.TheVariants as fault
use Rattle.fairexec.specs.Answers.{AuditAnswer, HasJudged, HasRun, HasRunOnThreads, Passed, RunAnswer, ThreadsAnswer, file_reads}

-- a file can't be opened: that is a failed read, or there is no memory
abbrev pub IsUnopened : {C : Type 0} → Result Bool (Fault C) → Type 0
IsUnopened answer = (answer ≡ Err fault.Read) ⊎ (answer ≡ Err fault.Memory)

-- the same of a script for threads
abbrev pub IsUnopenedScript : ThreadsAnswer → Type 0
IsUnopenedScript answer = (answer ≡ Err (Of fault.Read)) ⊎ (answer ≡ Err (Of fault.Memory))

-- a file was opened and this holds of it, or it can't be opened and nothing is written
abbrev pub OpensFile : {F S : Type 0} → (F → F → Type 0) → Type 0 → S → S → Type 0
OpensFile {F} holds unopened sink_old sink_new = ((old : F) × (new : F) × holds old new) ⊎ (unopened × (sink_new ≡ sink_old))

-- the devices of the program: the source, the bytes that are left of a file, if they are known, and the sink
pub record Devices (R F S : Type 0) : Type 1 where
  pub source : reading.Ghosts R
  pub file : F → Option (List ℕ)
  pub sink : writing.Ghosts S

module _ {F S : Type 0} (file : F → Option (List ℕ)) (sink : writing.Ghosts S) where
  -- the script of a file is run on the model, and nothing else is known of its reads
  abbrev pub RunsFile : Bool → Bool → S → S → RunAnswer → Type 0
  RunsFile journal stats sink_old sink_new answer =
      OpensFile (λ old new. HasRun (file_reads file) sink journal stats (record { source_old = old; source_new = new; sink_old = sink_old; sink_new = sink_new }) answer)
      (IsUnopened answer) sink_old sink_new

  -- the same on threads
  abbrev pub RunsFileOnThreads : Bool → Bool → S → S → ThreadsAnswer → Type 0
  RunsFileOnThreads journal stats sink_old sink_new answer =
      OpensFile (λ old new. HasRunOnThreads (file_reads file) sink journal stats (record { source_old = old; source_new = new; sink_old = sink_old; sink_new = sink_new }) answer)
      (IsUnopenedScript answer) sink_old sink_new

  -- the journals of a file are judged, and nothing else is known of its reads
  abbrev pub JudgesFile : S → S → AuditAnswer → Type 0
  JudgesFile sink_old sink_new answer =
      OpensFile (λ old new. HasJudged (file_reads file) sink (record { source_old = old; source_new = new; sink_old = sink_old; sink_new = sink_new }) answer)
      (IsUnopened answer) sink_old sink_new

module _ {R F S : Type 0} (devices : Devices R F S) (at : Passed R S) where
  -- a script is run on the model: without a file that of the source, else that of a file, and the source stays
  abbrev pub Runs : Option (List ℕ) → Bool → Bool → RunAnswer → Type 0
  Runs None journal stats answer = HasRun devices.source devices.sink journal stats at answer
  Runs (Some path) journal stats answer = RunsFile devices.file devices.sink journal stats at.sink_old at.sink_new answer × (at.source_new ≡ at.source_old)

  -- a script is run on threads, in the same way
  abbrev pub RunsOnThreads : Option (List ℕ) → Bool → Bool → ThreadsAnswer → Type 0
  RunsOnThreads None journal stats answer = HasRunOnThreads devices.source devices.sink journal stats at answer
  RunsOnThreads (Some path) journal stats answer = RunsFileOnThreads devices.file devices.sink journal stats at.sink_old at.sink_new answer × (at.source_new ≡ at.source_old)

  -- journals are judged, in the same way
  abbrev pub Judges : Option (List ℕ) → AuditAnswer → Type 0
  Judges None answer = HasJudged devices.source devices.sink at answer
  Judges (Some path) answer = JudgesFile devices.file devices.sink at.sink_old at.sink_new answer × (at.source_new ≡ at.source_old)
