-- How a command line ends.
use Rattle.std.specs.Prelude.{◌≡◌, ◌⊎◌, ℕ, List, [], true, false, Option, Some}
use Rattle.clap.specs.Kinds.{Kinds}
use Rattle.fair_args.specs.Asks.{Asking}
use Rattle.fair_args.specs.Refusals.{IsReason}
use Rattle.fair_args.specs.declared.unasked.Unasked.{Unasked}
use Rattle.fair_args.specs.declared.unasked.Unasked.TheVariants as unasked
use Rattle.fairexec_args.specs.declared.asked.What.{What}
use Rattle.fairexec_args.specs.declared.asked.What.TheVariants.{Run, Threads, Audit, Parts, Journal}
use Rattle.fairexec_script.specs.Faults.{status_of as threads_status}
use Rattle.text_parts.specs.Faults.{bytes_status}
use Rattle.text_words.specs.Statuses.{status_of}
use Rattle.text_words.specs.declared.status.Status.{Status}
use Rattle.text_words.specs.declared.status.Status.TheVariants as status
use Rattle.fairexec.specs.Answers.{AuditAnswer, Passed, RunAnswer, ThreadsAnswer}
use Rattle.fairexec.specs.Bytes.{JudgesBytes, PrintsText}
use Rattle.fairexec.specs.declared.ended.Ended.{Ended}
use Rattle.fairexec.specs.declared.ended.Ended.TheVariants.{Ran, OnThreads, Judged, NoText, Differs, Unread}
use Rattle.fairexec.specs.Files.{Devices, Judges, Runs, RunsOnThreads}
use Rattle.fairexec.specs.Follows.{FollowsParts, status_unread}
use Rattle.fairexec.specs.Parts.{JudgesParts}

module _ {R F S : Type 0} (devices : Devices R F S) (at : Passed R S) where
  -- What is asked for is done with the file, or with the source, or with the text of the journals whose bytes are there, or with the parts in a folder. The status is that of an answer, which tells what was read
  -- and written.
  abbrev pub EndsFor : Option (List ℕ) → What → Status → Type 0
  EndsFor file (Run journal stats) result = (answer : RunAnswer) × (result ≡ status_of answer) × Runs devices at file journal stats answer
  EndsFor file (Threads journal stats) result = (answer : ThreadsAnswer) × (result ≡ threads_status answer) × RunsOnThreads devices at file journal stats answer
  EndsFor file (Audit false) result = (answer : AuditAnswer) × (result ≡ status_of answer) × Judges devices at file answer
  EndsFor file (Audit true) result = JudgesBytes devices at file result
  EndsFor file (Parts false) result = JudgesParts devices.sink at.sink_old at.sink_new devices.file result × (at.source_new ≡ at.source_old)
  EndsFor file (Parts true) result = FollowsParts devices.sink at.sink_old at.sink_new devices.file result × (at.source_new ≡ at.source_old)
  EndsFor file Journal result = PrintsText devices at file result

-- the status of what came to this
abbrev pub status_ended : Ended → Status
status_ended (Ran answer) = status_of answer
status_ended (OnThreads answer) = threads_status answer
status_ended (Judged answer) = status_of answer
status_ended (NoText why) = bytes_status why
status_ended (Differs actor note) = status.Memory
status_ended (Unread why) = status_unread why.error

-- the status of words that ask for nothing
abbrev pub status_unasked : Unasked → Status
status_unasked unasked.Told = status.Done
status_unasked unasked.Mistake = status.Refused
status_unasked unasked.Write = status.Device
status_unasked unasked.Memory = status.Memory

-- words with these faults end so, and nothing is read or written but help
pub record EndsUnasked (faults : Kinds) (same : Type 0) (result : Status) : Type 0 where
  pub why : Unasked
  pub reason : IsReason faults why
  pub ended : result ≡ status_unasked why
  pub stays : same

-- Faultless words end as what they ask for, and faulty ones by a fault. Memory may run out before either is known.
abbrev pub EndsBy : (Option (List ℕ) → What → Status → Type 0) → Type 0 → Kinds → Option (Asking What) → Status → Type 0
EndsBy ends same [] (Some asking) result = ends asking.1 asking.0 result ⊎ ((result ≡ status.Memory) × same)
EndsBy ends same faults asked result = EndsUnasked faults same result
