-- What the host told of a run, as the post of its job.
use Rattle.std.specs.Prelude.{◌≡◌, ℕ, Option, Some, None, [], ◌∷◌}
use Rattle.base_words.specs.declared.names.JobId.{JobId}
use Rattle.base_words.specs.declared.note.Note.TheVariants.{Redeemed}
use Rattle.base_words.specs.declared.note.OutcomeNote.TheVariants.{Finished}
use Rattle.base_words.specs.Journal.{Journal}
use Rattle.base_jobs.specs.declared.job.Step.{Step}
use Rattle.base_jobs.specs.declared.job.Step.TheVariants.{Done, Yield, Park}
use Rattle.base_jobs.specs.Calls.{Doing}
use Rattle.base_jobs.specs.Calls.Call.{Submit, Redeem, Detach}
use Rattle.host_core.specs.Jobs.{heard}
use Rattle.host_core.specs.declared.job.HostJob.{HostJob}
use Rattle.host_core.specs.declared.word.Word.{Word}

-- the note of an outcome that was asked for
abbrev pub notes_of : Step ℕ → Option JobId → Journal ℕ
notes_of (Done answer) (Some name) = Redeemed name (Finished answer) ∷ []
notes_of (Done answer) None = []
notes_of Yield asked = []
notes_of Park asked = []

abbrev pub word_notes : Word → Journal ℕ
word_notes word = notes_of word.step word.asked

-- the first answer says the step of the run
abbrev pub SaysOnce : Doing Word HostJob ℕ
SaysOnce old (Redeem name answer) new = old.asked ≡ None → heard answer ≡ old.step
SaysOnce old (Submit to order answer) new = new ≡ old
SaysOnce old (Detach name answer) new = new ≡ old
