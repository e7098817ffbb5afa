-- The bytes of a note: one that tells its kind, and its fields behind it, each of a fixed width. Of a number the low byte comes first.
use Rattle.std.specs.Prelude.{ℕ, ◌%◌, ◌/◌, ◌^◌, List, [], ◌∷◌, ◌++◌}
use Rattle.std.specs.Int.{w16, w64, to_le_bytes}
use Rattle.base_words.specs.declared.names.JobId.{JobId}
use Rattle.base_words.specs.declared.note.Note.{Note}
use Rattle.base_words.specs.declared.note.Note.TheVariants as note
use Rattle.base_words.specs.declared.note.OutcomeNote.{OutcomeNote}
use Rattle.base_words.specs.declared.note.OutcomeNote.TheVariants as outcome
use Rattle.base_words.specs.declared.order.Answer.{Answer}
use Rattle.base_words.specs.declared.order.Answer.TheVariants as answer
use Rattle.base_words.specs.declared.order.Mode.{Mode}
use Rattle.base_words.specs.declared.order.Mode.TheVariants as mode
use Rattle.base_words.specs.declared.order.Order.{Order}
use Rattle.base_words.specs.declared.order.Order.TheVariants as order
use Rattle.base_words.specs.declared.order.Reason.{Reason}
use Rattle.base_words.specs.declared.order.Reason.TheVariants as why

-- a number of a link, a time, an answer or a count has eight bytes
unfoldable pub wide : ℕ → List ℕ
wide number = to_le_bytes w64 number

-- shares have two
unfoldable pub short : ℕ → List ℕ
short number = to_le_bytes w16 number

-- a virtual runtime has sixteen
abbrev pub runtime_bytes : ℕ → List ℕ
runtime_bytes runtime = wide (runtime % 2 ^ 64) ++ wide (runtime / 2 ^ 64)

abbrev pub name_bytes : JobId → List ℕ
name_bytes name = name.from ∷ name.to ∷ wide name.number

abbrev pub mode_bytes : Mode → List ℕ
mode_bytes mode.Finish = 0 ∷ []
mode_bytes mode.Return = 1 ∷ []

abbrev pub reason_bytes : Reason → List ℕ
reason_bytes why.NoQueue = 0 ∷ []
reason_bytes why.QueueClosed = 1 ∷ []
reason_bytes why.CoreClosing = 2 ∷ []
reason_bytes why.QueueReturned = 3 ∷ []
reason_bytes why.CoreReturned = 4 ∷ []

abbrev pub answer_bytes : Answer → List ℕ
answer_bytes (answer.Created queue) = 0 ∷ queue ∷ []
answer_bytes answer.TooMany = 1 ∷ []
answer_bytes answer.NoMemory = 2 ∷ []
answer_bytes answer.CoreClosing = 3 ∷ []
answer_bytes answer.SharesSet = 4 ∷ []
answer_bytes answer.NoQueue = 5 ∷ []
answer_bytes answer.Closed = 6 ∷ []
answer_bytes answer.AlreadyClosed = 7 ∷ []
answer_bytes answer.Woken = 8 ∷ []
answer_bytes answer.NoJob = 9 ∷ []

abbrev pub order_bytes : Order (Unit {0}) → List ℕ
order_bytes (order.Job queue job) = 0 ∷ queue ∷ []
order_bytes (order.Create weight) = 1 ∷ short weight
order_bytes (order.SetShares queue weight) = 2 ∷ queue ∷ short weight
order_bytes (order.Close queue how) = 3 ∷ queue ∷ mode_bytes how
order_bytes (order.CloseCore how) = 4 ∷ mode_bytes how
order_bytes (order.Wake actor number) = 5 ∷ actor ∷ wide number

abbrev pub outcome_bytes : OutcomeNote ℕ → List ℕ
outcome_bytes (outcome.Finished value) = 0 ∷ wide value
outcome_bytes (outcome.Returned reason) = 1 ∷ reason_bytes reason
outcome_bytes (outcome.Answered told) = 2 ∷ answer_bytes told

abbrev pub note_bytes : Note ℕ → List ℕ
note_bytes (note.Sent name sent) = 0 ∷ (name_bytes name ++ order_bytes sent)
note_bytes (note.Took name queue) = 1 ∷ (name_bytes name ++ queue ∷ [])
note_bytes (note.Back name reason) = 2 ∷ (name_bytes name ++ reason_bytes reason)
note_bytes (note.Answered name told) = 3 ∷ (name_bytes name ++ answer_bytes told)
note_bytes (note.Created queue weight) = 4 ∷ queue ∷ short weight
note_bytes (note.SharesSet queue weight) = 5 ∷ queue ∷ short weight
note_bytes (note.QueueClosed queue how) = 6 ∷ queue ∷ mode_bytes how
note_bytes (note.CoreClosed how) = 7 ∷ mode_bytes how
note_bytes (note.Woken name) = 8 ∷ name_bytes name
note_bytes (note.Pick queue runtime) = 9 ∷ queue ∷ runtime_bytes runtime
note_bytes (note.Start name) = 10 ∷ name_bytes name
note_bytes (note.Resume name) = 11 ∷ name_bytes name
note_bytes (note.Yield name time) = 12 ∷ (name_bytes name ++ wide time)
note_bytes (note.Park name time) = 13 ∷ (name_bytes name ++ wide time)
note_bytes (note.Stayed name time) = 14 ∷ (name_bytes name ++ wide time)
note_bytes (note.Done name time value) = 15 ∷ (name_bytes name ++ (wide time ++ wide value))
note_bytes (note.Returned name reason) = 16 ∷ (name_bytes name ++ reason_bytes reason)
note_bytes (note.Turned queue time) = 17 ∷ queue ∷ wide time
note_bytes (note.Shut sender count) = 18 ∷ sender ∷ wide count
note_bytes (note.Collected name told) = 19 ∷ (name_bytes name ++ outcome_bytes told)
note_bytes (note.Redeemed name told) = 20 ∷ (name_bytes name ++ outcome_bytes told)
note_bytes (note.Detached name) = 21 ∷ name_bytes name
