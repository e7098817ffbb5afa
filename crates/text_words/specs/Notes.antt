-- The notes of a journal as lines of text.
use Rattle.std.specs.Prelude.{ℕ, ◌++◌, List, codes, decimal}
use Rattle.base_words.specs.declared.names.JobId.{JobId}
use Rattle.base_words.specs.declared.note.Note.{Note}
use Rattle.base_words.specs.declared.note.Note.TheVariants as note
use Rattle.base_words.specs.declared.note.OutcomeNote.{OutcomeNote}
use Rattle.base_words.specs.declared.note.OutcomeNote.TheVariants as outcome
use Rattle.base_words.specs.declared.order.Answer.{Answer}
use Rattle.base_words.specs.declared.order.Answer.TheVariants as answer
use Rattle.base_words.specs.declared.order.Mode.{Mode}
use Rattle.base_words.specs.declared.order.Mode.TheVariants as mode
use Rattle.base_words.specs.declared.order.Order.{Order}
use Rattle.base_words.specs.declared.order.Order.TheVariants as order
use Rattle.base_words.specs.declared.order.Reason.{Reason}
use Rattle.base_words.specs.declared.order.Reason.TheVariants as reason

-- a name: sender, receiver and number
abbrev pub name_text : JobId → List ℕ
name_text name = decimal name.from ++ codes ">" ++ decimal name.to ++ codes "#" ++ decimal name.number

abbrev pub reason_text : Reason → List ℕ
reason_text reason.NoQueue = codes "noqueue"
reason_text reason.QueueClosed = codes "queueclosed"
reason_text reason.CoreClosing = codes "coreclosing"
reason_text reason.QueueReturned = codes "queuereturned"
reason_text reason.CoreReturned = codes "corereturned"

abbrev pub mode_text : Mode → List ℕ
mode_text mode.Finish = codes "finish"
mode_text mode.Return = codes "return"

abbrev pub order_text : Order (Unit {0}) → List ℕ
order_text (order.Job queue task) = codes "job q" ++ decimal queue
order_text (order.Create shares) = codes "create " ++ decimal shares
order_text (order.SetShares queue shares) = codes "shares q" ++ decimal queue ++ codes " " ++ decimal shares
order_text (order.Close queue closed) = codes "close q" ++ decimal queue ++ codes " " ++ mode_text closed
order_text (order.CloseCore closed) = codes "closecore " ++ mode_text closed
order_text (order.Wake actor number) = codes "wake " ++ decimal actor ++ codes "#" ++ decimal number

abbrev pub answer_text : Answer → List ℕ
answer_text (answer.Created queue) = codes "created q" ++ decimal queue
answer_text answer.TooMany = codes "toomany"
answer_text answer.NoMemory = codes "nomemory"
answer_text answer.CoreClosing = codes "closing"
answer_text answer.SharesSet = codes "sharesset"
answer_text answer.NoQueue = codes "noqueue"
answer_text answer.Closed = codes "closed"
answer_text answer.AlreadyClosed = codes "alreadyclosed"
answer_text answer.Woken = codes "woken"
answer_text answer.NoJob = codes "nojob"

abbrev pub outcome_text : OutcomeNote ℕ → List ℕ
outcome_text (outcome.Finished out) = codes "finished " ++ decimal out
outcome_text (outcome.Returned why) = codes "returned " ++ reason_text why
outcome_text (outcome.Answered told) = codes "answered " ++ answer_text told

abbrev pub note_text : Note ℕ → List ℕ
note_text (note.Sent name sent) = codes "sent " ++ name_text name ++ codes " " ++ order_text sent
note_text (note.Took name queue) = codes "took " ++ name_text name ++ codes " q" ++ decimal queue
note_text (note.Back name why) = codes "back " ++ name_text name ++ codes " " ++ reason_text why
note_text (note.Answered name told) = codes "answered " ++ name_text name ++ codes " " ++ answer_text told
note_text (note.Created queue shares) = codes "queue q" ++ decimal queue ++ codes " " ++ decimal shares
note_text (note.SharesSet queue shares) = codes "shares q" ++ decimal queue ++ codes " " ++ decimal shares
note_text (note.QueueClosed queue closed) = codes "closed q" ++ decimal queue ++ codes " " ++ mode_text closed
note_text (note.CoreClosed closed) = codes "coreclosed " ++ mode_text closed
note_text (note.Woken name) = codes "woken " ++ name_text name
note_text (note.Pick queue runtime) = codes "pick q" ++ decimal queue ++ codes " at " ++ decimal runtime
note_text (note.Start name) = codes "start " ++ name_text name
note_text (note.Resume name) = codes "resume " ++ name_text name
note_text (note.Yield name time) = codes "yield " ++ name_text name ++ codes " " ++ decimal time
note_text (note.Park name time) = codes "park " ++ name_text name ++ codes " " ++ decimal time
note_text (note.Stayed name time) = codes "stayed " ++ name_text name ++ codes " " ++ decimal time
note_text (note.Done name time out) = codes "done " ++ name_text name ++ codes " " ++ decimal time ++ codes " = " ++ decimal out
note_text (note.Returned name why) = codes "returned " ++ name_text name ++ codes " " ++ reason_text why
note_text (note.Turned queue time) = codes "turned q" ++ decimal queue ++ codes " " ++ decimal time
note_text (note.Shut from count) = codes "shut " ++ decimal from ++ codes " " ++ decimal count
note_text (note.Collected name told) = codes "collected " ++ name_text name ++ codes " " ++ outcome_text told
note_text (note.Redeemed name told) = codes "redeemed " ++ name_text name ++ codes " " ++ outcome_text told
note_text (note.Detached name) = codes "detached " ++ name_text name

-- a note of an actor's journal, as a line without its line feed
abbrev pub note_line : ℕ → Note ℕ → List ℕ
note_line actor written = decimal actor ++ codes " " ++ note_text written
