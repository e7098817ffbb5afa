-- What a core answers to a delivery: whether a job enters, what a command is answered, and what follows the answer.
use Rattle.std.specs.Prelude.{◌≡◌, ◌⊎◌, ℕ, ◌+◌, Bool, true, false, not, ◌&&◌, ◌||◌, nat_le, if◌then◌else◌, Option, Some, None, is_some, [], ◌∷◌, length}
use Rattle.base_words.specs.declared.names.JobId.{JobId}
use Rattle.base_words.specs.declared.note.Note.{Note}
use Rattle.base_words.specs.declared.note.Note.TheVariants as notes
use Rattle.base_words.specs.declared.order.Order.{Order}
use Rattle.base_words.specs.declared.order.Order.TheVariants.{Job, Create, SetShares, Close, CloseCore, Wake}
use Rattle.base_words.specs.declared.order.Mode.{Mode}
use Rattle.base_words.specs.declared.order.Mode.TheVariants.{Return}
use Rattle.base_words.specs.declared.order.Reason.{Reason}
use Rattle.base_words.specs.declared.order.Reason.TheVariants as why
use Rattle.base_words.specs.declared.order.Answer.{Answer}
use Rattle.base_words.specs.declared.order.Answer.TheVariants as answers
use Rattle.base_words.specs.Closing.{queue_mode, core_mode, closes}
use Rattle.base_words.specs.Entries.{queue_of}
use Rattle.base_words.specs.Filters.{name_ended}
use Rattle.base_words.specs.Journal.{Journal, is_told, list_told, or_else}
use Rattle.base_words.specs.Parks.{is_wake_kept}

-- the queue that a note says was created
abbrev pub queue_created : {T : Type 0} → Note T → Option ℕ
queue_created (notes.Created queue weight) = Some queue
queue_created _ = None

-- how many queues were created: queue 0 is there from the opening, and the others are numbered in the order of their creation, so this is also the greatest number
abbrev pub created_count : {T : Type 0} → Journal T → ℕ
created_count journal = length (list_told queue_created journal)

abbrev pub reason_if_closed : Option Mode → Reason → Option Reason
reason_if_closed None reason = None
reason_if_closed (Some mode) reason = Some reason

abbrev pub reason_if_returning : Option Mode → Reason → Option Reason
reason_if_returning (Some Return) reason = Some reason
reason_if_returning _ reason = None

-- why a job that is delivered to this queue goes back: no such queue, a closed queue, a core that hands back
abbrev pub refusal : {T : Type 0} → ℕ → Journal T → Option Reason
refusal queue journal =
    if nat_le queue (created_count journal)
    then or_else (reason_if_closed (queue_mode queue journal) why.QueueClosed) (reason_if_returning (core_mode journal) why.CoreClosing)
    else Some why.NoQueue

-- why a pick of this queue hands its job back
abbrev pub return_reason : {T : Type 0} → ℕ → Journal T → Option Reason
return_reason queue journal =
    or_else (reason_if_returning (queue_mode queue journal) why.QueueReturned) (reason_if_returning (core_mode journal) why.CoreReturned)

-- the same of the queue of a job, if it has one
abbrev pub return_reason_of : {T : Type 0} → Option ℕ → Journal T → Option Reason
return_reason_of None journal = None
return_reason_of (Some queue) journal = return_reason queue journal

-- whether a job that asks to be parked stays in its line: a wake of it is kept, or its queue or its core hands back what is inside
abbrev pub stays_in_line : {T : Type 0} → JobId → Journal T → Bool
stays_in_line name journal = is_wake_kept name journal || is_some (return_reason_of (queue_of name journal) journal)

-- the job of this sender and number at this core
abbrev pub job_at : ℕ → ℕ → ℕ → JobId
job_at core actor number = record { from = actor; to = core; number = number }

-- whether a job is inside: it entered, and has not ended
abbrev pub is_inside : {T : Type 0} → JobId → Journal T → Bool
is_inside name journal = is_some (queue_of name journal) && not (is_told name_ended name journal)

-- a creation: refused where the core is closed, else where it has 256 queues; else there was no memory, or the next queue is there
abbrev pub IsCreationAnswer : Option Mode → Bool → ℕ → Answer → Type 0
IsCreationAnswer (Some mode) full next answer = answer ≡ answers.CoreClosing
IsCreationAnswer None true next answer = answer ≡ answers.TooMany
IsCreationAnswer None false next answer = (answer ≡ answers.NoMemory) ⊎ (answer ≡ answers.Created next)

-- a closing is answered by whether it changes anything
abbrev pub closing_answer : Option Mode → Mode → Answer
closing_answer now mode = if closes now mode then answers.Closed else answers.AlreadyClosed

-- what a command to this core may be answered
abbrev pub IsAnswer : {T : Type 0} → ℕ → Order (Unit {0}) → Answer → Journal T → Type 0
IsAnswer core (Job queue task) answer before = ⊥
IsAnswer core (Create weight) answer before =
    IsCreationAnswer (core_mode before) (nat_le 255 (created_count before)) (created_count before + 1) answer
IsAnswer core (SetShares queue weight) answer before =
    answer ≡ (if nat_le queue (created_count before) then answers.SharesSet else answers.NoQueue)
IsAnswer core (Close queue mode) answer before =
    answer ≡ (if nat_le queue (created_count before) then closing_answer (queue_mode queue before) mode else answers.NoQueue)
IsAnswer core (CloseCore mode) answer before = answer ≡ closing_answer (core_mode before) mode
IsAnswer core (Wake actor number) answer before =
    answer ≡ (if is_inside (job_at core actor number) before then answers.Woken else answers.NoJob)

-- the note of what a command to this core did, by its answer
abbrev pub effect_note : {T : Type 0} → ℕ → Order (Unit {0}) → Answer → Option (Note T)
effect_note core (Create weight) (answers.Created queue) = Some (notes.Created queue weight)
effect_note core (SetShares queue weight) answers.SharesSet = Some (notes.SharesSet queue weight)
effect_note core (Close queue mode) answers.Closed = Some (notes.QueueClosed queue mode)
effect_note core (CloseCore mode) answers.Closed = Some (notes.CoreClosed mode)
effect_note core (Wake actor number) answers.Woken = Some (notes.Woken (job_at core actor number))
effect_note core _ _ = None

-- whether an answer has an effect
abbrev pub has_effect : Answer → Bool
has_effect (answers.Created queue) = true
has_effect answers.SharesSet = true
has_effect answers.Closed = true
has_effect answers.Woken = true
has_effect _ = false

-- the answer whose effect is the next note: it is the last note, and has an effect
abbrev pub effect_awaited : {T : Type 0} → Journal T → Option Answer
effect_awaited (notes.Answered name answer ∷ before) = if has_effect answer then Some answer else None
effect_awaited _ = None

-- no note except those of the creations at the opening
abbrev pub IsOpening : {T : Type 0} → Journal T → Type 0
IsOpening [] = Unit {0}
IsOpening (notes.Created queue weight ∷ before) = IsOpening before
IsOpening _ = ⊥

-- behind an answer with an effect stands the note of that effect, which stands nowhere else, except the creations at the opening and where a core closes by itself
abbrev pub IsEffectDue : {T : Type 0} → Option Answer → Note T → Journal T → Type 0
IsEffectDue None (notes.Created queue weight) before = IsOpening before
IsEffectDue None (notes.SharesSet queue weight) before = ⊥
IsEffectDue None (notes.QueueClosed queue mode) before = ⊥
IsEffectDue None (notes.Woken name) before = ⊥
IsEffectDue None _ before = Unit {0}
IsEffectDue (Some answer) (notes.Created queue weight) before = answer ≡ answers.Created queue
IsEffectDue (Some answer) (notes.SharesSet queue weight) before = answer ≡ answers.SharesSet
IsEffectDue (Some answer) (notes.QueueClosed queue mode) before = answer ≡ answers.Closed
IsEffectDue (Some answer) (notes.CoreClosed mode) before = answer ≡ answers.Closed
IsEffectDue (Some answer) (notes.Woken name) before = answer ≡ answers.Woken
IsEffectDue (Some answer) _ before = ⊥
