-- A worked row: a core closes in mode `Return`, hands its job back, and shuts its gates.
use Rattle.std.specs.Prelude.{[], ◌∷◌}
use Rattle.base_words.specs.declared.note.Note.TheVariants.{Sent, Took, Answered, CoreClosed, Pick, Returned}
use Rattle.base_words.specs.declared.note.Note.TheVariants as notes
use Rattle.base_words.specs.declared.order.Answer.TheVariants as answers
use Rattle.base_words.specs.declared.order.Mode.TheVariants.{Return}
use Rattle.base_words.specs.declared.order.Order.TheVariants.{Job, CloseCore}
use Rattle.base_words.specs.declared.order.Reason.TheVariants.{CoreReturned}
use Rattle.base_words.specs.declared.order.SendError.TheVariants.{Closed}
use Rattle.model_world.specs.declared.event.Event.TheVariants.{Send, Deliver, Turn, Shut}
use Rattle.model_world.specs.declared.event.Reply.TheVariants as reply
use Rattle.model_laws.specs.Rows.{name, RunsJust}
use Rattle.model_laws.specs.WorkedRows.{short_job}

-- a core that isn't closed shuts no gate; a closed one shuts each once, at its count, behind which nothing is sent; and the job inside comes back
abbrev pub CoreCloses : Type 0
CoreCloses =
    RunsJust 1 4 1 []
    (
    Send 1 0 (Job 0 (short_job 7)) ∷ Send 1 0 (CloseCore Return) ∷ Shut 0 1 ∷ Deliver 0 1 ∷ Deliver 0 1 ∷ Shut 0 1
    ∷ Send 1 0 (Job 0 (short_job 8)) ∷ Turn 0 0 ∷ Shut 0 0 ∷ Shut 0 0 ∷ []
    )
    (
    (
    notes.Shut 0 0 ∷ Returned (name 1 0 1) CoreReturned ∷ Pick 0 0 ∷ notes.Shut 1 2
    ∷ CoreClosed Return ∷ Answered (name 1 0 2) answers.Closed ∷ Took (name 1 0 1) 0 ∷ []
    )
    ∷ (Sent (name 1 0 2) (CloseCore Return) ∷ Sent (name 1 0 1) (Job 0 tt) ∷ []) ∷ []
    )
    (
    reply.Sent (name 1 0 1) ∷ reply.Sent (name 1 0 2) ∷ reply.NotClosed ∷ reply.Noted ∷ reply.Noted ∷ reply.Noted
    ∷ reply.NotSent (Closed (Job 0 (short_job 8)) 2) ∷ reply.Noted ∷ reply.Noted ∷ reply.AlreadyShut ∷ []
    )
