-- A worked row: a turn of several polls has one pick and one charge.
use Rattle.std.specs.Prelude.{[], ◌∷◌}
use Rattle.base_words.specs.declared.note.Note.TheVariants.{Sent, Took, Created, Pick, Start, Resume, Yield, Done, Turned}
use Rattle.base_words.specs.declared.order.Order.TheVariants.{Job}
use Rattle.base_jobs.specs.declared.poll.Poll.TheVariants as poll
use Rattle.base_jobs.specs.Scripts.{Script}
use Rattle.model_world.specs.declared.event.Event.TheVariants.{Send, Deliver, Turn}
use Rattle.model_world.specs.declared.event.Reply.TheVariants as reply
use Rattle.model_laws.specs.Rows.{name, job_of, RunsJust}

-- a job of three polls, of 1, 0 and 1 ns
abbrev pub brief_polls : Script
brief_polls = job_of (poll.Yield 1 ∷ poll.Yield 0 ∷ poll.Done 1 0 ∷ [])

-- where a turn may have four polls, all three are made in one: its time is 3 ns, since each poll counts as at least 1
abbrev pub TurnOfPolls : Type 0
TurnOfPolls =
    RunsJust 1 4 4 ((0, 3) ∷ []) (Send 0 0 (Job 1 brief_polls) ∷ Deliver 0 0 ∷ Turn 0 0 ∷ [])
    (
    (
    Turned 1 3 ∷ Done (name 0 0 1) 1 0 ∷ Resume (name 0 0 1) ∷ Yield (name 0 0 1) 0 ∷ Resume (name 0 0 1) ∷ Yield (name 0 0 1) 1 ∷ Start (name 0 0 1)
    ∷ Pick 1 0 ∷ Took (name 0 0 1) 1 ∷ Sent (name 0 0 1) (Job 1 tt) ∷ Created 1 3 ∷ []
    )
    ∷ [] ∷ []
    )
    (reply.Sent (name 0 0 1) ∷ reply.Noted ∷ reply.Noted ∷ [])
