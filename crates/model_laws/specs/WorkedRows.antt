-- Three worked rows: one job, two queues that share a core, and two senders of one core.
use Rattle.std.specs.Prelude.{ℕ, [], ◌∷◌, ◌++◌, List}
use Rattle.base_words.specs.declared.note.Note.TheVariants.{Sent, Took, Created, Pick, Start, Resume, Yield, Done}
use Rattle.base_words.specs.declared.order.Order.TheVariants.{Job}
use Rattle.base_words.specs.declared.order.SendError.TheVariants.{Full}
use Rattle.base_words.specs.Journal.{Journal}
use Rattle.base_jobs.specs.declared.poll.Poll.TheVariants as poll
use Rattle.base_jobs.specs.Scripts.{Script}
use Rattle.model_world.specs.declared.event.Event.{Event}
use Rattle.model_world.specs.declared.event.Event.TheVariants.{Send, Deliver, Turn}
use Rattle.model_world.specs.declared.event.Reply.TheVariants as reply
use Rattle.model_laws.specs.Rows.{name, job_of, RunsJust}

-- one job, which is done after one poll: it makes just five notes
abbrev pub OneJob : Type 0
OneJob =
    RunsJust 1 4 1 [] (Send 0 0 (Job 0 (job_of (poll.Done 40 7 ∷ []))) ∷ Deliver 0 0 ∷ Turn 0 0 ∷ [])
    ((Done (name 0 0 1) 40 7 ∷ Start (name 0 0 1) ∷ Pick 0 0 ∷ Took (name 0 0 1) 0 ∷ Sent (name 0 0 1) (Job 0 tt) ∷ []) ∷ [] ∷ [])
    (reply.Sent (name 0 0 1) ∷ reply.Noted ∷ reply.Noted ∷ [])

-- a job of three polls of 30 ns
abbrev pub three_polls : Script
three_polls = job_of (poll.Yield 30 ∷ poll.Yield 30 ∷ poll.Done 30 0 ∷ [])

abbrev pub six_turns : List (Event Script)
six_turns = Turn 0 0 ∷ Turn 0 0 ∷ Turn 0 0 ∷ Turn 0 0 ∷ Turn 0 0 ∷ Turn 0 0 ∷ []

-- the notes of the six turns, the newest first: queue 1 pays twice as much, so queue 0 is done before it
abbrev pub six_turns_notes : Journal ℕ
six_turns_notes =
    Done (name 0 0 2) 30 0 ∷ Resume (name 0 0 2) ∷ Pick 1 120
    ∷ Yield (name 0 0 2) 30 ∷ Resume (name 0 0 2) ∷ Pick 1 60
    ∷ Done (name 0 0 1) 30 0 ∷ Resume (name 0 0 1) ∷ Pick 0 60
    ∷ Yield (name 0 0 1) 30 ∷ Resume (name 0 0 1) ∷ Pick 0 30
    ∷ Yield (name 0 0 2) 30 ∷ Start (name 0 0 2) ∷ Pick 1 0
    ∷ Yield (name 0 0 1) 30 ∷ Start (name 0 0 1) ∷ Pick 0 0 ∷ []

-- two queues of 1000 and 500 shares, each with a job of three polls
abbrev pub TwoQueues : Type 0
TwoQueues =
    RunsJust 1 4 1 ((0, 500) ∷ []) (Send 0 0 (Job 0 three_polls) ∷ Send 0 0 (Job 1 three_polls) ∷ Deliver 0 0 ∷ Deliver 0 0 ∷ six_turns)
    (
    (
    six_turns_notes
    ++ Took (name 0 0 2) 1 ∷ Took (name 0 0 1) 0 ∷ Sent (name 0 0 2) (Job 1 tt) ∷ Sent (name 0 0 1) (Job 0 tt) ∷ Created 1 500 ∷ []
    )
    ∷ [] ∷ []
    )
    (
    reply.Sent (name 0 0 1) ∷ reply.Sent (name 0 0 2) ∷ reply.Noted ∷ reply.Noted
    ∷ reply.Noted ∷ reply.Noted ∷ reply.Noted ∷ reply.Noted ∷ reply.Noted ∷ reply.Noted ∷ []
    )

-- a job that is done after one poll of 5 ns
abbrev pub short_job : ℕ → Script
short_job value = job_of (poll.Done 5 value ∷ [])

-- two senders of one core, where each has its own link of capacity 2: the fourth order of the outside actor finds it full
abbrev pub TwoSenders : Type 0
TwoSenders =
    RunsJust 2 2 1 []
    (
    Send 2 0 (Job 0 (short_job 1)) ∷ Send 1 0 (Job 0 (short_job 2)) ∷ Send 2 0 (Job 0 (short_job 3)) ∷ Send 2 0 (Job 0 (short_job 4))
    ∷ Deliver 0 2 ∷ Deliver 0 1 ∷ Deliver 0 2 ∷ Turn 0 0 ∷ Turn 0 0 ∷ Turn 0 0 ∷ Deliver 0 2 ∷ Turn 1 0 ∷ []
    )
    (
    (
    Done (name 2 0 2) 5 3 ∷ Start (name 2 0 2) ∷ Pick 0 10
    ∷ Done (name 1 0 1) 5 2 ∷ Start (name 1 0 1) ∷ Pick 0 5
    ∷ Done (name 2 0 1) 5 1 ∷ Start (name 2 0 1) ∷ Pick 0 0
    ∷ Took (name 2 0 2) 0 ∷ Took (name 1 0 1) 0 ∷ Took (name 2 0 1) 0 ∷ []
    )
    ∷ (Sent (name 1 0 1) (Job 0 tt) ∷ []) ∷ (Sent (name 2 0 2) (Job 0 tt) ∷ Sent (name 2 0 1) (Job 0 tt) ∷ []) ∷ []
    )
    (
    reply.Sent (name 2 0 1) ∷ reply.Sent (name 1 0 1) ∷ reply.Sent (name 2 0 2) ∷ reply.NotSent (Full (Job 0 (short_job 4)))
    ∷ reply.Noted ∷ reply.Noted ∷ reply.Noted ∷ reply.Noted ∷ reply.Noted ∷ reply.Noted ∷ reply.Empty ∷ reply.Idle ∷ []
    )
