-- What a journal tells of the four lists of its links, of its starts and of its ends.
use Rattle.std.specs.Prelude.{ℕ, ◌==◌, if◌then◌else◌, Option, Some, None, List}
use Rattle.base_words.specs.declared.names.JobId.{JobId}
use Rattle.base_words.specs.declared.note.Note.{Note}
use Rattle.base_words.specs.declared.note.Note.TheVariants.{Sent, Took, Back, Answered, Start, Done, Returned, Collected}
use Rattle.base_words.specs.declared.note.OutcomeNote.{OutcomeNote}
use Rattle.base_words.specs.declared.note.OutcomeNote.TheVariants as outcome
use Rattle.base_words.specs.declared.order.Order.{Order}
use Rattle.base_words.specs.Journal.{Journal, list_told, or_else}

-- names, each with its order
abbrev pub Orders : Type 0
Orders = List (JobId × Order (Unit {0}))

-- names, each with its outcome
abbrev pub Outcomes : Type 0 → Type 0
Outcomes T = List (JobId × OutcomeNote T)

-- it, if the name was sent to this core
abbrev pub if_to : {A : Type 0} → ℕ → JobId → A → Option A
if_to core name item = if name.to == core then Some item else None

-- it, if the name was sent by this actor
abbrev pub if_from : {A : Type 0} → ℕ → JobId → A → Option A
if_from actor name item = if name.from == actor then Some item else None

-- the order that a note says was sent to this core
abbrev pub order_sent : {T : Type 0} → ℕ → Note T → Option (JobId × Order (Unit {0}))
order_sent core (Sent name order) = if_to core name (name, order)
order_sent core _ = None

-- the name that a note says was delivered from this actor
abbrev pub name_delivered : {T : Type 0} → ℕ → Note T → Option JobId
name_delivered actor (Took name queue) = if_from actor name name
name_delivered actor (Back name reason) = if_from actor name name
name_delivered actor (Answered name answer) = if_from actor name name
name_delivered actor _ = None

-- the outcome that a note says was given to this actor
abbrev pub outcome_given : {T : Type 0} → ℕ → Note T → Option (JobId × OutcomeNote T)
outcome_given actor (Done name time value) = if_from actor name (name, outcome.Finished value)
outcome_given actor (Back name reason) = if_from actor name (name, outcome.Returned reason)
outcome_given actor (Returned name reason) = if_from actor name (name, outcome.Returned reason)
outcome_given actor (Answered name answer) = if_from actor name (name, outcome.Answered answer)
outcome_given actor _ = None

-- the outcome that a note says was collected of this core
abbrev pub outcome_collected : {T : Type 0} → ℕ → Note T → Option (JobId × OutcomeNote T)
outcome_collected core (Collected name what) = if_to core name (name, what)
outcome_collected core _ = None

-- the link from an actor to a core: what its sender sent and collected, what its receiver was delivered and gave
abbrev pub accepted_orders : {T : Type 0} → ℕ → Journal T → Orders
accepted_orders core = list_told (order_sent core)

abbrev pub delivered_names : {T : Type 0} → ℕ → Journal T → List JobId
delivered_names actor = list_told (name_delivered actor)

abbrev pub given_outcomes : {T : Type 0} → ℕ → Journal T → Outcomes T
given_outcomes actor = list_told (outcome_given actor)

abbrev pub collected_outcomes : {T : Type 0} → ℕ → Journal T → Outcomes T
collected_outcomes core = list_told (outcome_collected core)

-- the job that a note says is polled for the first time
abbrev pub name_started : {T : Type 0} → Note T → Option JobId
name_started (Start name) = Some name
name_started _ = None

-- the job that a note says is done
abbrev pub name_finished : {T : Type 0} → Note T → Option JobId
name_finished (Done name time value) = Some name
name_finished _ = None

-- the job that a note says is handed back
abbrev pub name_handed_back : {T : Type 0} → Note T → Option JobId
name_handed_back (Back name reason) = Some name
name_handed_back (Returned name reason) = Some name
name_handed_back _ = None

-- the job that a note ends
abbrev pub name_ended : {T : Type 0} → Note T → Option JobId
name_ended note = or_else (name_finished note) (name_handed_back note)

-- the jobs that were polled for the first time, those that are done, and those that were handed back
abbrev pub starts : {T : Type 0} → Journal T → List JobId
starts = list_told name_started

abbrev pub finishes : {T : Type 0} → Journal T → List JobId
finishes = list_told name_finished

abbrev pub returns : {T : Type 0} → Journal T → List JobId
returns = list_told name_handed_back
