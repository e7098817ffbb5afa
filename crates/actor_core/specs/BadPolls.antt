-- Small journals with a poll that isn't owed. The job is one of a script, delivered under the name `job` to queue 0 of core 0, of two cores.
use Rattle.std.specs.Prelude.{◌≡◌, ℕ, Option, Some, List, [], ◌∷◌}
use Rattle.base_words.specs.Terms.{Terms}
use Rattle.base_words.specs.declared.names.JobId.{JobId}
use Rattle.base_words.specs.declared.note.Note.TheVariants.{Took, Pick, Start, Resume, Yield, Park, Stayed, Done, Sent, Detached, CoreClosed}
use Rattle.base_words.specs.declared.order.Mode.TheVariants.{Return}
use Rattle.base_words.specs.declared.order.Order.{Order}
use Rattle.base_words.specs.declared.order.Order.TheVariants.{Job, CloseCore}
use Rattle.base_words.specs.Journal.{Journal}
use Rattle.base_jobs.specs.ScriptMeaning.{script_meaning}
use Rattle.base_jobs.specs.Scripts.{Script}
use Rattle.base_jobs.specs.declared.poll.Poll.{Poll}
use Rattle.base_jobs.specs.declared.poll.Poll.TheVariants as poll
use Rattle.actor_core.specs.OwedPolls.{PollsAreOwed}
use Rattle.actor_core.specs.RightAnswers.{Seen}

abbrev pub job : JobId
job = record { from = 2; to = 0; number = 1 }

-- what the job sends to core 1, and then again
abbrev pub sent : ℕ → JobId
sent number = record { from = 0; to = 1; number = number }

-- what its core sends to itself
abbrev pub to_itself : JobId
to_itself = record { from = 0; to = 0; number = 1 }

abbrev pub terms : Terms
terms = record { actor = 0; cores = 2; cap = 4; burst = 1 }

-- the job of these polls is the order under each name
abbrev pub ordered : List Poll → JobId → Option (Order Script)
ordered polls name = Some (Job 0 (record { polls = polls; polled = 0 }))

-- no gate is shut, and whatever order is noted was sent
abbrev pub open_links : Seen Script
open_links = record { shut = λ core final. ⊥; sent = λ name order. Unit {0} }

-- no gate is shut, and each order that was sent is a job that is done with 9
abbrev pub other_orders : Seen Script
other_orders = record { shut = λ core final. ⊥; sent = λ name order. order ≡ Job 0 (record { polls = poll.Done 1 9 ∷ []; polled = 0 }) }

-- a poll of the journal isn't one that a job of these polls owes
abbrev pub IsNotOwed : Seen Script → List Poll → Journal ℕ → Type 0
IsNotOwed seen polls notes = PollsAreOwed script_meaning terms seen (ordered polls) notes → ⊥

-- the first poll begins
abbrev pub begun : Journal ℕ
begun = Start job ∷ Pick 0 0 ∷ Took job 0 ∷ []

pub record PollsAreRefused : Type 0 where
  -- a job that is done at its first poll yields
  pub yields_for_ever : IsNotOwed open_links (poll.Done 1 7 ∷ []) (Yield job 1 ∷ begun)
  -- a job whose first poll yields is done with its last value
  pub skips_to_its_value : IsNotOwed open_links (poll.Yield 5 ∷ poll.Done 1 7 ∷ []) (Done job 1 7 ∷ begun)
  -- it yields once more than it has polls that yield
  pub yields_once_more : IsNotOwed open_links (poll.Yield 5 ∷ poll.Done 1 7 ∷ []) (Yield job 5 ∷ Resume job ∷ Pick 0 5 ∷ Yield job 5 ∷ begun)
  -- its second yield was never begun
  pub yields_unbegun : IsNotOwed open_links (poll.Yield 5 ∷ poll.Yield 5 ∷ poll.Done 1 7 ∷ []) (Yield job 5 ∷ Yield job 5 ∷ begun)
  -- it is done with another value
  pub another_value : IsNotOwed open_links (poll.Done 1 7 ∷ []) (Done job 1 8 ∷ begun)
  -- another time counts than the one that it told
  pub another_time : IsNotOwed open_links (poll.Yield 5 ∷ poll.Done 1 7 ∷ []) (Yield job 6 ∷ begun)
  -- a poll that submits noted nothing, though the link has room and its gate isn't shut
  pub submits_nothing : IsNotOwed open_links (poll.Submit 5 1 0 ∷ poll.Done 1 7 ∷ []) (Yield job 5 ∷ begun)
  -- a poll that submits once submitted twice
  pub submits_twice : IsNotOwed open_links (poll.Submit 5 1 0 ∷ poll.Done 1 7 ∷ [])
      (Yield job 5 ∷ Detached (sent 2) ∷ Sent (sent 2) (Job 0 tt) ∷ Detached (sent 1) ∷ Sent (sent 1) (Job 0 tt) ∷ begun)
  -- what it submitted isn't detached
  pub keeps_its_submission : IsNotOwed open_links (poll.Submit 5 1 0 ∷ poll.Done 1 7 ∷ []) (Yield job 5 ∷ Sent (sent 1) (Job 0 tt) ∷ begun)
  -- a job that asks to be parked yields
  pub yields_for_a_park : IsNotOwed open_links (poll.Park 5 ∷ poll.Done 1 7 ∷ []) (Yield job 5 ∷ begun)
  -- a job that yields is parked
  pub parks_for_a_yield : IsNotOwed open_links (poll.Yield 5 ∷ poll.Done 1 7 ∷ []) (Park job 5 ∷ begun)
  -- a job that is done stays
  pub stays_when_done : IsNotOwed open_links (poll.Done 1 7 ∷ []) (Stayed job 1 ∷ begun)
  -- a poll that was never begun is settled
  pub never_begun : IsNotOwed open_links (poll.Done 1 7 ∷ []) (Done job 1 7 ∷ Took job 0 ∷ [])
  -- another job was sent than the one that its poll submits
  pub sends_another_job : IsNotOwed other_orders (poll.Submit 5 1 0 ∷ poll.Done 1 7 ∷ []) (Yield job 5 ∷ Detached (sent 1) ∷ Sent (sent 1) (Job 0 tt) ∷ begun)
  -- the order that closes the core was sent in place of that job
  pub sends_a_closing : IsNotOwed open_links (poll.Submit 5 0 0 ∷ poll.Done 1 7 ∷ []) (Yield job 5 ∷ Detached to_itself ∷ Sent to_itself (CloseCore Return) ∷ begun)
  -- a poll that asks for nothing sent its own core the order to close
  pub closes_its_core : IsNotOwed open_links (poll.Yield 5 ∷ poll.Done 1 7 ∷ []) (Yield job 5 ∷ Sent to_itself (CloseCore Return) ∷ begun)
  -- the core closed by itself between the beginning of a poll and its end
  pub closes_in_a_poll : IsNotOwed open_links (poll.Yield 5 ∷ poll.Done 1 7 ∷ []) (Yield job 5 ∷ CoreClosed Return ∷ begun)

-- The job submits at its first poll, and is done at its second: each of these polls is owed.
abbrev pub OneIsOwed : Type 0
OneIsOwed = PollsAreOwed script_meaning terms open_links (ordered (poll.Submit 5 1 0 ∷ poll.Done 1 7 ∷ []))
    (Done job 1 7 ∷ Resume job ∷ Pick 0 5 ∷ Yield job 5 ∷ Detached (sent 1) ∷ Sent (sent 1) (Job 0 tt) ∷ begun)
