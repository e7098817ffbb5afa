-- Small journals of a job of which a shut gate refused an order. Its polls begin as those of BadPolls do.
use Rattle.std.specs.Prelude.{◌≡◌, ℕ, List, [], ◌∷◌, ◌++◌}
use Rattle.base_words.specs.declared.note.Note.{Note}
use Rattle.base_words.specs.declared.note.Note.TheVariants.{Pick, Resume, Yield, Sent, Detached}
use Rattle.base_words.specs.declared.order.Order.TheVariants.{Job}
use Rattle.base_words.specs.Journal.{Journal}
use Rattle.base_jobs.specs.ScriptMeaning.{script_meaning}
use Rattle.base_jobs.specs.Scripts.{Script}
use Rattle.base_jobs.specs.declared.poll.Poll.{Poll}
use Rattle.base_jobs.specs.declared.poll.Poll.TheVariants as poll
use Rattle.actor_core.specs.BadPolls.{begun, job, ordered, sent, terms}
use Rattle.actor_core.specs.OwedPolls.{PollsAreOwed}
use Rattle.actor_core.specs.RightAnswers.{Seen}

-- each gate is shut at this number, and whatever order is noted was sent
abbrev pub shut_at : ℕ → Seen Script
shut_at count = record { shut = λ core final. final ≡ count; sent = λ name order. Unit {0} }

-- the job submits to core 1 at its first two polls, and is done at its third
abbrev pub submits_twice : List Poll
submits_twice = poll.Submit 5 1 0 ∷ poll.Submit 5 1 0 ∷ poll.Done 1 7 ∷ []

-- what a poll notes whose order is the first that core 1 accepts
abbrev pub accepted : List (Note ℕ)
accepted = Yield job 5 ∷ Detached (sent 1) ∷ Sent (sent 1) (Job 0 tt) ∷ []

-- each poll of the journal is one that the job owes, if each gate is shut at this number
abbrev pub AreOwed : ℕ → Journal ℕ → Type 0
AreOwed count notes = PollsAreOwed script_meaning terms (shut_at count) (ordered submits_twice) notes

pub record RefusalsAreCounted : Type 0 where
  -- a gate that let four orders through refused the order of an actor that had sent none there
  pub after_too_few : AreOwed 4 (Yield job 5 ∷ begun) → ⊥
  -- a gate refused an order, and let a later one through
  pub before_an_accepted : AreOwed 1 (accepted ++ Resume job ∷ Pick 0 5 ∷ Yield job 5 ∷ begun) → ⊥
  -- a gate that let one order through refused the next one: each of these polls is owed
  pub after_the_last : AreOwed 1 (Yield job 5 ∷ Resume job ∷ Pick 0 5 ∷ accepted ++ begun)
