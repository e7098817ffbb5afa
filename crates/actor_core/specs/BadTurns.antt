-- Small journals of a job that is polled again in the turn of its pick. Its polls begin as those of BadPolls do.
use Rattle.std.specs.Prelude.{ℕ, List, [], ◌∷◌}
use Rattle.base_words.specs.declared.note.Note.TheVariants.{Resume, Yield}
use Rattle.base_words.specs.Journal.{Journal}
use Rattle.base_jobs.specs.ScriptMeaning.{script_meaning}
use Rattle.base_jobs.specs.declared.poll.Poll.{Poll}
use Rattle.base_jobs.specs.declared.poll.Poll.TheVariants as poll
use Rattle.actor_core.specs.BadPolls.{begun, job, open_links, ordered, terms}
use Rattle.actor_core.specs.OwedPolls.{PollsAreOwed}

-- the job yields at its first three polls
abbrev pub yields_thrice : List Poll
yields_thrice = poll.Yield 5 ∷ poll.Yield 5 ∷ poll.Yield 5 ∷ poll.Done 1 7 ∷ []

-- each poll of the journal is one that the job owes, if a turn may have so many polls
abbrev pub AreOwedIn : ℕ → Journal ℕ → Type 0
AreOwedIn burst notes = PollsAreOwed script_meaning (record terms { burst = burst }) open_links (ordered yields_thrice) notes

-- the job was polled twice behind one pick
abbrev pub polled_twice : Journal ℕ
polled_twice = Yield job 5 ∷ Resume job ∷ Yield job 5 ∷ begun

pub record FurtherPollsAreCounted : Type 0 where
  -- a second poll behind one pick, where each turn is a single poll
  pub without_a_pick : AreOwedIn 1 polled_twice → ⊥
  -- a third poll in a turn of two
  pub past_the_burst : AreOwedIn 2 (Yield job 5 ∷ Resume job ∷ polled_twice) → ⊥
  -- in a turn of two, both polls are owed
  pub in_its_turn : AreOwedIn 2 polled_twice
