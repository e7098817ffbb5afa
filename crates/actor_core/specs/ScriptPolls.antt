-- What journals tell of the polls of script jobs: each is a word of its job's script.
use Rattle.std.specs.Prelude.{◌≡◌, ℕ, ◌+◌, ◌<◌, true, false, Some, List, length, slice_get}
use Rattle.base_words.specs.Terms.{Terms}
use Rattle.base_words.specs.declared.names.JobId.{JobId}
use Rattle.base_words.specs.Journal.{Journal}
use Rattle.base_jobs.specs.ScriptMeaning.{script_meaning}
use Rattle.base_jobs.specs.Scripts.{Script, IsScript}
use Rattle.base_jobs.specs.declared.job.Step.{Step}
use Rattle.base_jobs.specs.declared.job.Step.TheVariants as steps
use Rattle.base_jobs.specs.declared.poll.Poll.{Poll}
use Rattle.base_jobs.specs.declared.poll.Poll.TheVariants as poll
use Rattle.actor_core.specs.OwedPolls.{IsPollOf, seen_by}
use Rattle.actor_core.specs.Polls.{polls_made}
use Rattle.link_ends.specs.declared.ends.Outward.{Outward}
use Rattle.base_jobs.specs.Steps.{is_done_step}

-- the note that settles a poll of this word: the word's time counts, and the job yields, or is done with the word's value
abbrev pub SettlesWord : Poll → ℕ → Step ℕ → Type 0
SettlesWord (poll.Yield told) time step = (time ≡ told) × (step ≡ steps.Yield)
SettlesWord (poll.Submit told core queue) time step = (time ≡ told) × (step ≡ steps.Yield)
SettlesWord (poll.Park told) time step = (time ≡ told) × (step ≡ steps.Park)
SettlesWord (poll.Done told value) time step = (time ≡ told) × (step ≡ steps.Done value)

-- the poll is the word of its script that stands behind those of the polls before it
pub record IsWordOf (sent : Script) (name : JobId) (time : ℕ) (step : Step ℕ) (before : Journal ℕ) : Type 0 where
  pub word : Poll
  pub is : slice_get sent.polls (sent.polled + polls_made name before) ≡ Some word
  pub settles : SettlesWord word time step

-- each poll that a script job owes is a word of its script; it is done exactly at the last one
pub record IsPolledByWords (sent : Script) (name : JobId) (time : ℕ) (step : Step ℕ) (before : Journal ℕ) : Type 0 where
  pub word : IsWordOf sent name time step before
  pub last : is_done_step step ≡ true → sent.polled + polls_made name before + 1 ≡ length sent.polls
  pub early : is_done_step step ≡ false → sent.polled + polls_made name before + 1 < length sent.polls

-- whatever its ends have seen
abbrev pub ScriptPollsAreWords : {E : Type 0} → (E → Outward Script ℕ) → Type 0
ScriptPollsAreWords {E} out =
    (ends : List E) (terms : Terms) (queue : ℕ) (sent : Script) (name : JobId) (time : ℕ) (step : Step ℕ) (before : Journal ℕ) → IsScript sent.polls →
    IsPollOf script_meaning terms (seen_by out ends) queue sent name time step before → IsPolledByWords sent name time step before
