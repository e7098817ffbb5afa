-- The polls of a script's job, as words spell them.
use Rattle.std.specs.Prelude.{◌≡◌, ℕ, ◌+◌, ◌≤◌, ◌==◌, List, [], ◌∷◌, ◌++◌, length, Result, Err, if◌then◌else◌}
use Rattle.std.specs.List.{before_first, after_first}
use Rattle.base_jobs.specs.declared.poll.Poll.{Poll}
use Rattle.base_jobs.specs.declared.poll.Poll.TheVariants.{Yield, Submit, Park, Done}
use Rattle.base_jobs.specs.Scripts.{Script}
use Rattle.text_words.specs.declared.fault.Cause.{Cause}
use Rattle.text_words.specs.declared.fault.Cause.TheVariants.{BadWord}
use Rattle.text_words.specs.Fields.{both, made, core_field, queue_field, count_field}
use Rattle.fairexec_script.specs.declared.polls.Early.{Early}
use Rattle.fairexec_script.specs.declared.polls.Early.TheVariants as early

-- the poll that is read so
abbrev pub poll_of : Early → Poll
poll_of (early.Yield told) = Yield told
poll_of (early.Submit told core queue) = Submit told core queue
poll_of (early.Park told) = Park told

-- `T>D.Q`, behind the letter of a poll that submits to queue Q of core D and tells T; the first `>` counts, and the first `.` behind it
abbrev pub submit_field : ℕ → List ℕ → Result Poll Cause
submit_field cores rest =
    made (λ p. Submit p.0 (p.1).0 (p.1).1)
    (both (count_field (before_first (λ byte. byte == 62) rest))
    (both (core_field cores (before_first (λ byte. byte == 46) (after_first (λ byte. byte == 62) rest)))
    (queue_field (after_first (λ byte. byte == 46) (after_first (λ byte. byte == 62) rest)))))

-- `yT`, a poll that yields and tells T, `pT>D.Q`, or `kT`, one that is parked and tells T
abbrev pub early_field : ℕ → List ℕ → Result Poll Cause
early_field cores [] = Err BadWord
early_field cores (letter ∷ rest) =
    if letter == 121 then made Yield (count_field rest)
    else (if letter == 112 then submit_field cores rest
    else (if letter == 107 then made Park (count_field rest) else Err BadWord))

-- `dT=V`, a poll that is done with V and tells T; the first `=` counts
abbrev pub done_field : List ℕ → Result Poll Cause
done_field [] = Err BadWord
done_field (letter ∷ rest) =
    if letter == 100 then made (λ p. Done p.0 p.1) (both (count_field (before_first (λ byte. byte == 61) rest)) (count_field (after_first (λ byte. byte == 61) rest)))
    else Err BadWord

-- the polls of a job: the last word is a poll that is done, and each before it one that yields or is parked
abbrev pub polls_field : ℕ → List (List ℕ) → Result (List Poll) Cause
polls_field cores [] = Err BadWord
polls_field cores (word ∷ []) = made (λ poll. poll ∷ []) (done_field word)
polls_field cores (word ∷ next ∷ others) = made (λ p. p.0 ∷ p.1) (both (early_field cores word) (polls_field cores (next ∷ others)))

-- a job of these polls that has made none
abbrev pub fresh_job : List Poll → Script
fresh_job polls = record { polls = polls; polled = 0 }

abbrev pub job_field : ℕ → List (List ℕ) → Result Script Cause
job_field cores ws = made fresh_job (polls_field cores ws)

-- the first words of a job are read: it has their polls and then one of no time and no answer, or this is what is wrong with them;
-- with the words that are left, all of it comes to this
pub record IsPartOf (cores : ℕ) (all : Result (List Poll) Cause) (found : Result (Unit {0}) Cause) (job : Script) (left : List (List ℕ)) : Type 0 where
  pub early : List Poll
  pub polls : job.polls ≡ early ++ Done 0 0 ∷ []
  pub fresh : job.polled ≡ 0
  pub few : length early + length left ≤ 64
  pub same : made (λ p. early ++ p.1) (both found (polls_field cores left)) ≡ all
