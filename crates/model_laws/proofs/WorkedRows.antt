-- The worked rows, each as its events come.
use Rattle.model_laws.proofs.Words.{◌<◌, [], ◌∷◌, refl, sym, inl, inr, arith, true≢false, Job, CloseCore, name}
use Rattle.base_words.specs.declared.note.Note.TheVariants as writes
use Rattle.base_words.specs.declared.order.Answer.TheVariants as answers
use Rattle.base_words.specs.declared.order.Mode.TheVariants.{Return}
use Rattle.base_words.specs.declared.order.Reason.TheVariants.{CoreReturned}
use Rattle.base_jobs.specs.declared.job.Step.TheVariants as steps
use Rattle.base_jobs.specs.declared.poll.Poll.TheVariants as poll
use Rattle.model_laws.specs.Rows.{job_of}
use Rattle.model_laws.specs.WorkedRows.{OneJob, three_polls, TwoQueues, short_job, TwoSenders}
use Rattle.model_laws.specs.ClosedRow.{CoreCloses}
use Rattle.model_laws.proofs.RowRuns.{right_of_one, right_of_two, few_turns, not_full, runs_just, no_more, telling, noting, sending, polling}

-- one job, from its submission to its answer
pub one_job : OneJob
one_job =
    runs_just 1 4 1 [] _ _ _ (tt, (tt, (tt, tt))) refl (λ room enough.
    sending (omega arith, omega arith) (λ full. omega arith) refl (omega arith) (omega arith) (omega arith) refl (
    noting 0 (writes.Took (name 0 0 1) 0 ∷ []) ((omega arith, omega arith), (λ full. omega arith), (Job 0 (job_of (poll.Done 40 7 ∷ [])), refl, writes.Took (name 0 0 1) 0 ∷ [], refl, refl)) (
    polling 0 0 40 (name 0 0 1) [] (job_of (poll.Done 40 7 ∷ [])) (steps.Done 7) (omega arith) (λ full. not_full _ _ full enough refl) (omega arith) refl
    (right_of_one 1 _ _ _ refl refl refl refl (λ _. inr (refl, omega arith)) (λ other zero. rw zero)) refl refl refl (refl, refl, refl) refl (
    no_more refl))))

-- two queues of 1000 and 500 shares: the picks of six turns, and their notes
pub two_queues : TwoQueues
two_queues =
    runs_just 1 4 1 ((0, 500) ∷ []) _ _ _ (tt, (tt, (tt, (tt, (tt, (tt, (tt, (tt, (tt, (tt, tt)))))))))) refl (λ room enough.
    sending (omega arith, omega arith) (λ full. omega arith) refl (omega arith) (omega arith) (omega arith) refl (
    sending (omega arith, omega arith) (λ full. omega arith) refl (omega arith) (omega arith) (omega arith) refl (
    noting 0 (writes.Took (name 0 0 1) 0 ∷ []) ((omega arith, omega arith), (λ full. omega arith), (Job 0 three_polls, refl, writes.Took (name 0 0 1) 0 ∷ [], refl, refl)) (
    noting 0 (writes.Took (name 0 0 2) 1 ∷ []) ((omega arith, omega arith), (λ full. omega arith), (Job 1 three_polls, refl, writes.Took (name 0 0 2) 1 ∷ [], refl, refl)) (
    -- both queues stand at nothing, and the lower number is picked
    polling 0 0 30 (name 0 0 1) [] three_polls steps.Yield (omega arith) (λ full. not_full _ _ full enough refl) (omega arith) refl
    (right_of_two 1 _ _ _ refl refl refl refl (λ _. inr (refl, omega arith)) (λ _. inr (refl, omega arith)) (λ other zero one. rw (zero, one))) refl refl refl (refl, refl, refl) tt (
    -- queue 0 paid 30
    polling 1 0 30 (name 0 0 2) [] three_polls steps.Yield (omega arith) (λ full. not_full _ _ full enough refl) (omega arith) refl
    (right_of_two 1 _ _ _ refl refl refl refl (λ _. let less : 0 < 30 = omega arith in inl less) (λ _. inr (refl, omega arith)) (λ other zero one. rw (zero, one))) refl refl refl (refl, refl, refl) tt (
    -- queue 1 paid 60
    polling 0 30 30 (name 0 0 1) [] three_polls steps.Yield (omega arith) (λ full. not_full _ _ full enough refl) (omega arith) refl
    (right_of_two 1 _ _ _ refl refl refl refl (λ _. inr (refl, omega arith)) (λ _. let less : 30 < 60 = omega arith in inl less) (λ other zero one. rw (zero, one))) refl refl refl (refl, refl, refl) tt (
    -- both queues stand at 60
    polling 0 60 30 (name 0 0 1) [] three_polls (steps.Done 0) (omega arith) (λ full. not_full _ _ full enough refl) (omega arith) refl
    (right_of_two 1 _ _ _ refl refl refl refl (λ _. inr (refl, omega arith)) (λ _. inr (refl, omega arith)) (λ other zero one. rw (zero, one))) refl refl refl (refl, refl, refl) refl (
    -- queue 0 has no work any more
    polling 1 60 30 (name 0 0 2) [] three_polls steps.Yield (omega arith) (λ full. not_full _ _ full enough refl) (omega arith) refl
    (right_of_two 1 _ _ _ refl refl refl refl (λ work. absurd (true≢false (sym work))) (λ _. inr (refl, omega arith)) (λ other zero one. rw (zero, one))) refl refl refl (refl, refl, refl) tt (
    polling 1 120 30 (name 0 0 2) [] three_polls (steps.Done 0) (omega arith) (λ full. not_full _ _ full enough refl) (omega arith) refl
    (right_of_two 1 _ _ _ refl refl refl refl (λ work. absurd (true≢false (sym work))) (λ _. inr (refl, omega arith)) (λ other zero one. rw (zero, one))) refl refl refl (refl, refl, refl) refl (
    no_more refl)))))))))))

-- two senders of one core: each has its own link, and their jobs are polled in the order in which they came
pub two_senders : TwoSenders
two_senders =
    runs_just 2 2 1 [] _ _ _ (tt, (tt, (tt, (tt, (tt, (tt, (tt, (tt, (tt, (tt, (tt, (tt, tt)))))))))))) refl (λ room enough.
    sending (omega arith, omega arith) (λ full. omega arith) refl (omega arith) (omega arith) (omega arith) refl (
    sending (omega arith, omega arith) (λ full. omega arith) refl (omega arith) (omega arith) (omega arith) refl (
    sending (omega arith, omega arith) (λ full. omega arith) refl (omega arith) (omega arith) (omega arith) refl (
    -- the link is full
    telling ((omega arith, omega arith), (λ full. omega arith), (refl, omega arith, refl, refl)) (
    noting 0 (writes.Took (name 2 0 1) 0 ∷ []) ((omega arith, omega arith), (λ full. omega arith), (Job 0 (short_job 1), refl, writes.Took (name 2 0 1) 0 ∷ [], refl, refl)) (
    noting 0 (writes.Took (name 1 0 1) 0 ∷ []) ((omega arith, omega arith), (λ full. omega arith), (Job 0 (short_job 2), refl, writes.Took (name 1 0 1) 0 ∷ [], refl, refl)) (
    noting 0 (writes.Took (name 2 0 2) 0 ∷ []) ((omega arith, omega arith), (λ full. omega arith), (Job 0 (short_job 3), refl, writes.Took (name 2 0 2) 0 ∷ [], refl, refl)) (
    -- queue 0 alone has work, and pays 5 each time
    polling 0 0 5 (name 2 0 1) (name 1 0 1 ∷ name 2 0 2 ∷ []) (short_job 1) (steps.Done 1) (omega arith) (λ full. not_full _ _ full enough refl) (omega arith) refl
    (right_of_one 1 _ _ _ refl refl refl refl (λ _. inr (refl, omega arith)) (λ other zero. rw zero)) refl refl refl (refl, refl, refl) refl (
    polling 0 5 5 (name 1 0 1) (name 2 0 2 ∷ []) (short_job 2) (steps.Done 2) (omega arith) (λ full. not_full _ _ full enough refl) (omega arith) refl
    (right_of_one 1 _ _ _ refl refl refl refl (λ _. inr (refl, omega arith)) (λ other zero. rw zero)) refl refl refl (refl, refl, refl) refl (
    polling 0 10 5 (name 2 0 2) [] (short_job 3) (steps.Done 3) (omega arith) (λ full. not_full _ _ full enough refl) (omega arith) refl
    (right_of_one 1 _ _ _ refl refl refl refl (λ _. inr (refl, omega arith)) (λ other zero. rw zero)) refl refl refl (refl, refl, refl) refl (
    -- nothing is left to deliver, and the other core has no work
    telling ((omega arith, omega arith), (λ full. omega arith), (refl, refl)) (
    telling (omega arith, (λ full. omega arith), (λ queue. refl, refl)) (
    no_more refl)))))))))))))

-- a core closes, hands its job back and shuts its gates
pub core_closes : CoreCloses
core_closes =
    runs_just 1 4 1 [] _ _ _ (tt, (tt, (tt, (tt, (tt, (tt, (tt, (tt, (tt, (tt, tt)))))))))) refl (λ room enough.
    sending (omega arith, omega arith) (λ full. omega arith) refl (omega arith) (omega arith) (omega arith) refl (
    sending (omega arith, omega arith) (λ full. omega arith) refl (omega arith) (omega arith) tt refl (
    -- the core isn't closed yet
    telling ((omega arith, omega arith), (λ full. omega arith), (refl, refl)) (
    noting 0 (writes.Took (name 1 0 1) 0 ∷ []) ((omega arith, omega arith), (λ full. omega arith), (Job 0 (short_job 7), refl, writes.Took (name 1 0 1) 0 ∷ [], refl, refl)) (
    noting 0 (writes.CoreClosed Return ∷ writes.Answered (name 1 0 2) answers.Closed ∷ [])
    ((omega arith, omega arith), (λ full. omega arith), (CloseCore Return, refl, writes.CoreClosed Return ∷ writes.Answered (name 1 0 2) answers.Closed ∷ [], (answers.Closed, refl, refl), refl)) (
    noting 0 (writes.Shut 1 2 ∷ []) ((omega arith, omega arith), (λ full. omega arith), (refl, refl, refl)) (
    -- behind a shut gate nothing is sent
    telling ((omega arith, omega arith), (λ full. omega arith), (refl, refl, refl)) (
    noting 0 (writes.Returned (name 1 0 1) CoreReturned ∷ writes.Pick 0 0 ∷ []) (
      omega arith,
      (λ full. omega arith),
      inr (record {
        turn_left = few_turns 0 (omega arith);
        queue = 0;
        runtime = 0;
        right = right_of_one 1 _ _ _ refl refl refl refl (λ _. inr (refl, omega arith)) (λ other zero. rw zero);
        name = name 1 0 1;
        others = [];
        first = refl;
        reason = CoreReturned;
        returns = refl;
        notes = refl;
      }),
    ) (
    noting 0 (writes.Shut 0 0 ∷ []) ((omega arith, omega arith), (λ full. omega arith), (refl, refl, refl)) (
    telling ((omega arith, omega arith), (λ full. omega arith), (refl, refl, refl)) (
    no_more refl)))))))))))
