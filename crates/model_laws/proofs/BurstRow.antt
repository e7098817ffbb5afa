-- The row of a turn of several polls, as its events come.
use Rattle.model_laws.proofs.Words.{ℕ, [], ◌∷◌, refl, sym, inl, inr, arith, true≢false, Job, JobId, Script, WorldView, name, noted, with_creations, with_sent}
use Rattle.base_words.specs.declared.note.Note.TheVariants as writes
use Rattle.base_jobs.specs.declared.job.Step.TheVariants as steps
use Rattle.model_laws.specs.BurstRow.{TurnOfPolls, brief_polls}
use Rattle.model_laws.proofs.RowRuns.{and_then, few_turns, no_more, not_full, noting, right_of_two, runs_just, sending, silent_poll, silently_polled}
use Rattle.model_laws.proofs.UnbegunCreations.{first_world}

abbrev its : JobId
its = name 0 0 1

-- the world before the turn, behind each of its polls, and behind its end
abbrev begun : ℕ → WorldView Script ℕ
begun room = with_creations ((0, 3) ∷ []) (first_world Script ℕ 1 4 4 room)

abbrev delivered : ℕ → WorldView Script ℕ
delivered room =
    noted 0 (writes.Took its 1 ∷ []) (record (noted 0 (writes.Sent its (Job 1 tt) ∷ []) (begun room)) { sent = with_sent 0 0 (Job 1 brief_polls) (begun room) })

abbrev first : ℕ → WorldView Script ℕ
first room = silently_polled 0 1 its (writes.Pick 1 0 ∷ []) steps.Yield (delivered room)

abbrev second : ℕ → WorldView Script ℕ
second room = silently_polled 0 0 its [] steps.Yield (first room)

abbrev third : ℕ → WorldView Script ℕ
third room = silently_polled 0 1 its [] (steps.Done 0) (second room)

abbrev ended : ℕ → WorldView Script ℕ
ended room = noted 0 (writes.Turned 1 3 ∷ []) (third room)

-- one pick, three polls, and one end
pub turn_of_polls : TurnOfPolls
turn_of_polls =
    runs_just 1 4 4 ((0, 3) ∷ []) _ _ _ (tt, (tt, (tt, tt))) refl (λ room enough.
    sending (omega arith, omega arith) (λ full. not_full _ _ full enough refl) refl (omega arith) (omega arith) (omega arith) refl (
    noting 0 (writes.Took its 1 ∷ [])
    ((omega arith, omega arith), (λ full. not_full _ _ full enough refl), (Job 1 brief_polls, refl, writes.Took its 1 ∷ [], refl, refl)) (
    and_then (ended room) (
      omega arith,
      (λ full. not_full _ _ full enough refl),
      inl (record {
        mid = first room;
        first = record {
          turn_left = few_turns 0 (omega arith);
          queue = 1;
          runtime = 0;
          right = right_of_two 4 _ _ _ refl refl refl refl (λ work. absurd (true≢false (sym work))) (λ _. inr (refl, omega arith)) (λ other zero one. rw one);
          name = its;
          poll = silent_poll 0 0 1 1 its (writes.Pick 1 0 ∷ []) [] brief_polls steps.Yield (delivered room) refl refl refl (refl, refl, refl) tt;
        };
        later = its ∷ its ∷ [];
        further = (
          second room,
          record {
            queue = 1;
            goes_on = record { in_turn = refl; nobody_out = refl; poll_left = omega arith };
            may = refl;
            poll = silent_poll 0 0 1 0 its [] [] brief_polls steps.Yield (first room) refl refl refl (refl, refl, refl) tt;
          },
          (
            third room,
            record {
              queue = 1;
              goes_on = record { in_turn = refl; nobody_out = refl; poll_left = omega arith };
              may = refl;
              poll = silent_poll 0 0 1 1 its [] [] brief_polls (steps.Done 0) (second room) refl refl refl (refl, refl, refl) refl;
            },
            record { queue = 1; time = 3; end = record { in_turn = refl; nobody_out = refl; its_time = refl; over = refl }; notes = refl },
          ),
        );
      }),
    ) (
    no_more refl))))
