-- A further poll is owed in the open turn of its queue, while the turn has a poll left, and nowhere else.
use Rattle.actor_core.proofs.Names.{◌≡◌, ◌⊎◌, inl, inr, ℕ, true, false, [], ◌∷◌, Option, Some, None, refl, arith, Journal}
use Rattle.base_words.specs.Bursts.{queue_just_picked}
use Rattle.base_words.specs.Lawful.{GoesOn}
use Rattle.base_words.specs.declared.note.Note.TheVariants as writes
use Rattle.base_jobs.specs.ScriptMeaning.{script_meaning}
use Rattle.base_jobs.specs.declared.job.Step.TheVariants as steps
use Rattle.actor_core.specs.BadPolls.{begun, job, open_links, ordered, terms}
use Rattle.actor_core.specs.BadTurns.{AreOwedIn, FurtherPollsAreCounted, polled_twice, yields_thrice}
use Rattle.actor_core.specs.OwedPolls.{IsOwedPoll}
use Rattle.actor_core.proofs.OneBeginning.{poll_behind}
use Rattle.actor_core.proofs.PollsRefused.{first, owed_so}

-- the queue of which a resumed poll is
its_turn : (burst : ℕ) (earlier : Journal ℕ) → IsOwedPoll script_meaning (record terms { burst = burst }) open_links (ordered yields_thrice) job 5 steps.Yield (writes.Resume job ∷ earlier) →
    (queue : ℕ) × ((queue_just_picked earlier ≡ Some queue) ⊎ GoesOn burst queue earlier)
its_turn burst earlier owed =
    let behind = poll_behind script_meaning (record terms { burst = burst }) open_links owed.sent job 5 steps.Yield owed.queue [] true earlier tt owed.poll in
    (behind.queue, behind.due)

no_pick : (queue : ℕ) → (queue_just_picked (writes.Yield job 5 ∷ begun) ≡ Some queue) ⊎ GoesOn 1 queue (writes.Yield job 5 ∷ begun) → ⊥
no_pick queue (inl picked) = let none : ◌≡◌ {A = Option ℕ} None (Some queue) = picked in cc
no_pick queue (inr goes) = let none : ◌≡◌ {A = Option ℕ} None (Some queue) = goes.in_turn in cc

no_poll : (queue : ℕ) → (queue_just_picked polled_twice ≡ Some queue) ⊎ GoesOn 2 queue polled_twice → ⊥
no_poll queue (inl picked) = let none : ◌≡◌ {A = Option ℕ} None (Some queue) = picked in cc
no_poll queue (inr goes) = let left = goes.poll_left in omega (arith, left)

in_its_turn : AreOwedIn 2 polled_twice
in_its_turn = (
  owed_so yields_thrice [] true (writes.Yield job 5 ∷ begun) (inr (record { in_turn = refl; nobody_out = refl; poll_left = omega arith })) refl tt (refl, refl, refl) tt,
  (tt, (owed_so yields_thrice [] false (writes.Pick 0 0 ∷ first) (inl refl) refl tt (refl, refl, refl) tt, (tt, (tt, (tt, tt))))),
)

pub further_polls_counted : FurtherPollsAreCounted
further_polls_counted = record {
  without_a_pick = λ owed. let its = its_turn 1 (writes.Yield job 5 ∷ begun) owed.0 in no_pick its.0 its.1;
  past_the_burst = λ owed. let its = its_turn 2 polled_twice owed.0 in no_poll its.0 its.1;
  in_its_turn = in_its_turn;
}
