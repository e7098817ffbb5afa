-- That no lawful journal holds a bad step.
use Rattle.std.specs.Prelude.{ℕ}
use Rattle.base_words.specs.BadJournals.{polled, core_terms, outside_terms}
use Rattle.base_words.specs.BadSteps as bad
use Rattle.base_words.specs.Journal.{Journal, EachNote}
use Rattle.base_words.specs.Lawful.{MayStand, IsLawful}

-- the notes of the core may stand, where each link holds four
abbrev pub CoreMayWrite : Journal ℕ → Type 0
CoreMayWrite journal = EachNote (MayStand core_terms) journal

-- none of them may stand
pub record StepsAreRefused : Type 0 where
  pub head : CoreMayWrite bad.head_again → ⊥
  pub to_return : CoreMayWrite bad.polled_for_return → ⊥
  pub returned : CoreMayWrite bad.returned_from_open → ⊥
  pub done : CoreMayWrite bad.done_of_another → ⊥
  pub no_queue : CoreMayWrite bad.taken_into_nothing → ⊥
  pub second : CoreMayWrite bad.second_delivered → ⊥
  pub back : CoreMayWrite bad.back_from_open → ⊥
  pub skipped : CoreMayWrite bad.queue_skipped → ⊥
  pub missing : CoreMayWrite bad.effect_missing → ⊥
  pub other_effect : CoreMayWrite bad.effect_of_another → ⊥
  pub unasked : CoreMayWrite bad.effect_unasked → ⊥
  pub created : CoreMayWrite bad.created_unasked → ⊥
  pub second_sent : EachNote (MayStand outside_terms) bad.second_sent → ⊥
  pub capacity : EachNote (MayStand outside_terms) bad.sent_beyond_capacity → ⊥
  pub sender : CoreMayWrite bad.sent_for_another → ⊥
  pub no_core : EachNote (MayStand outside_terms) bad.sent_to_nobody → ⊥
  pub beyond_queues : EachNote (MayStand outside_terms) bad.sent_beyond_queues → ⊥
  pub no_actor : CoreMayWrite bad.taken_from_nobody → ⊥
  pub another_core : CoreMayWrite bad.taken_for_another → ⊥
  pub outside : EachNote (MayStand outside_terms) bad.taken_outside → ⊥
  -- a journal doesn't end while a job is out, nor behind a pick, nor before the effect of an answer
  pub open_end : IsLawful core_terms polled → ⊥
  pub picked_end : IsLawful core_terms bad.picked_at_the_end → ⊥
  pub answered_end : IsLawful core_terms bad.answered_at_the_end → ⊥
