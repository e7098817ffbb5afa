-- Small journals of core 0 of two cores, with one thing wrong each.
use Rattle.std.specs.Prelude.{ℕ, [], ◌∷◌}
use Rattle.base_words.specs.declared.names.JobId.{JobId}
use Rattle.base_words.specs.declared.note.Note.TheVariants.{Sent, Took, Answered, Created, SharesSet, CoreClosed, Pick, Start, Yield, Shut, Collected, Redeemed, Detached}
use Rattle.base_words.specs.declared.note.OutcomeNote.TheVariants.{Finished}
use Rattle.base_words.specs.declared.order.Mode.TheVariants.{Finish}
use Rattle.base_words.specs.declared.order.Order.TheVariants.{Job}
use Rattle.base_words.specs.declared.order.Answer.TheVariants as answers
use Rattle.base_words.specs.Journal.{Journal}
use Rattle.base_words.specs.Terms.{Terms}
use Rattle.judge_sink.specs.Judged.{IsJudged}

-- the terms of the core, in a house of two cores whose links hold four
abbrev pub core_terms : Terms
core_terms = record { actor = 0; cores = 2; cap = 4; burst = 1 }

-- submissions of the outside actor to the core
abbrev pub received : JobId
received = record { from = 2; to = 0; number = 1 }

abbrev pub second : JobId
second = record { from = 2; to = 0; number = 2 }

-- a submission of the core to itself, and two to the other core
abbrev pub to_itself : JobId
to_itself = record { from = 0; to = 0; number = 1 }

abbrev pub elsewhere : JobId
elsewhere = record { from = 0; to = 1; number = 1 }

abbrev pub skipped : JobId
skipped = record { from = 0; to = 1; number = 2 }

-- a job entered queue 0, was polled for 10 ns, and wants another poll
abbrev pub yielded : Journal ℕ
yielded = Yield received 10 ∷ Start received ∷ Pick 0 0 ∷ Took received 0 ∷ []

-- a submission to the other core, whose outcome was collected
abbrev pub got : Journal ℕ
got = Collected elsewhere (Finished 9) ∷ Sent elsewhere (Job 0 tt) ∷ []

-- the core closed by itself
abbrev pub closed : Journal ℕ
closed = CoreClosed Finish ∷ []

-- each of these is refused
pub record AreRefused : Type 0 where
  -- an empty queue is picked; and the same behind a submission to the other core, and behind a gate
  pub no_work : IsJudged core_terms (Pick 0 0 ∷ []) → ⊥
  pub behind_others : IsJudged core_terms (Pick 0 0 ∷ Sent elsewhere (Job 0 tt) ∷ []) → ⊥
  pub behind_shut : IsJudged core_terms (Pick 0 0 ∷ Shut 2 1 ∷ closed) → ⊥
  -- a queue is picked at another virtual runtime than it has
  pub runtime : IsJudged core_terms (Pick 0 11 ∷ yielded) → ⊥
  -- a job starts twice
  pub twice : IsJudged core_terms (Start received ∷ Pick 0 10 ∷ yielded) → ⊥
  -- an effect without an answer, and behind one that has another effect
  pub unasked : IsJudged core_terms (SharesSet 0 5 ∷ []) → ⊥
  pub another : IsJudged core_terms (SharesSet 0 5 ∷ Answered received answers.Woken ∷ []) → ⊥
  -- a queue gets shares that it can't have, and is made as at the opening, behind a submission to the other core
  pub no_shares : IsJudged core_terms (SharesSet 0 0 ∷ Answered received answers.SharesSet ∷ []) → ⊥
  pub opened_late : IsJudged core_terms (Created 1 5 ∷ Sent elsewhere (Job 0 tt) ∷ []) → ⊥
  -- a submission to the other core, or a gate that is shut, inside a step
  pub inside : IsJudged core_terms (Sent elsewhere (Job 0 tt) ∷ Pick 0 0 ∷ Took received 0 ∷ []) → ⊥
  pub shut_inside : IsJudged core_terms (Shut 2 1 ∷ Pick 0 0 ∷ Took received 0 ∷ closed) → ⊥
  -- a number is skipped, and an outcome is collected, or a submission detached, that wasn't sent
  pub not_next : IsJudged core_terms (Sent skipped (Job 0 tt) ∷ []) → ⊥
  pub not_sent : IsJudged core_terms (Collected skipped (Finished 9) ∷ Sent elsewhere (Job 0 tt) ∷ []) → ⊥
  pub not_held : IsJudged core_terms (Detached elsewhere ∷ []) → ⊥
  -- an outcome is collected twice, redeemed before it was collected, redeemed twice, and detached once it was redeemed
  pub collected_twice : IsJudged core_terms (Collected elsewhere (Finished 9) ∷ got) → ⊥
  pub not_collected : IsJudged core_terms (Redeemed elsewhere (Finished 9) ∷ Sent elsewhere (Job 0 tt) ∷ []) → ⊥
  pub redeemed_twice : IsJudged core_terms (Redeemed elsewhere (Finished 9) ∷ Redeemed elsewhere (Finished 9) ∷ got) → ⊥
  pub detached_late : IsJudged core_terms (Detached elsewhere ∷ Redeemed elsewhere (Finished 9) ∷ got) → ⊥
  -- a gate is shut on an open core, twice, for an actor that isn't there, and below what was delivered
  pub open_core : IsJudged core_terms (Shut 2 0 ∷ []) → ⊥
  pub shut_twice : IsJudged core_terms (Shut 2 1 ∷ Shut 2 1 ∷ closed) → ⊥
  pub nobody : IsJudged core_terms (Shut 3 0 ∷ closed) → ⊥
  pub too_few : IsJudged core_terms (Shut 2 0 ∷ CoreClosed Finish ∷ Took received 0 ∷ []) → ⊥
  -- more is delivered than came through the gate, also if an answer tells it whose effect is still to be told
  pub answered_behind : IsJudged core_terms (Answered second answers.Closed ∷ Shut 2 1 ∷ CoreClosed Finish ∷ Took received 0 ∷ []) → ⊥
  pub too_many : IsJudged core_terms (Took second 0 ∷ Shut 2 1 ∷ CoreClosed Finish ∷ Took received 0 ∷ []) → ⊥
  -- the core's own gate is shut at another count than it sent to itself, and it sends to itself behind it
  pub own_count : IsJudged core_terms (Shut 0 1 ∷ closed) → ⊥
  pub own_sent : IsJudged core_terms (Sent to_itself (Job 0 tt) ∷ Shut 0 0 ∷ closed) → ⊥

-- these are not: an answer waits for its effect, and an order that came through a gate is delivered behind it
pub record AreNot : Type 0 where
  pub waits : IsJudged core_terms (Answered received answers.Woken ∷ [])
  pub comes_through : IsJudged core_terms (Took received 0 ∷ Shut 2 1 ∷ closed)
