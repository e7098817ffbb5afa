-- Each bad turn of several polls breaks the fifth clause, or the law of its note.
use Rattle.base_words.proofs.Words.{arith, BurstsAreRefused, BurstsAreUnsound, GoesOn, inl, inr, IsTurnOf, JobId, Journal, None, queue_just_picked, refl, same_Some, Some, sym, ℕ, ◌<◌, ◌∙◌, ◌≡◌}

-- a turn that goes on is that of the queue whose turn is open, and has a poll left
going_on : (name : JobId) (queue : ℕ) (before : Journal ℕ) → IsTurnOf 2 name queue before → queue_just_picked before ≡ None → GoesOn 2 queue before
going_on name queue before turn not_picked = elim turn.due [ inl picked ↦ let none : None ≡ Some queue = sym not_picked ∙ picked in cc | inr goes ↦ goes ]

bursts_unsound : BurstsAreUnsound
bursts_unsound = record {
  third = λ sound. let left : 2 < 2 = ((sound.notes 0 (omega arith)).0.in_turn refl).poll_left in omega arith;
  last = λ sound. let time : 10 ≡ 20 = (sound.notes 0 (omega arith)).0.in_turn.its_time in cc;
  more = λ sound. let time : 21 ≡ 20 = (sound.notes 0 (omega arith)).0.in_turn.its_time in cc;
  no_time = λ sound. let time : 0 ≡ 1 = (sound.notes 0 (omega arith)).0.in_turn.its_time in cc;
  elsewhere = λ sound. let its : Some 0 ≡ Some 1 = (sound.notes 0 (omega arith)).0.in_turn.its_queue in cc;
  while_out = λ sound. let nobody = (sound.notes 0 (omega arith)).0.in_turn.nobody_out in cc;
  unbegun = λ sound. let its : None ≡ Some 0 = (sound.notes 0 (omega arith)).0.in_turn.its_queue in cc;
  twice = λ sound. let its : None ≡ Some 0 = (sound.notes 0 (omega arith)).0.in_turn.its_queue in cc;
  picked = λ sound. let none : Some 0 ≡ None = (sound.notes 0 (omega arith)).1.0.right.eligible.no_turn in cc;
  by_poll = λ sound. let at : 40 ≡ 20 = (sound.notes 0 (omega arith)).1.0.right.at in cc;
  poll_elsewhere = λ sound. let its : Some 1 ≡ Some 0 = ((sound.notes 0 (omega arith)).0.in_turn refl).its_queue in cc;
  poll_out = λ sound. let nobody = ((sound.notes 0 (omega arith)).0.in_turn refl).nobody_out in cc;
  returned = λ sound. let turn = (sound.notes 0 (omega arith)).0.turn in cc;
  without = λ sound. let its : None ≡ Some 0 = (sound.notes 0 (omega arith)).0.in_turn.its_queue in cc;
}

pub bursts_refused : BurstsAreRefused
bursts_refused = record {
  unsound = bursts_unsound;
  third = λ law. let left : 2 < 2 = (going_on _ law.0.may_follow.0 _ law.0.may_follow.1 refl).poll_left in omega arith;
  last = λ law. let time : 10 ≡ 20 = law.0.may_follow.its_time in cc;
  picked = λ law. let none : Some 0 ≡ None = law.1.0.may_follow.right.eligible.no_turn in cc;
  closed = λ law.
      let its : Some 0 ≡ Some law.0.may_follow.0 = (going_on _ law.0.may_follow.0 _ law.0.may_follow.1 refl).in_turn in
      let same : 0 ≡ law.0.may_follow.0 = same_Some 0 law.0.may_follow.0 its in
      let keeps = rw (← same) at law.0.may_follow.2 in
      cc;
  returned = λ law. let turn = law.0.turn in cc;
  early = λ law. let over = law.0.may_follow.over in cc;
  open_end = λ lawful. let none = lawful.no_turn in cc;
  ends_closed = record { in_turn = refl; nobody_out = refl; its_time = refl; over = refl };
}
