-- Each bad step breaks the law of its note.
use Rattle.base_words.proofs.Words.{ap, arith, Bool, cond, false, IsTurnOf, JobId, Journal, nat_le, None, refl, same_Some, Some, StepsAreRefused, sym, true, ℕ, ◌<◌, ◌∙◌, ◌≡◌, ◌≤◌}
use Rattle.base_words.specs.declared.order.Reason.TheVariants as why
use Rattle.base_words.specs.Clauses.{queue_just_picked}
use Rattle.base_words.proofs.NameLemmas.{first_number}
use Rattle.base_words.proofs.OpenTurns.{turn_of_pick}

-- the queue of a turn is the one that was picked
pub its_queue : (name : JobId) (queue : ℕ) (before : Journal ℕ) → IsTurnOf 1 name queue before → queue_just_picked before ≡ Some 0 → queue ≡ 0
its_queue name queue before turn picked = sym (same_Some 0 queue (sym picked ∙ turn_of_pick 1 name queue before turn (rw picked)))

-- an open core refuses a job for no closed queue
not_closed : (there : Bool) → cond there None (Some why.NoQueue) ≡ Some why.QueueClosed → ⊥
not_closed true refused = cc
not_closed false refused = cc

pub steps_refused : StepsAreRefused
steps_refused = record {
  head = λ law.
      let same = its_queue _ law.0.may_follow.0 _ law.0.may_follow.1 refl in
      let first : 2 ≡ 1 = ap first_number (rw same at law.0.may_follow.1.first) in
      cc;
  to_return = λ law. let same = its_queue _ law.0.may_follow.0 _ law.0.may_follow.1 refl in let open_queue = rw same at law.0.may_follow.2 in cc;
  returned = λ law. let reason = law.0.may_follow.2 in cc;
  done = λ law. let first : 1 ≡ 2 = ap first_number law.0.may_follow in cc;
  no_queue = λ law. let enters = law.0.may_follow.1 in cc;
  second = λ law. let next = law.0.may_follow.0.next in cc;
  back = λ law. not_closed (nat_le law.0.may_follow.1.0 0) law.0.may_follow.1.1;
  skipped = λ law. let next = law.0.may_follow.next in cc;
  missing = λ law. law.0.effect;
  other_effect = λ law. let effect = law.0.effect in cc;
  unasked = λ law. law.0.effect;
  created = λ law. law.0.effect;
  second_sent = λ law. let next = law.0.may_follow.next in cc;
  capacity = λ law. let credit : 4 < 4 = law.0.may_follow.credit in omega arith;
  sender = λ law. let sender = law.0.may_follow.sender in cc;
  no_core = λ law. let receiver : 7 < 1 = law.0.may_follow.receiver in omega arith;
  beyond_queues = λ law. let queue : 256 < 256 = law.0.may_follow.spelled in omega arith;
  no_actor = λ law. let sender : 7 ≤ 1 = law.0.may_follow.0.sender in omega arith;
  another_core = λ law. let receiver = law.0.may_follow.0.receiver in cc;
  outside = λ law. let core : 1 < 1 = law.0.writer in omega arith;
  open_end = λ lawful. let nobody = lawful.nobody_out in cc;
  picked_end = λ lawful. let no_pick = lawful.no_pick in cc;
  answered_end = λ lawful. let no_answer = lawful.no_answer in cc;
}
