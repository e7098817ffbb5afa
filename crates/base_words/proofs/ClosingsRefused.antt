-- Each bad closing breaks the law of its note.
use Rattle.base_words.proofs.Words.{arith, ClosingsAreRefused, core_terms, creation_answered, ◌<◌, ◌^◌, ◌≤◌}
use Rattle.base_words.proofs.ClosesRight.{created_open}

pub closings_refused : ClosingsAreRefused
closings_refused = record {
  again = λ law. let changes = law.0.may_follow in cc;
  less = λ law. let changes = law.0.may_follow in cc;
  unasked = λ law. law.0.effect;
  no_queue = λ law. let there : 1 ≤ 0 = law.0.may_follow.0 in omega arith;
  queue_less = λ law. let changes = law.0.may_follow.1 in cc;
  missing = λ law. law.0.effect;
  open_core = λ law. let closed = law.0.may_follow.closed in cc;
  twice = λ law. let not_shut = law.0.may_follow.not_shut in cc;
  nobody = λ law. let known : 7 ≤ 1 = law.0.may_follow.known in omega arith;
  below = λ law. let delivered : 1 ≤ 0 = law.0.may_follow.delivered in omega arith;
  beyond = λ law. let in_range : 2 ^ 63 < 2 ^ 63 = law.0.may_follow.in_range in omega arith;
  counted = λ law. let gate : 1 ≤ 0 = law.0.may_follow.0.gate in omega arith;
  entered = λ law. let enters = law.0.may_follow.1 in cc;
  polled = λ law. let keeps = law.0.may_follow.2 in cc;
  created = λ law. let open_core = created_open core_terms 1 500 creation_answered law.1 law.0.effect in cc;
}
