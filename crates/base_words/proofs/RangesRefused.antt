-- Each number beyond its range breaks the law of its note.
use Rattle.base_words.proofs.Words.{arith, RangesAreRefused, ◌<◌, ◌^◌, ◌≤◌}

pub ranges_refused : RangesAreRefused
ranges_refused = record {
  sent = λ law. let in_range : 2 ^ 63 < 2 ^ 63 = law.0.may_follow.in_range in omega arith;
  taken = λ law. let in_range : 2 ^ 63 < 2 ^ 63 = law.0.may_follow.0.in_range in omega arith;
  queues = λ law. let in_range : 256 < 256 = law.0.may_follow.in_range in omega arith;
  without_shares = λ law. let positive : 1 ≤ 0 = law.0.may_follow.shares.positive in omega arith;
  beyond_shares = λ law. let bounded : 10001 ≤ 10000 = law.0.may_follow.shares.bounded in omega arith;
  nothing = λ law. let positive : 1 ≤ 0 = law.0.may_follow.1.positive in omega arith;
  set_beyond = λ law. let bounded : 10001 ≤ 10000 = law.0.may_follow.1.bounded in omega arith;
  no_queue = λ law. let there : 1 ≤ 0 = law.0.may_follow.0 in omega arith;
}
