use Rattle.std.proofs.Common.{◌≤◌, refl, arith}
use Rattle.core_timers.proofs.laws.bad_heaps_are_refused.Goals as goal

pub returns : goal.returns
returns c = record {
  rows = λ is. let told = is.told 0 (omega arith) in omega (arith, told);
  twice = λ is. let told = is.told 1 (omega arith) in omega (arith, told);
  no_row = λ is. let long = is.long in omega (arith, long);
  order = λ is. let rises = is.rises 1 (omega arith) (omega arith) in omega (arith, rises);
  but = λ is. let rises : 5 ≤ 3 = is.rises 2 (omega arith) (omega arith) (λ same. omega (arith, same)) (λ same. omega (arith, same)) in omega (arith, rises);
  over = λ is. let over = is.over 3 (omega arith) (omega arith) refl in omega (arith, over);
  early = λ is. let early = is 1 (omega arith) (omega arith) refl in omega (arith, early);
  late = λ is. let late = is (omega arith) in omega (arith, late);
}
