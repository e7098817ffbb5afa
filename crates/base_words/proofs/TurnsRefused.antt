-- Each bad turn breaks the law of its note.
use Rattle.base_words.proofs.Words.{ap, arith, core_terms, MayStand, most_turns, polled_more, refl, suc, turns, TurnsAreRefused, zero, ℕ, ◌<◌, ◌≡◌, ◌≤◌}
use Rattle.std.specs.Prelude.{◌-◌}
use Rattle.base_words.specs.declared.note.Note.TheVariants.{Pick}
use Rattle.base_words.proofs.NameLemmas.{first_number}
use Rattle.base_words.proofs.StepsRefused.{its_queue}

-- each poll took a turn
turns_polled : (count : ℕ) → turns (polled_more count) ≡ suc count
turns_polled zero = refl
turns_polled (suc count) = let polled = turns_polled count in omega arith

-- behind as many polls as there are turns no pick may stand
none_left : (count runtime : ℕ) → most_turns ≤ suc count → MayStand core_terms (Pick 0 runtime) (polled_more count) → ⊥
none_left count runtime all law =
    let polled = turns_polled count in
    let left : turns (polled_more count) < most_turns = law.may_follow.turn_left in
    omega arith

pub turns_refused : TurnsAreRefused
turns_refused = record {
  for_nothing = λ law. let turn = law.0.turn in cc;
  idle = λ law. let work = law.0.may_follow.right.eligible.work in cc;
  another = λ law.
      let same = its_queue _ law.0.may_follow.0 _ law.0.may_follow.1 refl in
      let first : 1 ≡ 2 = ap first_number (rw same at law.0.may_follow.1.first) in
      cc;
  twice = λ law. let new = law.0.may_follow.3 in cc;
  first = λ law. let started = law.0.may_follow.3 in cc;
  returning = λ law. let keeps = law.0.may_follow.2 in cc;
  at_head = λ law.
      let same = its_queue _ law.0.may_follow.0 _ law.0.may_follow.1 refl in
      let first : 2 ≡ 1 = ap first_number (rw same at law.0.may_follow.1.first) in
      cc;
  yielded = λ law. let out = law.0.may_follow in cc;
  beyond_turns = λ law. none_left (most_turns - 1) most_turns (omega arith) law.0;
}
