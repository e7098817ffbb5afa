-- The numbers never fall.
use Rattle.std.proofs.Common.{ℕ, ◌≤◌, [], ◌∷◌, ◌++◌, sym, subst, arith, le_refl}
use Rattle.base_words.specs.declared.note.Note.{Note}
use Rattle.base_words.specs.HandBacks.{picks_of}
use Rattle.base_words.specs.Journal.{Journal}
use Rattle.base_words.specs.Picks.{turns}
use Rattle.base_words.specs.Runtimes.{floor}
use Rattle.base_words.specs.Sums.{run_time, finished_count, returned_count}
use Rattle.run_watch.specs.Laws.{NoLess, NumbersNeverFall}

no-less : (count : Journal ℕ → ℕ) → ((note : Note ℕ) (before : Journal ℕ) → count before ≤ count (note ∷ before)) → (newer old : Journal ℕ) → count old ≤ count (newer ++ old)
no-less count step [] old = le_refl (count old)
no-less count step (note ∷ newer) old = omega (arith, no-less count step newer old, step note (newer ++ old))

grown : (newer old : Journal ℕ) → NoLess old (newer ++ old)
grown newer old = record {
  turns_rise = no-less turns (λ note before. omega arith) newer old;
  floor_rises = no-less floor (λ note before. omega arith) newer old;
  picks_rise = λ queue. no-less (picks_of queue) (λ note before. omega arith) newer old;
  times_rise = λ burst queue. no-less (run_time burst queue) (λ note before. omega arith) newer old;
  done_rise = λ queue. no-less (finished_count queue) (λ note before. omega arith) newer old;
  returns_rise = λ queue. no-less (returned_count queue) (λ note before. omega arith) newer old;
}

pub numbers_never_fall : NumbersNeverFall
numbers_never_fall old new grows = subst (λ (l : Journal ℕ). NoLess old l) (sym grows.1) (grown grows.0 old)
