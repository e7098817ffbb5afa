-- Each fault of closing breaks the third clause.
use Rattle.base_words.proofs.Words.{arith, ClosesAreRefused}

pub closes_refused : ClosesAreRefused
closes_refused = record {
  closed_queue = λ sound. let open_queue = (sound.notes 0 (omega arith)).0.0 in cc;
  returning = λ sound. let keeps = (sound.notes 0 (omega arith)).0.1 in cc;
  returned_before = λ sound. let keeps = (sound.notes 0 (omega arith)).0.1 in cc;
  created = λ sound. let open_core = (sound.notes 0 (omega arith)).0 in cc;
  open_core = λ sound. let closed = (sound.notes 0 (omega arith)).0.0 in cc;
  twice = λ sound. let open_gate = (sound.notes 0 (omega arith)).0.1 in cc;
  count = λ sound. let count = (sound.notes 0 (omega arith)).0.2 in cc;
}
