-- Each bad start breaks the first clause.
use Rattle.base_words.proofs.Words.{arith, StartsAreRefused}

pub starts_refused : StartsAreRefused
starts_refused = record {
  twice = λ sound. let new = (sound.notes 0 (omega arith)).0.1 in cc;
  first = λ sound. let started = (sound.notes 0 (omega arith)).0.1 in cc;
  unsent = λ sound. let sent = (sound.notes 0 (omega arith)).0.0.is_accepted.1 in cc;
  outside = λ sound. let entered = (sound.notes 0 (omega arith)).0.0.has_entered in cc;
  command = λ sound. let sent = (sound.notes 0 (omega arith)).0.0.is_accepted.1 in cc;
  ended = λ sound. let inside = (sound.notes 0 (omega arith)).0.0.has_not_ended in cc;
  returned = λ sound. let inside = (sound.notes 0 (omega arith)).0.0.has_not_ended in cc;
}
