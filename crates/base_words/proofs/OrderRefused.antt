-- Each fault of order breaks the second clause.
use Rattle.base_words.proofs.Words.{ap, arith, OrderIsRefused, refl, submission, ◌<◌, ◌≡◌}
use Rattle.base_words.proofs.NameLemmas.{first_number}

pub order_refused : OrderIsRefused
order_refused = record {
  starts = λ sound. let below : 2 < 1 = (sound.notes 0 (omega arith)).0 (submission 2) refl refl refl in omega arith;
  skipped = λ sound. let next = (sound.notes 1 (omega arith)).0 in cc;
  given_twice = λ sound. let next = (sound.notes 1 (omega arith)).0 in cc;
  elsewhere = λ sound. let sent = (sound.notes 0 (omega arith)).0 in cc;
  command = λ sound. let sent = (sound.notes 0 (omega arith)).0 in cc;
  unsent = λ sound. let begins = (sound.deliveries 1 0 (omega arith) (omega arith)).1 in cc;
  twice = λ sound. let begins = (sound.deliveries 1 0 (omega arith) (omega arith)).1 in cc;
  delivered = λ sound. let first : 1 ≡ 2 = ap first_number (sound.deliveries 1 0 (omega arith) (omega arith)).1 in cc;
  ungiven = λ sound. let begins = (sound.collections 1 0 (omega arith) (omega arith)).1 in cc;
  collected = λ sound. let first : 1 ≡ 2 = ap first_number (sound.collections 1 0 (omega arith) (omega arith)).1 in cc;
}
