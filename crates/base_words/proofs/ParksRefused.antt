-- Each bad park breaks the law of its note.
use Rattle.base_words.proofs.Words.{ap, arith, ParksAreRefused, ◌≡◌}
use Rattle.base_words.proofs.NameLemmas.{first_number}

pub parks_refused : ParksAreRefused
parks_refused = record {
  as_work = λ sound. let work = (sound.notes 0 (omega arith)).1.0.right.eligible.work in cc;
  resumed = λ sound. let awake = (sound.notes 0 (omega arith)).0.awake in cc;
  returned = λ sound. let awake = (sound.notes 0 (omega arith)).0.awake in cc;
  lost = λ sound. let stays = (sound.notes 0 (omega arith)).0.settles.1 in cc;
  lost_at_yield = λ sound. let stays = (sound.notes 0 (omega arith)).0.settles.1 in cc;
  unwoken = λ sound. let stays = (sound.notes 0 (omega arith)).0.settles.1 in cc;
  twice = λ sound. let stays = (sound.notes 0 (omega arith)).0.settles.1 in cc;
  counted = λ sound. let stays = (sound.notes 0 (omega arith)).0.settles.1 in cc;
  kept_besides = λ sound. let stays = (sound.notes 0 (omega arith)).0.settles.1 in cc;
  returning_queue = λ sound. let stays = (sound.notes 0 (omega arith)).0.settles.1 in cc;
  returning_core = λ sound. let stays = (sound.notes 0 (omega arith)).0.settles.1 in cc;
  another = λ sound. let first : 1 ≡ 2 = ap first_number (sound.notes 0 (omega arith)).0.settles.0 in cc;
  free = λ sound. let at = (sound.notes 0 (omega arith)).1.0.right.at in cc;
  stay_free = λ sound. let at = (sound.notes 0 (omega arith)).1.0.right.at in cc;
  drained = λ drained. let first : 1 ≡ 0 = ap first_number (drained.nobody_parked 0) in cc;
}
