-- Each bad pick breaks the fifth clause.
use Rattle.base_words.proofs.Words.{ap, arith, inl, inr, KeyAtMost, PicksAreRefused, refl, ℕ, ◌<◌, ◌≡◌}
use Rattle.base_words.proofs.NameLemmas.{first_number}

pub picks_refused : PicksAreRefused
picks_refused = record {
  greater = λ sound. not_least 20 0 10 1 (omega arith) ((sound.notes 0 (omega arith)).1.0.right.least 1 (record { work = refl; nobody_out = refl; no_turn = refl }));
  tie = λ sound. not_least_tied 0 1 0 (omega arith) ((sound.notes 0 (omega arith)).1.0.right.least 0 (record { work = refl; nobody_out = refl; no_turn = refl }));
  runtime = λ sound. let at = (sound.notes 0 (omega arith)).1.0.right.at in cc;
  old_runtime = λ sound. let at = (sound.notes 0 (omega arith)).1.0.right.at in cc;
  charges = λ sound. let at = (sound.notes 0 (omega arith)).1.0.right.at in cc;
  return_free = λ sound. let at = (sound.notes 0 (omega arith)).1.0.right.at in cc;
  shares = λ sound. let at = (sound.notes 0 (omega arith)).1.0.right.at in cc;
  idle = λ sound. let work = (sound.notes 0 (omega arith)).1.0.right.eligible.work in cc;
  busy = λ sound. let nobody = (sound.notes 0 (omega arith)).1.0.right.eligible.nobody_out in cc;
  at_the_end = λ sound. let followed = sound.last_followed 0 (omega arith) in cc;
  without_turn = λ sound. let turn = (sound.notes 0 (omega arith)).0.turn in cc;
  another = λ sound. let followed = (sound.notes 0 (omega arith)).0.followed in cc;
  returned = λ sound. let turn = (sound.notes 0 (omega arith)).0.turn in cc;
  started = λ sound. let turn = (sound.notes 0 (omega arith)).0.turn in cc;
  yield_of_another = λ sound. let first : 1 ≡ 2 = ap first_number (sound.notes 0 (omega arith)).0.settles in cc;
}
  where
    not_least : (runtime queue other_runtime other : ℕ) → other_runtime < runtime → KeyAtMost runtime queue other_runtime other → ⊥
    not_least runtime queue other_runtime other lower least = elim least [ inl before ↦ omega arith | inr tied ↦ omega arith ]

    not_least_tied : (runtime queue other : ℕ) → other < queue → KeyAtMost runtime queue runtime other → ⊥
    not_least_tied runtime queue other lower least = elim least [ inl before ↦ omega arith | inr tied ↦ omega arith ]
