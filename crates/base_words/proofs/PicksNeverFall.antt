-- A queue with work stands at or above the floor, so that the virtual runtimes of the picks never fall.
use Rattle.base_words.proofs.Words.{ap, arith, Bool, brings_work, EachNote, entered_count, false, floor, has_work, inl, inr, is_number, IsNoLowerPick, Journal, left_count, lt-ltb, ltb-false, ltb-true, max, MayFollow, MayStand, name_parked}
use Rattle.base_words.proofs.Words.{name_parking, nat_lt, Note, number_if, or_parts, parked, place_noted, queue_joined, refl, runtime_picked, still_parked, sym, Terms, true, true≢false, unparked, virtual_runtime, ℕ, [], ◌+◌, ◌<◌, ◌∙◌, ◌∷◌}
use Rattle.base_words.proofs.Words.{◌≡◌, ◌≤◌, ◌⊎◌}
use Rattle.std.specs.Prelude.{length}
use Rattle.base_words.specs.declared.note.Note.TheVariants.{Pick}
use Rattle.base_words.specs.Names.{names_but_for}
use Rattle.base_words.proofs.Known.{known_of, parked-kept}
use Rattle.base_words.proofs.Parks.{length-parks}
use Rattle.base_words.proofs.Told.{grows}

-- a queue has work because it had, or because the note brings some: a job enters, or the park of one ends
work_comes : {T : Type 0} (terms : Terms) (queue : ℕ) (note : Note T) (before : Journal T) → EachNote (MayStand terms) before → MayFollow terms note before →
    has_work queue (note ∷ before) ≡ true → (has_work queue before ≡ true) ⊎ (brings_work queue note before ≡ true)
work_comes terms queue note before notes law work = by_test (brings_work queue note before) refl
  where
    by_test : (test : Bool) → brings_work queue note before ≡ test → (has_work queue before ≡ true) ⊎ (brings_work queue note before ≡ true)
    by_test true brings = inr brings
    by_test false nothing =
        let parts = or_parts (is_number queue (queue_joined note)) (nat_lt 0 (length (unparked queue note (parked queue before)))) nothing in
        let more : left_count queue (note ∷ before) + length (parked queue (note ∷ before)) < entered_count queue (note ∷ before) = ltb-true _ _ work in
        let none : number_if (is_number queue (queue_joined note)) ≡ 0 = ap number_if parts.0 in
        let asleep : length (unparked queue note (parked queue before)) ≤ 0 = ltb-false 0 _ parts.1 in
        let still = length-parks queue note (parked queue before) in
        let kept = ap length (parked-kept terms queue note before law (known_of terms before notes)) in
        let grow = grows (names_but_for (name_parked note) (still_parked queue note (parked queue before))) (name_parking queue note before) in
        inl (lt-ltb (left_count queue before + length (parked queue before)) (entered_count queue before) (omega arith))

module _ {T : Type 0} (terms : Terms) (queue : ℕ) where
  -- a pick is no higher than a queue with work
  pick_below : (note : Note T) (before : Journal T) → EachNote (MayStand terms) before → MayFollow terms note before → has_work queue (note ∷ before) ≡ true →
      runtime_picked note ≤ virtual_runtime terms.burst queue before
  pick_below (Pick other runtime) before notes law work =
      elim (work_comes terms queue (Pick other runtime) before notes law work) [ inl had ↦ at_most had | inr enters_it ↦ cc ]
    where
      at_most : has_work queue before ≡ true → runtime ≤ virtual_runtime terms.burst queue before
      at_most had =
          let least = law.right.least queue (record { work = had; nobody_out = law.right.eligible.nobody_out; no_turn = law.right.eligible.no_turn }) in
          elim least [ inl lower ↦ omega arith | inr same ↦ omega arith ]
  pick_below _ before notes law work = omega arith

  -- a queue that has work, or gets it, stands at the floor or above
  floor_below_placed : (note : Note T) (before : Journal T) → EachNote (MayStand terms) before → MayFollow terms note before → has_work queue (note ∷ before) ≡ true →
      (has_work queue before ≡ true → floor before ≤ virtual_runtime terms.burst queue before) → floor before ≤ max (virtual_runtime terms.burst queue before) (place_noted queue note before)
  floor_below_placed note before notes law work kept = by_test (has_work queue before) refl
    where
      by_test : (had : Bool) → has_work queue before ≡ had → floor before ≤ max (virtual_runtime terms.burst queue before) (place_noted queue note before)
      by_test true had = omega (arith, kept had)
      by_test false had =
          elim (work_comes terms queue note before notes law work) [
            | inl has ↦ absurd (true≢false (sym has ∙ had))
            | inr enters_it ↦
                let at_floor : place_noted queue note before ≡ floor before = rw (enters_it, had) in
                omega arith
          ]

  -- a queue with work stands at or above the floor
  pub floor_below : (journal : Journal T) → EachNote (MayStand terms) journal → has_work queue journal ≡ true → floor journal ≤ virtual_runtime terms.burst queue journal
  floor_below [] notes work = omega arith
  floor_below (note ∷ before) notes work =
      let placed = floor_below_placed note before notes.1 notes.0.may_follow work (floor_below before notes.1) in
      let below = pick_below note before notes.1 notes.0.may_follow work in
      omega (arith, placed, below)

-- no pick is lower than one before it
pub picks_never_fall : {T : Type 0} (terms : Terms) (journal : Journal T) → EachNote (MayStand terms) journal → EachNote IsNoLowerPick journal
picks_never_fall terms [] notes = tt
picks_never_fall {T} terms (note ∷ before) notes = (by_note note notes.0.may_follow, picks_never_fall terms before notes.1)
  where
    by_note : (note : Note T) → MayFollow terms note before → IsNoLowerPick note before
    by_note (Pick queue runtime) law = rw law.right.at (floor_below terms queue before notes.1 law.right.eligible.work)
    by_note _ law = tt
