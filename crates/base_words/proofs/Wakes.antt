-- Which wakes are kept in a lawful journal: none of a job that never entered, and none of a parked one.
use Rattle.base_words.proofs.Words.{among, and_parts, Bool, cond, EachNote, false, inl, inr, is_name, is_number, is_parked, is_some, is_told, is_wake_kept, JobId, Journal, kept_unless, MayFollow, MayStand, name_ended, name_parking}
use Rattle.base_words.proofs.Words.{name_woken, None, not, Note, Option, or_else, or_parts, parked, queue_entered, queue_of, refl, return_reason_of, same_name, Some, subst, sym, Terms, true, true≢false, unwrap_or, ℕ, [], ◌∷◌, ◌≡◌}
use Rattle.base_words.specs.declared.note.Note.TheVariants.{Woken, Park, Stayed}
use Rattle.base_words.proofs.NameLemmas.{one_name, same_as_itself}
use Rattle.base_words.proofs.Parks.{parked_parts, among-still_parked}

module _ {T : Type 0} (name : JobId) (before : Journal T) where
  -- a wake of a job that isn't parked is kept
  pub is_wake_kept-woken : is_parked name before ≡ false → is_wake_kept name (Woken name ∷ before) ≡ true
  is_wake_kept-woken awake = rw (same_as_itself name, awake) refl

  -- one that finds its job parked is not
  pub is_wake_kept-ended : is_parked name before ≡ true → is_wake_kept name (Woken name ∷ before) ≡ is_wake_kept name before
  is_wake_kept-ended asleep = rw (same_as_itself name, asleep) refl

  -- the wake of another job changes nothing
  pub is_wake_kept-elsewhere : (other : JobId) → same_name name other ≡ false → is_wake_kept name (Woken other ∷ before) ≡ is_wake_kept name before
  is_wake_kept-elsewhere other apart = rw apart refl

  -- a job that stays uses its wake up
  pub is_wake_kept-stayed : (time : ℕ) → is_wake_kept name (Stayed name time ∷ before) ≡ false
  is_wake_kept-stayed time = rw (same_as_itself name) refl

  -- and no other's
  pub is_wake_kept-stayed_elsewhere : (other : JobId) (time : ℕ) → same_name name other ≡ false → is_wake_kept name (Stayed other time ∷ before) ≡ is_wake_kept name before
  is_wake_kept-stayed_elsewhere other time apart = rw apart refl

-- whose wake is kept has entered, and isn't parked
pub record KeepsWakes {T : Type 0} (journal : Journal T) : Type 0 where
  pub entered : (name : JobId) → is_wake_kept name journal ≡ true → is_some (queue_of name journal) ≡ true
  pub not_parked : (queue : ℕ) (name : JobId) → among name (parked queue journal) ≡ true → is_wake_kept name journal ≡ false

module _ {T : Type 0} (terms : Terms) (before : Journal T) (keeps : KeepsWakes before) where
  -- whose wake is kept after the note had entered before it
  kept_entered : (name : JobId) (note : Note T) → MayFollow terms note before → is_wake_kept name (note ∷ before) ≡ true → is_some (queue_of name before) ≡ true
  kept_entered name (Woken other) law kept = by_test (same_name name other) refl kept
    where
      by_test : (test : Bool) → same_name name other ≡ test → unwrap_or (cond test (kept_unless (is_parked name before)) None) (is_wake_kept name before) ≡ true →
          is_some (queue_of name before) ≡ true
      by_test true same kept = rw (one_name name other same) (and_parts (is_some (queue_of other before)) (not (is_told name_ended other before)) law).0
      by_test false apart kept = keeps.entered name kept
  kept_entered name (Stayed other time) law kept = by_test (same_name name other) kept
    where
      by_test : (test : Bool) → unwrap_or (cond test (Some false) None) (is_wake_kept name before) ≡ true → is_some (queue_of name before) ≡ true
      by_test true kept = cc
      by_test false kept = keeps.entered name kept
  kept_entered name _ law kept = keeps.entered name kept

  -- a job that is still parked has no kept wake
  still_unkept : (name : JobId) (note : Note T) → is_wake_kept name before ≡ false → is_name name (name_woken note) ≡ false → is_wake_kept name (note ∷ before) ≡ false
  still_unkept name (Woken other) unkept apart = rw apart unkept
  still_unkept name (Stayed other time) unkept apart = by_test (same_name name other)
    where
      by_test : (test : Bool) → unwrap_or (cond test (Some false) None) (is_wake_kept name before) ≡ false
      by_test true = refl
      by_test false = unkept
  still_unkept name _ unkept apart = unkept

  -- nor has one that is parked now
  parking_unkept : (queue : ℕ) (name : JobId) (note : Note T) → MayFollow terms note before → name_parking queue note before ≡ Some name → is_wake_kept name (note ∷ before) ≡ false
  parking_unkept queue name (Park other time) law came = by_test (is_number queue (queue_of other before)) came
    where
      by_test : (test : Bool) → cond test (Some other) None ≡ Some name → is_wake_kept name before ≡ false
      by_test false came = cc
      by_test true came =
          let one : other ≡ name = cc in
          subst (λ job. is_wake_kept job before ≡ false) one (or_parts (is_wake_kept other before) (is_some (return_reason_of (queue_of other before) before)) law.1).0
  parking_unkept queue name _ law came = cc

  -- each note keeps both
  keeps_after : (note : Note T) → MayFollow terms note before → KeepsWakes (note ∷ before)
  keeps_after note law = record {
    entered = λ name kept. still_some (queue_entered name note) (queue_of name before) (kept_entered name note law kept);
    not_parked = λ queue name there.
        elim (parked_parts queue note before name there) [
          | inl still ↦
              let stays = among-still_parked queue note (parked queue before) name still in
              still_unkept name note (keeps.not_parked queue name stays.was) stays.not_woken
          | inr came ↦ parking_unkept queue name note law came
        ];
  }
    where
      still_some : (now was : Option ℕ) → is_some was ≡ true → is_some (or_else now was) ≡ true
      still_some None was there = there
      still_some (Some queue) was there = refl

-- they hold of each lawful journal
pub keeps_wakes : {T : Type 0} (terms : Terms) (journal : Journal T) → EachNote (MayStand terms) journal → KeepsWakes journal
keeps_wakes terms [] notes = record { entered = λ name kept. absurd (true≢false (sym kept)); not_parked = λ queue name there. refl }
keeps_wakes terms (note ∷ before) notes = keeps_after terms before (keeps_wakes terms before notes.1) note notes.0.may_follow
