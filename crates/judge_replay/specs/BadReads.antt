-- Small cases of what a reader may not do.
use Rattle.std.specs.Prelude.{◌≡◌, ℕ, [], ◌∷◌, None, Some}
use Rattle.base_words.specs.declared.note.Note.{Note}
use Rattle.judge_replay.specs.Houses.{HouseRead, read_at}
use Rattle.judge_replay.specs.Reads.{Reads}
use Rattle.judge_replay.specs.Tellers.{IsReadOf}
use Rattle.judge_replay.specs.declared.ahead.Replayed.TheVariants.{Taken, Waits, Differs}

-- each of these is refused
pub record ReadsAreRefused : Type 0 where
  -- a note was taken, and isn't read
  pub lost : (note : Note ℕ) → Reads note [] Taken [] → ⊥
  -- it was taken once, and is read twice
  pub twice : (note : Note ℕ) → Reads note [] Taken (note ∷ note ∷ []) → ⊥
  -- it waits, or it differs, and is read
  pub waits : (note : Note ℕ) → Reads note [] Waits (note ∷ []) → ⊥
  pub differs : (note : Note ℕ) → Reads note [] Differs (note ∷ []) → ⊥
  -- a note was told that was not read and doesn't wait
  pub forgotten : (note : Note ℕ) (house : HouseRead) → read_at 0 house ≡ [] → IsReadOf (λ actor. note ∷ []) None house 0 → ⊥
  -- a note waits that was not told
  pub untold : (note : Note ℕ) (house : HouseRead) → read_at 0 house ≡ [] → IsReadOf (λ actor. []) (Some note) house 0 → ⊥
