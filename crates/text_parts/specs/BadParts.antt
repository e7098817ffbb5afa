-- Small cases of bytes that are no part.
use Rattle.std.specs.Prelude.{◌≡◌, ℕ, List, [], ◌∷◌, ◌++◌, codes, take, drop, Err}
use Rattle.base_words.specs.declared.note.Note.{Note}
use Rattle.base_words.specs.declared.note.Note.TheVariants.{CoreClosed}
use Rattle.base_words.specs.declared.order.Mode.TheVariants.{Finish, Return}
use Rattle.text_parts.specs.declared.part.PartCause.TheVariants as cause
use Rattle.text_parts.specs.Parts.{PartView, mark, head_bytes, body_bytes, sums_bytes, sums_of, part_at, part_bytes}

-- a core closed, and then more strictly
abbrev pub two_closes : List (Note ℕ)
two_closes = CoreClosed Finish ∷ CoreClosed Return ∷ []

abbrev pub closing : PartView
closing = record { actor = 0; before = 0; notes = two_closes }

-- bytes with the sums that they have
abbrev pub with_sums : List ℕ → List ℕ
with_sums front = front ++ sums_bytes (sums_of front)

-- these notes behind a head that tells so many of them, of so many bytes
abbrev pub told : ℕ → ℕ → List (Note ℕ) → List ℕ
told count size notes = with_sums (mark ++ (head_bytes (record { actor = 0; before = 0; count = count; size = size }) ++ body_bytes notes))

-- each of these is refused for the cause beside it, though the sums of the first four are right
pub record BadPartsAreRefused : Type 0 where
  pub last_note_lost : part_at (told 2 2 (CoreClosed Finish ∷ [])) ≡ Err cause.Notes
  pub last_note_and_bytes_lost : part_at (told 2 4 (CoreClosed Finish ∷ [])) ≡ Err cause.Cut
  pub note_twice : part_at (told 2 6 (CoreClosed Finish ∷ two_closes)) ≡ Err cause.Notes
  pub no_note : part_at (with_sums (mark ++ (head_bytes (record { actor = 0; before = 0; count = 1; size = 2 }) ++ 22 ∷ 0 ∷ []))) ≡ Err cause.Notes
  pub other_note : part_at (take 30 (part_bytes closing) ++ 1 ∷ drop 31 (part_bytes closing)) ≡ Err cause.Sum
  pub other_actor : part_at (take 4 (part_bytes closing) ++ 1 ∷ drop 5 (part_bytes closing)) ≡ Err cause.Sum
  pub cut_in_sums : part_at (take 48 (part_bytes closing)) ≡ Err cause.Cut
  pub cut_in_head : part_at (take 28 (part_bytes closing)) ≡ Err cause.Cut
  pub empty : part_at [] ≡ Err cause.Cut
  pub other_version : part_at (codes "fxp2" ++ drop 4 (part_bytes closing)) ≡ Err cause.Form
