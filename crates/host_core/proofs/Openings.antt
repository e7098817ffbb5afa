-- A journal of creations alone has as many notes as queues were created, and no other journal has.
use Rattle.std.proofs.Common.{◌≡◌, ◌≢◌, ◌↔◌, ℕ, suc, ◌+◌, ◌≤◌, List, [], ◌∷◌, ◌++◌, length, Option, Some, None, Bool, false, IsTrue, refl, subst, arith, length-append}
use Rattle.base_words.specs.Commands.{IsOpening, created_count, queue_created}
use Rattle.base_words.specs.Journal.{Journal, list_told, with_last}
use Rattle.base_words.specs.declared.note.Note.TheVariants.{Created}

longer : (queues : List ℕ) (one : Option ℕ) → length (with_last queues one) ≤ length queues + 1
longer queues None = omega arith
longer queues (Some queue) = grind (arith, length-append)

counts_few : (notes : Journal ℕ) → created_count notes ≤ length notes
counts_few [] = omega arith
counts_few (note ∷ before) = omega (arith, counts_few before, longer (list_told queue_created before) (queue_created note))

pub counts_opening : (notes : Journal ℕ) → IsOpening notes → created_count notes ≡ length notes
counts_opening [] opening = omega arith
counts_opening (Created queue weight ∷ before) opening =
    let more : length (list_told queue_created before ++ queue ∷ []) ≡ length (list_told queue_created before) + 1 = grind (arith, length-append) in
    omega (arith, counts_opening before opening, more)
counts_opening (_ ∷ before) opening = absurd opening

pub opening_counts : (notes : Journal ℕ) → created_count notes ≡ length notes → IsOpening notes
opening_counts [] all = tt
opening_counts (Created queue weight ∷ before) all =
    let more : length (list_told queue_created before ++ queue ∷ []) ≡ length (list_told queue_created before) + 1 = grind (arith, length-append) in
    opening_counts before (omega (arith, all, more))
opening_counts (_ ∷ before) all = absurd (omega (arith, all, counts_few before))

-- a list that isn't other than empty is empty
pub none_passed : {A : Type 0} (passed : List A) (some : Bool) → (IsTrue some ↔ (passed ≢ [])) → some ≡ false → passed ≡ []
none_passed [] some told none = refl
none_passed (note ∷ later) some told none = cc (told.1 (λ e. cc e), none)
