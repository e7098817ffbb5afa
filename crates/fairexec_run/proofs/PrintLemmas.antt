-- Notes as lines, one after another.
use Rattle.std.proofs.Common.{◌≡◌, ℕ, zero, suc, ◌+◌, List, [], ◌∷◌, ◌++◌, Some, None, refl, sym, ap, ◌∙◌, arith, append_assoc, codes, drop}
use Rattle.std.specs.Prelude.{slice_get}
use Rattle.base_words.specs.declared.note.Note.{Note}
use Rattle.text_words.specs.Notes.{note_line}
use Rattle.fairexec_run.specs.EventTexts.{note_lines}

-- what is left of a list begins with what stands at that place
drop_suc_at : {A : Type 0} (items : List A) (place : ℕ) (item : A) → slice_get items place ≡ Some item → drop place items ≡ item ∷ drop (suc place) items
drop_suc_at [] place item at = cc
drop_suc_at (first ∷ items) zero item at = let e : first ≡ item = cc in ap (λ head. head ∷ items) e
drop_suc_at (first ∷ items) (suc place) item at = drop_suc_at items place item at

drop_suc_past : {A : Type 0} (items : List A) (place : ℕ) → slice_get items place ≡ None → drop place items ≡ drop (suc place) items
drop_suc_past [] zero at = refl
drop_suc_past [] (suc place) at = refl
drop_suc_past (first ∷ items) zero at = cc
drop_suc_past (first ∷ items) (suc place) at = drop_suc_past items place at

next_place : (place : ℕ) → suc place ≡ place + 1
next_place place = omega arith

drop_at : {A : Type 0} (items : List A) (place : ℕ) (item : A) → slice_get items place ≡ Some item → drop place items ≡ item ∷ drop (place + 1) items
drop_at items place item at = drop_suc_at items place item at ∙ ap (λ count. item ∷ drop count items) (next_place place)

drop_past : {A : Type 0} (items : List A) (place : ℕ) → slice_get items place ≡ None → drop place items ≡ drop (place + 1) items
drop_past items place at = drop_suc_past items place at ∙ ap (λ count. drop count items) (next_place place)

-- the line of the next note was printed
pub next_line : (actor place : ℕ) (notes : List (Note ℕ)) (note : Note ℕ) (page next all : List ℕ) → slice_get notes place ≡ Some note → next ≡ page ++ (note_line actor note ++ codes "\n") →
    page ++ note_lines actor (drop place notes) ≡ all → next ++ note_lines actor (drop (place + 1) notes) ≡ all
next_line actor place notes note page next all at printed left =
    let rest = note_lines actor (drop (place + 1) notes) in
    ap (λ bytes. bytes ++ rest) printed
    ∙ append_assoc page (note_line actor note ++ codes "\n") rest
    ∙ sym (ap (λ found. page ++ note_lines actor found) (drop_at notes place note at))
    ∙ left

pub no_line : (actor place : ℕ) (notes : List (Note ℕ)) (page all : List ℕ) → slice_get notes place ≡ None →
    page ++ note_lines actor (drop place notes) ≡ all → page ++ note_lines actor (drop (place + 1) notes) ≡ all
no_line actor place notes page all at left = sym (ap (λ found. page ++ note_lines actor found) (drop_past notes place at)) ∙ left
