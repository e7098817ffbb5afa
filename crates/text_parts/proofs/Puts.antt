-- Notes and parts that are put behind other bytes.
use Rattle.std.proofs.Common.{◌≡◌, ℕ, ◌+◌, ◌<◌, List, [], ◌∷◌, ◌++◌, length, get_or, take, drop, refl, sym, ap, ◌∙◌, append_assoc}
use Rattle.std.proofs.lemmas.List.{append-nil, drop_at, take_more}
use Rattle.std.proofs.lemmas.List.Concat.{flat_map-append, flat_map-cons}
use Rattle.base_words.specs.declared.note.Note.{Note}
use Rattle.text_parts.specs.NoteBytes.{note_bytes}
use Rattle.text_parts.specs.Parts.{PartView, mark, head_bytes, body_bytes, head_of, front_bytes, sums_of, sums_bytes, part_bytes}

-- one more note
pub note_put : (notes : List (Note ℕ)) (i : ℕ) (note : Note ℕ) (old now new : List ℕ) → i < length notes → note ≡ get_or notes i note → now ≡ old ++ body_bytes (take i notes)
    → new ≡ now ++ note_bytes note → new ≡ old ++ body_bytes (take (i + 1) notes)
note_put notes i note old now new lt is so_far put =
    let front = body_bytes (take i notes) in
    let last : body_bytes (get_or notes i note ∷ []) ≡ note_bytes note =
    flat_map-cons note_bytes (get_or notes i note) [] ∙ append-nil (note_bytes (get_or notes i note)) ∙ ap (λ (n : Note ℕ). note_bytes n) (sym is) in
    let all : body_bytes (take (i + 1) notes) ≡ front ++ note_bytes note =
    ap (λ (ns : List (Note ℕ)). body_bytes ns) (take_more notes i note lt) ∙ flat_map-append note_bytes (take i notes) (get_or notes i note ∷ []) ∙ ap (λ (x : List ℕ). front ++ x) last in
    put ∙ ap (λ (x : List ℕ). x ++ note_bytes note) so_far ∙ append_assoc old front (note_bytes note) ∙ ap (λ (x : List ℕ). old ++ x) (sym all)

-- a head, the notes and the sums of both
pub part_put : (part : PartView) (size start : ℕ) (old one two three : List ℕ) → size ≡ length (body_bytes part.notes) → start ≡ length old
    → one ≡ old ++ (mark ++ head_bytes (record { actor = part.actor; before = part.before; count = length part.notes; size = size })) → two ≡ one ++ body_bytes part.notes
    → three ≡ two ++ sums_bytes (sums_of (drop start two)) → three ≡ old ++ part_bytes part
part_put part size start old one two three size_is start_is is_one is_two is_three =
    let body = body_bytes part.notes in
    let head = head_bytes (head_of part) in
    let front = front_bytes part in
    let first : one ≡ old ++ (mark ++ head) =
    is_one ∙ ap (λ (n : ℕ). old ++ (mark ++ head_bytes (record { actor = part.actor; before = part.before; count = length part.notes; size = n }))) size_is in
    let whole : two ≡ old ++ front = is_two ∙ ap (λ (x : List ℕ). x ++ body) first ∙ append_assoc old (mark ++ head) body ∙ ap (λ (x : List ℕ). old ++ x) (append_assoc mark head body) in
    let behind : drop start two ≡ front = ap (λ (n : ℕ). drop n two) start_is ∙ ap (λ (x : List ℕ). drop (length old) x) whole ∙ drop_at old front (length old) refl in
    is_three ∙ ap (λ (x : List ℕ). two ++ sums_bytes (sums_of x)) behind ∙ ap (λ (x : List ℕ). x ++ sums_bytes (sums_of front)) whole ∙ append_assoc old front (sums_bytes (sums_of front))
