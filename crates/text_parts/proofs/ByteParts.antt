-- Parts as bytes: what is read is what was written, and what was written is read again.
use Rattle.std.proofs.Common.{◌≡◌, ℕ, zero, suc, ◌+◌, ◌^◌, ◌<◌, ◌≤◌, ◌&&◌, Bool, true, false, cond, ltb, eqb, List, [], ◌∷◌, ◌++◌, length, take, drop, Option, Some, None, Result, Ok, Err, refl, sym, ap, subst, ◌∙◌, append_assoc, arith}
use Rattle.std.specs.List.{AllByRecursion}
use Rattle.std.specs.Str.{bytes_eq}
use Rattle.std.proofs.lemmas.Bool.{ltb-false, le-ltb, eqb-true}
use Rattle.std.proofs.lemmas.List.{append-nil, nil_from_length, take_at, drop_at, take-append-drop, length-append, length-take}
use Rattle.std.proofs.lemmas.List.Concat.{flat_map-cons}
use Rattle.base_words.specs.declared.note.Note.{Note}
use Rattle.base_words.specs.Spelled.{IsSpelledNote}
use Rattle.base_words.specs.Terms.{Terms}
use Rattle.text_parts.specs.declared.part.Head.{Head}
use Rattle.text_parts.specs.declared.part.PartCause.{PartCause}
use Rattle.text_parts.specs.declared.part.PartCause.TheVariants as cause
use Rattle.text_journal.specs.Laws.{HoldsTimes}
use Rattle.text_journal.specs.Fields.{◌>>=◌}
use Rattle.text_parts.specs.NoteBytes.{wide, note_bytes}
use Rattle.text_parts.specs.ByteNotes.{both, pair, byte_at, wide_at, note_at}
use Rattle.text_parts.specs.Parts.{PartView, mark, head_bytes, body_bytes, head_of, front_bytes, sums_with, sums_behind, sums_of, sums_bytes, part_bytes, counts_at, head_with, head_at, notes_at, or_notes, noted, sums_at, summed, bodied, headed, part_at}
use Rattle.text_parts.specs.PartLaws.{HasHead, HasBytes}
use Rattle.std.proofs.lemmas.Bool.Decides.{nat_tests}
use Rattle.text_journal.proofs.Options.{same_bytes}
use Rattle.text_parts.proofs.ByteFields.{IsBytes, IsBytes-drop, IsBytes-take, Takes, Takes-then, IsTaken, bind_some, some_is, both_taken, pair_taken, byte_taken, wide_taken, wide_again, wide_length, both_again}
use Rattle.text_parts.proofs.ByteNotes.{note_taken, note_again, two_again}

-- ---- heads

counts_bytes : ℕ × (ℕ × ℕ) → List ℕ
counts_bytes counts = wide counts.0 ++ (wide counts.1.0 ++ wide counts.1.1)

counts_taken : IsTaken counts_bytes counts_at
unfolding counts_bytes
counts_taken = pair_taken wide_at (both pair wide_at wide_at) wide (λ (p : ℕ × ℕ). wide p.0 ++ wide p.1) wide_taken (pair_taken wide_at wide_at wide wide wide_taken wide_taken)

head_taken : IsTaken head_bytes head_at
unfolding head_at counts_bytes
head_taken = both_taken [] head_with byte_at counts_at (λ (byte : ℕ). byte ∷ []) counts_bytes head_bytes byte_taken counts_taken (λ actor counts. refl)

head_again : (head : Head) (rest : List ℕ) → HasHead head → head_at (head_bytes head ++ rest) ≡ Some (head, rest)
unfolding head_at
head_again head rest has =
    let counts = wide head.before ++ (wide head.count ++ wide head.size) in
    both_again head_with byte_at counts_at (head_bytes head ++ rest) head.actor (counts ++ rest) (head.before, (head.count, head.size)) rest refl
    (both_again pair wide_at (both pair wide_at wide_at) (counts ++ rest) head.before ((wide head.count ++ wide head.size) ++ rest) (head.count, head.size) rest
    (ap wide_at (append_assoc (wide head.before) (wide head.count ++ wide head.size) rest) ∙ wide_again head.before ((wide head.count ++ wide head.size) ++ rest) has.before)
    (two_again head.count head.size rest has.count has.size))

head_length : (head : Head) → length (head_bytes head) ≡ 25
unfolding wide
head_length head = refl

-- ---- notes

notes_taken : (count : ℕ) (bytes : List ℕ) (x : List (Note ℕ) × List ℕ) → IsBytes bytes → notes_at count bytes ≡ Some x → Takes bytes (body_bytes x.0) x.1 × (length x.0 ≡ count)
unfolding notes_at
notes_taken zero bytes x fits e =
    subst (λ (y : List (Note ℕ) × List ℕ). Takes bytes (body_bytes y.0) y.1 × (length y.0 ≡ 0)) (some_is ([], bytes) x e) (record { parts = refl; rest_fits = fits }, refl)
notes_taken (suc more) bytes x fits e =
    let a = bind_some (note_at bytes) (λ a. notes_at more a.1 >>= λ b. Some (a.0 ∷ b.0, b.1)) x e in
    let b = bind_some (notes_at more a.0.1) (λ b. Some (a.0.0 ∷ b.0, b.1)) x a.2 in
    let t = note_taken bytes a.0 fits a.1 in
    let u = notes_taken more a.0.1 b.0 t.rest_fits b.1 in
    let whole = Takes-then bytes (note_bytes a.0.0) a.0.1 (body_bytes b.0.0) b.0.1 t u.0 in
    subst (λ (y : List (Note ℕ) × List ℕ). Takes bytes (body_bytes y.0) y.1 × (length y.0 ≡ suc more)) (some_is (a.0.0 ∷ b.0.0, b.0.1) x b.2) (rw flat_map-cons whole, ap suc u.1)

notes_again : (terms : Terms) (notes : List (Note ℕ)) (rest : List ℕ) → AllByRecursion (λ note. IsSpelledNote terms note × HoldsTimes note) notes
    → notes_at (length notes) (body_bytes notes ++ rest) ≡ Some (notes, rest)
unfolding notes_at
notes_again terms [] rest all = refl
notes_again terms (note ∷ notes) rest all =
    let regrouped : body_bytes (note ∷ notes) ++ rest ≡ note_bytes note ++ (body_bytes notes ++ rest) = ap (λ (x : List ℕ). x ++ rest) (flat_map-cons note_bytes note notes) ∙ append_assoc (note_bytes note) (body_bytes notes) rest in
    ap (notes_at (suc (length notes))) regrouped
    ∙ both_again ◌∷◌ note_at (notes_at (length notes)) (note_bytes note ++ (body_bytes notes ++ rest)) note (body_bytes notes ++ rest) notes rest (note_again terms note (body_bytes notes ++ rest) all.0.0 all.0.1) (notes_again terms notes rest all.1)

-- ---- sums

pub sums-append : (sums : ℕ × ℕ) (a b : List ℕ) → sums_behind sums (a ++ b) ≡ sums_behind (sums_behind sums a) b
unfolding sums_behind
sums-append sums [] b = refl
sums-append sums (byte ∷ a) b = sums-append (sums_with sums byte) a b

pub sums_below : (sums : ℕ × ℕ) (bytes : List ℕ) → sums.0 < 2 ^ 64 → sums.1 < 2 ^ 64 → ((sums_behind sums bytes).0 < 2 ^ 64) × ((sums_behind sums bytes).1 < 2 ^ 64)
unfolding sums_behind
sums_below sums [] h k = (h, k)
sums_below sums (byte ∷ bytes) h k = sums_below (sums_with sums byte) bytes (omega arith) (omega arith)

-- ---- parts: what is read was written

abbrev done : {A : Type 0} → A → Result A PartCause
done x = Ok x

done_is : {A : Type 0} (x y : A) → done x ≡ done y → x ≡ y
done_is x y e = cc

past : {A : Type 0} (b : Bool) (told : PartCause) (read : Result A PartCause) (y : A) → cond b (Err told) read ≡ done y → (b ≡ false) × (read ≡ done y)
past true told read y e = absurd cc
past false told read y e = (refl, e)

kept : {A : Type 0} (b : Bool) (told : PartCause) (read : Result A PartCause) (y : A) → cond b read (Err told) ≡ done y → (b ≡ true) × (read ≡ done y)
kept true told read y e = (refl, e)
kept false told read y e = absurd cc

both_true : (a b : Bool) → (a && b) ≡ true → (a ≡ true) × (b ≡ true)
both_true true b e = (refl, e)
both_true false b e = absurd cc

headed_ok : (sums : ℕ × ℕ) (read : Option (Head × List ℕ)) (y : PartView × List ℕ) → headed sums read ≡ done y → (found : Head × List ℕ) × (read ≡ Some found) × (bodied sums found.0 found.1 ≡ done y)
headed_ok sums None y e = absurd cc
headed_ok sums (Some found) y e = (found, refl, e)

summed_ok : (sums : ℕ × ℕ) (head : Head) (body : List ℕ) (read : Option ((ℕ × ℕ) × List ℕ)) (y : PartView × List ℕ) → summed sums head body read ≡ done y
    → (found : (ℕ × ℕ) × List ℕ) × (read ≡ Some found) × (found.0.0 ≡ sums.0) × (found.0.1 ≡ sums.1) × (noted head found.1 (or_notes (notes_at head.count body)) ≡ done y)
summed_ok sums head body None y e = absurd cc
summed_ok sums head body (Some found) y e =
    let k = kept (eqb found.0.0 sums.0 && eqb found.0.1 sums.1) cause.Sum (noted head found.1 (or_notes (notes_at head.count body))) y e in
    let same = both_true (eqb found.0.0 sums.0) (eqb found.0.1 sums.1) k.0 in
    (found, refl, eqb-true _ _ same.0, eqb-true _ _ same.1, k.1)

abbrev part_of : Head → List (Note ℕ) → PartView
part_of head notes = record { actor = head.actor; before = head.before; notes = notes }

noted_ok : (head : Head) (rest : List ℕ) (read : Option (List (Note ℕ) × List ℕ)) (y : PartView × List ℕ) → noted head rest (or_notes read) ≡ done y
    → (notes : List (Note ℕ)) × (read ≡ Some (notes, [])) × (y ≡ (part_of head notes, rest))
noted_ok head rest None y e = absurd cc
noted_ok head rest (Some found) y e =
    let p = past (ltb 0 (length found.1)) cause.Notes (Ok (part_of head found.0, rest)) y e in
    let nothing : found.1 ≡ [] = nil_from_length found.1 (omega (arith, ltb-false _ _ p.0)) in
    (found.0, ap (λ (left : List ℕ). Some (found.0, left)) nothing, sym (done_is _ _ p.1))

head_is : (head : Head) (count size : ℕ) → head.count ≡ count → head.size ≡ size → head ≡ record { actor = head.actor; before = head.before; count = count; size = size }
head_is head count size e f =
    let one : head ≡ record { actor = head.actor; before = head.before; count = count; size = head.size } = ap (λ (n : ℕ). record { actor = head.actor; before = head.before; count = n; size = head.size }) e in
    one ∙ ap (λ (n : ℕ). record { actor = head.actor; before = head.before; count = count; size = n }) f

sums_taken : IsTaken sums_bytes sums_at
sums_taken = pair_taken wide_at wide_at wide wide wide_taken wide_taken

-- what stands behind a head
body_taken : (sums : ℕ × ℕ) (head : Head) (bytes : List ℕ) (y : PartView × List ℕ) → IsBytes bytes → bodied sums head bytes ≡ done y
    → (notes : List (Note ℕ)) × (head.count ≡ length notes) × (head.size ≡ length (body_bytes notes))
    × (bytes ≡ body_bytes notes ++ (sums_bytes (sums_behind sums (body_bytes notes)) ++ y.1)) × (y.0 ≡ part_of head notes)
body_taken sums head bytes y fits e =
    let body = take head.size bytes in
    let behind = drop head.size bytes in
    let p = past (ltb (length bytes) (head.size + 16)) cause.Cut (summed (sums_behind sums body) head body (sums_at behind)) y e in
    let long : head.size + 16 ≤ length bytes = ltb-false _ _ p.0 in
    let s = summed_ok (sums_behind sums body) head body (sums_at behind) y p.1 in
    let n = noted_ok head s.0.1 (notes_at head.count body) y s.4 in
    let t = sums_taken behind s.0 (IsBytes-drop head.size bytes fits) s.1 in
    let u = notes_taken head.count body (n.0, []) (IsBytes-take head.size bytes fits) n.1 in
    let body-is : body ≡ body_bytes n.0 = u.0.parts ∙ append-nil (body_bytes n.0) in
    let size-is : head.size ≡ length body = omega (arith, length-take head.size bytes) in
    let told : sums_bytes s.0.0 ≡ sums_bytes (sums_behind sums body) = ap (λ (n : ℕ). wide n ++ wide s.0.0.1) s.2 ∙ ap (λ (n : ℕ). wide (sums_behind sums body).0 ++ wide n) s.3 in
    let whole : bytes ≡ body ++ (sums_bytes (sums_behind sums body) ++ y.1) =
    sym (take-append-drop head.size bytes) ∙ ap (λ (w : List ℕ). body ++ w) t.parts ∙ ap (λ (w : List ℕ). body ++ (w ++ s.0.1)) told
    ∙ ap (λ (z : PartView × List ℕ). body ++ (sums_bytes (sums_behind sums body) ++ z.1)) (sym n.2) in
    (n.0, sym u.1, size-is ∙ ap length body-is, whole ∙ ap (λ (b : List ℕ). b ++ (sums_bytes (sums_behind sums b) ++ y.1)) body-is, ap (λ (z : PartView × List ℕ). z.0) n.2)

pub part_taken : (bytes : List ℕ) (y : PartView × List ℕ) → IsBytes bytes → part_at bytes ≡ Ok y → bytes ≡ part_bytes y.0 ++ y.1
unfolding part_at
part_taken bytes y fits e =
    let read = headed (sums_of (take 29 bytes)) (head_at (drop 4 bytes)) in
    let p = past (ltb (length bytes) 29) cause.Cut (cond (bytes_eq (take 4 bytes) mark) read (Err cause.Form)) y e in
    let k = kept (bytes_eq (take 4 bytes) mark) cause.Form read y p.1 in
    let h = headed_ok (sums_of (take 29 bytes)) (head_at (drop 4 bytes)) y k.1 in
    let head = h.0.0 in
    let t = head_taken (drop 4 bytes) h.0 (IsBytes-drop 4 bytes fits) h.1 in
    let b = body_taken (sums_of (take 29 bytes)) head h.0.1 y t.rest_fits h.2 in
    let notes = b.0 in
    let first = mark ++ head_bytes head in
    let marked : take 4 bytes ≡ mark = same_bytes _ _ k.0 in
    let whole : bytes ≡ first ++ h.0.1 =
    sym (take-append-drop 4 bytes) ∙ ap (λ (x : List ℕ). x ++ drop 4 bytes) marked ∙ ap (λ (x : List ℕ). mark ++ x) t.parts ∙ sym (append_assoc mark (head_bytes head) h.0.1) in
    let long : length first ≡ 29 = omega (arith, length-append mark (head_bytes head), head_length head) in
    let front : take 29 bytes ≡ first = ap (take 29) whole ∙ take_at first h.0.1 29 long in
    let head-is : head ≡ head_of (part_of head notes) = head_is head (length notes) (length (body_bytes notes)) b.1 b.2 in
    let front-is : first ++ body_bytes notes ≡ front_bytes (part_of head notes) =
    append_assoc mark (head_bytes head) (body_bytes notes) ∙ ap (λ (h : Head). mark ++ (head_bytes h ++ body_bytes notes)) head-is in
    let sums-is : sums_behind (sums_of (take 29 bytes)) (body_bytes notes) ≡ sums_of (front_bytes (part_of head notes)) =
    ap (λ (x : List ℕ). sums_behind (sums_of x) (body_bytes notes)) front ∙ sym (sums-append (0, 0) first (body_bytes notes)) ∙ ap (λ (x : List ℕ). sums_of x) front-is in
    let told = sums_bytes (sums_behind (sums_of (take 29 bytes)) (body_bytes notes)) in
    whole ∙ ap (λ (x : List ℕ). first ++ x) b.3 ∙ sym (append_assoc first (body_bytes notes) (told ++ y.1)) ∙ ap (λ (x : List ℕ). x ++ (told ++ y.1)) front-is
    ∙ ap (λ (s : ℕ × ℕ). front_bytes (part_of head notes) ++ (sums_bytes s ++ y.1)) sums-is
    ∙ sym (append_assoc (front_bytes (part_of head notes)) (sums_bytes (sums_of (front_bytes (part_of head notes)))) y.1) ∙ ap (λ (p : PartView). part_bytes p ++ y.1) (sym b.4)

-- ---- parts: what was written is read again

eqb-same : (n : ℕ) → eqb n n ≡ true
eqb-same n = grind (arith, nat_tests)

bodied_again : (terms : Terms) (sums : ℕ × ℕ) (part : PartView) (rest : List ℕ) → AllByRecursion (λ note. IsSpelledNote terms note × HoldsTimes note) part.notes
    → (sums_behind sums (body_bytes part.notes)).0 < 2 ^ 64 → (sums_behind sums (body_bytes part.notes)).1 < 2 ^ 64
    → bodied sums (head_of part) (body_bytes part.notes ++ (sums_bytes (sums_behind sums (body_bytes part.notes)) ++ rest)) ≡ Ok (part, rest)
bodied_again terms sums part rest all h k =
    let body = body_bytes part.notes in
    let s = sums_behind sums body in
    let head = head_of part in
    let bytes = body ++ (sums_bytes s ++ rest) in
    let enough : ltb (length bytes) (length body + 16) ≡ false =
    le-ltb _ _ (omega (arith, length-append body (sums_bytes s ++ rest), length-append (sums_bytes s) rest, length-append (wide s.0) (wide s.1), wide_length s.0, wide_length s.1)) in
    let front : take (length body) bytes ≡ body = take_at body (sums_bytes s ++ rest) (length body) refl in
    let behind : drop (length body) bytes ≡ sums_bytes s ++ rest = drop_at body (sums_bytes s ++ rest) (length body) refl in
    let same : (eqb s.0 s.0 && eqb s.1 s.1) ≡ true = ap (λ (b : Bool). b && eqb s.1 s.1) (eqb-same s.0) ∙ eqb-same s.1 in
    let read : notes_at (length part.notes) body ≡ Some (part.notes, []) = ap (notes_at (length part.notes)) (sym (append-nil body)) ∙ notes_again terms part.notes [] all in
    ap (λ (b : Bool). cond b (Err cause.Cut) (summed (sums_behind sums (take (length body) bytes)) head (take (length body) bytes) (sums_at (drop (length body) bytes)))) enough
    ∙ ap (λ (x : List ℕ). summed (sums_behind sums x) head x (sums_at (drop (length body) bytes))) front
    ∙ ap (λ (x : List ℕ). summed s head body (sums_at x)) behind
    ∙ ap (λ (o : Option ((ℕ × ℕ) × List ℕ)). summed s head body o) (two_again s.0 s.1 rest h k)
    ∙ ap (λ (b : Bool). cond b (noted head rest (or_notes (notes_at (length part.notes) body))) (Err cause.Sum)) same
    ∙ ap (λ (o : Option (List (Note ℕ) × List ℕ)). noted head rest (or_notes o)) read

pub part_again : (terms : Terms) (part : PartView) (rest : List ℕ) → HasBytes terms part → part_at (part_bytes part ++ rest) ≡ Ok (part, rest)
unfolding part_at
part_again terms part rest has =
    let head = head_of part in
    let body = body_bytes part.notes in
    let first = mark ++ head_bytes head in
    let front-is : first ++ body ≡ front_bytes part = append_assoc mark (head_bytes head) body in
    let sums-is : sums_behind (sums_of first) body ≡ sums_of (front_bytes part) = sym (sums-append (0, 0) first body) ∙ ap (λ (x : List ℕ). sums_of x) front-is in
    let behind = body ++ (sums_bytes (sums_behind (sums_of first) body) ++ rest) in
    let bytes = mark ++ (head_bytes head ++ behind) in
    let regrouped : part_bytes part ++ rest ≡ bytes =
    append_assoc (front_bytes part) (sums_bytes (sums_of (front_bytes part))) rest
    ∙ ap (λ (s : ℕ × ℕ). front_bytes part ++ (sums_bytes s ++ rest)) (sym sums-is)
    ∙ append_assoc mark (head_bytes head ++ body) (sums_bytes (sums_behind (sums_of first) body) ++ rest)
    ∙ ap (λ (x : List ℕ). mark ++ x) (append_assoc (head_bytes head) body (sums_bytes (sums_behind (sums_of first) body) ++ rest)) in
    let firsts : length first ≡ 29 = omega (arith, length-append mark (head_bytes head), head_length head) in
    let enough : ltb (length bytes) 29 ≡ false = le-ltb _ _ (omega (arith, length-append mark (head_bytes head ++ behind), length-append (head_bytes head) behind, head_length head)) in
    let front : take 29 bytes ≡ first = ap (take 29) (sym (append_assoc mark (head_bytes head) behind)) ∙ take_at first behind 29 firsts in
    let below = sums_below (0, 0) first (omega arith) (omega arith) in
    let below = sums_below (sums_of first) body below.0 below.1 in
    ap part_at regrouped
    ∙ ap (λ (b : Bool). cond b (Err cause.Cut) (cond (bytes_eq (take 4 bytes) mark) (headed (sums_of (take 29 bytes)) (head_at (drop 4 bytes))) (Err cause.Form))) enough
    ∙ ap (λ (o : Option (Head × List ℕ)). headed (sums_of (take 29 bytes)) o) (head_again head behind has.head)
    ∙ ap (λ (x : List ℕ). bodied (sums_of x) head behind) front
    ∙ bodied_again terms (sums_of first) part rest has.notes below.0 below.1
