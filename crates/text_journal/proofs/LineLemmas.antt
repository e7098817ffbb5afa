-- The lines of journals, note after note and actor after actor.
use Rattle.std.proofs.Common.{decimal, ◌≤◌, zero, suc, unwrap_or, ◌≡◌, ℕ, ◌+◌, ◌<◌, List, [], ◌∷◌, ◌++◌, sym, ap, ◌∙◌, append-nil, append_assoc, length, take, drop, get_or, map, codes, refl, arith, length-append, cond, false, IsTrue}
use Rattle.std.specs.Prelude.{reverse, slice_get}
use Rattle.std.proofs.lemmas.Grind.{flat_map-append}
use Rattle.std.proofs.lemmas.List.{map-append, map_more, take-append-drop, take_more, length-take-le, take_all}
use Rattle.base_words.specs.declared.note.Note.{Note}
use Rattle.base_words.specs.Assembly.{Assembly, journal_of}
use Rattle.base_words.specs.Bursts.{has_bursts}
use Rattle.base_words.specs.Journal.{Journal}
use Rattle.text_words.specs.Notes.{note_line}
use Rattle.text_journal.specs.Texts.{actor_lines, journal_lines, text_of, form_line, size_line, end_line, head_of, head_text, journal_text}

pub text_of-append : (one two : List (List ℕ)) → text_of (one ++ two) ≡ text_of one ++ text_of two
text_of-append one two = flat_map-append (λ line. line ++ codes "\n") one two

text_of-last : (lines : List (List ℕ)) (line : List ℕ) → text_of (lines ++ line ∷ []) ≡ text_of lines ++ (line ++ codes "\n")
text_of-last lines line = text_of-append lines (line ∷ []) ∙ ap (λ end. text_of lines ++ end) (append-nil (line ++ codes "\n"))

-- the notes of one actor up to a place
abbrev pub front_text : ℕ → List (Note ℕ) → ℕ → List ℕ
front_text actor notes count = text_of (map (note_line actor) (take count notes))

abbrev pub rest_text : ℕ → List (Note ℕ) → ℕ → List ℕ
rest_text actor notes count = text_of (map (note_line actor) (drop count notes))

pub actor_text_split : (actor : ℕ) (journal : Journal ℕ) (notes : List (Note ℕ)) (count : ℕ) → notes ≡ reverse journal → text_of (actor_lines actor journal) ≡ front_text actor notes count ++ rest_text actor notes count
actor_text_split actor journal notes count same =
    ap (λ all. text_of (map (note_line actor) all)) (sym same ∙ sym (take-append-drop count notes))
    ∙ ap text_of (map-append (note_line actor) (take count notes) (drop count notes))
    ∙ text_of-append (map (note_line actor) (take count notes)) (map (note_line actor) (drop count notes))

pub front_text_more : (actor : ℕ) (notes : List (Note ℕ)) (count : ℕ) (note : Note ℕ) → count < length notes → note ≡ get_or notes count note → front_text actor notes (count + 1) ≡ front_text actor notes count ++ (note_line actor note ++ codes "\n")
front_text_more actor notes count note within is =
    ap text_of (map_more (note_line actor) notes count note within)
    ∙ text_of-last (map (note_line actor) (take count notes)) (note_line actor (get_or notes count note))
    ∙ ap (λ n. front_text actor notes count ++ (note_line actor n ++ codes "\n")) (sym is)

-- the journals of the actors before one
pub journal_lines-append : (actor : ℕ) (one two : List (Journal ℕ)) → journal_lines actor (one ++ two) ≡ journal_lines actor one ++ journal_lines (actor + length one) two
journal_lines-append actor [] two = ap (λ n. journal_lines n two) (omega arith)
journal_lines-append actor (journal ∷ one) two =
    ap (λ lines. actor_lines actor journal ++ lines) (journal_lines-append (actor + 1) one two ∙ ap (λ n. journal_lines (actor + 1) one ++ journal_lines n two) (omega arith))
    ∙ sym (append_assoc (actor_lines actor journal) (journal_lines (actor + 1) one) (journal_lines (actor + length (journal ∷ one)) two))

abbrev pub front_journals : List (Journal ℕ) → ℕ → List ℕ
front_journals journals count = text_of (journal_lines 0 (take count journals))

abbrev pub rest_journals : List (Journal ℕ) → ℕ → List ℕ
rest_journals journals count = text_of (journal_lines (0 + length (take count journals)) (drop count journals))

pub journals_text_split : (journals : List (Journal ℕ)) (count : ℕ) → text_of (journal_lines 0 journals) ≡ front_journals journals count ++ rest_journals journals count
journals_text_split journals count =
    ap (λ all. text_of (journal_lines 0 all)) (sym (take-append-drop count journals))
    ∙ ap text_of (journal_lines-append 0 (take count journals) (drop count journals))
    ∙ text_of-append (journal_lines 0 (take count journals)) (journal_lines (0 + length (take count journals)) (drop count journals))

slice_get-or : (journals : List (Journal ℕ)) (i : ℕ) → unwrap_or (slice_get journals i) [] ≡ get_or journals i []
slice_get-or [] zero = refl
slice_get-or [] (suc i) = refl
slice_get-or (journal ∷ others) zero = refl
slice_get-or (journal ∷ others) (suc i) = slice_get-or others i

pub front_journals_more : (assembly : Assembly ℕ) (count : ℕ) (journal : Journal ℕ) → count < length assembly.journals → journal ≡ journal_of count assembly →
    front_journals assembly.journals (count + 1) ≡ front_journals assembly.journals count ++ text_of (actor_lines count journal)
front_journals_more assembly count journal within is =
    let journals = assembly.journals in
    let place : 0 + length (take count journals) ≡ count = omega (arith, length-take-le count journals (omega arith)) in
    ap (λ all. text_of (journal_lines 0 all)) (take_more journals count [] within ∙ ap (λ j. take count journals ++ j ∷ []) (sym (slice_get-or journals count) ∙ sym is))
    ∙ ap text_of (journal_lines-append 0 (take count journals) (journal ∷ []))
    ∙ text_of-append (journal_lines 0 (take count journals)) (journal_lines (0 + length (take count journals)) (journal ∷ []))
    ∙ ap (λ n. front_journals journals count ++ text_of (journal_lines n (journal ∷ []))) place
    ∙ ap (λ lines. front_journals journals count ++ text_of lines) (append-nil (actor_lines count journal))

-- the text in its parts
pub journal_text-parts : (assembly : Assembly ℕ) → journal_text assembly ≡ head_text assembly ++ (text_of (journal_lines 0 assembly.journals) ++ (end_line ++ codes "\n"))
unfolding journal_text head_of
journal_text-parts assembly =
    text_of-append (form_line assembly.burst ∷ size_line assembly.cores assembly.cap assembly.burst ∷ []) (journal_lines 0 assembly.journals ++ end_line ∷ [])
    ∙ ap (λ text. text_of (form_line assembly.burst ∷ size_line assembly.cores assembly.cap assembly.burst ∷ []) ++ text) (text_of-last (journal_lines 0 assembly.journals) end_line)

pub journals_text_whole : (journals : List (Journal ℕ)) (count : ℕ) → length journals ≤ count → front_journals journals count ≡ text_of (journal_lines 0 journals)
journals_text_whole journals count all = ap (λ some. text_of (journal_lines 0 some)) (take_all count journals all)

pub actor_text_whole : (actor : ℕ) (journal : Journal ℕ) (notes : List (Note ℕ)) (count : ℕ) → notes ≡ reverse journal → length notes ≤ count → front_text actor notes count ≡ text_of (actor_lines actor journal)
actor_text_whole actor journal notes count same all = ap (λ some. text_of (map (note_line actor) some)) (take_all count notes all ∙ same)

pub journals_text_next : (assembly : Assembly ℕ) (count : ℕ) (journal : Journal ℕ) → count < length assembly.journals → journal ≡ journal_of count assembly →
    text_of (journal_lines 0 assembly.journals) ≡ front_journals assembly.journals count ++ (text_of (actor_lines count journal) ++ rest_journals assembly.journals (count + 1))
journals_text_next assembly count journal within is =
    journals_text_split assembly.journals (count + 1)
    ∙ ap (λ text. text ++ rest_journals assembly.journals (count + 1)) (front_journals_more assembly count journal within is)
    ∙ append_assoc (front_journals assembly.journals count) (text_of (actor_lines count journal)) (rest_journals assembly.journals (count + 1))

-- the first two lines in the pieces that are written, in each form
pub single_head_joined : (cores places : ℕ) → head_of cores places 1 ≡ codes "journal 1\ncores " ++ (decimal cores ++ (codes " cap " ++ (decimal places ++ codes "\n")))
unfolding head_of
single_head_joined cores places =
    ap (λ text. codes "journal 1\ncores " ++ text)
    (append-nil ((((decimal cores ++ codes " cap ") ++ decimal places) ++ []) ++ codes "\n")
    ∙ ap (λ text. text ++ codes "\n") (append-nil ((decimal cores ++ codes " cap ") ++ decimal places))
    ∙ append_assoc (decimal cores ++ codes " cap ") (decimal places) (codes "\n")
    ∙ append_assoc (decimal cores) (codes " cap ") (decimal places ++ codes "\n"))

pub burst_head_joined : (cores places burst : ℕ) → IsTrue (has_bursts burst) →
    head_of cores places burst ≡ codes "journal 2\ncores " ++ (decimal cores ++ (codes " cap " ++ (decimal places ++ (codes " burst " ++ (decimal burst ++ codes "\n")))))
unfolding head_of
burst_head_joined cores places burst bursts =
    ap (λ b. text_of (cond b (codes "journal 2") (codes "journal 1") ∷ (codes "cores " ++ decimal cores ++ codes " cap " ++ decimal places ++ cond b (codes " burst " ++ decimal burst) []) ∷ [])) bursts
    ∙ ap (λ text. codes "journal 2\ncores " ++ text)
    (append-nil ((((decimal cores ++ codes " cap ") ++ decimal places) ++ (codes " burst " ++ decimal burst)) ++ codes "\n")
    ∙ append_assoc ((decimal cores ++ codes " cap ") ++ decimal places) (codes " burst " ++ decimal burst) (codes "\n")
    ∙ append_assoc (decimal cores ++ codes " cap ") (decimal places) (codes " burst " ++ (decimal burst ++ codes "\n"))
    ∙ append_assoc (decimal cores) (codes " cap ") (decimal places ++ (codes " burst " ++ (decimal burst ++ codes "\n"))))

-- where a turn is a single poll, the form is the first one
pub single_head : (cores places burst : ℕ) → has_bursts burst ≡ false → head_of cores places burst ≡ head_of cores places 1
unfolding head_of
single_head cores places burst single =
    ap (λ b. text_of (cond b (codes "journal 2") (codes "journal 1") ∷ (codes "cores " ++ decimal cores ++ codes " cap " ++ decimal places ++ cond b (codes " burst " ++ decimal burst) []) ∷ [])) single

pub single_head_text : (assembly : Assembly ℕ) (cores places burst : ℕ) → cores ≡ assembly.cores → places ≡ assembly.cap → burst ≡ assembly.burst → has_bursts burst ≡ false → head_of cores places 1 ≡ head_text assembly
single_head_text assembly cores places burst cores_is cap_is burst_is single =
    sym (single_head cores places burst single)
    ∙ ap (λ n. head_of n places burst) cores_is
    ∙ ap (λ n. head_of assembly.cores n burst) cap_is
    ∙ ap (λ n. head_of assembly.cores assembly.cap n) burst_is

-- a text has something in it
pub journal_some : (assembly : Assembly ℕ) → 1 ≤ length (journal_text assembly)
unfolding journal_text
journal_some assembly =
    let head = form_line assembly.burst in
    let rest = text_of (size_line assembly.cores assembly.cap assembly.burst ∷ (journal_lines 0 assembly.journals ++ end_line ∷ [])) in
    omega (arith, length-append (head ++ codes "\n") rest, length-append head (codes "\n"))
