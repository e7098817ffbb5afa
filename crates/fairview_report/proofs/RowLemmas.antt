-- The rows of polls, note by note.
use Rattle.std.proofs.Common.{◌≡◌, ℕ, zero, suc, ◌+◌, ◌<◌, ◌≤◌, Bool, true, false, cond, List, [], ◌∷◌, ◌++◌, length, get_or, Option, Some, None, refl, sym, ap, ◌∙◌, arith, append_assoc, append-nil, length-append, codes}
use Rattle.std.specs.Prelude.{flat_map, nat_lt}
use Rattle.std.proofs.lemmas.Bool.{cond_above, cond_below}
use Rattle.std.proofs.lemmas.Grind.{flat_map-append}
use Rattle.std.proofs.lemmas.List.{get_or_append_left}
use Rattle.std.proofs.lemmas.Option.{unwrap_or-slice_get}
use Rattle.std.proofs.Math.Seq.{get_or-append_seam}
use Rattle.base_words.specs.declared.note.Note.{Note}
use Rattle.base_words.specs.Assembly.{Assembly, journal_of}
use Rattle.base_words.specs.Journal.{Journal, with_last}
use Rattle.judge_view.specs.Polls.{poll_noted, polls}
use Rattle.judge_view.specs.declared.polls.Poll.{Poll}
use Rattle.fairview_marks.specs.Lists.{lists_below}
use Rattle.fairview_marks.proofs.Lists.{after_one}
use Rattle.fairview_report.specs.PollTexts.{core_text, cores_text, poll_row, row_told, rows_now, rows_of}

-- the same lists below a number, one behind another
pub lists_same : {A : Type 0} (one other : ℕ → List A) (count : ℕ) → ((number : ℕ) → number < count → one number ≡ other number) → lists_below one count ≡ lists_below other count
unfolding lists_below
lists_same one other zero same = refl
lists_same one other (suc count) same =
    (λ i. lists_same one other count (λ number less. same number (omega (arith, less))) i ++ same count (omega arith) i)

-- the row that a note adds to those of a core
pub row_more : (core : ℕ) (note : Note ℕ) (before : Journal ℕ) → core_text core (note ∷ before) ≡ core_text core before ++ row_told core (poll_noted note before)
row_more core note before = by_poll (poll_noted note before)
  where
    row : Poll → List ℕ
    row poll = poll_row core poll ++ codes "\n"

    by_poll : (poll : Option Poll) → flat_map row (with_last (polls before) poll) ≡ flat_map row (polls before) ++ row_told core poll
    by_poll None = sym (append-nil (flat_map row (polls before)))
    by_poll (Some poll) = flat_map-append row (polls before) (poll ∷ []) ∙ ap (λ rest. flat_map row (polls before) ++ rest) (append-nil (row poll))

-- a core's note
pub rows_take : (actor cores : ℕ) (note : Note ℕ) (before : Journal ℕ) (poll : Option Poll) (front old new : List ℕ) → actor < cores → poll ≡ poll_noted note before →
    old ≡ front ++ rows_now actor cores before → new ≡ old ++ row_told actor poll → new ≡ front ++ rows_now actor cores (note ∷ before)
rows_take actor cores note before poll front old new within is old_is new_is =
    let was : rows_now actor cores before ≡ core_text actor before = sym (cond_below actor cores (core_text actor before) [] within) in
    let now : core_text actor (note ∷ before) ≡ rows_now actor cores (note ∷ before) = cond_below actor cores (core_text actor (note ∷ before)) [] within in
    new_is
    ∙ ((λ i. (old_is ∙ ap (λ rows. front ++ rows) was) i ++ row_told actor (is i))
    ∙ (append_assoc front (core_text actor before) (row_told actor (poll_noted note before))
    ∙ ap (λ rows. front ++ rows) (sym (row_more actor note before) ∙ now)))

-- a note of the outside actor
pub rows_past : (actor cores : ℕ) (note : Note ℕ) (before : Journal ℕ) (front old : List ℕ) → cores ≤ actor →
    old ≡ front ++ rows_now actor cores before → old ≡ front ++ rows_now actor cores (note ∷ before)
rows_past actor cores note before front old past old_is =
    let was : [] ≡ rows_now actor cores before = cond_above actor cores (core_text actor before) [] [] past refl in
    let now : [] ≡ rows_now actor cores (note ∷ before) = cond_above actor cores (core_text actor (note ∷ before)) [] [] past refl in
    old_is ∙ ap (λ rows. front ++ rows) (sym was ∙ now)

-- before its first note an actor has no row
pub rows_begin : (actor cores : ℕ) → [] ≡ rows_now actor cores []
rows_begin actor cores = none (nat_lt actor cores)
  where
    none : (test : Bool) → ◌≡◌ {A = List ℕ} [] (cond test [] [])
    none true = refl
    none false = refl

-- before the first note the first line stands alone
pub rows_none : (head : List ℕ) → head ≡ (head ++ rows_of []) ++ rows_now 0 1 []
unfolding lists_below
rows_none head = sym (append-nil head) ∙ (sym (append-nil (head ++ [])) ∙ ap (λ rows. (head ++ []) ++ rows) (rows_begin 0 1))

-- the rows of one journal more
pub rows_more : (journals : List (Journal ℕ)) (journal : Journal ℕ) → rows_of (journals ++ journal ∷ []) ≡ rows_of journals ++ core_text (length journals) journal
rows_more journals journal =
    let count = length journals in
    let all = journals ++ journal ∷ [] in
    let each : ℕ → List ℕ = λ core. core_text core (get_or journals core []) in
    let each_of_all : ℕ → List ℕ = λ core. core_text core (get_or all core []) in
    let same : lists_below each count ≡ lists_below each_of_all count =
    lists_same each each_of_all count (λ core less. ap (core_text core) (sym (get_or_append_left journals (journal ∷ []) [] core less))) in
    let last : each_of_all count ≡ core_text count journal = ap (core_text count) (get_or-append_seam journals journal [] []) in
    let longer : length all ≡ count + 1 = omega (arith, length-append journals (journal ∷ [])) in
    ap (lists_below each_of_all) longer
    ∙ (sym (after_one each_of_all count [] (lists_below each_of_all count) (lists_below each_of_all count ++ each_of_all count) refl refl)
    ∙ (λ i. sym same i ++ last i))

-- the rows of the cores of a run, where the outside actor's journal stands behind theirs
pub rows_all : (journals : List (Journal ℕ)) (outside : Journal ℕ) (cores cap burst : ℕ) → length journals ≡ cores →
    rows_of journals ≡ cores_text (record { cores = cores; cap = cap; burst = burst; journals = journals ++ outside ∷ [] })
rows_all journals outside cores cap burst count =
    let all = journals ++ outside ∷ [] in
    let each : ℕ → List ℕ = λ core. core_text core (get_or journals core []) in
    let told : ℕ → List ℕ = λ core. core_text core (journal_of core (record { cores = cores; cap = cap; burst = burst; journals = all })) in
    lists_same each told (length journals)
    (λ core less. ap (core_text core) (sym (unwrap_or-slice_get all core [] ∙ get_or_append_left journals (outside ∷ []) [] core less)))
    ∙ ap (lists_below told) count

-- the next actor begins
pub rows_next : (head : List ℕ) (journals : List (Journal ℕ)) (journal : Journal ℕ) (cores : ℕ) → length journals < cores →
    (head ++ rows_of journals) ++ rows_now (length journals) cores journal
    ≡ (head ++ rows_of (journals ++ journal ∷ [])) ++ rows_now (length (journals ++ journal ∷ [])) cores []
rows_next head journals journal cores within =
    let own = core_text (length journals) journal in
    ap (λ rows. (head ++ rows_of journals) ++ rows) (sym (cond_below (length journals) cores own [] within))
    ∙ (append_assoc head (rows_of journals) own
    ∙ (ap (λ rows. head ++ rows) (sym (rows_more journals journal))
    ∙ (sym (append-nil (head ++ rows_of (journals ++ journal ∷ [])))
    ∙ ap (λ rows. (head ++ rows_of (journals ++ journal ∷ [])) ++ rows) (rows_begin (length (journals ++ journal ∷ [])) cores))))

-- the outside actor is the last one
pub rows_end : (head : List ℕ) (journals : List (Journal ℕ)) (outside : Journal ℕ) (cores cap burst : ℕ) → length journals ≡ cores →
    (head ++ rows_of journals) ++ rows_now (length journals) cores outside ≡ head ++ cores_text (record { cores = cores; cap = cap; burst = burst; journals = journals ++ outside ∷ [] })
rows_end head journals outside cores cap burst last =
    let none : [] ≡ rows_now (length journals) cores outside = cond_above (length journals) cores (core_text (length journals) outside) [] [] (omega (arith, last)) refl in
    ap (λ rows. (head ++ rows_of journals) ++ rows) (sym none)
    ∙ (append-nil (head ++ rows_of journals) ∙ ap (λ rows. head ++ rows) (rows_all journals outside cores cap burst last))
