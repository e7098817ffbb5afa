-- Drafts that stand before an actor, however many of the actors before it had no note.
use Rattle.std.proofs.Common.{◌≡◌, ℕ, zero, suc, ◌+◌, ◌-◌, ◌≤◌, List, [], ◌∷◌, ◌++◌, length, refl, sym, ap, ◌∙◌, arith, length-append}
use Rattle.base_words.specs.Journal.{Journal}
use Rattle.text_journal.specs.declared.draft.Part.TheVariants as part
use Rattle.text_journal.specs.Drafts.{Drafted, next_actor, raised, raised_to, all_journals}
use Rattle.text_journal.proofs.DraftLemmas.{raised_is}

-- the journals of the actors before, and the notes of the next one so far
abbrev pub drafted : ℕ → ℕ → ℕ → List (Journal ℕ) → Journal ℕ → Drafted
drafted cores places burst earlier notes = record { part = part.Notes; cores = cores; cap = places; burst = burst; earlier = earlier; notes = notes }

-- the draft comes to this one, if the actors without a note are passed over
pub record StandsFor (cores places burst : ℕ) (earlier : List (Journal ℕ)) (notes : Journal ℕ) (draft : Drafted) : Type 0 where
  pub actors : length draft.earlier ≤ length earlier
  pub within : length draft.earlier ≤ cores
  pub same : raised_to (length earlier) draft ≡ drafted cores places burst earlier notes

-- what it keeps
pub stands_part : {cores places burst : ℕ} {earlier : List (Journal ℕ)} {notes : Journal ℕ} {draft : Drafted} → StandsFor cores places burst earlier notes draft → draft.part ≡ part.Notes
stands_part {cores} {places} {burst} {earlier} {notes} {draft} stands =
    let kept = raised_is (length earlier - length draft.earlier) draft in
    sym kept.part ∙ ap (λ (d : Drafted). d.part) stands.same

pub stands_cores : {cores places burst : ℕ} {earlier : List (Journal ℕ)} {notes : Journal ℕ} {draft : Drafted} → StandsFor cores places burst earlier notes draft → draft.cores ≡ cores
stands_cores {cores} {places} {burst} {earlier} {notes} {draft} stands =
    let kept = raised_is (length earlier - length draft.earlier) draft in
    sym kept.cores ∙ ap (λ (d : Drafted). d.cores) stands.same

pub stands_cap : {cores places burst : ℕ} {earlier : List (Journal ℕ)} {notes : Journal ℕ} {draft : Drafted} → StandsFor cores places burst earlier notes draft → draft.cap ≡ places
stands_cap {cores} {places} {burst} {earlier} {notes} {draft} stands =
    let kept = raised_is (length earlier - length draft.earlier) draft in
    sym kept.cap ∙ ap (λ (d : Drafted). d.cap) stands.same

pub stands_burst : {cores places burst : ℕ} {earlier : List (Journal ℕ)} {notes : Journal ℕ} {draft : Drafted} → StandsFor cores places burst earlier notes draft → draft.burst ≡ burst
stands_burst {cores} {places} {burst} {earlier} {notes} {draft} stands =
    let kept = raised_is (length earlier - length draft.earlier) draft in
    sym kept.burst ∙ ap (λ (d : Drafted). d.burst) stands.same

-- a draft that is there already
pub stands_itself : (cores places burst : ℕ) (earlier : List (Journal ℕ)) (notes : Journal ℕ) → length earlier ≤ cores → StandsFor cores places burst earlier notes (drafted cores places burst earlier notes)
stands_itself cores places burst earlier notes within =
    let none : length earlier - length earlier ≡ 0 = omega arith in
    record { actors = omega arith; within = within; same = ap (λ n. raised n (drafted cores places burst earlier notes)) none }

raised_last : (count : ℕ) (draft : Drafted) → raised (suc count) draft ≡ next_actor (raised count draft)
raised_last zero draft = refl
raised_last (suc count) draft = raised_last count (next_actor draft)

-- the journal of the actor is whole
pub stands_next : (cores places burst : ℕ) (earlier : List (Journal ℕ)) (notes : Journal ℕ) (draft : Drafted) → StandsFor cores places burst earlier notes draft → StandsFor cores places burst (earlier ++ notes ∷ []) [] draft
stands_next cores places burst earlier notes draft stands =
    let actors = stands.actors in
    let longer = length-append earlier (notes ∷ []) in
    let next : length (earlier ++ notes ∷ []) - length draft.earlier ≡ suc (length earlier - length draft.earlier) = omega (arith, longer) in
    record {
      actors = omega (arith, longer);
      within = stands.within;
      same = ap (λ n. raised n draft) next ∙ raised_last (length earlier - length draft.earlier) draft ∙ ap next_actor stands.same;
    }

-- the last line changes what comes next, and nothing else
abbrev pub closed : Drafted → Drafted
closed draft = record { part = part.After; cores = draft.cores; cap = draft.cap; burst = draft.burst; earlier = draft.earlier; notes = draft.notes }

pub raised_closed : (count : ℕ) (draft : Drafted) → raised count (closed draft) ≡ closed (raised count draft)
raised_closed zero draft = refl
raised_closed (suc count) draft = raised_closed count (next_actor draft)

-- the journals of a draft, once that of the last actor is whole
pub stands_whole : (cores places burst : ℕ) (journals : List (Journal ℕ)) (draft : Drafted) → length journals ≡ cores + 1 → StandsFor cores places burst journals [] draft → all_journals (raised_to draft.cores (closed draft)) ≡ journals
stands_whole cores places burst journals draft count stands =
    let within = stands.within in
    let here = stands_cores stands in
    let next : suc (draft.cores - length draft.earlier) ≡ length journals - length draft.earlier = omega arith in
    ap all_journals (raised_closed (draft.cores - length draft.earlier) draft)
    ∙ ap (λ (d : Drafted). d.earlier) (sym (raised_last (draft.cores - length draft.earlier) draft) ∙ ap (λ n. raised n draft) next ∙ stands.same)
