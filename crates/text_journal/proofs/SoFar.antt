-- The lines that a draft was read from.
use Rattle.std.proofs.Common.{◌≡◌, ℕ, zero, suc, ◌+◌, ◌<◌, ◌≤◌, List, [], ◌∷◌, ◌++◌, length, map, refl, sym, ap, ◌∙◌, subst, arith, append_assoc, append-nil, length-append}
use Rattle.std.specs.Prelude.{reverse}
use Rattle.std.proofs.lemmas.List.{map-append, reverse-append}
use Rattle.base_words.specs.declared.note.Note.{Note}
use Rattle.base_words.specs.Journal.{Journal}
use Rattle.base_words.specs.Spelled.{IsSpelledNote, AreSpelledNotes, IsWithinLimits}
use Rattle.base_words.specs.Terms.{Terms}
use Rattle.text_words.specs.Notes.{note_line}
use Rattle.text_journal.specs.Texts.{form_line, size_line, actor_lines, journal_lines}
use Rattle.text_journal.proofs.LineLemmas.{journal_lines-append}
use Rattle.text_journal.specs.Drafts.{Drafted, next_actor, raised, all_journals}

abbrev pub terms_at : ℕ → Drafted → Terms
terms_at actor draft = record { actor = actor; cores = draft.cores; cap = draft.cap; burst = draft.burst }

-- the journals from this actor on are spelled
abbrev pub SpelledFrom : ℕ → ℕ → ℕ → ℕ → List (Journal ℕ) → Type 0
SpelledFrom actor cores cap burst [] = Unit {0}
SpelledFrom actor cores cap burst (journal ∷ others) = AreSpelledNotes (record { actor = actor; cores = cores; cap = cap; burst = burst }) journal × SpelledFrom (actor + 1) cores cap burst others

pub spelled_push : (actor cores cap burst : ℕ) (journals : List (Journal ℕ)) (journal : Journal ℕ) →
    SpelledFrom actor cores cap burst journals → AreSpelledNotes (record { actor = actor + length journals; cores = cores; cap = cap; burst = burst }) journal → SpelledFrom actor cores cap burst (journals ++ journal ∷ [])
spelled_push actor cores cap burst [] journal before last =
    let here : actor + 0 ≡ actor = omega arith in
    (subst (λ n. AreSpelledNotes (record { actor = n; cores = cores; cap = cap; burst = burst }) journal) here last, tt)
spelled_push actor cores cap burst (first ∷ journals) journal before last =
    let here : actor + length (first ∷ journals) ≡ (actor + 1) + length journals = omega arith in
    (before.0, spelled_push (actor + 1) cores cap burst journals journal before.1 (subst (λ n. AreSpelledNotes (record { actor = n; cores = cores; cap = cap; burst = burst }) journal) here last))

-- what is read so far is spelled
pub record IsFair (draft : Drafted) : Type 0 where
  pub limits : IsWithinLimits draft.cores draft.cap draft.burst
  pub actors : length draft.earlier ≤ draft.cores
  pub before : SpelledFrom 0 draft.cores draft.cap draft.burst draft.earlier
  pub here : AreSpelledNotes (terms_at (length draft.earlier) draft) draft.notes

-- the first two lines, and those of the notes
abbrev pub body_lines : Drafted → List (List ℕ)
body_lines draft = form_line draft.burst ∷ size_line draft.cores draft.cap draft.burst ∷ journal_lines 0 (all_journals draft)

-- an actor without notes has no line
no_lines : (journals : List (Journal ℕ)) → journal_lines 0 (journals ++ [] ∷ []) ≡ journal_lines 0 journals
no_lines journals = journal_lines-append 0 journals ([] ∷ []) ∙ append-nil (journal_lines 0 journals)

next_fair : (draft : Drafted) → IsFair draft → length draft.earlier < draft.cores → IsFair (next_actor draft) × (body_lines (next_actor draft) ≡ body_lines draft)
next_fair draft fair less = (
  record {
    limits = fair.limits;
    actors = omega (arith, length-append draft.earlier (draft.notes ∷ []));
    before = spelled_push 0 draft.cores draft.cap draft.burst draft.earlier draft.notes fair.before (subst (λ n. AreSpelledNotes (terms_at n draft) draft.notes) zero_more fair.here);
    here = tt;
  },
  ap (λ lines. form_line draft.burst ∷ size_line draft.cores draft.cap draft.burst ∷ lines) (no_lines (all_journals draft)),
)
  where
    zero_more : length draft.earlier ≡ 0 + length draft.earlier
    zero_more = omega arith

pub raised_fair : (count : ℕ) (draft : Drafted) → IsFair draft → length draft.earlier + count ≤ draft.cores → IsFair (raised count draft) × (body_lines (raised count draft) ≡ body_lines draft)
raised_fair zero draft fair within = (fair, refl)
raised_fair (suc count) draft fair within =
    let one = next_fair draft fair (omega arith) in
    let rest = raised_fair count (next_actor draft) one.0 (omega (arith, length-append draft.earlier (draft.notes ∷ []))) in
    (rest.0, rest.1 ∙ one.1)

-- one note more
abbrev pub noted : Drafted → Note ℕ → Drafted
noted draft note = record { part = draft.part; cores = draft.cores; cap = draft.cap; burst = draft.burst; earlier = draft.earlier; notes = note ∷ draft.notes }

pub actor_lines-more : (actor : ℕ) (note : Note ℕ) (before : Journal ℕ) → actor_lines actor (note ∷ before) ≡ actor_lines actor before ++ note_line actor note ∷ []
actor_lines-more actor note before = ap (map (note_line actor)) (reverse-append (note ∷ []) before) ∙ map-append (note_line actor) (reverse before) (note ∷ [])

last_lines : (journals : List (Journal ℕ)) (journal : Journal ℕ) → journal_lines 0 (journals ++ journal ∷ []) ≡ journal_lines 0 journals ++ actor_lines (length journals) journal
last_lines journals journal =
    let here : 0 + length journals ≡ length journals = omega arith in
    journal_lines-append 0 journals (journal ∷ [])
    ∙ ap (λ n. journal_lines 0 journals ++ journal_lines n (journal ∷ [])) here
    ∙ ap (λ lines. journal_lines 0 journals ++ lines) (append-nil (actor_lines (length journals) journal))

pub noted_fair : (draft : Drafted) (note : Note ℕ) → IsFair draft → IsSpelledNote (terms_at (length draft.earlier) draft) note → IsFair (noted draft note) × (body_lines (noted draft note) ≡ body_lines draft ++ note_line (length draft.earlier) note ∷ [])
noted_fair draft note fair spelled = (
  record { limits = fair.limits; actors = fair.actors; before = fair.before; here = (spelled, fair.here) },
  ap (λ lines. form_line draft.burst ∷ size_line draft.cores draft.cap draft.burst ∷ lines) (
      last_lines draft.earlier (note ∷ draft.notes)
      ∙ ap (λ lines. journal_lines 0 draft.earlier ++ lines) (actor_lines-more (length draft.earlier) note draft.notes)
      ∙ sym (append_assoc (journal_lines 0 draft.earlier) (actor_lines (length draft.earlier) draft.notes) (note_line (length draft.earlier) note ∷ []))
      ∙ ap (λ lines. lines ++ note_line (length draft.earlier) note ∷ []) (sym (last_lines draft.earlier draft.notes))),
)
