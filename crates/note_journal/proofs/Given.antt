-- What a journal gives first under a name, who has no journal, and who gives nothing.
use Rattle.std.proofs.Common.{◌≡◌, ℕ, ◌+◌, ◌<◌, ◌≤◌, ◌⊎◌, inl, inr, List, [], ◌∷◌, ◌++◌, length, take, drop, reverse, get_or, refl, sym, ap, ◌∙◌, subst, arith}
use Rattle.std.specs.Prelude.{Option, Some, None, slice_get, unwrap_or}
use Rattle.std.proofs.lemmas.Bool.{cases_lt}
use Rattle.std.proofs.lemmas.List.{reverse-append, reverse-reverse, take-append-drop, take_more}
use Rattle.std.proofs.lemmas.Option.{slice_get_cases}
use Rattle.base_words.specs.declared.names.JobId.{JobId}
use Rattle.base_words.specs.declared.note.Note.{Note}
use Rattle.base_words.specs.declared.note.Note.TheVariants.{Back, Answered, Done, Returned}
use Rattle.base_words.specs.declared.note.OutcomeNote.{OutcomeNote}
use Rattle.base_words.specs.Assembly.{Assembly, first_under, journal_of, outcome_of}
use Rattle.base_words.specs.Filters.{given_outcomes, outcome_given}
use Rattle.base_words.specs.Journal.{Journal, with_last}
use Rattle.base_words.specs.Spelled.{AreSpelledNotes, IsSpelled, IsSpelledNote}
use Rattle.base_words.specs.Terms.{Terms, terms_of}
use Rattle.base_words.proofs.Under.{first_under-last, first_under-stays}

-- who has no journal has no notes
pub no_journal : {T : Type 0} (assembly : Assembly T) (actor : ℕ) → length assembly.journals ≤ actor → journal_of actor assembly ≡ []
no_journal {T} assembly actor past = by_place (slice_get_cases assembly.journals actor).1
  where
    by_place :
        ((journal : Journal T) × (actor < length assembly.journals) × (slice_get assembly.journals actor ≡ Some journal) ×
        (get_or assembly.journals actor journal ≡ journal)) ⊎ ((length assembly.journals ≤ actor) × (slice_get assembly.journals actor ≡ None)) →
        journal_of actor assembly ≡ []
    by_place (inl found) = absurd (omega (arith, found.1, past))
    by_place (inr beyond) = ap (λ there. unwrap_or there []) beyond.1

-- the outside actor receives nothing, and so gives nothing
module _ {T : Type 0} (terms : Terms) (outside : terms.cores ≤ terms.actor) (sender : ℕ) where
  note_gives_nothing : (note : Note T) → IsSpelledNote terms note → outcome_given sender note ≡ None
  note_gives_nothing (Done name time value) received = absurd (omega (arith, received.0.receiver, received.1, outside))
  note_gives_nothing (Back name reason) received = absurd (omega (arith, received.0.0.receiver, received.0.1, outside))
  note_gives_nothing (Returned name reason) received = absurd (omega (arith, received.0.0.receiver, received.0.1, outside))
  note_gives_nothing (Answered name answer) received = absurd (omega (arith, received.0.0.receiver, received.0.1, outside))
  note_gives_nothing _ spelled = refl

  pub outside_gives_nothing : (journal : Journal T) → AreSpelledNotes terms journal → given_outcomes sender journal ≡ []
  outside_gives_nothing [] spelled = refl
  outside_gives_nothing (note ∷ before) spelled = rw (outside_gives_nothing before spelled.1, note_gives_nothing note spelled.0)

-- of spelled journals only a core gives outcomes
pub only_cores_give : {T : Type 0} (name : JobId) (assembly : Assembly T) → IsSpelled assembly → assembly.cores ≤ name.to → outcome_of name assembly ≡ None
only_cores_give {T} name assembly spelled no_core = by_receiver (cases_lt assembly.cores name.to)
  where
    by_receiver : (assembly.cores < name.to) ⊎ (name.to ≤ assembly.cores) → outcome_of name assembly ≡ None
    by_receiver (inl beyond) =
        ap (λ (journal : Journal T). first_under name (given_outcomes name.from journal)) (no_journal assembly name.to (omega (arith, spelled.journals)))
    by_receiver (inr within) =
        ap (first_under name) (outside_gives_nothing (terms_of name.to assembly) no_core name.from (journal_of name.to assembly) (spelled.notes name.to within))

module _ {T : Type 0} (name : JobId) where
  -- where nothing was given, one more note gives what it gives alone
  given_next : (note : Note T) (before : Journal T) → first_under name (given_outcomes name.from before) ≡ None →
      first_under name (given_outcomes name.from (note ∷ before)) ≡ first_under name (given_outcomes name.from (note ∷ []))
  given_next note before none = by_told (outcome_given name.from note)
    where
      by_told : (told : Option (JobId × OutcomeNote T)) →
          first_under name (with_last (given_outcomes name.from before) told) ≡ first_under name (with_last [] told)
      by_told None = none
      by_told (Some entry) = first_under-last name (given_outcomes name.from before) entry none

  -- what was given first stays first
  given_stays : (later before : Journal T) (outcome : OutcomeNote T) → first_under name (given_outcomes name.from before) ≡ Some outcome →
      first_under name (given_outcomes name.from (later ++ before)) ≡ Some outcome
  given_stays [] before outcome found = found
  given_stays (note ∷ later) before outcome found =
      first_under-stays name (given_outcomes name.from (later ++ before)) (outcome_given name.from note) outcome (given_stays later before outcome found)

  read_next : (notes : List (Note T)) (place : ℕ) (note : Note T) → place < length notes → note ≡ get_or notes place note →
      reverse (take (place + 1) notes) ≡ note ∷ reverse (take place notes)
  read_next notes place note within is =
      ap reverse (take_more notes place note within ∙ ap (λ one. take place notes ++ one ∷ []) (sym is)) ∙ reverse-append (take place notes) (note ∷ [])

  -- the notes up to one more give what that one gives alone, if those before it gave nothing
  pub first_next : (notes : List (Note T)) (place : ℕ) (note : Note T) → place < length notes → note ≡ get_or notes place note →
      first_under name (given_outcomes name.from (reverse (take place notes))) ≡ None →
      first_under name (given_outcomes name.from (reverse (take (place + 1) notes))) ≡ first_under name (given_outcomes name.from (note ∷ []))
  first_next notes place note within is none =
      ap (λ journal. first_under name (given_outcomes name.from journal)) (read_next notes place note within is) ∙ given_next note (reverse (take place notes)) none

  -- what the first notes give, the whole journal gives
  pub first_of_all : (notes : List (Note T)) (journal : Journal T) (count : ℕ) (outcome : OutcomeNote T) → notes ≡ reverse journal →
      first_under name (given_outcomes name.from (reverse (take count notes))) ≡ Some outcome → first_under name (given_outcomes name.from journal) ≡ Some outcome
  first_of_all notes journal count outcome same found =
      let parts : reverse (drop count notes) ++ reverse (take count notes) ≡ journal =
      sym (reverse-append (take count notes) (drop count notes)) ∙ ap reverse (take-append-drop count notes) ∙ ap reverse same ∙ reverse-reverse journal in
      subst (λ all. first_under name (given_outcomes name.from all) ≡ Some outcome) parts (given_stays (reverse (drop count notes)) (reverse (take count notes)) outcome found)
