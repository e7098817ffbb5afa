-- No outcome is given twice in sound journals.
use Rattle.judge_fronts.proofs.Names.{among, ap, Assembly, Bool, cond, EachNote, false, false_from_ne_true, inl, inr, is_name, is_told, IsAcceptedCommand, IsAcceptedJob, JobId, Journal, List, list_told, name_answered}
use Rattle.judge_fronts.proofs.Names.{name_ended, None, Note, one_name, or_left, or_parts, or_right, OutcomesRight, refl, same_as_itself, same_name, Some, subst, sym, true, true≢false, with_last}
use Rattle.judge_fronts.proofs.Names.{ℕ, [], ◌++◌, ◌==◌, ◌∙◌, ◌∷◌, ◌≡◌, ◌⊎◌, ◌||◌}
use Rattle.base_words.proofs.Ended.{ended_job, answered_command, not_both}
use Rattle.base_words.proofs.NameLemmas.{among-with_last}
use Rattle.judge_audit.specs.Sides.{name_given}
use Rattle.base_words.specs.declared.note.Note.TheVariants.{Back, Answered, Done, Returned}

-- none of them stands there twice
abbrev pub AreApart : List JobId → Type 0
AreApart [] = Unit {0}
AreApart (name ∷ names) = (among name names ≡ false) × AreApart names

-- a name that is told before another
pub apart_at : (front : List JobId) (name : JobId) (rest : List JobId) → AreApart (front ++ name ∷ rest) → among name front ≡ true → ⊥
apart_at [] name rest are there = true≢false (sym there)
apart_at (first ∷ front) name rest are there = by_test (same_name name first) refl there (apart_at front name rest are.1)
  where
    behind : (front : List JobId) → among name (front ++ name ∷ rest) ≡ true
    behind [] = or_left (same_name name name) (among name rest) (same_as_itself name)
    behind (other ∷ front) = or_right (same_name name other) (among name (front ++ name ∷ rest)) (behind front)

    by_test : (test : Bool) → same_name name first ≡ test → (test || among name front) ≡ true → (among name front ≡ true → ⊥) → ⊥
    by_test false same there rest_apart = rest_apart there
    by_test true same there rest_apart =
        let one : name ≡ first = one_name name first same in
        true≢false (sym (behind front) ∙ subst (λ (other : JobId). among other (front ++ name ∷ rest) ≡ false) (sym one) are.0)

apart_more : (names : List JobId) (name : JobId) → AreApart names → among name names ≡ false → AreApart (names ++ name ∷ [])
apart_more [] name are new = (refl, tt)
apart_more (first ∷ names) name are new = (false_from_ne_true (among first (names ++ name ∷ [])) apart, apart_more names name are.1 parts.1)
  where
    parts : (same_name name first ≡ false) × (among name names ≡ false)
    parts = or_parts (same_name name first) (among name names) new

    apart : among first (names ++ name ∷ []) ≡ true → ⊥
    apart there =
        elim (among-with_last first names (Some name) there) [
          | inl was ↦ true≢false (sym was ∙ are.0)
          | inr now ↦
              let one : name ≡ first = cc in
              true≢false (sym (ap (same_name name) (sym one) ∙ same_as_itself name) ∙ parts.0)
        ]

module _ (assembly : Assembly ℕ) (sender : ℕ) where
  -- one that is given has ended, or was answered
  given_told : (name : JobId) (journal : Journal ℕ) → among name (list_told (name_given sender) journal) ≡ true →
      (is_told name_ended name journal ≡ true) ⊎ (is_told name_answered name journal ≡ true)
  given_told name [] there = absurd (true≢false (sym there))
  given_told name (note ∷ before) there =
      elim (among-with_last name (list_told (name_given sender) before) (name_given sender note) there) [
        | inl was ↦
            elim (given_told name before was) [
              | inl ended ↦ inl (or_right (is_name name (name_ended note)) (is_told name_ended name before) ended)
              | inr answered ↦ inr (or_right (is_name name (name_answered note)) (is_told name_answered name before) answered)
            ]
        | inr now ↦ by_note note now
      ]
    where
      same : (other : JobId) (test : Bool) → cond test (Some other) None ≡ Some name → same_name name other ≡ true
      same other false is = cc
      same other true is = let one : other ≡ name = cc in rw (one, same_as_itself name)

      by_note : (note : Note ℕ) → name_given sender note ≡ Some name → (is_told name_ended name (note ∷ before) ≡ true) ⊎ (is_told name_answered name (note ∷ before) ≡ true)
      by_note (Done other time value) now = inl (or_left (same_name name other) (is_told name_ended name before) (same other (other.from == sender) now))
      by_note (Back other reason) now = inl (or_left (same_name name other) (is_told name_ended name before) (same other (other.from == sender) now))
      by_note (Returned other reason) now = inl (or_left (same_name name other) (is_told name_ended name before) (same other (other.from == sender) now))
      by_note (Answered other answer) now = inr (or_left (same_name name other) (is_told name_answered name before) (same other (other.from == sender) now))
      by_note _ now = cc

  -- so none is given twice, where outcomes are right
  pub given_apart : (journal : Journal ℕ) → EachNote (OutcomesRight assembly) journal → AreApart (list_told (name_given sender) journal)
  given_apart [] right = tt
  given_apart (note ∷ before) right = by_note note right.0 (given_apart before right.1)
    where
      job_new : (name : JobId) → IsAcceptedJob name assembly → is_told name_ended name before ≡ false → among name (list_told (name_given sender) before) ≡ true → ⊥
      job_new name job new there =
          elim (given_told name before there) [
            | inl ended ↦ true≢false (sym ended ∙ new)
            | inr answered ↦ not_both assembly name job (answered_command assembly name before right.1 answered)
          ]

      command_new : (name : JobId) → IsAcceptedCommand name assembly → is_told name_answered name before ≡ false →
          among name (list_told (name_given sender) before) ≡ true → ⊥
      command_new name command new there =
          elim (given_told name before there) [
            | inl ended ↦ not_both assembly name (ended_job assembly name before right.1 ended) command
            | inr answered ↦ true≢false (sym answered ∙ new)
          ]

      one_more : (name : JobId) → (among name (list_told (name_given sender) before) ≡ true → ⊥) → AreApart (list_told (name_given sender) before) → (test : Bool) →
          AreApart (with_last (list_told (name_given sender) before) (cond test (Some name) None))
      one_more name new are false = are
      one_more name new are true = apart_more (list_told (name_given sender) before) name are (false_from_ne_true _ new)

      by_note : (note : Note ℕ) → OutcomesRight assembly note before → AreApart (list_told (name_given sender) before) →
          AreApart (with_last (list_told (name_given sender) before) (name_given sender note))
      by_note (Done name time value) law are = one_more name (job_new name law.0 law.1) are (name.from == sender)
      by_note (Back name reason) law are = one_more name (job_new name law.0 law.1) are (name.from == sender)
      by_note (Returned name reason) law are = one_more name (job_new name law.0 law.1) are (name.from == sender)
      by_note (Answered name answer) law are = one_more name (command_new name law.0 law.1) are (name.from == sender)
      by_note _ law are = are
