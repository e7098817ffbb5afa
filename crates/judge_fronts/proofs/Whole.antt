-- What holds of the whole and of its front.
use Rattle.judge_fronts.proofs.Names.{AreSpelledNotes, at_place, IsSpelledNote, terms_of, ◌∷◌, accepted_orders, arith, Assembly, cases_lt, Continues, each_before, EachNote, first_under, given_outcomes, HasOrder, HasOutcome, inl, inr, is_some, IsPrefix, IsSpelled, JobId, Journal}
use Rattle.judge_fronts.proofs.Names.{ap, journal_of, list_told, no_journal, Note, Option, order_of, order_sent, outcome_given, outcome_of, subst, sym, true, true≢false, ℕ, [], ◌∙◌, ◌<◌, ◌≡◌, ◌≤◌, ◌⊎◌}
use Rattle.judge_fronts.proofs.Beginnings.{told_first}
use Rattle.judge_fronts.proofs.Later.{each_of_front, same_first}

-- who told anything has a journal
pub has_journal : (front : Assembly ℕ) → IsSpelled front → (Told : Journal ℕ → Type 0) → (Told [] → ⊥) → (actor : ℕ) → Told (journal_of actor front) → actor ≤ front.cores
has_journal front spelled Told nothing actor told = by_order (cases_lt front.cores actor)
  where
    by_order : (front.cores < actor) ⊎ (actor ≤ front.cores) → actor ≤ front.cores
    by_order (inl past) = absurd (nothing (subst Told (no_journal front actor (omega (arith, spelled.journals, past))) told))
    by_order (inr within) = within

-- the note of a line is spelled
pub spelled_at : (front : Assembly ℕ) → IsSpelled front → (actor line : ℕ) → actor ≤ front.cores → (note : Note ℕ) (before : Journal ℕ) →
    at_place line (journal_of actor front) ≡ note ∷ before → IsSpelledNote (terms_of actor front) note
spelled_at front spelled actor line within note before there =
    let each = each_before (λ note before. IsSpelledNote (terms_of actor front) note) line (journal_of actor front) (spelled.notes actor within) in
    (subst (λ (at : Journal ℕ). AreSpelledNotes (terms_of actor front) at) there each).0

module _ (front whole : Assembly ℕ) (continues : Continues front whole) where
  -- what holds of each note of an actor in the whole holds of each in the front
  pub each_front : (P : Note ℕ → Journal ℕ → Type 0) (actor : ℕ) → actor ≤ front.cores → EachNote P (journal_of actor whole) → EachNote P (journal_of actor front)
  each_front P actor within each =
      let more = continues.goes_on actor within in
      each_of_front P more.0 (journal_of actor front) (subst (λ (journal : Journal ℕ). EachNote P journal) more.1 each)

  -- so at a line of the front
  pub at_line : (P : Note ℕ → Journal ℕ → Type 0) (actor line : ℕ) → actor ≤ front.cores → (note : Note ℕ) (before : Journal ℕ) →
      at_place line (journal_of actor front) ≡ note ∷ before → EachNote P (journal_of actor whole) → P note before
  at_line P actor line within note before there each =
      let each_there = each_before P line (journal_of actor front) (each_front P actor within each) in
      (subst (λ (at : Journal ℕ). EachNote P at) there each_there).0

  -- what an actor told in the front is the beginning of what it told in the whole
  pub told_grows : {A : Type 0} (says : Note ℕ → Option A) (actor : ℕ) → actor ≤ front.cores →
      IsPrefix (list_told says (journal_of actor front)) (list_told says (journal_of actor whole))
  told_grows says actor within =
      let more = continues.goes_on actor within in
      subst (λ (all : Journal ℕ). IsPrefix (list_told says (journal_of actor front)) (list_told says all)) (sym more.1)
      (told_first says more.0 (journal_of actor front))

  module _ (spelled : IsSpelled front) where
    -- an order that is told is that of the whole
    pub same_order : (name : JobId) → HasOrder name front → order_of name whole ≡ order_of name front
    same_order name has =
        let within = has_journal front spelled (λ journal. is_some (first_under name (accepted_orders name.to journal)) ≡ true) (λ there. true≢false (sym there)) name.from has in
        let more = continues.goes_on name.from within in
        ap (λ journal. first_under name (accepted_orders name.to journal)) more.1 ∙ same_first (order_sent name.to) name more.0 (journal_of name.from front) has

    -- and so is an outcome
    pub same_outcome : (name : JobId) → HasOutcome name front → outcome_of name whole ≡ outcome_of name front
    same_outcome name has =
        let within = has_journal front spelled (λ journal. is_some (first_under name (given_outcomes name.from journal)) ≡ true) (λ there. true≢false (sym there)) name.to has in
        let more = continues.goes_on name.to within in
        ap (λ journal. first_under name (given_outcomes name.from journal)) more.1 ∙ same_first (outcome_given name.from) name more.0 (journal_of name.to front) has
