-- Cores and rows of links that were just opened, one after another.
use Rattle.model_world.proofs.LinkWords.{RecordedView, opened_beside, ◌≡◌, ℕ, ◌+◌, ◌<◌, List, [], ◌∷◌, ◌++◌, length, sym, subst, ⊎_elim, arith, get_or}
use Rattle.model_world.proofs.LinkWords.{cases_lt, length_push, get_or_push, get_or_append_left, Whole, row_of, IsFreshRow}

-- what is so of each item, by its place, and of one more is so of each
each-push : {A : Type 0} (Holds : ℕ → A → Type 0) (items : List A) (item : A) (default : ℕ → A) (count : ℕ) → length items ≡ count →
    ((place : ℕ) → place < count → Holds place (get_or items place (default place))) → Holds count item →
    (place : ℕ) → place < count + 1 → Holds place (get_or (items ++ item ∷ []) place (default place))
each-push Holds items item default count counted each last place below =
    ⊎_elim
    (λ less. subst (Holds place) (sym (get_or_append_left items (item ∷ []) (default place) place (omega (arith, less, counted)))) (each place less))
    (λ past.
    let here : place ≡ count = omega (arith, past, below) in
    subst (Holds place) (sym (get_or_push items item (default place) place (omega (arith, here, counted)))) (subst (λ at. Holds at item) (sym here) last))
    (cases_lt place count)

module _ {J T : Type 0} where
  -- the first cores of those that are to be opened
  pub record AreFirstOpened (count cores cap room burst : ℕ) (inside : List (RecordedView J T)) : Type 0 where
    pub cores_are : length inside ≡ count
    pub each_opened : (core : ℕ) → core < count → get_or inside core (opened_beside 0 0 0 0 0) ≡ opened_beside core cores cap room burst

  pub AreFirstOpened-push : (count cores cap room burst : ℕ) (inside : List (RecordedView J T)) (core : RecordedView J T) → AreFirstOpened count cores cap room burst inside →
      core ≡ opened_beside count cores cap room burst → AreFirstOpened (count + 1) cores cap room burst (inside ++ core ∷ [])
  AreFirstOpened-push count cores cap room burst inside core first is = record {
    cores_are = omega (arith, length_push inside core, first.cores_are);
    each_opened = each-push (λ place view. view ≡ opened_beside place cores cap room burst) inside core (λ place. opened_beside 0 0 0 0 0) count first.cores_are first.each_opened is;
  }

  -- a row of just opened links for each of the first senders
  pub record AreFreshRows (senders cores cap : ℕ) (links : List (List (Whole J T))) : Type 0 where
    pub rows_are : length links ≡ senders
    pub each_row : (s : ℕ) → s < senders → IsFreshRow s cores cap (row_of s links)

  pub AreFreshRows-push : (senders cores cap : ℕ) (links : List (List (Whole J T))) (row : List (Whole J T)) → AreFreshRows senders cores cap links → IsFreshRow senders cores cap row →
      AreFreshRows (senders + 1) cores cap (links ++ row ∷ [])
  AreFreshRows-push senders cores cap links row h fresh_row = record {
    rows_are = omega (arith, length_push links row, h.rows_are);
    each_row = each-push (λ sender row. IsFreshRow sender cores cap row) links row (λ sender. []) senders h.rows_are h.each_row fresh_row;
  }
