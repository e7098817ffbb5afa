-- The columns of a panel after one more lag.
use Rattle.std.proofs.Common.{◌≡◌, ℕ, zero, suc, ◌<◌, [], ◌∷◌, ◌++◌, Bool, true, false, List, length, refl, sym, ap, ◌∙◌, cond, get_or, set, ◌⊎◌, inl, inr, get_or-set_other, get_or-set_same}
use Rattle.std.specs.Prelude.{◌==◌, Option, Some, None}
use Rattle.std.proofs.lemmas.Bool.{cases_eq, eqb-true, eqb-false}
use Rattle.base_words.specs.declared.note.Note.{Note}
use Rattle.base_words.specs.Journal.{Journal}
use Rattle.judge_view.proofs.WatchSteps.{any_default}
use Rattle.fairview_lag.specs.Columns.{cell, with_lag, column_after, AreAfter, AreColumns}
use Rattle.fairview_lag.specs.Lags.{lag_told}
use Rattle.fairview_lag.specs.declared.columns.Column.{Column}
use Rattle.fairview_lag.specs.declared.columns.Panel.{Panel}
use Rattle.fairview_lag.specs.declared.stretch.Lag.{Lag}

if_here : {A : Type 0} (test : Bool) (number at : ℕ) (new old : A) → (number == at) ≡ test → number ≡ at → new ≡ cond test new old
if_here true number at new old is same = refl
if_here false number at new old is same = absurd (eqb-false number at is same)

if_other : {A : Type 0} (test : Bool) (number at : ℕ) (new old : A) → (number == at) ≡ test → (number ≡ at → ⊥) → old ≡ cond test new old
if_other true number at new old is apart = absurd (apart (eqb-true number at is))
if_other false number at new old is apart = refl

module _ (panel : Panel) (lag : Lag) (old : List (Option Column)) (at : ℕ) (there : Column) (within : at < length old)
    (placed : at ≡ cell panel lag.turn) (is : there ≡ with_lag (get_or old at None) lag) where
  marked_by : (number : ℕ) → (number ≡ at) ⊎ (number ≡ at → ⊥) → get_or (set old at (Some there)) number None ≡ column_after panel number (get_or old number None) (Some lag)
  marked_by number (inl same) =
      ap (λ (place : ℕ). get_or (set old at (Some there)) place None) same
      ∙ (get_or-set_same old at (Some there) None within
      ∙ (ap Some (is ∙ ap (λ (place : ℕ). with_lag (get_or old place None) lag) (sym same))
      ∙ if_here (number == cell panel lag.turn) number (cell panel lag.turn) (Some (with_lag (get_or old number None) lag)) (get_or old number None) refl (same ∙ placed)))
  marked_by number (inr apart) =
      get_or-set_other old at number (Some there) None apart
      ∙ if_other (number == cell panel lag.turn) number (cell panel lag.turn) (Some (with_lag (get_or old number None) lag)) (get_or old number None) refl
      (λ same. apart (same ∙ sym placed))

  -- the column of the lag's turn has it
  pub marked : AreAfter panel (Some lag) old (set old at (Some there))
  marked = λ number. marked_by number (cases_eq number at)

-- the same where the column is read with any default
pub marked_any : (panel : Panel) (lag : Lag) (old : List (Option Column)) (at : ℕ) (there : Column) (default : Option Column) → at < length old → at ≡ cell panel lag.turn →
    there ≡ with_lag (get_or old at default) lag → AreAfter panel (Some lag) old (set old at (Some there))
marked_any panel lag old at there default within placed is =
    marked panel lag old at there within placed (is ∙ ap (λ it. with_lag it lag) (any_default old at default None within))

-- the columns after one more note
pub columns_next : (panel : Panel) (old new : List (Option Column)) (note : Note ℕ) (before : Journal ℕ) (told : Option Lag) →
    told ≡ lag_told panel.burst panel.first panel.second note before → AreAfter panel told old new → AreColumns panel old before → AreColumns panel new (note ∷ before)
columns_next panel old new note before told is after so_far = λ number. after number ∙ (λ i. column_after panel number (so_far number i) (is i))

-- one column more without a lag
pub none_pushed : (columns : List (Option Column)) → ((number : ℕ) → get_or columns number None ≡ None) → (number : ℕ) → get_or (columns ++ None ∷ []) number None ≡ None
none_pushed [] none zero = refl
none_pushed [] none (suc number) = refl
none_pushed (first ∷ columns) none zero = none 0
none_pushed (first ∷ columns) none (suc number) = none_pushed columns (λ place. none (suc place)) number
