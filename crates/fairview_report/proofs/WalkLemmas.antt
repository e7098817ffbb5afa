-- What is told of journals, one after another.
use Rattle.std.proofs.Common.{◌≡◌, ℕ, zero, suc, ◌<◌, List, [], ◌∷◌, ◌++◌, length, get_or, refl, sym, ap, subst, arith}
use Rattle.std.proofs.lemmas.Option.{unwrap_or-slice_get}
use Rattle.base_words.specs.Assembly.{Assembly, journal_of}
use Rattle.base_words.specs.Journal.{Journal}
use Rattle.fairview_report.specs.Walks.{AreTold, TellsAll}

module _ {W : Type 0} (tells : W → ℕ → Journal ℕ → Type 0) (burst : ℕ) where
  -- one journal more
  pub told_more : (each : List W) (journals : List (Journal ℕ)) (one : W) (journal : Journal ℕ) → AreTold tells burst each journals → tells one burst journal →
      AreTold tells burst (each ++ one ∷ []) (journals ++ journal ∷ [])
  told_more [] [] one journal told last = (last, tt)
  told_more (first ∷ each) (other ∷ journals) one journal told last = (told.0, told_more each journals one journal told.1 last)
  told_more [] (other ∷ journals) one journal told last = elim told [ ]
  told_more (first ∷ each) [] one journal told last = elim told [ ]

  -- each is of a journal
  pub told_count : (each : List W) (journals : List (Journal ℕ)) → AreTold tells burst each journals → length each ≡ length journals
  told_count [] [] told = refl
  told_count (first ∷ each) (other ∷ journals) told = ap suc (told_count each journals told.1)
  told_count [] (other ∷ journals) told = elim told [ ]
  told_count (first ∷ each) [] told = elim told [ ]

  -- what is told of the journal at a place
  pub told_at : (each : List W) (journals : List (Journal ℕ)) (place : ℕ) (one : W) → AreTold tells burst each journals → place < length each → one ≡ get_or each place one →
      tells one burst (get_or journals place [])
  told_at (first ∷ each) (journal ∷ journals) zero one told within is = subst (λ it. tells it burst journal) (sym is) told.0
  told_at (first ∷ each) (journal ∷ journals) (suc place) one told within is = told_at each journals place one told.1 (omega arith) is
  told_at [] journals place one told within is = absurd (omega arith)
  told_at (first ∷ each) [] place one told within is = elim told [ ]

-- before the first actor nothing is told, however many polls a turn may have
pub told_none : {W : Type 0} (tells : W → ℕ → Journal ℕ → Type 0) (one other : ℕ) (each : List W) → AreTold tells one each [] → AreTold tells other each []
told_none tells one other [] told = tt
told_none tells one other (first ∷ each) told = elim told [ ]

-- what is told of a core
pub tells_at : {W : Type 0} (tells : W → ℕ → Journal ℕ → Type 0) (cores burst : ℕ) (each : List W) (assembly : Assembly ℕ) (place : ℕ) (one : W) →
    TellsAll tells cores burst each assembly → place < length each → one ≡ get_or each place one → tells one assembly.burst (journal_of place assembly)
tells_at tells cores burst each assembly place one all within is =
    subst (λ (journal : Journal ℕ). tells one assembly.burst journal) (sym (unwrap_or-slice_get assembly.journals place []))
    (subst (λ many. tells one many (get_or assembly.journals place [])) all.same_burst (told_at tells burst each assembly.journals place one all.told within is))
