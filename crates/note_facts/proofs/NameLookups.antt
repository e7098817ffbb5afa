-- Two names have the same parts where the test takes them for one.
use Rattle.std.proofs.Common.{◌≡◌, ℕ, ◌⊎◌, inl, inr, ◌∙◌, sym}
use Rattle.std.specs.Prelude.{◌==◌}
use Rattle.std.specs.Cmp.{unsigned_ties, both_tied}
use Rattle.std.specs.Ordering.{is_eq}
use Rattle.std.proofs.lemmas.Bool.{cases_eq, eq-eqb, ne_eqb}
use Rattle.base_words.specs.declared.names.JobId.{JobId}
use Rattle.base_words.specs.Names.{same_name}
use Rattle.note_facts.specs.Names.{parts_order}

pub same_number : (x y : ℕ) → (x == y) ≡ (y == x)
same_number x y = by_cases (cases_eq x y)
  where
    by_cases : (x ≡ y) ⊎ (x ≡ y → ⊥) → (x == y) ≡ (y == x)
    by_cases (inl same) = eq-eqb x y same ∙ sym (eq-eqb y x (sym same))
    by_cases (inr apart) = ne_eqb x y apart ∙ sym (ne_eqb y x (λ same. apart (sym same)))

pub same_name_sym : (a b : JobId) → same_name a b ≡ same_name b a
same_name_sym a b = rw (same_number a.from b.from, same_number a.to b.to, same_number a.number b.number)

pub same_parts : (a b : JobId) → is_eq (parts_order (a.from, a.to, a.number) (b.from, b.to, b.number)) ≡ same_name b a
same_parts a b =
    sym
    (both_tied _ _ _ _ (both_tied _ _ _ _ (unsigned_ties a.from b.from) (unsigned_ties a.to b.to)) (unsigned_ties a.number b.number)) ∙
    same_name_sym a b
