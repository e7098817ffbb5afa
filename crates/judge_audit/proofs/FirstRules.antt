-- No two rules are the first that is broken.
use Rattle.judge_audit.proofs.Names.{arith, Assembly, BreaksRule, cases_eq, cases_lt, inl, inr, IsFirstBroken, KeepsRulesBefore, ℕ, ◌<◌, ◌≡◌, ◌≤◌, ◌⊎◌}

module _ (assembly : Assembly ℕ) where
  -- a rule that is broken isn't kept
  not_kept : (one other : ℕ) → 1 ≤ one → one < other → other ≤ 6 → KeepsRulesBefore assembly other → BreaksRule assembly one → ⊥
  not_kept one other some less few keeps breaks = by_starts (cases_eq one 1)
    where
      by_picks : (one ≡ 1 → ⊥) → (one ≡ 2 → ⊥) → (one ≡ 3 → ⊥) → (one ≡ 4 → ⊥) → (one ≡ 5) ⊎ (one ≡ 5 → ⊥) → ⊥
      by_picks n1 n2 n3 n4 (inl is) = breaks.picks is (keeps.picks (omega arith))
      by_picks n1 n2 n3 n4 (inr n5) = absurd (omega arith)

      by_outcomes : (one ≡ 1 → ⊥) → (one ≡ 2 → ⊥) → (one ≡ 3 → ⊥) → (one ≡ 4) ⊎ (one ≡ 4 → ⊥) → ⊥
      by_outcomes n1 n2 n3 (inl is) = breaks.outcomes is (keeps.outcomes (omega arith))
      by_outcomes n1 n2 n3 (inr n4) = by_picks n1 n2 n3 n4 (cases_eq one 5)

      by_closes : (one ≡ 1 → ⊥) → (one ≡ 2 → ⊥) → (one ≡ 3) ⊎ (one ≡ 3 → ⊥) → ⊥
      by_closes n1 n2 (inl is) = breaks.closes is (keeps.closes (omega arith))
      by_closes n1 n2 (inr n3) = by_outcomes n1 n2 n3 (cases_eq one 4)

      by_order : (one ≡ 1 → ⊥) → (one ≡ 2) ⊎ (one ≡ 2 → ⊥) → ⊥
      by_order n1 (inl is) = breaks.order is (keeps.order (omega arith))
      by_order n1 (inr n2) = by_closes n1 n2 (cases_eq one 3)

      by_starts : (one ≡ 1) ⊎ (one ≡ 1 → ⊥) → ⊥
      by_starts (inl is) = breaks.starts is (keeps.starts (omega arith))
      by_starts (inr n1) = by_order n1 (cases_eq one 2)

  pub one_first : (one other : ℕ) → IsFirstBroken assembly one → IsFirstBroken assembly other → one ≡ other
  one_first one other first second = by_order (cases_lt one other) (cases_lt other one)
    where
      by_order : (one < other) ⊎ (other ≤ one) → (other < one) ⊎ (one ≤ other) → one ≡ other
      by_order (inl less) _ = absurd (not_kept one other first.some less second.few second.before first.here)
      by_order (inr more) (inl less) = absurd (not_kept other one second.some less first.few first.before second.here)
      by_order (inr more) (inr less) = omega arith
