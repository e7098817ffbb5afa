-- Which rules are kept before the one that is named.
use Rattle.judge_audit.proofs.Names.{arith, Assembly, ClosesAreSound, IsSound, KeepsRulesBefore, OrderIsSound, OutcomesAreSound, StartsAreSound, ℕ, ◌≡◌}

module _ (assembly : Assembly ℕ) (rule : ℕ) where
  -- no rule stands before the first
  pub none_before : rule ≡ 1 → KeepsRulesBefore assembly rule
  none_before is = record {
    starts = λ more. absurd (omega (arith, is, more));
    order = λ more. absurd (omega (arith, is, more));
    closes = λ more. absurd (omega (arith, is, more));
    outcomes = λ more. absurd (omega (arith, is, more));
    picks = λ more. absurd (omega (arith, is, more));
  }

  pub one_before : rule ≡ 2 → StartsAreSound assembly → KeepsRulesBefore assembly rule
  one_before is starts = record {
    starts = λ more. starts;
    order = λ more. absurd (omega (arith, is, more));
    closes = λ more. absurd (omega (arith, is, more));
    outcomes = λ more. absurd (omega (arith, is, more));
    picks = λ more. absurd (omega (arith, is, more));
  }

  pub two_before : rule ≡ 3 → StartsAreSound assembly → OrderIsSound assembly → KeepsRulesBefore assembly rule
  two_before is starts order = record {
    starts = λ more. starts;
    order = λ more. order;
    closes = λ more. absurd (omega (arith, is, more));
    outcomes = λ more. absurd (omega (arith, is, more));
    picks = λ more. absurd (omega (arith, is, more));
  }

  pub three_before : rule ≡ 4 → StartsAreSound assembly → OrderIsSound assembly → ClosesAreSound assembly → KeepsRulesBefore assembly rule
  three_before is starts order closes = record {
    starts = λ more. starts;
    order = λ more. order;
    closes = λ more. closes;
    outcomes = λ more. absurd (omega (arith, is, more));
    picks = λ more. absurd (omega (arith, is, more));
  }

  pub four_before : rule ≡ 5 → StartsAreSound assembly → OrderIsSound assembly → ClosesAreSound assembly → OutcomesAreSound assembly →
      KeepsRulesBefore assembly rule
  four_before is starts order closes outcomes = record {
    starts = λ more. starts;
    order = λ more. order;
    closes = λ more. closes;
    outcomes = λ more. outcomes;
    picks = λ more. absurd (omega (arith, is, more));
  }

-- if all rules are kept, so are those before any rule
pub all_before : (assembly : Assembly ℕ) (rule : ℕ) → IsSound assembly → KeepsRulesBefore assembly rule
all_before assembly rule sound = record {
  starts = λ more. sound.starts;
  order = λ more. sound.order;
  closes = λ more. sound.closes;
  outcomes = λ more. sound.outcomes;
  picks = λ more. sound.picks;
}
