-- Verdicts and reports that no audit and no run writes, each refused by the definition that judges it.
use Rattle.std.specs.Prelude.{ℕ, Bool, [], ◌∷◌, Some, None}
use Rattle.std.proofs.Common.{arith}
use Rattle.base_words.specs.Assembly.{Assembly}
use Rattle.base_words.specs.Sound.{StartsAreSound}
use Rattle.judge_audit.specs.Verdicts.{IsFirstBroken, KeepsRulesBefore}
use Rattle.fairexec_report.specs.Audits as audit
use Rattle.fairexec_report.specs.Writing as report

-- rule 2 is the first that is broken, or is told, of journals whose starts break rule 1, and no rule has the number 0
module _ (assembly : Assembly ℕ) where
  pub second_before_first : (StartsAreSound assembly → ⊥) → KeepsRulesBefore assembly 2 → ⊥
  second_before_first unsound keeps = unsound (keeps.starts (omega arith))

  pub rule_of_no_number : IsFirstBroken assembly 0 → ⊥
  rule_of_no_number is = absurd (omega (arith, is.some))

  -- a report loses a byte of its sink, whole and cut short
  pub byte_lost_by_a_report : (journal stats answer : Bool) → report.IsTold journal stats assembly (Some (7 ∷ [])) (Some []) answer → ⊥
  byte_lost_by_a_report journal stats answer told = cc told.appends

  pub byte_lost_by_a_part : (journal stats : Bool) → report.IsCutShort journal stats assembly (Some (7 ∷ [])) (Some []) → ⊥
  byte_lost_by_a_part journal stats cut = cc cut.appends.appends

-- so does the line of a verdict
pub byte_lost_by_a_verdict : (answer : Bool) → audit.IsAudited None (Some (7 ∷ [])) (Some []) answer → ⊥
byte_lost_by_a_verdict answer audited = cc audited.appends

pub byte_lost_by_part_of_a_verdict : audit.IsCutShort None (Some (7 ∷ [])) (Some []) → ⊥
byte_lost_by_part_of_a_verdict cut = cc cut.appends.appends
