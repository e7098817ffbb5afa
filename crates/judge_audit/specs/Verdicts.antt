-- What a verdict says of the rules.
use Rattle.std.specs.Prelude.{◌≡◌, ℕ, ◌<◌, ◌≤◌}
use Rattle.base_words.specs.Assembly.{Assembly}
use Rattle.base_words.specs.Sound.{IsSound, StartsAreSound, OrderIsSound, ClosesAreSound, OutcomesAreSound, PicksAreSound}
use Rattle.judge_audit.specs.declared.judge.Verdict.{Verdict}
use Rattle.judge_audit.specs.declared.judge.Verdict.TheVariants.{Sound, Fault}
use Rattle.judge_audit.specs.Faults.{IsPlaceOf}

-- the rule that is broken, or the number behind the last rule if none is
abbrev pub rule_named : Verdict → ℕ
rule_named Sound = 6
rule_named (Fault actor line rule) = rule

-- the rules before this one are kept
pub record KeepsRulesBefore (assembly : Assembly ℕ) (rule : ℕ) : Type 0 where
  pub starts : 1 < rule → StartsAreSound assembly
  pub order : 2 < rule → OrderIsSound assembly
  pub closes : 3 < rule → ClosesAreSound assembly
  pub outcomes : 4 < rule → OutcomesAreSound assembly
  pub picks : 5 < rule → PicksAreSound assembly

-- the rule of this number is broken
pub record BreaksRule (assembly : Assembly ℕ) (rule : ℕ) : Type 0 where
  pub starts : rule ≡ 1 → StartsAreSound assembly → ⊥
  pub order : rule ≡ 2 → OrderIsSound assembly → ⊥
  pub closes : rule ≡ 3 → ClosesAreSound assembly → ⊥
  pub outcomes : rule ≡ 4 → OutcomesAreSound assembly → ⊥
  pub picks : rule ≡ 5 → PicksAreSound assembly → ⊥

-- the rule of this number, and none before it, is broken; the number behind the last rule says that none is
pub record IsFirstBroken (assembly : Assembly ℕ) (rule : ℕ) : Type 0 where
  pub some : 1 ≤ rule
  pub few : rule ≤ 6
  pub before : KeepsRulesBefore assembly rule
  pub here : BreaksRule assembly rule

-- no two rules are the first that is broken
abbrev pub OneRuleIsFirst : Type 0
OneRuleIsFirst = (assembly : Assembly ℕ) (one other : ℕ) → IsFirstBroken assembly one → IsFirstBroken assembly other → one ≡ other

-- the first fault: of the least rule, and of that at its first place
pub record IsFault (assembly : Assembly ℕ) (actor line rule : ℕ) : Type 0 where
  pub some : 1 ≤ rule
  pub few : rule ≤ 5
  pub before : KeepsRulesBefore assembly rule
  pub place : IsPlaceOf assembly rule actor line

-- what a verdict says of journals that are spelled
abbrev pub IsVerdict : Assembly ℕ → Verdict → Type 0
IsVerdict assembly Sound = IsSound assembly
IsVerdict assembly (Fault actor line rule) = IsFault assembly actor line rule

-- the journals determine the verdict, if they are spelled
abbrev pub OneVerdictHolds : Type 0
OneVerdictHolds = (assembly : Assembly ℕ) (one other : Verdict) → IsVerdict assembly one → IsVerdict assembly other → one ≡ other
