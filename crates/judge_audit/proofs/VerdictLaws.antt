-- What a verdict says of the rules.
use Rattle.judge_audit.proofs.Names.{arith, Assembly, IsFirstBroken, IsSound, IsVerdict, KeepsRulesBefore, refl, rule_named, Verdict, ℕ, ◌≡◌}
use Rattle.judge_audit.specs.declared.judge.Verdict.TheVariants.{Sound, Fault}
use Rattle.judge_audit.proofs.BrokenRules.{breaks, no_fault_if_sound}
use Rattle.judge_audit.proofs.KeptRules.{all_before}

module _ (assembly : Assembly ℕ) where
  pub says_sound : (verdict : Verdict) → IsVerdict assembly verdict → verdict ≡ Sound → IsSound assembly
  says_sound Sound holds is = holds
  says_sound (Fault actor line rule) holds is = cc

  pub says_kept : (verdict : Verdict) → IsVerdict assembly verdict → KeepsRulesBefore assembly (rule_named verdict)
  says_kept Sound holds = all_before assembly 6 holds
  says_kept (Fault actor line rule) holds = holds.before

  pub says_broken : (verdict : Verdict) → IsVerdict assembly verdict → IsFirstBroken assembly (rule_named verdict)
  says_broken Sound holds = record {
    some = omega arith;
    few = omega arith;
    before = all_before assembly 6 holds;
    here = record {
      starts = λ named. absurd (omega (arith, named));
      order = λ named. absurd (omega (arith, named));
      closes = λ named. absurd (omega (arith, named));
      outcomes = λ named. absurd (omega (arith, named));
      picks = λ named. absurd (omega (arith, named));
    };
  }
  says_broken (Fault actor line rule) holds = record {
    some = holds.some;
    few = omega (arith, holds.few);
    before = holds.before;
    here = breaks assembly rule actor line holds.place;
  }

  pub only_sound : (verdict : Verdict) → IsVerdict assembly verdict → IsSound assembly → verdict ≡ Sound
  only_sound Sound holds sound = refl
  only_sound (Fault actor line rule) holds sound =
      absurd (no_fault_if_sound assembly rule holds.some holds.few (breaks assembly rule actor line holds.place) sound)
