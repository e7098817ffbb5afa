use Rattle.judge_audit.proofs.Names.{both_ways, refl}
use Rattle.judge_audit.proofs.KeptRules.{none_before}
use Rattle.judge_audit.proofs.VerdictLaws.{says_sound, says_kept, says_broken, only_sound}
use Rattle.judge_audit.proofs.judge.audit.Goals as goal

pub verdict_of-requires : goal.verdict_of-requires
verdict_of-requires c =
    let spelled = c.is_spelled.ensures.0 c.if-not-is_spelled.false in record { few = spelled.limits.few_cores; spelled = spelled }

pub returns-then-not-is_spelled-clause-first : goal.returns-then-not-is_spelled-clause-first
returns-then-not-is_spelled-clause-first c = none_before c.args.assembly.now 1 refl

pub returns-in-Ok : goal.returns-in-Ok
returns-in-Ok c = record {
  sound = λ sound. (c.is_spelled.ensures.0 c.if-not-is_spelled.false, says_sound c.args.assembly.now c.in-Ok.verdict c.in-Ok.ensures sound);
  first = says_kept c.args.assembly.now c.in-Ok.verdict c.in-Ok.ensures;
  rule = λ spelled. says_broken c.args.assembly.now c.in-Ok.verdict c.in-Ok.ensures;
  place = λ spelled. c.in-Ok.ensures;
  only = λ spelled. only_sound c.args.assembly.now c.in-Ok.verdict c.in-Ok.ensures;
  unspelled = λ no. absurd (no (c.is_spelled.ensures.0 c.if-not-is_spelled.false));
}

pub returns-then-not-is_spelled-clause-rule : goal.returns-then-not-is_spelled-clause-rule
returns-then-not-is_spelled-clause-rule c = λ spelled. absurd (both_ways c.is_spelled.result c.if-not-is_spelled.true (c.is_spelled.ensures.1 spelled))

pub returns-then-not-is_spelled-clause-place : goal.returns-then-not-is_spelled-clause-place
returns-then-not-is_spelled-clause-place c = λ spelled. absurd (both_ways c.is_spelled.result c.if-not-is_spelled.true (c.is_spelled.ensures.1 spelled))

pub returns-then-not-is_spelled-clause-only : goal.returns-then-not-is_spelled-clause-only
returns-then-not-is_spelled-clause-only c = λ spelled sound. absurd (both_ways c.is_spelled.result c.if-not-is_spelled.true (c.is_spelled.ensures.1 spelled))
