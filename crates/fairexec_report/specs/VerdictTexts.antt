-- What is printed of a verdict.
use Rattle.std.specs.Prelude.{ℕ, Bool, true, false, ◌++◌, List, codes, decimal}
use Rattle.judge_audit.specs.declared.judge.Verdict.{Verdict}
use Rattle.judge_audit.specs.declared.judge.Verdict.TheVariants.{Sound, Fault}

-- whether the journals are sound
abbrev pub is_sound : Verdict → Bool
is_sound Sound = true
is_sound (Fault actor line rule) = false

-- the line of a verdict: `sound`, or the actor, the note and the rule of the first fault
abbrev pub verdict_line : Verdict → List ℕ
verdict_line Sound = codes "sound"
verdict_line (Fault actor line rule) = codes "fault actor " ++ decimal actor ++ codes " note " ++ decimal line ++ codes " rule " ++ decimal rule

-- the whole text of a verdict
abbrev pub verdict_text : Verdict → List ℕ
verdict_text verdict = verdict_line verdict ++ codes "\n"
