-- Answers that no call may give, each refused by the definition that judges it.
use Rattle.std.specs.Prelude.{ℕ, List, [], ◌∷◌, true, false}
use Rattle.base_words.specs.Assembly.{Assembly}
use Rattle.judge_audit.specs.declared.judge.Verdict.TheVariants.{Sound}
use Rattle.host_text.specs.declared.ended.JudgeError.TheVariants.{Parted, Memory}
use Rattle.host_text.specs.Ended.{ended_of}
use Rattle.host_text.specs.Texts.{CopiesFrom}
use Rattle.host_text.specs.Verdicts.{IsUnjudged, Judges}

-- more is told to be copied than there is room for
pub more_than_room : (after : List ℕ) → CopiesFrom (1 ∷ 2 ∷ 3 ∷ []) 0 (0 ∷ []) 2 after → ⊥
more_than_room after copied = cc copied.0

-- another byte is copied
pub another_byte : CopiesFrom (1 ∷ 2 ∷ 3 ∷ []) 1 (0 ∷ []) 1 (1 ∷ []) → ⊥
another_byte copied = cc copied.1

-- journals that lack notes are judged sound
pub parted_are_sound : (assembly : Assembly ℕ) → Judges (ended_of assembly true) Sound → ⊥
parted_are_sound assembly judges = cc judges.whole

-- journals that lack nothing are told as parted
pub whole_are_parted : (assembly : Assembly ℕ) → IsUnjudged (ended_of assembly false) Parted → ⊥
whole_are_parted assembly told = cc told

-- journals that lack notes are told that there is no memory
pub parted_lack_memory : (assembly : Assembly ℕ) → IsUnjudged (ended_of assembly true) Memory → ⊥
parted_lack_memory assembly told = cc told
