-- What the texts of all kinds of scripts have alike: their limits, and how they end.
use Rattle.std.specs.Prelude.{ℕ, ◌+◌, ◌<◌, ◌≤◌, List, [], ◌∷◌, length, Option, Some, None, Result, Ok, Err, nat_lt, if◌then◌else◌}
use Rattle.text_bytes.specs.Texts.{Judge, go_on}
use Rattle.text_words.specs.declared.fault.Cause.{Cause}
use Rattle.text_words.specs.declared.fault.Cause.TheVariants.{CoresLineExpected, TooManyLines, LineTooLong}
use Rattle.fairexec_script.specs.TextLimits.{most_lines, longest_line}

-- a line, by its number from 1; `with_text` takes one that isn't too long, and `told` says what a cause of any script is in this kind
abbrev pub judged : {D C : Type 0} → (Cause → C) → (D → List ℕ → Result D C) → D → ℕ → List ℕ → Result D C
judged told with_text draft number line =
    if nat_lt most_lines number then Err (told TooManyLines)
    else (if nat_lt longest_line (length line) then Err (told LineTooLong)
    else with_text draft line)

-- at the end of the text, before this line, the size has to be known
abbrev pub whole : {D C : Type 0} → (Cause → C) → ℕ → D → Option (ℕ × ℕ) → Result D (ℕ × C)
whole told number draft None = Err (number, told CoresLineExpected)
whole told number draft (Some size) = Ok draft

-- the last line may have no line feed
abbrev pub at_end : {D C : Type 0} → (Cause → C) → (D → List ℕ → Result D C) → (D → Option (ℕ × ℕ)) → D → ℕ → List ℕ → Result D (ℕ × C)
at_end told with_text size draft number [] = whole told number draft (size draft)
at_end told with_text size draft number (byte ∷ bytes) = go_on number (judged told with_text draft number (byte ∷ bytes)) (λ last. whole told (number + 1) last (size last))

-- what comes of a text of this kind
abbrev pub judge_of : {D C : Type 0} → (Cause → C) → (D → List ℕ → Result D C) → (D → Option (ℕ × ℕ)) → Judge D C
judge_of told with_text size = record { longest = longest_line; judged = judged told with_text; at_end = at_end told with_text size }

-- before the line of this number, where each line before told one step at most, and so many were told
pub record IsBefore (number steps : ℕ) : Type 0 where
  pub some : 1 ≤ number
  pub few : number ≤ most_lines + 1
  pub short : steps < number
