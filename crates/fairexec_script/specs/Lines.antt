-- What one line of a script says.
use Rattle.std.specs.Prelude.{ℕ, ◌&&◌, ◌==◌, not, Bool, false, List, codes, Option, Some, None, Result, Err, if◌then◌else◌}
use Rattle.std.specs.Str.{bytes_eq}
use Rattle.base_words.specs.Limits.{most_burst, most_capacity, most_cores}
use Rattle.fairexec_script.specs.declared.line.Line.{Line}
use Rattle.fairexec_script.specs.declared.line.Line.TheVariants.{Size, Queue}
use Rattle.fairexec_script.specs.declared.keyword.Keyword.{Keyword}
use Rattle.fairexec_script.specs.declared.keyword.Keyword.TheVariants as keyword
use Rattle.text_words.specs.declared.fault.Cause.{Cause}
use Rattle.text_words.specs.declared.fault.Cause.TheVariants.{CoresLineExpected, UnknownWord, QueueLineTooLate, WrongNumberOfWords}
use Rattle.text_words.specs.Numbers.{number_of, within}
use Rattle.text_words.specs.Words.{first, others, second, third, word_count}
use Rattle.fairexec_script.specs.Keywords.{keyword_of, takes, is_queue}
use Rattle.text_words.specs.Fields.{both, made, core_field, shares_field, fixed_field}
use Rattle.fairexec_script.specs.EventLines.{submit_line, create_line, shares_line, close_line, closecore_line, wake_line, deliver_line, turn_line, shut_line, collect_line, redeem_line, detach_line}

-- `C cap K`: how many cores, and the capacity of each link
abbrev pub size_fields : List (List ℕ) → Result (ℕ × ℕ) Cause
size_fields ws = made (λ p. (p.0, (p.1).1)) (both (within 1 most_cores (number_of (first ws))) (both (fixed_field (codes "cap") (second ws)) (within 1 most_capacity (number_of (third ws)))))

-- `burst B`: how many polls a turn may have
abbrev pub burst_fields : List (List ℕ) → Result ℕ Cause
burst_fields ws = made (λ p. p.1) (both (fixed_field (codes "burst") (first ws)) (within 1 most_burst (number_of (second ws))))

-- `C cap K`: each poll is a turn
abbrev pub size_line : List (List ℕ) → Result Line Cause
size_line ws = made (λ size. Size size.0 size.1 1) (size_fields ws)

-- `C cap K burst B`
abbrev pub burst_line : List (List ℕ) → Result Line Cause
burst_line ws = made (λ p. Size (p.0).0 (p.0).1 p.1) (both (size_fields ws) (burst_fields (others (others (others ws)))))

-- `d w`
abbrev pub queue_line : ℕ → List (List ℕ) → Result Line Cause
queue_line cores ws = made (λ p. Queue p.0 p.1) (both (core_field cores (first ws)) (shares_field (second ws)))

-- the words behind a line's first word, by what that says
abbrev pub line_of : Keyword → ℕ → List (List ℕ) → Result Line Cause
line_of keyword.Queue cores ws = queue_line cores ws
line_of keyword.Submit cores ws = submit_line cores ws
line_of keyword.Create cores ws = create_line cores ws
line_of keyword.Shares cores ws = shares_line cores ws
line_of keyword.Close cores ws = close_line cores ws
line_of keyword.CloseCore cores ws = closecore_line cores ws
line_of keyword.Wake cores ws = wake_line cores ws
line_of keyword.Deliver cores ws = deliver_line cores ws
line_of keyword.Turn cores ws = turn_line cores ws
line_of keyword.Shut cores ws = shut_line cores ws
line_of keyword.Collect cores ws = collect_line cores ws
line_of keyword.Redeem cores ws = redeem_line cores ws
line_of keyword.Detach cores ws = detach_line cores ws

-- a line has this many words, none of them empty
abbrev pub counts : (ℕ → Bool) → Option ℕ → Bool
counts test None = false
counts test (Some count) = test count

-- the first line that isn't skipped; it may end with the burst
abbrev pub first_line : List (List ℕ) → Result Line Cause
first_line ws =
    if not (bytes_eq (first ws) (codes "cores")) then Err CoresLineExpected
    else (if counts (λ count. count == 4) (word_count ws) then size_line (others ws)
    else (if counts (λ count. count == 6) (word_count ws) then burst_line (others ws)
    else Err WrongNumberOfWords))

-- a line after it, with this first word; `late` says that a line other than a `queue` line came before
abbrev pub keyword_line : Option Keyword → ℕ → Bool → List (List ℕ) → Result Line Cause
keyword_line None cores late ws = Err UnknownWord
keyword_line (Some keyword) cores late ws =
    if late && is_queue keyword then Err QueueLineTooLate
    else (if counts (takes keyword) (word_count ws) then line_of keyword cores (others ws)
    else Err WrongNumberOfWords)

abbrev pub later_line : ℕ → Bool → List (List ℕ) → Result Line Cause
later_line cores late ws = keyword_line (keyword_of (first ws)) cores late ws
