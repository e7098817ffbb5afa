-- The first two lines of a text, and what each leaves of a draft.
use Rattle.std.specs.Prelude.{ℕ, List, codes, Option, Some, None, Result, Ok, Err, if◌then◌else◌}
use Rattle.base_words.specs.Bursts.{has_bursts}
use Rattle.base_words.specs.Limits.{most_burst, most_capacity, most_cores}
use Rattle.text_words.specs.Words.{first, others, second, third, fourth}
use Rattle.text_journal.specs.Fields.{◌>>=◌, fixed, or_else, number_in}
use Rattle.text_journal.specs.Phrases.{last}
use Rattle.text_journal.specs.declared.draft.Part.TheVariants as part
use Rattle.text_journal.specs.declared.fault.JournalCause.{JournalCause}
use Rattle.text_journal.specs.declared.fault.JournalCause.TheVariants as cause
use Rattle.text_journal.specs.Raised.{Drafted}

-- `journal 1` or `journal 2`: the form, told by the least burst that a text of it has
unfoldable pub form_of : List ℕ → Option ℕ
form_of line = or_else (codes "journal 1") line 1 (or_else (codes "journal 2") line 2 None)

abbrev pub with_form : Drafted → Option ℕ → Result Drafted JournalCause
with_form draft None = Err cause.Header
with_form draft (Some form) = Ok (record { part = part.Size; cores = draft.cores; cap = draft.cap; burst = form; earlier = draft.earlier; notes = draft.notes })

-- the end of the second line: nothing in the first form, where a turn is a single poll, and `burst B` in the second
unfoldable pub burst_of : ℕ → List (List ℕ) → Option ℕ
burst_of form ws =
    if has_bursts form then fixed (codes "burst") (first ws) (last (number_in 2 most_burst (second ws)) (others (others ws)))
    else last (Some 1) ws

-- `cores C cap K`, and how many polls a turn may have
unfoldable pub size_of : ℕ → List (List ℕ) → Option (ℕ × ℕ × ℕ)
size_of form ws = do
  cores ← fixed (codes "cores") (first ws) (number_in 1 most_cores (second ws))
  cap ← fixed (codes "cap") (third ws) (number_in 1 most_capacity (fourth ws))
  burst ← burst_of form (others (others (others (others ws))))
  Some (cores, cap, burst)

abbrev pub with_size : Drafted → Option (ℕ × ℕ × ℕ) → Result Drafted JournalCause
with_size draft None = Err cause.Cores
with_size draft (Some size) = Ok (record { part = part.Notes; cores = size.0; cap = size.1; burst = size.2; earlier = draft.earlier; notes = draft.notes })
