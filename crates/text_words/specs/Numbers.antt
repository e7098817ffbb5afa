-- Numbers as words spell them.
use Rattle.std.specs.Prelude.{ℕ, ◌&&◌, ◌||◌, not, Bool, List, length, Option, Some, None, Result, Ok, Err, nat_lt, nat_le, ◌==◌, slice_index, if◌then◌else◌}
use Rattle.std.specs.Str.{all_ascii_digits}
use Rattle.std.specs.Str.Parse.{digits_value}
use Rattle.text_words.specs.declared.fault.Cause.{Cause}
use Rattle.text_words.specs.declared.fault.Cause.TheVariants.{BadWord, OutOfRange}

-- whether a word spells a number: decimal digits, one or more, and no zero stands in front of another digit
abbrev pub is_number : List ℕ → Bool
is_number word = nat_lt 0 (length word) && (nat_lt (length word) 2 || not (slice_index word 0 == 48)) && all_ascii_digits word

-- the number that decimal digits write
abbrev pub value_of : List ℕ → ℕ
value_of digits = digits_value 10 digits

-- the number that a word spells, if it spells one; it may be as large as it likes
abbrev pub number_of : List ℕ → Option ℕ
number_of word = if is_number word then Some (value_of word) else None

-- a number that has to be there, from the least to the most
abbrev pub within : ℕ → ℕ → Option ℕ → Result ℕ Cause
within least most None = Err BadWord
within least most (Some n) = if nat_le least n && nat_le n most then Ok n else Err OutOfRange

-- the number, if there is one from the least to the most
abbrev pub kept_in : ℕ → ℕ → Option ℕ → Option ℕ
kept_in least most None = None
kept_in least most (Some n) = if nat_le least n && nat_le n most then Some n else None
