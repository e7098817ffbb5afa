-- Words that spell numbers are digits, and one more digit makes ten times the number and the digit.
use Rattle.std.proofs.Common.{◌^◌, ◌≤◌, Some, None, ap, ◌≡◌, ℕ, ◌+◌, ◌-◌, ◌*◌, ◌<◌, Bool, true, false, List, length, get_or, take, refl, arith, IsTrue, ◌&&◌}
use Rattle.std.proofs.lemmas.Bool.Decides.{nat_tests}
use Rattle.std.specs.Char.{digit_value, is_ascii_digit}
use Rattle.std.specs.Int.{IsInRange}
use Rattle.std.specs.List.{list_all}
use Rattle.std.specs.Str.{all_ascii_digits}
use Rattle.std.specs.Str.Parse.{AllDigits}
use Rattle.std.proofs.lemmas.Int.Digits.{digits_value_more}
use Rattle.std.proofs.lemmas.List.Recursion.{same_from_clauses}
use Rattle.std.proofs.lemmas.Str.Parse.{digit_at, tells_all_ascii_digits, numerals_by_value}
use Rattle.std.proofs.lemmas.List.{take_all}
use Rattle.text_words.specs.Numbers.{is_number, value_of, kept_in}

-- `all` with the test of a digit is the test of digits
pub list_all-digits : (word : List ℕ) → list_all is_ascii_digit word ≡ all_ascii_digits word
list_all-digits = same_from_clauses _ _ (λ c others. is_ascii_digit c && others) refl (λ _ _. refl) (λ _ _. refl)

and_last : (a b : Bool) → (a && b) ≡ true → b ≡ true
and_last true b h = h
and_last false b h = cc

pub digits-from_number : (word : List ℕ) → IsTrue (is_number word) → AllDigits 10 word
digits-from_number word h =
    (numerals_by_value (λ ds. all_ascii_digits ds ≡ true) tells_all_ascii_digits).to word (and_last _ (all_ascii_digits word) h)

value_at : (c : ℕ) → IsInRange 48 57 c → digit_value c ≡ c - 48
value_at c h = grind (arith, nat_tests)

pub value_more : (word : List ℕ) (i : ℕ) → IsTrue (is_number word) → i < length word → value_of (take (i + 1) word) ≡ value_of (take i word) * 10 + (get_or word i 0 - 48)
value_more word i h l =
    let unit = value_at (get_or word i 0) (digit_at word i (digits-from_number word h) l) in
    let more = digits_value_more 10 word i l in
    cc

pub digit_in_number : (word : List ℕ) (i : ℕ) → IsTrue (is_number word) → i < length word → IsInRange 48 57 (get_or word i 0)
digit_in_number word i h l = digit_at word i (digits-from_number word h) l

-- a number that a word of 128 bits holds, and one that it doesn't
pub kept_past : (n : ℕ) → 2 ^ 128 ≤ n → kept_in 0 (2 ^ 128 - 1) (Some n) ≡ None
kept_past n large = grind (arith, nat_tests)

pub kept_within : (value n : ℕ) → value ≡ n → value < 2 ^ 128 → Some value ≡ kept_in 0 (2 ^ 128 - 1) (Some n)
kept_within value n is small = grind (arith, nat_tests)

pub value_of-all : (word : List ℕ) (count : ℕ) → length word ≤ count → value_of (take count word) ≡ value_of word
value_of-all word count all = ap value_of (take_all count word all)
