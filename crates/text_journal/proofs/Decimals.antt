-- A word spells a number exactly where it is what is written of that number.
use Rattle.std.proofs.Common.{◌≡◌, ℕ, zero, suc, ◌+◌, ◌*◌, ◌/◌, ◌%◌, ◌^◌, ◌<◌, ◌≤◌, ◌==◌, ◌&&◌, ◌||◌, not, Bool, true, false, cond, leb, inl, inr, ◌⊎◌, slice_index, List, [], ◌∷◌, ◌++◌, length, get_or, Option, Some, None, refl, sym, ap, ◌∙◌, arith, append_assoc, append-nil, decimal, length-append}
use Rattle.std.specs.Prelude.{All, nat_lt}
use Rattle.std.specs.Char.{digit_value}
use Rattle.std.specs.Int.{IsInRange}
use Rattle.std.specs.Str.{all_ascii_digits}
use Rattle.std.specs.Str.Parse.{AllDigits, digits_value_after, digits_value}
use Rattle.std.proofs.lemmas.Bool.Decides.{nat_tests}
use Rattle.std.proofs.lemmas.Fmt.{decimal_is_IsNumeral_wide, decimal_digit, decimal_step_wide, decimal_by_steps_wide}
use Rattle.std.proofs.lemmas.List.Elements.{All-from_get_or}
use Rattle.std.proofs.lemmas.Str.{digit_value_digit}
use Rattle.std.proofs.lemmas.Str.Parse.{digit_from_value, digit_at, tells_all_ascii_digits, numerals_by_value, IsNumeralModel}
use Rattle.text_words.specs.Numbers.{is_number, value_of, number_of, kept_in}
use Rattle.text_journal.specs.Fields.{number_in}

-- digits behind a number that isn't 0
le_value_after : (n : ℕ) (ds : List ℕ) → n ≤ digits_value_after 10 n ds
le_value_after n [] = omega arith
le_value_after n (c ∷ cs) = omega (arith, le_value_after (n * 10 + digit_value c) cs)

decimal_value_after : (n : ℕ) (ds : List ℕ) → 0 < n → AllDigits 10 ds → digits_value_after 10 n ds < 10 ^ 64 → decimal (digits_value_after 10 n ds) ≡ decimal n ++ ds
decimal_value_after n [] some d small = sym (append-nil (decimal n))
decimal_value_after n (c ∷ cs) some d small =
    let m : ℕ = n * 10 + digit_value c in
    let k = digit_value_digit c (digit_from_value c d.0) in
    let front : m / 10 ≡ n = omega (arith, d.0) in
    let end : 48 + m % 10 ≡ c = omega (arith, d.0) in
    decimal_value_after m cs (omega arith) d.1 small
    ∙ ap (λ x. x ++ cs) (decimal_step_wide m (omega arith) (omega (arith, le_value_after m cs)) ∙ (λ i. decimal (front i) ++ (end i ∷ [])))
    ∙ append_assoc (decimal n) (c ∷ []) cs

-- digits with no zero in front, or one digit
decimal_value : (ds : List ℕ) → AllDigits 10 ds → 0 < length ds → (get_or ds 0 0 ≡ 48 → length ds ≡ 1) → digits_value 10 ds < 10 ^ 64 → decimal (digits_value 10 ds) ≡ ds
decimal_value [] d some lead small = absurd (omega arith)
decimal_value (c ∷ []) d some lead small =
    let k = digit_value_digit c (digit_from_value c d.0) in
    decimal_digit (0 * 10 + digit_value c) (omega (arith, d.0)) ∙ ap (λ x. x ∷ []) (omega arith)
decimal_value (c ∷ e ∷ cs) d some lead small =
    let k = digit_value_digit c (digit_from_value c d.0) in
    let no : c ≡ 48 → ⊥ = λ z. omega (arith, lead z) in
    let is : 48 + (0 * 10 + digit_value c) ≡ c = omega arith in
    decimal_value_after (0 * 10 + digit_value c) (e ∷ cs) (omega arith) d.1 small
    ∙ ap (λ x. x ++ (e ∷ cs)) (decimal_digit (0 * 10 + digit_value c) (omega (arith, d.0)) ∙ ap (λ x. x ∷ []) is)

-- what is written of a number begins with no zero, except of 0 itself
record Leads (n : ℕ) (ds : List ℕ) : Type 0 where
  some : 1 ≤ length ds
  first : 0 < n → 48 < get_or ds 0 0
  single : n < 10 → length ds ≡ 1

leads_one : (n : ℕ) → n < 10 → Leads n ((48 + n) ∷ [])
leads_one n small = record { some = omega arith; first = λ p. omega arith; single = λ p. omega arith }

first_kept : (ds : List ℕ) (x : ℕ) → 1 ≤ length ds → get_or (ds ++ x ∷ []) 0 0 ≡ get_or ds 0 0
first_kept [] x some = absurd (omega arith)
first_kept (d ∷ ds) x some = refl

leads_more : (n : ℕ) (ds : List ℕ) → 10 ≤ n → Leads (n / 10) ds → Leads n (ds ++ ((48 + n % 10) ∷ []))
leads_more n ds large h =
    let some = h.some in
    let first = h.first (omega arith) in
    record {
      some = omega (arith, length-append ds ((48 + n % 10) ∷ []));
      first = λ p. omega (arith, first_kept ds (48 + n % 10) h.some);
      single = λ p. absurd (omega arith);
    }

leads : (n : ℕ) → n < 10 ^ 64 → Leads n (decimal n)
leads n small = decimal_by_steps_wide Leads leads_one leads_more n small

own : IsNumeralModel (λ ds. all_ascii_digits ds ≡ true) (digits_value 10)
own = numerals_by_value (λ ds. all_ascii_digits ds ≡ true) tells_all_ascii_digits

and_true : (a b c : Bool) → (a && b && c) ≡ true → (a ≡ true) × (b ≡ true) × (c ≡ true)
and_true true true true h = (refl, refl, refl)
and_true true true false h = cc
and_true true false c h = cc
and_true false b c h = cc

and_three : (a b c : Bool) → a ≡ true → b ≡ true → c ≡ true → (a && b && c) ≡ true
and_three true true true p q r = refl
and_three false b c p q r = cc
and_three true false c p q r = cc
and_three true true false p q r = cc

or_left : (a b : Bool) → a ≡ true → (a || b) ≡ true
or_left true b p = refl
or_left false b p = cc

or_right : (a b : Bool) → b ≡ true → (a || b) ≡ true
or_right true b p = refl
or_right false b p = p

or_second : (a b : Bool) → (a || b) ≡ true → b ≡ false → a ≡ true
or_second true b p q = refl
or_second false true p q = cc
or_second false false p q = cc

not_zero : (ds : List ℕ) → (nat_lt (length ds) 2 || not (slice_index ds 0 == 48)) ≡ true → 0 < length ds → get_or ds 0 0 ≡ 48 → length ds ≡ 1
not_zero ds h some zero_first =
    let same : not (slice_index ds 0 == 48) ≡ false = grind (arith, nat_tests) in
    let short = or_second (nat_lt (length ds) 2) (not (slice_index ds 0 == 48)) h same in
    grind (arith, nat_tests)

-- what a word is, if it spells a number
pub number_read : (word : List ℕ) (n : ℕ) → n < 10 ^ 64 → number_of word ≡ Some n → word ≡ decimal n
number_read word n small is = of_test (is_number word) refl
  where
    of_test : (b : Bool) → is_number word ≡ b → word ≡ decimal n
    of_test false e =
        let none : None ≡ Some n = ap (λ b. cond b (Some (value_of word)) None) (sym e) ∙ is in cc
    of_test true e =
        let some : Some (value_of word) ≡ Some n = ap (λ b. cond b (Some (value_of word)) None) (sym e) ∙ is in
        let value : value_of word ≡ n = cc in
        let parts = and_true (nat_lt 0 (length word)) (nat_lt (length word) 2 || not (slice_index word 0 == 48)) (all_ascii_digits word) e in
        let here : 0 < length word = grind (arith, nat_tests, parts.0) in
        sym (decimal_value word (own.to word parts.2) here (not_zero word parts.1 here) (omega arith)) ∙ ap decimal value

leading : (n : ℕ) → Leads n (decimal n) → (nat_lt (length (decimal n)) 2 || not (slice_index (decimal n) 0 == 48)) ≡ true
leading zero lead =
    let one = lead.single (omega arith) in
    or_left (nat_lt (length (decimal 0)) 2) (not (slice_index (decimal 0) 0 == 48)) (grind (arith, nat_tests, one))
leading (suc n) lead =
    let first = lead.first (omega arith) in
    or_right (nat_lt (length (decimal (suc n))) 2) (not (slice_index (decimal (suc n)) 0 == 48)) (grind (arith, nat_tests, first))

-- what is written of a number spells it
pub number_text : (n : ℕ) → n < 10 ^ 64 → number_of (decimal n) ≡ Some n
number_text n small =
    let text = decimal_is_IsNumeral_wide n small in
    let lead = leads n small in
    let some = lead.some in
    let digits : all_ascii_digits (decimal n) ≡ true = own.from (decimal n) text.0.1 in
    let test : is_number (decimal n) ≡ true = and_three (nat_lt 0 (length (decimal n))) (nat_lt (length (decimal n)) 2 || not (slice_index (decimal n) 0 == 48)) (all_ascii_digits (decimal n)) (grind (arith, nat_tests)) (leading n lead) digits in
    ap (λ b. cond b (Some (value_of (decimal n))) None) test ∙ ap Some text.1

-- numbers within a range
kept_read : (least most : ℕ) (read : Option ℕ) (n : ℕ) → kept_in least most read ≡ Some n → (read ≡ Some n) × (least ≤ n) × (n ≤ most)
kept_read least most None n is = cc
kept_read least most (Some m) n is = of_test (leb least m && leb m most) refl
  where
    of_test : (b : Bool) → (leb least m && leb m most) ≡ b → (Some m ≡ Some n) × (least ≤ n) × (n ≤ most)
    of_test false e = let none : None ≡ Some n = ap (λ b. cond b (Some m) None) (sym e) ∙ is in cc
    of_test true e =
        let same : Some m ≡ Some n = ap (λ b. cond b (Some m) None) (sym e) ∙ is in
        let number : m ≡ n = cc in
        (same, grind (arith, nat_tests), grind (arith, nat_tests))

kept_text : (least most n : ℕ) → least ≤ n → n ≤ most → kept_in least most (Some n) ≡ Some n
kept_text least most n low high = grind (arith, nat_tests)

pub number_in_read : (least most : ℕ) (word : List ℕ) (n : ℕ) → most < 10 ^ 64 → number_in least most word ≡ Some n → (least ≤ n) × (n ≤ most) × (word ≡ decimal n)
unfolding number_in
number_in_read least most word n small is =
    let kept = kept_read least most (number_of word) n is in
    (kept.1, kept.2, number_read word n (omega (arith, kept.2)) kept.0)

pub number_in_text : (least most n : ℕ) → least ≤ n → n ≤ most → most < 10 ^ 64 → number_in least most (decimal n) ≡ Some n
unfolding number_in
number_in_text least most n low high small = ap (kept_in least most) (number_text n (omega arith)) ∙ kept_text least most n low high

-- digits alone are written
pub no_sign : (sign n : ℕ) → n < 10 ^ 64 → (sign < 48) ⊎ (57 < sign) → All (λ byte. (byte == sign) ≡ false) (decimal n)
no_sign sign n small other =
    let text = decimal_is_IsNumeral_wide n small in
    All-from_get_or (λ byte. (byte == sign) ≡ false) (decimal n) 0 (λ i within. apart (get_or (decimal n) i 0) (digit_at (decimal n) i text.0.1 within) other)
  where
    apart : (byte : ℕ) → IsInRange 48 57 byte → (sign < 48) ⊎ (57 < sign) → (byte == sign) ≡ false
    apart byte digit (inl low) = grind (arith, nat_tests)
    apart byte digit (inr high) = grind (arith, nat_tests)

pub digits_some : (n : ℕ) → n < 10 ^ 64 → 1 ≤ length (decimal n)
digits_some n small = let text = decimal_is_IsNumeral_wide n small in omega (arith, text.0.0)

-- a number is told by one word alone
pub number_in-none : (least most : ℕ) → number_in least most [] ≡ None
unfolding number_in
number_in-none least most = refl
