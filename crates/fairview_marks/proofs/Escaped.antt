-- What escaped text has and hasn't.
use Rattle.std.proofs.Common.{◌≡◌, ℕ, ◌+◌, ◌/◌, ◌%◌, ◌^◌, ◌<◌, ◌≤◌, ◌==◌, Bool, true, false, cond, List, [], ◌∷◌, ◌++◌, refl, sym, ap, ◌∙◌, append_assoc, arith, codes, decimal}
use mathlib.Core.Bool.{true≢false}
use mathlib.Core.Logic.{◌≢◌}
use Rattle.std.specs.Prelude.{All, nat_lt}
use Rattle.std.specs.Str.Parse.{AllDigits}
use Rattle.std.proofs.lemmas.Bool.{ltb-true, ltb-false, le-ltb, ne_eqb}
use Rattle.std.proofs.lemmas.List.Concat.{flat_map-append}
use Rattle.std.proofs.lemmas.List.Elements.{All-nil, All-append, All-from_recursion}
use Rattle.std.proofs.lemmas.Fmt.{decimal_is_IsNumeral_wide}
use Rattle.std.proofs.lemmas.Str.Parse.{digit_from_value}
use Rattle.base_words.specs.declared.names.JobId.{JobId}
use Rattle.text_words.specs.Notes.{name_text}
use Rattle.fairview_marks.specs.Escapes.{xml_byte, xml_text, ends_tag, hex_digit, json_byte, json_text, ends_string}

-- a byte of none of these five numbers
ends_not : (byte : ℕ) → (byte == 34) ≡ false → (byte == 39) ≡ false → (byte == 60) ≡ false → (byte == 62) ≡ false → ends_tag byte ≡ false
ends_not byte one two three four = rw (one, two, three, four) refl

xml_byte_safe : (byte : ℕ) → All (λ byte. ends_tag byte ≡ false) (xml_byte byte)
xml_byte_safe byte = by_tests (byte == 34) (byte == 38) (byte == 39) (byte == 60) (byte == 62) refl refl refl refl refl
  where
    by_tests : (a b c d e : Bool) → (byte == 34) ≡ a → (byte == 38) ≡ b → (byte == 39) ≡ c → (byte == 60) ≡ d → (byte == 62) ≡ e →
        All (λ byte. ends_tag byte ≡ false)
        (cond a (codes "&quot;") (cond b (codes "&amp;") (cond c (codes "&#39;") (cond d (codes "&lt;") (cond e (codes "&gt;") (byte ∷ []))))))
    by_tests true b c d e one two three four five = All-from_recursion (λ byte. ends_tag byte ≡ false) (codes "&quot;") (refl, (refl, (refl, (refl, (refl, (refl, tt))))))
    by_tests false true c d e one two three four five = All-from_recursion (λ byte. ends_tag byte ≡ false) (codes "&amp;") (refl, (refl, (refl, (refl, (refl, tt)))))
    by_tests false false true d e one two three four five = All-from_recursion (λ byte. ends_tag byte ≡ false) (codes "&#39;") (refl, (refl, (refl, (refl, (refl, tt)))))
    by_tests false false false true e one two three four five = All-from_recursion (λ byte. ends_tag byte ≡ false) (codes "&lt;") (refl, (refl, (refl, (refl, tt))))
    by_tests false false false false true one two three four five = All-from_recursion (λ byte. ends_tag byte ≡ false) (codes "&gt;") (refl, (refl, (refl, (refl, tt))))
    by_tests false false false false false one two three four five = All-from_recursion (λ byte. ends_tag byte ≡ false) (byte ∷ []) (ends_not byte one three four five, tt)

pub xml_ends_nothing : (text : List ℕ) → All (λ byte. ends_tag byte ≡ false) (xml_text text)
xml_ends_nothing [] = All-nil (λ byte. ends_tag byte ≡ false)
xml_ends_nothing (byte ∷ text) = All-append (λ byte. ends_tag byte ≡ false) (xml_byte byte) (xml_text text) (xml_byte_safe byte) (xml_ends_nothing text)

pub bare_bracket : All (λ byte. ends_tag byte ≡ false) (codes "0>1#5") → ⊥
bare_bracket all = true≢false (all 1 0 (omega arith))

pub bare_tag : All (λ byte. ends_tag byte ≡ false) (codes "a<b") → ⊥
bare_tag all = true≢false (all 1 0 (omega arith))

-- a plain byte neither ends a string nor hides the next one
plain_step : (byte : ℕ) (rest : List ℕ) → (byte == 34) ≡ false → (byte == 92) ≡ false → ends_string false (byte ∷ rest) ≡ ends_string false rest
plain_step byte rest one two = rw (one, two) refl

hex_plain : (value : ℕ) → value < 16 → (48 ≤ hex_digit value) × (hex_digit value ≤ 102) × (hex_digit value ≢ 92)
hex_plain value small = by_test (nat_lt value 10) refl
  where
    by_test : (test : Bool) → nat_lt value 10 ≡ test → (48 ≤ cond test (48 + value) (87 + value)) × (cond test (48 + value) (87 + value) ≤ 102) × (cond test (48 + value) (87 + value) ≢ 92)
    by_test true is = let less : value < 10 = ltb-true value 10 is in (omega arith, omega arith, λ same. omega arith)
    by_test false is = let more : 10 ≤ value = ltb-false value 10 is in (omega arith, omega arith, λ same. omega arith)

hex_step : (value : ℕ) (rest : List ℕ) → value < 16 → ends_string false (hex_digit value ∷ rest) ≡ ends_string false rest
hex_step value rest small =
    let plain = hex_plain value small in
    plain_step (hex_digit value) rest (ne_eqb (hex_digit value) 34 (λ same. omega (arith, plain.0))) (ne_eqb (hex_digit value) 92 plain.2)

json_step : (byte : ℕ) (rest : List ℕ) → ends_string false (json_byte byte ++ rest) ≡ ends_string false rest
json_step byte rest = by_tests (byte == 34) (byte == 92) (nat_lt byte 32) refl refl refl
  where
    by_tests : (a b c : Bool) → (byte == 34) ≡ a → (byte == 92) ≡ b → nat_lt byte 32 ≡ c →
        ends_string false (cond a (codes "\\\"") (cond b (codes "\\\\") (cond c (codes "\\u00" ++ hex_digit (byte / 16) ∷ hex_digit (byte % 16) ∷ []) (byte ∷ []))) ++ rest) ≡
        ends_string false rest
    by_tests true b c one two three = refl
    by_tests false true c one two three = refl
    by_tests false false true one two three =
        let less : byte < 32 = ltb-true byte 32 three in
        hex_step (byte / 16) (hex_digit (byte % 16) ∷ rest) (omega arith) ∙ hex_step (byte % 16) rest (omega arith)
    by_tests false false false one two three = plain_step byte rest one two

pub json_never_ends : (text : List ℕ) → ends_string false (json_text text) ≡ false
json_never_ends [] = refl
json_never_ends (byte ∷ text) = json_step byte (json_text text) ∙ json_never_ends text

json_byte_printed : (byte : ℕ) → All (λ byte. 32 ≤ byte) (json_byte byte)
json_byte_printed byte = by_tests (byte == 34) (byte == 92) (nat_lt byte 32) refl
  where
    by_tests : (a b c : Bool) → nat_lt byte 32 ≡ c →
        All (λ byte. 32 ≤ byte) (cond a (codes "\\\"") (cond b (codes "\\\\") (cond c (codes "\\u00" ++ hex_digit (byte / 16) ∷ hex_digit (byte % 16) ∷ []) (byte ∷ []))))
    by_tests true b c three = All-from_recursion (λ byte. 32 ≤ byte) (codes "\\\"") (omega arith, (omega arith, tt))
    by_tests false true c three = All-from_recursion (λ byte. 32 ≤ byte) (codes "\\\\") (omega arith, (omega arith, tt))
    by_tests false false true three =
        let less : byte < 32 = ltb-true byte 32 three in
        let one = hex_plain (byte / 16) (omega arith) in
        let two = hex_plain (byte % 16) (omega arith) in
        All-from_recursion (λ byte. 32 ≤ byte) (codes "\\u00" ++ hex_digit (byte / 16) ∷ hex_digit (byte % 16) ∷ [])
        (omega arith, (omega arith, (omega arith, (omega arith, (omega (arith, one.0), (omega (arith, two.0), tt))))))
    by_tests false false false three = All-from_recursion (λ byte. 32 ≤ byte) (byte ∷ []) (ltb-false byte 32 three, tt)

pub json_printed : (text : List ℕ) → All (λ byte. 32 ≤ byte) (json_text text)
json_printed [] = All-nil (λ byte. 32 ≤ byte)
json_printed (byte ∷ text) = All-append (λ byte. 32 ≤ byte) (json_byte byte) (json_text text) (json_byte_printed byte) (json_printed text)

-- a digit means nothing
xml_digits : (digits : List ℕ) → AllDigits 10 digits → xml_text digits ≡ digits
xml_digits [] all = refl
xml_digits (digit ∷ digits) all =
    let is = digit_from_value digit all.0 in
    let one : (digit == 34) ≡ false = ne_eqb digit 34 (λ same. omega arith) in
    let two : (digit == 38) ≡ false = ne_eqb digit 38 (λ same. omega arith) in
    let three : (digit == 39) ≡ false = ne_eqb digit 39 (λ same. omega arith) in
    let four : (digit == 60) ≡ false = ne_eqb digit 60 (λ same. omega arith) in
    let five : (digit == 62) ≡ false = ne_eqb digit 62 (λ same. omega arith) in
    let byte : xml_byte digit ≡ digit ∷ [] = rw (one, two, three, four, five) refl in
    ap (λ front. front ++ xml_text digits) byte ∙ ap (λ rest. digit ∷ rest) (xml_digits digits all.1)

json_digits : (digits : List ℕ) → AllDigits 10 digits → json_text digits ≡ digits
json_digits [] all = refl
json_digits (digit ∷ digits) all =
    let is = digit_from_value digit all.0 in
    let one : (digit == 34) ≡ false = ne_eqb digit 34 (λ same. omega arith) in
    let two : (digit == 92) ≡ false = ne_eqb digit 92 (λ same. omega arith) in
    let three : nat_lt digit 32 ≡ false = le-ltb digit 32 (omega arith) in
    let byte : json_byte digit ≡ digit ∷ [] = rw (one, two, three) refl in
    ap (λ front. front ++ json_text digits) byte ∙ ap (λ rest. digit ∷ rest) (json_digits digits all.1)

module _ (text : List ℕ → List ℕ) (joins : (one other : List ℕ) → text (one ++ other) ≡ text one ++ text other)
    (keeps : (number : ℕ) → number < 10 ^ 64 → text (decimal number) ≡ decimal number) where
  -- the pieces of a name, each by itself
  name_pieces : (name : JobId) → name.from < 10 ^ 64 → name.to < 10 ^ 64 → name.number < 10 ^ 64 →
      text (name_text name) ≡ decimal name.from ++ text (codes ">") ++ decimal name.to ++ text (codes "#") ++ decimal name.number
  name_pieces name from to number =
      let one = joins (decimal name.from) (codes ">") ∙ ap (λ front. front ++ text (codes ">")) (keeps name.from from) in
      let two = joins (decimal name.from ++ codes ">") (decimal name.to) ∙ (λ i. one i ++ keeps name.to to i) in
      let three = joins (decimal name.from ++ codes ">" ++ decimal name.to) (codes "#") ∙ ap (λ front. front ++ text (codes "#")) two in
      joins (decimal name.from ++ codes ">" ++ decimal name.to ++ codes "#") (decimal name.number) ∙ (λ i. three i ++ keeps name.number number i)

pub xml_name : (name : JobId) → name.from < 10 ^ 64 → name.to < 10 ^ 64 → name.number < 10 ^ 64 →
    xml_text (name_text name) ≡ decimal name.from ++ codes "&gt;" ++ decimal name.to ++ codes "#" ++ decimal name.number
xml_name = name_pieces xml_text (flat_map-append xml_byte) (λ number small. xml_digits (decimal number) (decimal_is_IsNumeral_wide number small).0.1)

pub json_name : (name : JobId) → name.from < 10 ^ 64 → name.to < 10 ^ 64 → name.number < 10 ^ 64 →
    json_text (name_text name) ≡ decimal name.from ++ codes ">" ++ decimal name.to ++ codes "#" ++ decimal name.number
json_name = name_pieces json_text (flat_map-append json_byte) (λ number small. json_digits (decimal number) (decimal_is_IsNumeral_wide number small).0.1)

-- five pieces, one behind another
five : (a b c d e : List ℕ) → a ++ b ++ c ++ d ++ e ≡ a ++ (b ++ (c ++ (d ++ e)))
five a b c d e = append_assoc (a ++ b ++ c) d e ∙ append_assoc (a ++ b) c (d ++ e) ∙ append_assoc a b (c ++ (d ++ e))

pub xml_pieces : (name : JobId) (from to number : ℕ) → from ≡ name.from → to ≡ name.to → number ≡ name.number → from < 10 ^ 64 → to < 10 ^ 64 → number < 10 ^ 64 →
    xml_text (name_text name) ≡ decimal from ++ (codes "&gt;" ++ (decimal to ++ (codes "#" ++ decimal number)))
xml_pieces name from to number one two three low middle high =
    xml_name name (omega (arith, one, low)) (omega (arith, two, middle)) (omega (arith, three, high)) ∙
    (λ i. decimal (sym one i) ++ codes "&gt;" ++ decimal (sym two i) ++ codes "#" ++ decimal (sym three i)) ∙
    five (decimal from) (codes "&gt;") (decimal to) (codes "#") (decimal number)

pub json_pieces : (name : JobId) (from to number : ℕ) → from ≡ name.from → to ≡ name.to → number ≡ name.number → from < 10 ^ 64 → to < 10 ^ 64 → number < 10 ^ 64 →
    json_text (name_text name) ≡ decimal from ++ (codes ">" ++ (decimal to ++ (codes "#" ++ decimal number)))
json_pieces name from to number one two three low middle high =
    json_name name (omega (arith, one, low)) (omega (arith, two, middle)) (omega (arith, three, high)) ∙
    (λ i. decimal (sym one i) ++ codes ">" ++ decimal (sym two i) ++ codes "#" ++ decimal (sym three i)) ∙
    five (decimal from) (codes ">") (decimal to) (codes "#") (decimal number)
