-- How a line falls into words.
use Rattle.std.proofs.Common.{true, false, not, IsTrue, sym, ◌∙◌, rules, ap, Option, Some, None, unwrap_or, ◌≡◌, ℕ, ◌+◌, ◌-◌, ◌<◌, ◌≤◌, ◌==◌, Bool, List, [], ◌∷◌, length, take, drop, arith}
use Rattle.std.proofs.lemmas.Grind.{common_steps}
use Rattle.std.specs.List.{position_or_len}
use Rattle.std.specs.Option.{option_map, is_some}
use Rattle.std.specs.Borrow.{Bor}
use Rattle.std.proofs.lemmas.List.Splits.{slice_split_none, slice_split_first, length-slice_split}
use Rattle.std.proofs.lemmas.List.Sums.{fails_before_first, count_by-le-length}
use Rattle.text_words.specs.Words.{words}

abbrev pub is_space : ℕ → Bool
is_space byte = byte == 32

-- a line with no space is one word
pub words_none : (line : List ℕ) → length line ≤ position_or_len is_space line → words line ≡ line ∷ []
words_none line none = slice_split_none is_space line (λ k d h. fails_before_first is_space line k d (omega arith))

-- the first word ends at the first space
pub words_first : (line : List ℕ) → position_or_len is_space line < length line → words line ≡ take (position_or_len is_space line) line ∷ words (drop (position_or_len is_space line + 1) line)
words_first line here = slice_split_first is_space line 0 here

take_rest : (line : List ℕ) (k : ℕ) → take (length line - k) (drop k line) ≡ drop k line
take_rest line k = grind (arith, common_steps)

-- the same, at the place that a search gave and the rest that a range gives
pub words_at : (line : List ℕ) (end : ℕ) → end ≡ position_or_len is_space line → end < length line → words line ≡ take end line ∷ words (take (length line - (end + 1)) (drop (end + 1) line))
words_at line end e here = rw (take_rest line (end + 1), e) (words_first line (omega arith))

pub words_end : (line : List ℕ) (end : ℕ) → end ≡ position_or_len is_space line → length line ≤ end → words line ≡ line ∷ []
words_end line end e none = words_none line (omega arith)

-- what a reader of words shows while a line is left
pub words_shown : (o : Option (Bor (List ℕ))) (ws : List (List ℕ)) (line : Bor (List ℕ)) → unwrap_or (option_map (λ l. words l.now) o) [] ≡ ws → o ≡ Some line → ws ≡ words line.now
words_shown None ws line shown is = cc
words_shown (Some l) ws line shown is = cc

-- a line has at most as many words as bytes, and one more
pub length-words : (line : List ℕ) → length (words line) ≤ length line + 1
length-words line = omega (arith, length-slice_split is_space line, count_by-le-length is_space line)

-- a line has one word at least
pub words_some : (line : List ℕ) → words line ≡ [] → ⊥
words_some line none = omega (arith, length-slice_split is_space line, ap length none)

-- what a reader of words shows where it has no line left
pub over_shown : (o : Option (Bor (List ℕ))) (ws : List (List ℕ)) (none : Bool) → unwrap_or (option_map (λ l. words l.now) o) [] ≡ ws → is_some o ≡ not none → (IsTrue none → ws ≡ []) × (ws ≡ [] → IsTrue none)
over_shown None ws true shown is = (λ yes. sym shown, λ empty. search rules)
over_shown None ws false shown is = cc
over_shown (Some line) ws true shown is = cc
over_shown (Some line) ws false shown is = (λ yes. absurd (search rules), λ empty. absurd (words_some line.now (shown ∙ empty)))
