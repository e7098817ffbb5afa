-- The words of a line.
use Rattle.std.specs.Prelude.{ℕ, Bool, List, [], ◌∷◌, length, nat_lt, ◌==◌, Option, Some, None, if◌then◌else◌}
use Rattle.std.specs.List.{slice_split, list_all}

-- what stands between the spaces of a line: as many words as it has spaces, and one more
abbrev pub words : List ℕ → List (List ℕ)
words line = slice_split (λ byte. byte == 32) line

-- the first word, which is empty where none is left
abbrev pub first : List (List ℕ) → List ℕ
first [] = []
first (word ∷ others) = word

-- the words after the first
abbrev pub others : List (List ℕ) → List (List ℕ)
others [] = []
others (word ∷ rest) = rest

abbrev pub second : List (List ℕ) → List ℕ
second ws = first (others ws)

abbrev pub third : List (List ℕ) → List ℕ
third ws = second (others ws)

abbrev pub fourth : List (List ℕ) → List ℕ
fourth ws = third (others ws)

abbrev pub fifth : List (List ℕ) → List ℕ
fifth ws = fourth (others ws)

abbrev pub sixth : List (List ℕ) → List ℕ
sixth ws = fifth (others ws)

-- no word is empty
abbrev pub all_words : List (List ℕ) → Bool
all_words ws = list_all (λ word. nat_lt 0 (length word)) ws

-- how many words there are, if none of them is empty
abbrev pub word_count : List (List ℕ) → Option ℕ
word_count ws = if all_words ws then Some (length ws) else None
