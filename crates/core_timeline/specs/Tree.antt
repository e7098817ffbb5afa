-- What a contract sees of a tree of keys, and when the tree is balanced.
use Rattle.std.specs.Prelude.{ℕ, zero, suc, ◌+◌, ◌*◌, ◌^◌, ◌<◌, ◌≤◌, List, [], length}
use Rattle.base_words.specs.declared.names.Key.{Key}

-- the keys in rising order, and how many levels the tree has
pub record KeyTree : Type 0 where
  pub keys : List Key
  pub height : ℕ

-- the tree of no key
abbrev pub empty_tree : KeyTree
empty_tree = record { keys = []; height = 0 }

-- one more than the count of keys of a balanced tree of this height is at least this much: it doubles with each two levels
abbrev pub fewest : ℕ → ℕ
fewest zero = 1
fewest (suc zero) = 2
fewest (suc (suc height)) = 2 * fewest height

-- the tree has as many keys as its height asks for, and no more than so many levels have places for
pub record IsFilled (tree : KeyTree) : Type 0 where
  pub enough : fewest tree.height ≤ length tree.keys + 1
  pub few : length tree.keys + 1 ≤ 2 ^ tree.height

-- the height is at most twice the number of binary digits of one more than the count of keys: a number below 2 ^ digits has at most so many
abbrev pub IsLow : KeyTree → Type 0
IsLow tree = (digits : ℕ) → length tree.keys + 1 < 2 ^ digits → tree.height ≤ 2 * digits
