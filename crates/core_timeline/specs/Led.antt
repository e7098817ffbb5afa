-- The least nodes before the tree of the later ones.
use Rattle.std.specs.Prelude.{◌≡◌, ℕ, nat_lt, if◌then◌else◌, max, List, [], ◌++◌, length, Option, Some, None}
use Rattle.base_words.specs.declared.names.Key.{Key}
use Rattle.core_timeline.specs.Tree.{KeyTree, empty_tree}

-- how many levels a tree of so few keys has at least: the number of its binary digits
abbrev pub levels : ℕ → ℕ
levels count = if nat_lt count 1 then 0 else if nat_lt count 2 then 1 else if nat_lt count 4 then 2 else if nat_lt count 8 then 3 else if nat_lt count 16 then 4 else if nat_lt count 32 then 5 else 6

-- the keys of the front, if there is one
abbrev pub front_of : Option (List Key) → List Key
front_of None = []
front_of (Some front) = front

-- the keys before the tree, and then those of the tree
abbrev pub led_keys : List Key → KeyTree → List Key
led_keys first later = first ++ later.keys

-- the same with the levels of the tree, or those of a tree of the keys before it if they are more
abbrev pub led : List Key → KeyTree → KeyTree
led first later = record { keys = led_keys first later; height = max (levels (length first)) later.height }

-- if no key stands before the tree, the tree is empty
abbrev pub IsLed : List Key → KeyTree → Type 0
IsLed first later = first ≡ [] → later ≡ empty_tree

-- a front, if there is one, leads the tree
abbrev pub IsFronted : Option (List Key) → KeyTree → Type 0
IsFronted None later = Unit {0}
IsFronted (Some front) later = IsLed front later
