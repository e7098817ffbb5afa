-- The front of a timeline: places for nodes, of which some are free.
use Rattle.std.specs.Prelude.{◌≡◌, ◌≢◌, ℕ, ◌+◌, ◌<◌, ◌≤◌, List, [], ◌∷◌, length, get_or, Option, Some, None, Box}
use Rattle.base_words.specs.declared.names.Key.{Key}
use Rattle.core_timeline.specs.declared.tree.Node.{Node}
use Rattle.core_timeline.specs.Nodes.{key_of, IsLoose}

-- the keys of the places that aren't free, in the order of the places
abbrev pub front_keys : {A : Type 0} → List ℕ → List (Option (Box (Node A) A)) → List Key
front_keys (vr ∷ vrs) (Some node ∷ nodes) = key_of vr node.value ∷ front_keys vrs nodes
front_keys (vr ∷ vrs) (None ∷ nodes) = front_keys vrs nodes
front_keys [] nodes = []
front_keys (vr ∷ vrs) [] = []

-- a loose node is in the place
abbrev pub IsTaken : {A : Type 0} → Option (Box (Node A) A) → Type 0
IsTaken None = ⊥
IsTaken (Some node) = IsLoose node.value

-- the key of a place, if a node is in it
abbrev pub keys_at : {A : Type 0} → ℕ → Option (Box (Node A) A) → List Key
keys_at vr None = []
keys_at vr (Some node) = key_of vr node.value ∷ []

-- of the 64 places those from `begin` up to `end` are taken, at most 32, and all others free
pub record IsFront {A : Type 0} (vrs : List ℕ) (nodes : List (Option (Box (Node A) A))) (begin end : ℕ) : Type 0 where
  pub vrs_long : length vrs ≡ 64
  pub nodes_long : length nodes ≡ 64
  pub forward : begin ≤ end
  pub within : end ≤ 64
  pub few : end ≤ begin + 32
  pub taken : (k : ℕ) → begin ≤ k → k < end → IsTaken (get_or nodes k None)
  pub free_before : (k : ℕ) → k < begin → get_or nodes k None ≡ None
  pub free_behind : (k : ℕ) → end ≤ k → get_or nodes k None ≡ None

-- of the 64 places those from `begin` to `end`, this one too, are taken, except the gap, and all others are free
pub record HasGap {A : Type 0} (vrs : List ℕ) (nodes : List (Option (Box (Node A) A))) (begin gap end : ℕ) : Type 0 where
  pub vrs_long : length vrs ≡ 64
  pub nodes_long : length nodes ≡ 64
  pub from_begin : begin ≤ gap
  pub to_end : gap ≤ end
  pub within : end < 64
  pub few : end ≤ begin + 32
  pub taken : (k : ℕ) → begin ≤ k → k ≤ end → k ≢ gap → IsTaken (get_or nodes k None)
  pub free_before : (k : ℕ) → k < begin → get_or nodes k None ≡ None
  pub free_here : get_or nodes gap None ≡ None
  pub free_behind : (k : ℕ) → end < k → get_or nodes k None ≡ None
