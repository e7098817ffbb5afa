-- What a node of the tree is seen as with its two sides, and what holds of it.
use Rattle.std.specs.Prelude.{◌≡◌, ℕ, ◌+◌, ◌<◌, ◌≤◌, Bool, true, false, max, List, ◌∷◌, ◌++◌}
use Rattle.base_words.specs.declared.names.Key.{Key}
use Rattle.core_timeline.specs.declared.tree.Lean.{Lean}
use Rattle.core_timeline.specs.declared.tree.Lean.TheVariants.{Left, Even, Right}
use Rattle.core_timeline.specs.declared.tree.Node.{Node}
use Rattle.core_timeline.specs.declared.tree.Link.{Link}
use Rattle.core_timeline.specs.declared.tree.Link.TheVariants.{Empty, Top}
use Rattle.core_timeline.specs.Tree.{KeyTree, empty_tree, IsFilled}

-- the key of a node: the link that leads to it holds its virtual runtime
abbrev pub key_of : {A : Type 0} → ℕ → Node A → Key
key_of vr node = record { vr = vr; queue = node.queue }

-- the keys of the left side, the node's own, and those of the right side
abbrev pub keys_of : {A : Type 0} → ℕ → Node A → List Key
keys_of vr node = node.left.keys ++ key_of vr node ∷ node.right.keys

-- the keys in order, and one level more than the higher side has
abbrev pub seen : {A : Type 0} → Link A → KeyTree
seen Empty = empty_tree
seen (Top node vr) = record { keys = keys_of vr node.value; height = max node.value.left.height node.value.right.height + 1 }

-- the side that the lean names is one level higher than the other
abbrev pub Leans : Lean → ℕ → ℕ → Type 0
Leans Left left right = left ≡ right + 1
Leans Even left right = left ≡ right
Leans Right left right = right ≡ left + 1

-- a node over two sides leans as it says, and each side has keys enough
pub record IsInBalance (left right : KeyTree) (lean : Lean) : Type 0 where
  pub leans : Leans lean left.height right.height
  pub left_filled : IsFilled left
  pub right_filled : IsFilled right

-- the top node is in balance, if there is one
abbrev pub IsBalanced : {A : Type 0} → Link A → Type 0
IsBalanced Empty = Unit {0}
IsBalanced (Top node vr) = IsInBalance node.value.left node.value.right node.value.lean

-- a node out of any tree, with nothing on its sides
abbrev pub IsLoose : {A : Type 0} → Node A → Type 0
IsLoose node = (node.left ≡ empty_tree) × (node.right ≡ empty_tree)

-- the left side is one level higher against the right one than the lean says
abbrev pub TiltsLeft : {A : Type 0} → Link A → Type 0
TiltsLeft Empty = ⊥
TiltsLeft (Top node vr) = Leans node.value.lean node.value.left.height (node.value.right.height + 1)

-- the right side is one level higher against the left one than the lean says
abbrev pub TiltsRight : {A : Type 0} → Link A → Type 0
TiltsRight Empty = ⊥
TiltsRight (Top node vr) = Leans node.value.lean (node.value.left.height + 1) node.value.right.height

-- the left side is two levels higher than the right one
abbrev pub IsTwoHigherOnLeft : {A : Type 0} → Link A → Type 0
IsTwoHigherOnLeft Empty = ⊥
IsTwoHigherOnLeft (Top node vr) = node.value.left.height ≡ node.value.right.height + 2

-- the right side is two levels higher than the left one
abbrev pub IsTwoHigherOnRight : {A : Type 0} → Link A → Type 0
IsTwoHigherOnRight Empty = ⊥
IsTwoHigherOnRight (Top node vr) = node.value.right.height ≡ node.value.left.height + 2

-- the height of what a node settles to whose sides have these heights: its sides are even then, or one has a level more
abbrev pub IsTiltHeight : Bool → ℕ → ℕ → ℕ → Type 0
IsTiltHeight true lower higher height = height + height ≡ lower + higher + 2
IsTiltHeight false lower higher height = (lower < higher) × (height ≡ higher + 1)

-- the new node is balanced, has the same keys, and has the height that the old sides, of which the left one tilts, allow
abbrev pub IsUprightLeft : {A : Type 0} → Link A → Link A → Bool → Type 0
IsUprightLeft Empty new even = ⊥
IsUprightLeft (Top node vr) new even = IsBalanced new × ((seen new).keys ≡ keys_of vr node.value) × IsTiltHeight even node.value.right.height node.value.left.height (seen new).height

-- the same where the right one tilts
abbrev pub IsUprightRight : {A : Type 0} → Link A → Link A → Bool → Type 0
IsUprightRight Empty new even = ⊥
IsUprightRight (Top node vr) new even = IsBalanced new × ((seen new).keys ≡ keys_of vr node.value) × IsTiltHeight even node.value.left.height node.value.right.height (seen new).height

-- the right side, or else the left one, is one level higher against the other than the lean says
abbrev pub Tilts : {A : Type 0} → Bool → Link A → Type 0
Tilts true link = TiltsRight link
Tilts false link = TiltsLeft link

-- the new node is what the old one settles to, of which the right side, or else the left one, tilts
abbrev pub IsUpright : {A : Type 0} → Bool → Link A → Link A → Bool → Type 0
IsUpright true old new even = IsUprightRight old new even
IsUpright false old new even = IsUprightLeft old new even

-- there is a top node, with nothing on its left
abbrev pub HasOnlyRight : {A : Type 0} → Link A → Type 0
HasOnlyRight Empty = ⊥
HasOnlyRight (Top node vr) = node.value.left ≡ empty_tree

-- there is a top node, of which the left side isn't higher than the right one
abbrev pub IsLowOnLeft : {A : Type 0} → Link A → Type 0
IsLowOnLeft Empty = ⊥
IsLowOnLeft (Top node vr) = node.value.left.height ≤ node.value.right.height
