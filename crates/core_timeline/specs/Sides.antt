-- The sides of a node, and how one of them is lent.
use Rattle.std.specs.Prelude.{Bool, true, false}
use Rattle.std.specs.Borrow.{Lends, MutBor, Fml}
use Rattle.std.specs.declared.alloc.Allocator.{Ghosts}
use denote.RattleType.{RattleType}
use Rattle.core_timeline.specs.declared.tree.Node.{Node}
use Rattle.core_timeline.specs.contracts.tree.Node as node
use Rattle.core_timeline.specs.contracts.tree.Tree as tree
use Rattle.core_timeline.specs.Tree.{KeyTree}

-- the right side, or else the left one
abbrev pub side_of : {A : Type 0} → Bool → Node A → KeyTree
side_of true node = node.right
side_of false node = node.left

-- the node with another tree as that side
abbrev pub with_side : {A : Type 0} → Bool → Node A → KeyTree → Node A
with_side true node side = record node { right = side }
with_side false node side = record node { left = side }

-- the node ends with the last tree behind `lent` as that side
abbrev pub LendsSide : (A : RattleType) → (G : Ghosts A.Denot) → Bool → MutBor (Node A.Denot) → MutBor KeyTree → Fml
LendsSide A G right lender lent = Lends (node.the_row A G) (tree.the_row A G) lender lent (with_side right lender.now)
