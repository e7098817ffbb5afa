-- How a middle node gives its sides away.
use Rattle.std.specs.Prelude.{◌≡◌, ℕ}
use Rattle.core_timeline.specs.declared.tree.Lean.{Lean}
use Rattle.core_timeline.specs.declared.tree.Lean.TheVariants.{Left, Even, Right}
use Rattle.core_timeline.specs.declared.tree.Node.{Node}
use Rattle.core_timeline.specs.Tree.{KeyTree}

-- the node has these two sides, this queue, and leans so
pub record HasSides {A : Type 0} (node : Node A) (on_left on_right : KeyTree) (number : ℕ) (leaning : Lean) : Type 0 where
  pub left : node.left ≡ on_left
  pub right : node.right ≡ on_right
  pub queue : node.queue ≡ number
  pub lean : node.lean ≡ leaning

-- how the node leans that gets the left side of one that leans so, where its own left side is as high as the higher of the two
abbrev pub lean_on_left : Lean → Lean
lean_on_left Right = Left
lean_on_left _ = Even

-- and how the one leans that gets the right side
abbrev pub lean_on_right : Lean → Lean
lean_on_right Left = Right
lean_on_right _ = Even
