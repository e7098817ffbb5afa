-- A node that is lifted or taken out: the order of the keys stays, and the heights follow.
use Rattle.std.proofs.Common.{◌≡◌, ℕ, ◌+◌, ◌<◌, ◌≤◌, List, ◌∷◌, ◌++◌, length, Box, sym, ap, ◌∙◌, subst, arith, append_assoc, length-append}
use Rattle.base_words.specs.declared.names.Key.{Key}
use Rattle.core_timeline.specs.declared.tree.Node.{Node}
use Rattle.core_timeline.specs.declared.tree.Link.{Link}
use Rattle.core_timeline.specs.declared.tree.Link.TheVariants.{Top}
use Rattle.core_timeline.specs.Tree.{KeyTree, empty_tree, IsFilled}
use Rattle.core_timeline.specs.Nodes.{key_of, keys_of, seen, IsBalanced, HasOnlyRight, IsLowOnLeft}
use Rattle.core_timeline.proofs.Steps.{tree_of}

joined_left : (a b c d : List Key) (x y z : Key) (middle whole : List Key) → b ++ y ∷ c ≡ middle → whole ≡ (a ++ x ∷ b) ++ y ∷ (c ++ z ∷ d) → whole ≡ (a ++ x ∷ middle) ++ z ∷ d
joined_left a b c d x y z middle whole here lifted = rw (← here) (lifted ∙ simp append_assoc)

joined_right : (a b c d : List Key) (x y z : Key) (middle whole : List Key) → b ++ y ∷ c ≡ middle → whole ≡ (a ++ x ∷ b) ++ y ∷ (c ++ z ∷ d) → whole ≡ a ++ x ∷ (middle ++ z ∷ d)
joined_right a b c d x y z middle whole here lifted = rw (← here) (lifted ∙ simp append_assoc)

module _ {A : Type 0} where
  -- the right side of the left one of two nodes is lifted above both
  pub keys-lifted_left : (now left middle top : Node A) (left_vr middle_vr top_vr : ℕ) (whole : List Key) → now ≡ left → keys_of middle_vr middle ≡ left.right.keys →
      whole ≡ (now.left.keys ++ key_of left_vr now ∷ middle.left.keys) ++ key_of middle_vr middle ∷ (middle.right.keys ++ key_of top_vr top ∷ top.right.keys) →
      whole ≡ keys_of left_vr left ++ key_of top_vr top ∷ top.right.keys
  keys-lifted_left now left middle top left_vr middle_vr top_vr whole same here lifted =
      joined_left now.left.keys middle.left.keys middle.right.keys top.right.keys (key_of left_vr now) (key_of middle_vr middle) (key_of top_vr top) left.right.keys whole here lifted
      ∙ ap (λ (node : Node A). (node.left.keys ++ key_of left_vr node ∷ left.right.keys) ++ key_of top_vr top ∷ top.right.keys) same

  -- the left side of the right one is
  pub keys-lifted_right : (now right middle top : Node A) (right_vr middle_vr top_vr : ℕ) (whole : List Key) → now ≡ right → keys_of middle_vr middle ≡ right.left.keys →
      whole ≡ (top.left.keys ++ key_of top_vr top ∷ middle.left.keys) ++ key_of middle_vr middle ∷ (middle.right.keys ++ key_of right_vr now ∷ now.right.keys) →
      whole ≡ top.left.keys ++ key_of top_vr top ∷ keys_of right_vr right
  keys-lifted_right now right middle top right_vr middle_vr top_vr whole same here lifted =
      joined_right top.left.keys middle.left.keys middle.right.keys now.right.keys (key_of top_vr top) (key_of middle_vr middle) (key_of right_vr now) right.left.keys whole here lifted
      ∙ ap (λ (node : Node A). top.left.keys ++ key_of top_vr top ∷ (right.left.keys ++ key_of right_vr node ∷ node.right.keys)) same

  -- what is left of a tree whose top node, with nothing on its left, is taken out
  pub record IsWithoutLeft (root : Link A) (vr : ℕ) (now : Node A) (rest : Link A) : Type 0 where
    pub keys : (seen root).keys ≡ key_of vr now ∷ (seen rest).keys
    pub free : now.left ≡ empty_tree
    pub lower : (seen root).height ≡ (seen rest).height + 1

  pub without_left : (root old : Link A) (top : Box (Node A) A) (vr : ℕ) (now : Node A) (rest : Link A) → old ≡ root → old ≡ Top top vr → HasOnlyRight root → now ≡ top.value → seen rest ≡ now.right →
      IsWithoutLeft root vr now rest
  without_left root old top vr now rest same is only value view =
      let here : root ≡ Top top vr = sym same ∙ is in
      let free : now.left ≡ empty_tree = ap (λ (node : Node A). node.left) value ∙ subst HasOnlyRight here only in
      let whole : seen root ≡ tree_of vr now = ap seen here ∙ ap (tree_of vr) (sym value) in
      record {
        keys = ap (λ (tree : KeyTree). tree.keys) whole ∙ ap (λ (left : KeyTree). left.keys ++ key_of vr now ∷ now.right.keys) free ∙ ap (λ (tree : KeyTree). key_of vr now ∷ tree.keys) (sym view);
        free = free;
        lower = omega (arith, ap (λ (tree : KeyTree). tree.height) whole, ap (λ (tree : KeyTree). tree.height) free, ap (λ (tree : KeyTree). tree.height) view);
      }

  -- what is left of one whose top node and left side, which isn't higher than the right one, are taken out
  pub record IsWithoutSide (root : Link A) (vr : ℕ) (side : KeyTree) (now : Node A) (rest : Link A) : Type 0 where
    pub keys : (seen root).keys ≡ side.keys ++ key_of vr now ∷ (seen rest).keys
    pub filled : IsFilled side
    pub low : side.height ≤ (seen rest).height
    pub lower : (seen root).height ≡ (seen rest).height + 1

  pub without_side : (root old : Link A) (top : Box (Node A) A) (vr : ℕ) (now : Node A) (side gone : KeyTree) (then : Node A) (rest : Link A) → old ≡ root → old ≡ Top top vr → IsBalanced root → IsLowOnLeft root →
      now ≡ top.value → side ≡ now.left → then ≡ record now { left = gone } → seen rest ≡ then.right → IsWithoutSide root vr side then rest
  without_side root old top vr now side gone then rest same is balanced low value left changed view =
      let here : root ≡ Top top vr = sym same ∙ is in
      let whole : seen root ≡ tree_of vr now = ap seen here ∙ ap (tree_of vr) (sym value) in
      let left_then : top.value.left ≡ side = ap (λ (node : Node A). node.left) (sym value) ∙ sym left in
      let right_then : now.right ≡ seen rest = ap (λ (node : Node A). node.right) (sym changed) ∙ sym view in
      let lowest : top.value.left.height ≤ top.value.right.height = subst IsLowOnLeft here low in
      let right_height : top.value.right.height ≡ (seen rest).height = ap (λ (node : Node A). node.right.height) (sym value) ∙ ap (λ (tree : KeyTree). tree.height) right_then in
      record {
        keys = ap (λ (tree : KeyTree). tree.keys) whole ∙ ap (λ (left : KeyTree). left.keys ++ key_of vr now ∷ now.right.keys) (sym left)
            ∙ ap (λ (right : KeyTree). side.keys ++ key_of vr now ∷ right.keys) right_then ∙ ap (λ (node : Node A). side.keys ++ key_of vr node ∷ (seen rest).keys) (sym changed);
        filled = subst IsFilled left_then (subst IsBalanced here balanced).left_filled;
        low = omega (arith, lowest, right_height, ap (λ (tree : KeyTree). tree.height) left_then);
        lower = omega (arith, ap (λ (tree : KeyTree). tree.height) (ap seen here), lowest, right_height);
      }

  -- a tree with a top node has a key
  pub top_some : (root : Link A) (top : Box (Node A) A) (vr : ℕ) (tree : KeyTree) → seen root ≡ tree → root ≡ Top top vr → 0 < length tree.keys
  top_some root top vr tree view is =
      omega (arith, ap (λ (tree : KeyTree). length tree.keys) (sym (ap seen is) ∙ view), length-append top.value.left.keys (key_of vr top.value ∷ top.value.right.keys))

pub top_not_empty : (tree : KeyTree) → 0 < length tree.keys → tree ≡ empty_tree → ⊥
top_not_empty tree some none = omega (arith, some, ap (λ (tree : KeyTree). length tree.keys) none)
