-- A node that joins two trees: the first one of the right tree, which goes above both.
use Rattle.std.proofs.Common.{◌≡◌, ℕ, ◌+◌, max, Bool, ◌∷◌, ◌++◌, sym, ap, ◌∙◌, subst, arith}
use Rattle.core_timeline.specs.declared.tree.Lean.{Lean}
use Rattle.core_timeline.specs.declared.tree.Node.{Node}
use Rattle.core_timeline.specs.Tree.{KeyTree, IsFilled}
use Rattle.core_timeline.specs.Nodes.{key_of, keys_of, Leans, IsInBalance, IsTiltHeight}
use Rattle.core_timeline.specs.Middle.{HasSides}
use Rattle.core_timeline.proofs.Heights.{Leans-near, IsFallen, fallen}

module _ {A : Type 0} (node : Node A) (lean : Lean) (left right rest : KeyTree) (queue : ℕ) where
  leans-sides : (high : ℕ) → HasSides node left rest queue lean → Leans lean left.height high → Leans node.lean node.left.height high
  leans-sides high sides leans =
      subst (λ (tree : KeyTree). Leans node.lean tree.height high) (sym sides.left) (subst (λ (lean : Lean). Leans lean left.height high) (sym sides.lean) leans)

  -- the right tree is as high as before
  pub IsInBalance-joined : HasSides node left rest queue lean → IsInBalance left right lean → IsFilled rest → right.height ≡ rest.height → IsInBalance node.left node.right node.lean
  IsInBalance-joined sides balanced filled same =
      record {
        leans = subst (Leans node.lean node.left.height) (same ∙ ap (λ (tree : KeyTree). tree.height) (sym sides.right)) (leans-sides right.height sides balanced.leans);
        left_filled = subst IsFilled (sym sides.left) balanced.left_filled;
        right_filled = subst IsFilled (sym sides.right) filled;
      }

  -- it is one level lower
  pub tilts-joined : HasSides node left rest queue lean → IsInBalance left right lean → right.height ≡ rest.height + 1 → Leans node.lean node.left.height (node.right.height + 1)
  tilts-joined sides balanced lower =
      subst (Leans node.lean node.left.height) (lower ∙ ap (λ (tree : KeyTree). tree.height + 1) (sym sides.right)) (leans-sides right.height sides balanced.leans)

  pub keys-joined : (vr : ℕ) → HasSides node left rest queue lean → right.keys ≡ (record { vr = vr; queue = queue }) ∷ rest.keys → keys_of vr node ≡ left.keys ++ right.keys
  keys-joined vr sides first =
      ap (λ (tree : KeyTree). tree.keys ++ key_of vr node ∷ node.right.keys) sides.left ∙ ap (λ (tree : KeyTree). left.keys ++ key_of vr node ∷ tree.keys) sides.right
      ∙ ap (λ (number : ℕ). left.keys ++ (record { vr = vr; queue = number }) ∷ rest.keys) sides.queue ∙ ap (λ keys. left.keys ++ keys) (sym first)

  pub height-joined : (height : ℕ) → HasSides node left rest queue lean → right.height ≡ rest.height → height ≡ max node.left.height node.right.height + 1 → max left.height right.height + 1 ≡ height
  height-joined height sides same is = omega (arith, same, is, ap (λ (tree : KeyTree). tree.height) sides.left, ap (λ (tree : KeyTree). tree.height) sides.right)

  pub falls-joined : (height : ℕ) (even : Bool) → HasSides node left rest queue lean → IsInBalance left right lean → right.height ≡ rest.height + 1 → IsTiltHeight even node.right.height node.left.height height →
      IsFallen (max left.height right.height + 1) height even
  falls-joined height even sides balanced lower tilted =
      let near = Leans-near lean left.height right.height balanced.leans in
      let settled = subst (λ (tree : KeyTree). IsTiltHeight even rest.height tree.height height) sides.left (subst (λ (tree : KeyTree). IsTiltHeight even tree.height node.left.height height) sides.right tilted) in
      fallen (max left.height right.height + 1) right.height left.height rest.height height even (omega arith) (near.1, near.0) lower settled
