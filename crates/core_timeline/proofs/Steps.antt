-- A step down a tree and back: what its top node becomes where one of its sides changes.
use Rattle.std.proofs.Common.{◌≡◌, ℕ, ◌+◌, ◌<◌, max, Bool, true, false, not, ◌∷◌, ◌++◌, length, Box, refl, sym, ap, ◌∙◌, subst, arith, length-append}
use Rattle.std.specs.Box.{with_value}
use Rattle.std.proofs.lemmas.Bool.{both_ways, not-true, not-false}
use Rattle.base_words.specs.declared.names.Key.{Key}
use Rattle.core_timeline.specs.declared.tree.Lean.{Lean}
use Rattle.core_timeline.specs.declared.tree.Lean.TheVariants.{Left, Even, Right}
use Rattle.core_timeline.specs.declared.tree.Node.{Node}
use Rattle.core_timeline.specs.declared.tree.Link.{Link}
use Rattle.core_timeline.specs.declared.tree.Link.TheVariants.{Top}
use Rattle.core_timeline.specs.Rising.{stands_before, IsRising, has_key, inserted, removed}
use Rattle.core_timeline.specs.Tree.{KeyTree, IsFilled}
use Rattle.core_timeline.specs.Nodes.{key_of, keys_of, seen, Leans, IsInBalance, IsBalanced, Tilts, IsUpright}
use Rattle.core_timeline.specs.Sides.{side_of, with_side}
use Rattle.core_timeline.proofs.Rising.{IsRising-front, IsRising-back, inserted-left, inserted-right, has_key-left, has_key-right, removed-left, removed-right}
use Rattle.core_timeline.proofs.Heights.{DifferByOne, Leans-near, IsRisen, risen, IsFallen, fallen}

-- what is seen of a node that stands at this virtual runtime
abbrev pub tree_of : {A : Type 0} → ℕ → Node A → KeyTree
tree_of vr node = record { keys = keys_of vr node; height = max node.left.height node.right.height + 1 }

-- the node is the top of the tree, and its right side, or else its left one, was this
pub record IsStep {A : Type 0} (tree : KeyTree) (vr : ℕ) (node : Node A) (right : Bool) (old : KeyTree) : Type 0 where
  pub whole : tree ≡ tree_of vr node
  pub balanced : IsInBalance node.left node.right node.lean
  pub side : old ≡ side_of right node

pub stepped : {A : Type 0} (root : Link A) (top : Box (Node A) A) (vr : ℕ) (node : Node A) (tree : KeyTree) (right : Bool) (old : KeyTree) → seen root ≡ tree → IsBalanced root → root ≡ Top top vr →
    node ≡ top.value → old ≡ side_of right node → IsStep tree vr node right old
stepped {A = A} root top vr node tree right old view balanced is value side =
    let balanced = subst (λ (node : Node A). IsInBalance node.left node.right node.lean) (sym value) (subst IsBalanced is balanced) in
    record { whole = sym view ∙ ap seen is ∙ ap (tree_of vr) (sym value); balanced = balanced; side = side }

rising-here : {A : Type 0} {tree : KeyTree} {vr : ℕ} {node : Node A} {right : Bool} {old : KeyTree} → IsStep tree vr node right old → IsRising tree.keys → IsRising (keys_of vr node)
rising-here step rising = subst (λ (t : KeyTree). IsRising t.keys) step.whole rising

pub rising-side : {A : Type 0} {tree : KeyTree} {vr : ℕ} {node : Node A} {right : Bool} {old : KeyTree} → IsStep tree vr node right old → IsRising tree.keys → IsRising old.keys
rising-side {vr = vr} {node = node} {right = true} step rising =
    subst (λ (t : KeyTree). IsRising t.keys) (sym step.side) (IsRising-back node.left.keys (key_of vr node) node.right.keys (rising-here step rising))
rising-side {vr = vr} {node = node} {right = false} step rising =
    subst (λ (t : KeyTree). IsRising t.keys) (sym step.side) (IsRising-front node.left.keys (key_of vr node ∷ node.right.keys) (rising-here step rising))

pub shorter-side : {A : Type 0} {tree : KeyTree} {vr : ℕ} {node : Node A} {right : Bool} {old : KeyTree} → IsStep tree vr node right old → length old.keys < length tree.keys
shorter-side {vr = vr} {node = node} {right = true} step =
    omega (arith, ap (λ (t : KeyTree). length t.keys) step.whole, ap (λ (t : KeyTree). length t.keys) step.side, length-append node.left.keys (key_of vr node ∷ node.right.keys))
shorter-side {vr = vr} {node = node} {right = false} step =
    omega (arith, ap (λ (t : KeyTree). length t.keys) step.whole, ap (λ (t : KeyTree). length t.keys) step.side, length-append node.left.keys (key_of vr node ∷ node.right.keys))

-- with a side as high as before the node is in balance, and as high as before
pub balanced-as_high : {A : Type 0} {tree : KeyTree} {vr : ℕ} {node : Node A} {right : Bool} {old : KeyTree} (new : KeyTree) → IsStep tree vr node right old → IsFilled new → old.height ≡ new.height →
    IsInBalance (with_side right node new).left (with_side right node new).right (with_side right node new).lean
balanced-as_high {node = node} {right = true} new step filled same =
    let leans = subst (Leans node.lean node.left.height) (ap (λ (t : KeyTree). t.height) (sym step.side) ∙ same) step.balanced.leans in
    record { leans = leans; left_filled = step.balanced.left_filled; right_filled = filled }
balanced-as_high {node = node} {right = false} new step filled same =
    let leans = subst (λ height. Leans node.lean height node.right.height) (ap (λ (t : KeyTree). t.height) (sym step.side) ∙ same) step.balanced.leans in
    record { leans = leans; left_filled = filled; right_filled = step.balanced.right_filled }

pub height-as_high : {A : Type 0} {tree : KeyTree} {vr : ℕ} {node : Node A} {right : Bool} {old : KeyTree} (new : KeyTree) → IsStep tree vr node right old → old.height ≡ new.height → tree.height ≡ (tree_of vr (with_side right node new)).height
height-as_high {node = node} {right = true} new step same =
    ap (λ (t : KeyTree). t.height) step.whole ∙ ap (λ height. max node.left.height height + 1) (ap (λ (t : KeyTree). t.height) (sym step.side) ∙ same)
height-as_high {node = node} {right = false} new step same =
    ap (λ (t : KeyTree). t.height) step.whole ∙ ap (λ height. max height node.right.height + 1) (ap (λ (t : KeyTree). t.height) (sym step.side) ∙ same)

-- a side that rose by a level makes its node tilt that way, and one that fell the other way
leans-both : (lean : Lean) (left right : ℕ) → Leans lean left right → Leans lean (left + 1) (right + 1)
leans-both Left left right leans = omega arith
leans-both Even left right leans = omega arith
leans-both Right left right leans = omega arith

pub tilts-risen : {A : Type 0} {tree : KeyTree} {vr : ℕ} {node : Node A} {right : Bool} {old : KeyTree} (new : KeyTree) (top : Box (Node A) A) → IsStep tree vr node right old →
    new.height ≡ old.height + 1 → Tilts right (Top (with_value top (with_side right node new)) vr)
tilts-risen {node = node} {right = true} new top step risen =
    subst (Leans node.lean (node.left.height + 1)) (ap (λ (t : KeyTree). t.height + 1) (sym step.side) ∙ sym risen) (leans-both node.lean node.left.height node.right.height step.balanced.leans)
tilts-risen {node = node} {right = false} new top step risen =
    subst (λ height. Leans node.lean height (node.right.height + 1)) (ap (λ (t : KeyTree). t.height + 1) (sym step.side) ∙ sym risen) (leans-both node.lean node.left.height node.right.height step.balanced.leans)

pub tilts-fallen : {A : Type 0} {tree : KeyTree} {vr : ℕ} {node : Node A} {right : Bool} {old : KeyTree} (new : KeyTree) (top : Box (Node A) A) → IsStep tree vr node right old →
    old.height ≡ new.height + 1 → Tilts (not right) (Top (with_value top (with_side right node new)) vr)
tilts-fallen {node = node} {right = true} new top step fallen =
    subst (Leans node.lean node.left.height) (ap (λ (t : KeyTree). t.height) (sym step.side) ∙ fallen) step.balanced.leans
tilts-fallen {node = node} {right = false} new top step fallen =
    subst (λ height. Leans node.lean height node.right.height) (ap (λ (t : KeyTree). t.height) (sym step.side) ∙ fallen) step.balanced.leans

-- what a tilted node settles to
pub upright-keys : {A : Type 0} (right : Bool) (top : Box (Node A) A) (vr : ℕ) (root : Link A) (even : Bool) → IsUpright right (Top top vr) root even → (seen root).keys ≡ keys_of vr top.value
upright-keys true top vr root even upright = upright.1
upright-keys false top vr root even upright = upright.1

-- the heights of a tree and of its side, by those of the node's sides
heights-here : {A : Type 0} {tree : KeyTree} {vr : ℕ} {node : Node A} {right : Bool} {old : KeyTree} → IsStep tree vr node right old →
    (tree.height ≡ max node.left.height node.right.height + 1) × (old.height ≡ (side_of right node).height) × DifferByOne node.left.height node.right.height
heights-here {node = node} step =
    (ap (λ (t : KeyTree). t.height) step.whole, ap (λ (t : KeyTree). t.height) step.side, Leans-near node.lean node.left.height node.right.height step.balanced.leans)

pub upright-risen : {A : Type 0} {tree : KeyTree} {vr : ℕ} {node : Node A} {right : Bool} {old : KeyTree} (new : KeyTree) (top : Box (Node A) A) (root : Link A) (even : Bool) →
    IsStep tree vr node right old → new.height ≡ old.height + 1 → IsUpright right (Top (with_value top (with_side right node new)) vr) root even → IsRisen tree.height (seen root).height even
upright-risen {tree = tree} {node = node} {right = true} new top root even step rose upright =
    let here = heights-here step in
    risen tree.height node.right.height node.left.height new.height (seen root).height even (omega arith) (here.2.1, here.2.0) (omega arith) upright.2
upright-risen {tree = tree} {node = node} {right = false} new top root even step rose upright =
    let here = heights-here step in
    risen tree.height node.left.height node.right.height new.height (seen root).height even here.0 here.2 (omega arith) upright.2

pub upright-fallen : {A : Type 0} {tree : KeyTree} {vr : ℕ} {node : Node A} {right : Bool} {old : KeyTree} (new : KeyTree) (top : Box (Node A) A) (root : Link A) (even : Bool) →
    IsStep tree vr node right old → old.height ≡ new.height + 1 → IsUpright (not right) (Top (with_value top (with_side right node new)) vr) root even → IsFallen tree.height (seen root).height even
upright-fallen {tree = tree} {node = node} {right = true} new top root even step fell upright =
    let here = heights-here step in
    fallen tree.height node.right.height node.left.height new.height (seen root).height even (omega arith) (here.2.1, here.2.0) (omega arith) upright.2
upright-fallen {tree = tree} {node = node} {right = false} new top root even step fell upright =
    let here = heights-here step in
    fallen tree.height node.left.height node.right.height new.height (seen root).height even here.0 here.2 (omega arith) upright.2

-- the key goes into the right side, or else into the left one, by its order and the node's
pub record IsInsertion {A : Type 0} (tree : KeyTree) (key : Key) (vr : ℕ) (node : Node A) (right : Bool) (old new : KeyTree) : Type 0 where
  pub step : IsStep tree vr node right old
  pub rising : IsRising tree.keys
  pub behind : right ≡ not (stands_before key (key_of vr node))
  pub keys : new.keys ≡ inserted key old.keys

pub behind-at : {A : Type 0} (vr here : ℕ) (right : Bool) {given one shown top other : Node A} → given ≡ one → shown ≡ top → other ≡ top →
    right ≡ not (stands_before (key_of vr given) (key_of here shown)) → right ≡ not (stands_before (key_of vr one) (key_of here other))
behind-at {A = A} vr here right {one = one} {shown = shown} is_one is_top is_other behind =
    behind ∙ ap (λ (node : Node A). not (stands_before (key_of vr node) (key_of here shown))) is_one ∙ ap (λ (node : Node A). not (stands_before (key_of vr one) (key_of here node))) (is_top ∙ sym is_other)

pub keys-inserted : {A : Type 0} {tree : KeyTree} {key : Key} {vr : ℕ} {node : Node A} {right : Bool} {old new : KeyTree} → IsInsertion tree key vr node right old new → keys_of vr (with_side right node new) ≡ inserted key tree.keys
keys-inserted {key = key} {vr = vr} {node = node} {right = true} all =
    let here = key_of vr node in
    ap (λ keys. node.left.keys ++ here ∷ keys) (all.keys ∙ ap (λ (t : KeyTree). inserted key t.keys) all.step.side)
    ∙ sym (inserted-right key node.left.keys here node.right.keys (not-true _ (sym all.behind)) (rising-here all.step all.rising)) ∙ ap (λ (t : KeyTree). inserted key t.keys) (sym all.step.whole)
keys-inserted {key = key} {vr = vr} {node = node} {right = false} all =
    let here = key_of vr node in
    ap (λ keys. keys ++ here ∷ node.right.keys) (all.keys ∙ ap (λ (t : KeyTree). inserted key t.keys) all.step.side)
    ∙ sym (inserted-left key node.left.keys here node.right.keys (not-false _ (sym all.behind))) ∙ ap (λ (t : KeyTree). inserted key t.keys) (sym all.step.whole)

pub keys-risen : {A : Type 0} {tree : KeyTree} {key : Key} {vr : ℕ} {node : Node A} {right : Bool} {old new : KeyTree} (top : Box (Node A) A) (root : Link A) (even : Bool) →
    IsInsertion tree key vr node right old new → IsUpright right (Top (with_value top (with_side right node new)) vr) root even → (seen root).keys ≡ inserted key tree.keys
keys-risen {vr = vr} {node = node} {right = right} {new = new} top root even all upright = upright-keys right (with_value top (with_side right node new)) vr root even upright ∙ keys-inserted all

-- a key that is looked for on the right side stands behind the node's, and one on the left side before it
abbrev PointsTo : Bool → Key → Key → Type 0
PointsTo true here key = stands_before here key ≡ true
PointsTo false here key = stands_before key here ≡ true

-- the key is looked for on that side
pub record IsSearch {A : Type 0} (tree : KeyTree) (key : Key) (vr : ℕ) (node : Node A) (right : Bool) (old : KeyTree) : Type 0 where
  pub step : IsStep tree vr node right old
  pub rising : IsRising tree.keys
  pub points : PointsTo right (key_of vr node) key

pub points-behind : (right : Bool) (here key : Key) → right ≡ stands_before here key → right ≡ true → PointsTo right here key
points-behind true here key is behind = sym is
points-behind false here key is behind = absurd (both_ways false refl behind)

pub points-before : (right before : Bool) (here key : Key) → right ≡ false → before ≡ stands_before key here → before ≡ true → PointsTo right here key
points-before true before here key ahead is found = absurd (both_ways true ahead refl)
points-before false before here key ahead is found = sym is ∙ found

pub points-at : {A : Type 0} (vr : ℕ) (right : Bool) (here key : Key) (shown top node : Node A) → PointsTo right here key → here ≡ key_of vr shown → shown ≡ top → node ≡ top → PointsTo right (key_of vr node) key
points-at vr right here key shown top node points is is_shown is_node = subst (λ here. PointsTo right here key) (is ∙ ap (key_of vr) (is_shown ∙ sym is_node)) points

pub has_key-side : {A : Type 0} {tree : KeyTree} {key : Key} {vr : ℕ} {node : Node A} {right : Bool} {old : KeyTree} → IsSearch tree key vr node right old → has_key key old.keys ≡ has_key key tree.keys
has_key-side {key = key} {vr = vr} {node = node} {right = true} all =
    ap (λ (t : KeyTree). has_key key t.keys) all.step.side
    ∙ sym (has_key-right key node.left.keys (key_of vr node) node.right.keys all.points (rising-here all.step all.rising)) ∙ ap (λ (t : KeyTree). has_key key t.keys) (sym all.step.whole)
has_key-side {key = key} {vr = vr} {node = node} {right = false} all =
    ap (λ (t : KeyTree). has_key key t.keys) all.step.side
    ∙ sym (has_key-left key node.left.keys (key_of vr node) node.right.keys all.points (rising-here all.step all.rising)) ∙ ap (λ (t : KeyTree). has_key key t.keys) (sym all.step.whole)

pub keys-removed : {A : Type 0} {tree : KeyTree} {key : Key} {vr : ℕ} {node : Node A} {right : Bool} {old : KeyTree} (new : KeyTree) → IsSearch tree key vr node right old →
    new.keys ≡ removed key old.keys → keys_of vr (with_side right node new) ≡ removed key tree.keys
keys-removed {key = key} {vr = vr} {node = node} {right = true} new all is =
    ap (λ keys. node.left.keys ++ key_of vr node ∷ keys) (is ∙ ap (λ (t : KeyTree). removed key t.keys) all.step.side)
    ∙ sym (removed-right key node.left.keys (key_of vr node) node.right.keys all.points (rising-here all.step all.rising)) ∙ ap (λ (t : KeyTree). removed key t.keys) (sym all.step.whole)
keys-removed {key = key} {vr = vr} {node = node} {right = false} new all is =
    ap (λ keys. keys ++ key_of vr node ∷ node.right.keys) (is ∙ ap (λ (t : KeyTree). removed key t.keys) all.step.side)
    ∙ sym (removed-left key node.left.keys (key_of vr node) node.right.keys all.points (rising-here all.step all.rising)) ∙ ap (λ (t : KeyTree). removed key t.keys) (sym all.step.whole)

pub keys-fallen : {A : Type 0} {tree : KeyTree} {key : Key} {vr : ℕ} {node : Node A} {right : Bool} {old : KeyTree} (new : KeyTree) (top : Box (Node A) A) (root : Link A) (even : Bool) →
    IsSearch tree key vr node right old → new.keys ≡ removed key old.keys → IsUpright (not right) (Top (with_value top (with_side right node new)) vr) root even → (seen root).keys ≡ removed key tree.keys
keys-fallen {vr = vr} {node = node} {right = right} new top root even all is upright = upright-keys (not right) (with_value top (with_side right node new)) vr root even upright ∙ keys-removed new all is

pub with_side-same : {A : Type 0} {tree : KeyTree} {vr : ℕ} {node : Node A} {right : Bool} {old : KeyTree} (new : KeyTree) → IsStep tree vr node right old → new ≡ old → node ≡ with_side right node new
with_side-same {node = node} {right = true} new step same = ap (with_side true node) (sym (same ∙ step.side))
with_side-same {node = node} {right = false} new step same = ap (with_side false node) (sym (same ∙ step.side))

pub keys-first : {A : Type 0} {tree : KeyTree} {vr : ℕ} {node : Node A} {old : KeyTree} (key : Key) (new : KeyTree) (root : Link A) →
    IsStep tree vr node false old → old.keys ≡ key ∷ new.keys → (seen root).keys ≡ keys_of vr (with_side false node new) → tree.keys ≡ key ∷ (seen root).keys
keys-first {vr = vr} {node = node} key new root step first same =
    ap (λ (t : KeyTree). t.keys) step.whole ∙ ap (λ keys. keys ++ key_of vr node ∷ node.right.keys) (ap (λ (t : KeyTree). t.keys) (sym step.side) ∙ first)
    ∙ ap (λ keys. key ∷ keys) (sym same)
