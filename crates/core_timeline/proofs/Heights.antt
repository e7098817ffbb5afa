-- How many keys a balanced tree has at least, and at most.
use Rattle.std.proofs.Common.{◌≡◌, ℕ, zero, suc, ◌+◌, ◌*◌, ◌<◌, ◌≤◌, ◌^◌, max, Bool, true, false, ◌∷◌, ◌++◌, length, refl, inl, inr, arith, length-append}
use Rattle.std.proofs.lemmas.Bool.{both_ways, cases_order}
use Rattle.std.proofs.Math.Nat.{pow-suc, pow-le-pow_right}
use Rattle.base_words.specs.declared.names.Key.{Key}
use Rattle.core_timeline.specs.Tree.{KeyTree, fewest, IsFilled, IsLow}
use Rattle.core_timeline.specs.declared.tree.Link.{Link}
use Rattle.core_timeline.specs.declared.tree.Link.TheVariants.{Empty, Top}
use Rattle.core_timeline.specs.declared.tree.Lean.{Lean}
use Rattle.core_timeline.specs.declared.tree.Lean.TheVariants.{Left, Even, Right}
use Rattle.core_timeline.specs.Nodes.{key_of, seen, Leans, IsBalanced, IsTiltHeight}

-- neither height is more than one above the other
abbrev pub DifferByOne : ℕ → ℕ → Type 0
DifferByOne one other = (one ≤ other + 1) × (other ≤ one + 1)

pub Leans-near : (lean : Lean) (left right : ℕ) → Leans lean left right → DifferByOne left right
Leans-near Left left right leans = (omega arith, omega arith)
Leans-near Even left right leans = (omega arith, omega arith)
Leans-near Right left right leans = (omega arith, omega arith)

fewest-rises : (height : ℕ) → fewest height ≤ fewest (suc height)
fewest-rises zero = omega arith
fewest-rises (suc zero) = omega arith
fewest-rises (suc (suc height)) = omega (arith, fewest-rises height)

fewest-suc : (height : ℕ) → fewest (suc height) ≤ 2 * fewest height
fewest-suc zero = omega arith
fewest-suc (suc height) = omega (arith, fewest-rises height)

-- two trees of heights that differ by at most one, joined by one key
fewest-joined : (left right m n : ℕ) → fewest left ≤ m + 1 → fewest right ≤ n + 1 → DifferByOne left right → fewest (max left right + 1) ≤ (m + suc n) + 1
fewest-joined left right m n many more near =
    elim (cases_order left right) [
      | inl same ↦ let e : max left right + 1 ≡ suc left = omega arith in rw e (let s : fewest right ≡ fewest left = cc in omega (arith, fewest-suc left))
      | inr (inl lower) ↦ let r : right ≡ suc left = omega arith in let e : max left right + 1 ≡ suc (suc left) = omega arith in rw e (let s : fewest right ≡ fewest (suc left) = cc in omega (arith, fewest-rises left))
      | inr (inr higher) ↦ let r : left ≡ suc right = omega arith in let e : max left right + 1 ≡ suc (suc right) = omega arith in rw e (let s : fewest left ≡ fewest (suc right) = cc in omega (arith, fewest-rises right))
    ]

-- two trees under one key, whatever their heights
most-joined : (left right m n : ℕ) → m + 1 ≤ 2 ^ left → n + 1 ≤ 2 ^ right → (m + suc n) + 1 ≤ 2 ^ (max left right + 1)
most-joined left right m n few less =
    let on_left : 2 ^ left ≤ 2 ^ max left right = pow-le-pow_right (omega arith) (omega arith) in
    let on_right : 2 ^ right ≤ 2 ^ max left right = pow-le-pow_right (omega arith) (omega arith) in
    let e : max left right + 1 ≡ suc (max left right) = omega arith in
    rw e (omega (arith, pow-suc 2 (max left right)))

pub IsFilled-joined : (left : KeyTree) (key : Key) (right : KeyTree) → IsFilled left → IsFilled right → DifferByOne left.height right.height → IsFilled (record { keys = left.keys ++ key ∷ right.keys; height = max left.height right.height + 1 })
IsFilled-joined left key right filled also near =
    record {
      enough = rw length-append (fewest-joined left.height right.height (length left.keys) (length right.keys) filled.enough also.enough near);
      few = rw length-append (most-joined left.height right.height (length left.keys) (length right.keys) filled.few also.few);
    }

pub IsFilled-seen : {A : Type 0} (root : Link A) → IsBalanced root → IsFilled (seen root)
IsFilled-seen Empty balanced = record { enough = omega arith; few = omega arith }
IsFilled-seen (Top node vr) balanced =
    IsFilled-joined node.value.left (key_of vr node.value) node.value.right balanced.left_filled balanced.right_filled (Leans-near node.value.lean node.value.left.height node.value.right.height balanced.leans)

fewest-pos : (height : ℕ) → 1 ≤ fewest height
fewest-pos zero = omega arith
fewest-pos (suc zero) = omega arith
fewest-pos (suc (suc height)) = omega (arith, fewest-pos height)

fewest-low : (height count digits : ℕ) → fewest height ≤ count → count < 2 ^ digits → height ≤ 2 * digits
fewest-low zero count digits many below = omega arith
fewest-low (suc zero) count zero many below = absurd (omega arith)
fewest-low (suc zero) count (suc digits) many below = omega arith
fewest-low (suc (suc height)) count zero many below = absurd (omega (arith, fewest-pos height))
fewest-low (suc (suc height)) count (suc digits) many below =
    let half = fewest-low height (fewest height) digits (omega arith) (omega (arith, pow-suc 2 digits)) in
    omega (arith, half)

fewest-some : (height : ℕ) → 0 < height → 2 ≤ fewest height
fewest-some zero some = absurd (omega arith)
fewest-some (suc zero) some = omega arith
fewest-some (suc (suc height)) some = omega (arith, fewest-pos height)

-- a tree with a level has a key
pub length-some : (tree : KeyTree) → IsFilled tree → 0 < tree.height → 0 < length tree.keys
length-some tree filled some = omega (arith, fewest-some tree.height some)

-- and one of five levels at most has 31 keys at most
pub length-few : (tree : KeyTree) → IsFilled tree → tree.height ≤ 5 → length tree.keys ≤ 31
length-few tree filled low =
    let most : 2 ^ tree.height ≤ 2 ^ 5 = pow-le-pow_right (omega arith) low in
    omega arith

pub IsLow-from_filled : (tree : KeyTree) → IsFilled tree → IsLow tree
IsLow-from_filled tree filled = λ digits below. fewest-low tree.height (length tree.keys + 1) digits filled.enough below

-- the height of a node that is settled, of which the one side rose by a level against the other
pub record IsRisen (before height : ℕ) (even : Bool) : Type 0 where
  pub as_high : even ≡ true → height ≡ before
  pub higher : even ≡ false → height ≡ before + 1

pub risen : (before one other new height : ℕ) (even : Bool) → before ≡ max one other + 1 → DifferByOne one other → new ≡ one + 1 → IsTiltHeight even other new height → IsRisen before height even
risen before one other new height true is near rose tilted = record { as_high = λ _. omega arith; higher = λ e. absurd (both_ways true e refl) }
risen before one other new height false is near rose tilted = record { as_high = λ e. absurd (both_ways false refl e); higher = λ _. omega arith }

-- and of one of which the one side fell by a level
pub record IsFallen (before height : ℕ) (even : Bool) : Type 0 where
  pub lower : even ≡ true → before ≡ height + 1
  pub as_high : even ≡ false → before ≡ height

pub fallen : (before one other new height : ℕ) (even : Bool) → before ≡ max one other + 1 → DifferByOne one other → one ≡ new + 1 → IsTiltHeight even new other height → IsFallen before height even
fallen before one other new height true is near fell tilted = record { lower = λ _. omega arith; as_high = λ e. absurd (both_ways true e refl) }
fallen before one other new height false is near fell tilted = record { lower = λ e. absurd (both_ways false refl e); as_high = λ _. omega arith }
