-- What a search through the places of a front finds, and what is left once the found node is taken out.
use Rattle.std.proofs.Common.{◌≡◌, ℕ, suc, ◌+◌, ◌<◌, ◌≤◌, Bool, true, false, ◌||◌, List, [], ◌∷◌, ◌++◌, length, get_or, set, Option, Some, None, Box, refl, sym, ap, ◌∙◌, subst, arith}
use Rattle.std.proofs.lemmas.Bool.{or_from}
use Rattle.std.proofs.lemmas.List.Folds.{list_any-append}
use Rattle.std.specs.List.{list_any}
use Rattle.base_words.specs.declared.names.Key.{Key}
use Rattle.core_timeline.specs.declared.tree.Node.{Node}
use Rattle.core_timeline.specs.Nodes.{key_of}
use Rattle.core_timeline.specs.Rising.{EachKey, IsRising, same_key, has_key, removed}
use Rattle.core_timeline.specs.Front.{front_keys, keys_at, IsFront}
use Rattle.core_timeline.proofs.Before.{Decides-same_key}
use Rattle.core_timeline.proofs.Rising.{has_key-middle, removed-middle}
use Rattle.core_timeline.proofs.FrontKeys.{keys_before, keys_behind, keys-next, keys-split}
use Rattle.core_timeline.proofs.FrontPlaces.{before-first, keys-taken}
use Rattle.core_timeline.proofs.FrontSteps.{one-key, keys-all}

or-true-right : (b : Bool) → (b || true) ≡ true
or-true-right true = refl
or-true-right false = refl

or-false-both : (a b : Bool) → (a || b) ≡ false → (a ≡ false) × (b ≡ false)
or-false-both true b none = absurd (cc)
or-false-both false b none = (refl, none)

module _ {A : Type 0} (test : Key → Bool) where
  pub any-start : (vrs : List ℕ) (nodes : List (Option (Box (Node A) A))) (begin end : ℕ) → IsFront vrs nodes begin end → list_any test (keys_before vrs nodes begin) ≡ false
  any-start vrs nodes begin end front = ap (list_any test) (before-first vrs nodes begin front.free_before (omega (arith, front.nodes_long, front.forward, front.within)))

  -- what was answered at a place is so of its key
  pub any-next : (vrs : List ℕ) (nodes : List (Option (Box (Node A) A))) (begin k next end : ℕ) (answer : Bool) → IsFront vrs nodes begin end → begin ≤ k → k < end → next ≡ k + 1 → EachKey (λ there. answer ≡ test there) (keys_at (get_or vrs k 0) (get_or nodes k None)) → answer ≡ false →
      list_any test (keys_before vrs nodes k) ≡ false → list_any test (keys_before vrs nodes next) ≡ false
  any-next vrs nodes begin k next end answer front low within is answers fails before =
      let step : suc k ≡ next = omega arith in
      let one = one-key (get_or vrs k 0) (get_or nodes k None) (front.taken k low within) in
      let parts = keys-next vrs nodes k (omega (arith, front.vrs_long, front.within)) (front.vrs_long ∙ sym front.nodes_long) ∙ ap (λ keys. keys_before vrs nodes k ++ keys) one.1 in
      let here : test one.0 ≡ false = sym (subst (EachKey (λ there. answer ≡ test there)) one.1 answers).0 ∙ fails in
      subst (λ next. list_any test (keys_before vrs nodes next) ≡ false) step
      (ap (list_any test) parts ∙ list_any-append test (keys_before vrs nodes k) (one.0 ∷ []) ∙ or_from _ _ before (or_from _ _ here refl))

  pub any-end : (vrs : List ℕ) (nodes : List (Option (Box (Node A) A))) (begin at end : ℕ) → IsFront vrs nodes begin end → at ≤ end → end ≤ at → list_any test (keys_before vrs nodes at) ≡ false → list_any test (front_keys vrs nodes) ≡ false
  any-end vrs nodes begin at end front high low none =
      let same : at ≡ end = omega arith in
      ap (list_any test) (keys-all vrs nodes begin end front) ∙ subst (λ at. list_any test (keys_before vrs nodes at) ≡ false) same none

  pub any-found : (vrs : List ℕ) (nodes : List (Option (Box (Node A) A))) (begin k end : ℕ) (answer : Bool) → IsFront vrs nodes begin end → begin ≤ k → k < end → EachKey (λ there. answer ≡ test there) (keys_at (get_or vrs k 0) (get_or nodes k None)) → answer ≡ true →
      list_any test (front_keys vrs nodes) ≡ true
  any-found vrs nodes begin k end answer front low within answers passes =
      let one = one-key (get_or vrs k 0) (get_or nodes k None) (front.taken k low within) in
      let parts = keys-split vrs nodes k (omega (arith, front.vrs_long, front.within)) (front.vrs_long ∙ sym front.nodes_long) ∙ ap (λ keys. keys_before vrs nodes k ++ (keys ++ keys_behind vrs nodes k)) one.1 in
      let here : test one.0 ≡ true = sym (subst (EachKey (λ there. answer ≡ test there)) one.1 answers).0 ∙ passes in
      ap (list_any test) parts ∙ list_any-append test (keys_before vrs nodes k) (one.0 ∷ keys_behind vrs nodes k) ∙ rw here (or-true-right (list_any test (keys_before vrs nodes k)))

pub each-true : (answer : Bool) (test : Key → Bool) (keys : List Key) → EachKey (λ there. answer ≡ test there) keys → answer ≡ true → EachKey (λ there. test there ≡ true) keys
each-true answer test [] answers passes = tt
each-true answer test (key ∷ later) answers passes = (sym answers.0 ∙ passes, each-true answer test later answers.1 passes)

pub removed-absent : (key : Key) (keys : List Key) → has_key key keys ≡ false → removed key keys ≡ keys
removed-absent key [] absent = refl
removed-absent key (next ∷ later) absent =
    let parts = or-false-both (same_key key next) (has_key key later) absent in
    rw parts.0 (ap (λ keys. next ∷ keys) (removed-absent key later parts.1))

-- the key was in this place, whose node is taken out
pub record IsFound {A : Type 0} (key : Key) (node : Node A) (old new : List Key) : Type 0 where
  pub has : has_key key old ≡ true
  pub rest : new ≡ removed key old
  pub queue : node.queue ≡ key.queue

pub found : {A : Type 0} (key : Key) (vrs : List ℕ) (nodes : List (Option (Box (Node A) A))) (begin at end : ℕ) (node : Box (Node A) A) → IsFront vrs nodes begin end → at < end → get_or nodes at None ≡ Some node →
    EachKey (λ there. same_key key there ≡ true) (keys_at (get_or vrs at 0) (get_or nodes at None)) → IsRising (front_keys vrs nodes) → IsFound key node.value (front_keys vrs nodes) (front_keys vrs (set nodes at None))
found key vrs nodes begin at end node front within here same rising =
    let inside : at < length vrs = omega (arith, front.vrs_long, front.within) in
    let long : length vrs ≡ length nodes = front.vrs_long ∙ sym front.nodes_long in
    let there = key_of (get_or vrs at 0) node.value in
    let is : same_key key there ≡ true = (subst (λ place. EachKey (λ there. same_key key there ≡ true) (keys_at (get_or vrs at 0) place)) here same).0 in
    let parts : front_keys vrs nodes ≡ keys_before vrs nodes at ++ there ∷ keys_behind vrs nodes at = keys-split vrs nodes at inside long ∙ ap (λ place. keys_before vrs nodes at ++ (keys_at (get_or vrs at 0) place ++ keys_behind vrs nodes at)) here in
    record {
      has = ap (has_key key) parts ∙ has_key-middle key (keys_before vrs nodes at) there (keys_behind vrs nodes at) is;
      rest = keys-taken vrs nodes at inside long ∙ sym (ap (removed key) parts ∙ removed-middle key (keys_before vrs nodes at) there (keys_behind vrs nodes at) is (subst IsRising parts rising));
      queue = sym ((Decides-same_key key there).0 is).1;
    }
