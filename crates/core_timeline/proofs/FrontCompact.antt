-- The places of a front when it is made, and while its nodes move to the first places.
use Rattle.std.proofs.Common.{◌≡◌, ℕ, zero, suc, ◌+◌, ◌<◌, ◌≤◌, List, [], ◌∷◌, ◌++◌, length, get_or, set, Option, Some, None, Box, sym, ap, ◌∙◌, inl, inr, arith, length-set}
use Rattle.std.proofs.lemmas.Bool.{cases_eq, cases_lt}
use Rattle.std.proofs.lemmas.List.{get_or-set_same, get_or-set_other, get_or_append_left, get_or_push, get_or_past}
use Rattle.core_timeline.specs.declared.tree.Node.{Node}
use Rattle.core_timeline.specs.Nodes.{key_of}
use Rattle.core_timeline.specs.Front.{front_keys, keys_at, IsTaken, IsFront}
use Rattle.core_timeline.proofs.FrontKeys.{keys_behind, front_keys-cons, keys-split}
use Rattle.core_timeline.proofs.FrontPlaces.{before-first, keys-taken}

module _ {A : Type 0} where
  -- each place is free
  abbrev pub AreFree : List (Option (Box (Node A) A)) → ℕ → Type 0
  AreFree nodes count = (k : ℕ) (place : Option (Box (Node A) A)) → k < count → get_or nodes k place ≡ None

  pub free-push : (nodes : List (Option (Box (Node A) A))) (count : ℕ) → length nodes ≡ count → AreFree nodes count → AreFree (nodes ++ None ∷ []) (count + 1)
  free-push nodes count long free = λ k place below. elim (cases_lt k count) [
    | inl earlier ↦ get_or_append_left nodes (None ∷ []) place k (omega (arith, long)) ∙ free k place earlier
    | inr last ↦ get_or_push nodes None place k (omega (arith, long))
  ]

  pub free-all : (nodes : List (Option (Box (Node A) A))) (count : ℕ) → length nodes ≡ count → AreFree nodes count → (k : ℕ) → get_or nodes k None ≡ None
  free-all nodes count long free k = elim (cases_lt k count) [
    | inl below ↦ free k None below
    | inr above ↦ get_or_past nodes k None (omega (arith, long))
  ]

  -- of `count` nodes from `begin` on the first `k` have moved to the first places
  pub record IsCompacting (vrs : List ℕ) (nodes : List (Option (Box (Node A) A))) (begin k count : ℕ) : Type 0 where
    pub vrs_long : length vrs ≡ 64
    pub nodes_long : length nodes ≡ 64
    pub moved : (j : ℕ) → j < k → IsTaken (get_or nodes j None)
    pub free : (j : ℕ) → k ≤ j → j < begin + k → get_or nodes j None ≡ None
    pub taken : (j : ℕ) → begin + k ≤ j → j < begin + count → IsTaken (get_or nodes j None)
    pub free_behind : (j : ℕ) → begin + count ≤ j → get_or nodes j None ≡ None

  pub compact-start : (vrs : List ℕ) (nodes : List (Option (Box (Node A) A))) (begin end count : ℕ) → IsFront vrs nodes begin end → begin + count ≡ end → IsCompacting vrs nodes begin 0 count
  compact-start vrs nodes begin end count front is =
      record {
        vrs_long = front.vrs_long;
        nodes_long = front.nodes_long;
        moved = λ j below. absurd (omega arith);
        free = λ j low high. front.free_before j (omega arith);
        taken = λ j low high. front.taken j (omega arith) (omega arith);
        free_behind = λ j low. front.free_behind j (omega arith);
      }

  -- a node that moves down past free places
  keys-move : (vrs : List ℕ) (nodes : List (Option (Box (Node A) A))) (to from : ℕ) → to < from → from < length vrs → length vrs ≡ length nodes → ((j : ℕ) → to ≤ j → j < from → get_or nodes j None ≡ None) →
      front_keys (set vrs to (get_or vrs from 0)) (set (set nodes from None) to (get_or nodes from None)) ≡ front_keys vrs nodes
  keys-move [] nodes to from below within long free = absurd (omega arith)
  keys-move (v ∷ vrs) [] to from below within long free = absurd (omega arith)
  keys-move (v ∷ vrs) (n ∷ nodes) to zero below within long free = absurd (omega arith)
  keys-move (v ∷ vrs) (Some n ∷ nodes) zero (suc from) below within long free = let here : Some n ≡ None = free 0 (omega arith) (omega arith) in absurd (cc)
  keys-move (v ∷ vrs) (None ∷ nodes) zero (suc from) below within long free =
      let none = before-first vrs nodes from (λ j low. free (suc j) (omega arith) (omega arith)) (omega arith) in
      front_keys-cons (get_or vrs from 0) (get_or nodes from None) vrs (set nodes from None)
      ∙ ap (λ keys. keys_at (get_or vrs from 0) (get_or nodes from None) ++ keys) (keys-taken vrs nodes from (omega arith) (omega arith) ∙ ap (λ keys. keys ++ keys_behind vrs nodes from) none)
      ∙ sym (keys-split vrs nodes from (omega arith) (omega arith) ∙ ap (λ keys. keys ++ (keys_at (get_or vrs from 0) (get_or nodes from None) ++ keys_behind vrs nodes from)) none)
  keys-move (v ∷ vrs) (None ∷ nodes) (suc to) (suc from) below within long free = keys-move vrs nodes to from (omega arith) (omega arith) (omega arith) (λ j low high. free (suc j) (omega arith) (omega arith))
  keys-move (v ∷ vrs) (Some n ∷ nodes) (suc to) (suc from) below within long free =
      ap (λ keys. key_of v n.value ∷ keys) (keys-move vrs nodes to from (omega arith) (omega arith) (omega arith) (λ j low high. free (suc j) (omega arith) (omega arith)))

  pub compact-next : (vrs : List ℕ) (nodes : List (Option (Box (Node A) A))) (begin k from count : ℕ) → IsCompacting vrs nodes begin k count → 0 < begin → k < count → begin + count ≤ 64 → from ≡ begin + k →
      IsCompacting (set vrs k (get_or vrs from 0)) (set (set nodes from None) k (get_or nodes from None)) begin (k + 1) count
      × (front_keys (set vrs k (get_or vrs from 0)) (set (set nodes from None) k (get_or nodes from None)) ≡ front_keys vrs nodes)
  compact-next vrs nodes begin k from count is some more within at =
      let long : length (set nodes from None) ≡ 64 = length-set nodes from None ∙ is.nodes_long in
      let node = get_or nodes from None in
      let other : (j : ℕ) → ¬ (j ≡ k) → ¬ (j ≡ from) → get_or (set (set nodes from None) k node) j None ≡ get_or nodes j None = λ j not_k not_from. get_or-set_other (set nodes from None) k j node None not_k ∙ get_or-set_other nodes from j None None not_from in (
        record {
          vrs_long = length-set vrs k (get_or vrs from 0) ∙ is.vrs_long;
          nodes_long = length-set (set nodes from None) k node ∙ long;
          moved = λ j below. elim (cases_eq j k) [
            | inl same ↦ rw (same, get_or-set_same (set nodes from None) k node None (omega (arith, long))) (is.taken from (omega arith) (omega arith))
            | inr apart ↦ rw (other j apart (omega arith)) (is.moved j (omega arith))
          ];
          free = λ j low high. elim (cases_eq j from) [
            | inl same ↦ rw same (get_or-set_other (set nodes from None) k from node None (omega arith) ∙ get_or-set_same nodes from None None (omega (arith, is.nodes_long)))
            | inr apart ↦ other j (omega arith) apart ∙ is.free j (omega arith) (omega arith)
          ];
          taken = λ j low high. rw (other j (omega arith) (omega arith)) (is.taken j (omega arith) high);
          free_behind = λ j low. other j (omega arith) (omega arith) ∙ is.free_behind j low;
        },
        keys-move vrs nodes k from (omega arith) (omega (arith, is.vrs_long)) (is.vrs_long ∙ sym is.nodes_long) (λ j low high. is.free j low (omega arith)),
      )

  pub compact-end : (vrs : List ℕ) (nodes : List (Option (Box (Node A) A))) (begin k count : ℕ) → IsCompacting vrs nodes begin k count → k ≡ count → count ≤ 32 → IsFront vrs nodes 0 count
  compact-end vrs nodes begin k count is all few =
      record {
        vrs_long = is.vrs_long;
        nodes_long = is.nodes_long;
        forward = omega arith;
        within = omega arith;
        few = omega arith;
        taken = λ j low high. is.moved j (omega arith);
        free_before = λ j low. absurd (omega arith);
        free_behind = λ j high. elim (cases_lt j (begin + count)) [
          | inl below ↦ is.free j (omega arith) (omega arith)
          | inr above ↦ is.free_behind j (omega arith)
        ];
      }
