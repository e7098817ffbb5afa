-- Places that are taken and free, as nodes come, go and move.
use Rattle.std.proofs.Common.{◌≡◌, ◌≢◌, ℕ, suc, ◌+◌, ◌<◌, ◌≤◌, List, [], ◌∷◌, ◌++◌, length, get_or, take, drop, set, Option, Some, None, Box, sym, ap, ◌∙◌, subst, inl, inr, arith, length-set}
use Rattle.std.proofs.lemmas.Bool.{cases_eq, cases_lt}
use Rattle.std.proofs.lemmas.List.{get_or-set_same, get_or-set_other, get_or-take, get_or-drop, get_or_past, length-take-le, set-get_or}
use Rattle.core_timeline.specs.declared.tree.Node.{Node}
use Rattle.core_timeline.specs.Nodes.{key_of, IsLoose}
use Rattle.core_timeline.specs.Front.{front_keys, keys_at, IsFront, HasGap}
use Rattle.core_timeline.proofs.FrontKeys.{keys_before, keys_behind, keys-set, keys-split, keys-free}

module _ {A : Type 0} where
  -- a node is taken out
  pub front-take : (vrs : List ℕ) (nodes : List (Option (Box (Node A) A))) (begin k last end : ℕ) → IsFront vrs nodes begin end → begin ≤ k → k ≤ last → end ≡ last + 1 → HasGap vrs (set nodes k None) begin k last
  front-take vrs nodes begin k last end front from to next =
      record {
        vrs_long = front.vrs_long;
        nodes_long = length-set nodes k None ∙ front.nodes_long;
        from_begin = from;
        to_end = to;
        within = omega arith;
        few = omega arith;
        taken = λ j low high other. rw (get_or-set_other nodes k j None None other) (front.taken j low (omega arith));
        free_before = λ j low. rw (get_or-set_other nodes k j None None (omega arith)) (front.free_before j low);
        free_here = get_or-set_same nodes k None None (omega (arith, front.nodes_long, front.within));
        free_behind = λ j high. rw (get_or-set_other nodes k j None None (omega arith)) (front.free_behind j (omega arith));
      }

  -- a node is put into the free place
  pub gap-put : (vrs : List ℕ) (nodes : List (Option (Box (Node A) A))) (begin k last end vr : ℕ) (node : Box (Node A) A) → HasGap vrs nodes begin k last → IsLoose node.value → end ≡ last + 1 → end ≤ begin + 32 → IsFront (set vrs k vr) (set nodes k (Some node)) begin end
  gap-put vrs nodes begin k last end vr node gap loose next few =
      record {
        vrs_long = length-set vrs k vr ∙ gap.vrs_long;
        nodes_long = length-set nodes k (Some node) ∙ gap.nodes_long;
        forward = omega (arith, gap.from_begin, gap.to_end);
        within = omega (arith, gap.within);
        few = few;
        taken = λ j low high. elim (cases_eq j k) [
          | inl same ↦ rw (same, get_or-set_same nodes k (Some node) None (omega (arith, gap.nodes_long, gap.to_end, gap.within))) loose
          | inr other ↦ rw (get_or-set_other nodes k j (Some node) None other) (gap.taken j low (omega arith) other)
        ];
        free_before = λ j low. rw (get_or-set_other nodes k j (Some node) None (omega (arith, gap.from_begin))) (gap.free_before j low);
        free_behind = λ j high. rw (get_or-set_other nodes k j (Some node) None (omega (arith, gap.to_end))) (gap.free_behind j (omega arith));
      }

  -- a node moves into the free place, and leaves its own free
  pub gap-move : (vrs : List ℕ) (nodes : List (Option (Box (Node A) A))) (begin to from last vr : ℕ) → HasGap vrs nodes begin to last → begin ≤ from → from ≤ last → from ≢ to → HasGap (set vrs to vr) (set (set nodes from None) to (get_or nodes from None)) begin from last
  gap-move vrs nodes begin to from last vr gap low high apart =
      let long : length (set nodes from None) ≡ 64 = length-set nodes from None ∙ gap.nodes_long in
      record {
        vrs_long = length-set vrs to vr ∙ gap.vrs_long;
        nodes_long = length-set (set nodes from None) to (get_or nodes from None) ∙ long;
        from_begin = low;
        to_end = high;
        within = gap.within;
        few = gap.few;
        taken = λ j below above other. elim (cases_eq j to) [
          | inl same ↦ rw (same, get_or-set_same (set nodes from None) to (get_or nodes from None) None (omega (arith, gap.to_end, gap.within))) (gap.taken from low high apart)
          | inr another ↦ rw (get_or-set_other (set nodes from None) to j (get_or nodes from None) None another, get_or-set_other nodes from j None None other) (gap.taken j below above another)
        ];
        free_before = λ j below. rw (get_or-set_other (set nodes from None) to j (get_or nodes from None) None (omega (arith, gap.from_begin)), get_or-set_other nodes from j None None (omega arith)) (gap.free_before j below);
        free_here = rw (get_or-set_other (set nodes from None) to from (get_or nodes from None) None apart) (get_or-set_same nodes from None None (omega (arith, gap.nodes_long, gap.within)));
        free_behind = λ j above. rw (get_or-set_other (set nodes from None) to j (get_or nodes from None) None (omega (arith, gap.to_end)), get_or-set_other nodes from j None None (omega arith)) (gap.free_behind j above);
      }

  -- the place behind the taken ones is a free place to put a node into
  pub front-gap : (vrs : List ℕ) (nodes : List (Option (Box (Node A) A))) (begin end : ℕ) → IsFront vrs nodes begin end → end < 64 → HasGap vrs nodes begin end end
  front-gap vrs nodes begin end front room =
      record {
        vrs_long = front.vrs_long;
        nodes_long = front.nodes_long;
        from_begin = front.forward;
        to_end = omega arith;
        within = room;
        few = front.few;
        taken = λ j low high other. front.taken j low (omega arith);
        free_before = front.free_before;
        free_here = front.free_behind end (omega arith);
        free_behind = λ j high. front.free_behind j (omega arith);
      }

  pub gap-last : (vrs : List ℕ) (nodes : List (Option (Box (Node A) A))) (begin last : ℕ) → HasGap vrs nodes begin last last → IsFront vrs nodes begin last
  gap-last vrs nodes begin last gap =
      record {
        vrs_long = gap.vrs_long;
        nodes_long = gap.nodes_long;
        forward = gap.from_begin;
        within = omega (arith, gap.within);
        few = gap.few;
        taken = λ j low high. gap.taken j low (omega arith) (omega arith);
        free_before = gap.free_before;
        free_behind = λ j high. elim (cases_eq j last) [
          | inl same ↦ rw same gap.free_here
          | inr other ↦ gap.free_behind j (omega arith)
        ];
      }

  pub gap-end : (vrs : List ℕ) (nodes : List (Option (Box (Node A) A))) (begin at last : ℕ) → HasGap vrs nodes begin at last → last ≤ at → IsFront vrs nodes begin last
  gap-end vrs nodes begin at last gap end =
      let same : at ≡ last = omega (arith, gap.to_end) in
      gap-last vrs nodes begin last (subst (λ at. HasGap vrs nodes begin at last) same gap)

  pub front-none : (vrs : List ℕ) (nodes : List (Option (Box (Node A) A))) (begin end : ℕ) → IsFront vrs nodes begin end → begin ≡ end → IsFront vrs nodes 0 0
  front-none vrs nodes begin end front same =
      record {
        vrs_long = front.vrs_long;
        nodes_long = front.nodes_long;
        forward = omega arith;
        within = omega arith;
        few = omega arith;
        taken = λ j low high. absurd (omega arith);
        free_before = λ j low. absurd (omega arith);
        free_behind = λ j high. elim (cases_lt j begin) [
          | inl below ↦ front.free_before j below
          | inr above ↦ front.free_behind j (omega arith)
        ];
      }

  -- the places before the taken ones are free
  pub before-free : (nodes : List (Option (Box (Node A) A))) (begin : ℕ) → ((k : ℕ) → k < begin → get_or nodes k None ≡ None) → begin ≤ length nodes → (k : ℕ) → get_or (take begin nodes) k None ≡ None
  before-free nodes begin free within k =
      elim (cases_lt k begin) [
        | inl below ↦ get_or-take begin nodes k None below ∙ free k below
        | inr above ↦ get_or_past (take begin nodes) k None (omega (arith, length-take-le begin nodes within))
      ]

  -- the keys, where a place is free, and where one is put there or taken from there
  pub before-first : (vrs : List ℕ) (nodes : List (Option (Box (Node A) A))) (begin : ℕ) → ((k : ℕ) → k < begin → get_or nodes k None ≡ None) → begin ≤ length nodes → keys_before vrs nodes begin ≡ []
  before-first vrs nodes begin free within = keys-free (take begin vrs) (take begin nodes) (before-free nodes begin free within)

  pub behind-last : (vrs : List ℕ) (nodes : List (Option (Box (Node A) A))) (last : ℕ) → ((k : ℕ) → last < k → get_or nodes k None ≡ None) → keys_behind vrs nodes last ≡ []
  behind-last vrs nodes last free =
      keys-free (drop (suc last) vrs) (drop (suc last) nodes) (λ k. get_or-drop (suc last) nodes k None ∙ free (suc last + k) (omega arith))

  pub keys-gap : (vrs : List ℕ) (nodes : List (Option (Box (Node A) A))) (begin k last : ℕ) → HasGap vrs nodes begin k last → front_keys vrs nodes ≡ keys_before vrs nodes k ++ keys_behind vrs nodes k
  keys-gap vrs nodes begin k last gap =
      keys-split vrs nodes k (omega (arith, gap.vrs_long, gap.to_end, gap.within)) (gap.vrs_long ∙ sym gap.nodes_long)
      ∙ ap (λ place. keys_before vrs nodes k ++ (keys_at (get_or vrs k 0) place ++ keys_behind vrs nodes k)) gap.free_here

  pub keys-put : (vrs : List ℕ) (nodes : List (Option (Box (Node A) A))) (begin k last vr : ℕ) (node : Box (Node A) A) → HasGap vrs nodes begin k last →
      front_keys (set vrs k vr) (set nodes k (Some node)) ≡ keys_before vrs nodes k ++ key_of vr node.value ∷ keys_behind vrs nodes k
  keys-put vrs nodes begin k last vr node gap =
      keys-set vrs nodes k vr (Some node) (omega (arith, gap.vrs_long, gap.to_end, gap.within)) (gap.vrs_long ∙ sym gap.nodes_long)

  pub keys-here : (vrs : List ℕ) (nodes : List (Option (Box (Node A) A))) (begin k end : ℕ) (node : Box (Node A) A) → IsFront vrs nodes begin end → k < end → get_or nodes k None ≡ Some node →
      front_keys vrs nodes ≡ keys_before vrs nodes k ++ key_of (get_or vrs k 0) node.value ∷ keys_behind vrs nodes k
  keys-here vrs nodes begin k end node front within here =
      keys-split vrs nodes k (omega (arith, front.vrs_long, front.within)) (front.vrs_long ∙ sym front.nodes_long)
      ∙ ap (λ place. keys_before vrs nodes k ++ (keys_at (get_or vrs k 0) place ++ keys_behind vrs nodes k)) here

  pub keys-taken : (vrs : List ℕ) (nodes : List (Option (Box (Node A) A))) (k : ℕ) → k < length vrs → length vrs ≡ length nodes →
      front_keys vrs (set nodes k None) ≡ keys_before vrs nodes k ++ keys_behind vrs nodes k
  keys-taken vrs nodes k within long =
      ap (λ vrs. front_keys vrs (set nodes k None)) (sym (set-get_or vrs k 0)) ∙ keys-set vrs nodes k (get_or vrs k 0) None within long
