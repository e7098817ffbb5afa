-- What becomes of the keys of a front as nodes come, go and move.
use Rattle.std.proofs.Common.{◌≡◌, ℕ, zero, suc, ◌+◌, ◌-◌, ◌<◌, ◌≤◌, true, false, List, [], ◌∷◌, ◌++◌, length, get_or, take, drop, set, Option, Some, None, Box, refl, sym, ap, ◌∙◌, subst, inl, inr, arith, append-nil, length-append}
use Rattle.std.proofs.lemmas.Bool.{cases_lt}
use Rattle.std.proofs.lemmas.List.{get_or_past, get_or-drop, length-take-le, take-append-drop}
use Rattle.base_words.specs.declared.names.Key.{Key}
use Rattle.core_timeline.specs.declared.tree.Node.{Node}
use Rattle.core_timeline.specs.Nodes.{key_of}
use Rattle.core_timeline.specs.Rising.{StandsBefore, stands_before, EachKey, IsRising, inserted}
use Rattle.core_timeline.specs.Front.{front_keys, keys_at, IsTaken, IsFront, HasGap}
use Rattle.core_timeline.proofs.Before.{Decides-stands_before, not_before_earlier}
use Rattle.core_timeline.proofs.Rising.{EachKey-append, EachKey-weaker, IsRising-front, front_before, inserted-before, inserted-behind}
use Rattle.core_timeline.proofs.FrontKeys.{keys_before, keys_behind, keys-split, keys-free, keys-append, keys-next, keys-up, behind-up, keys-down}
use Rattle.core_timeline.proofs.FrontPlaces.{front-take, gap-last, gap-move, front-none, before-first, behind-last, keys-gap, keys-put, keys-taken}

-- the key between those that it doesn't stand before and those that it does
pub inserted-between : (key : Key) (front back : List Key) → EachKey (λ there. stands_before key there ≡ false) front → EachKey (StandsBefore key) back → inserted key (front ++ back) ≡ front ++ key ∷ back
inserted-between key [] [] early late = refl
inserted-between key [] (next ∷ back) early late = inserted-before key next back ((Decides-stands_before key next).1 late.0)
inserted-between key (next ∷ front) back early late =
    inserted-behind key next (front ++ back) early.0 ∙ ap (λ keys. next ∷ keys) (inserted-between key front back early.1 late)

module _ {A : Type 0} where
  -- a taken place has one key
  pub one-key : (vr : ℕ) (place : Option (Box (Node A) A)) → IsTaken place → (key : Key) × (keys_at vr place ≡ key ∷ [])
  one-key vr None taken = absurd taken
  one-key vr (Some node) taken = (key_of vr node.value, refl)

  pub front-length : (count : ℕ) (vrs : List ℕ) (nodes : List (Option (Box (Node A) A))) (begin end : ℕ) → IsFront vrs nodes begin end → end ≡ begin + count → length (front_keys vrs nodes) ≡ count
  front-length zero vrs nodes begin end front is =
      ap length (keys-free vrs nodes (λ k. (front-none vrs nodes begin end front (omega arith)).free_behind k (omega arith)))
  front-length (suc count) vrs nodes begin end front is =
      let gap = front-take vrs nodes begin (begin + count) (begin + count) end front (omega arith) (omega arith) (omega arith) in
      let rest = front-length count vrs (set nodes (begin + count) None) begin (begin + count) (gap-last vrs (set nodes (begin + count) None) begin (begin + count) gap) refl in
      let within : begin + count < length vrs = omega (arith, front.vrs_long, front.within) in
      let long : length vrs ≡ length nodes = front.vrs_long ∙ sym front.nodes_long in
      let one = one-key (get_or vrs (begin + count) 0) (get_or nodes (begin + count) None) (front.taken (begin + count) (omega arith) (omega arith)) in
      let whole = ap length (keys-split vrs nodes (begin + count) within long) in
      let less = ap length (keys-taken vrs nodes (begin + count) within long) in
      let here = ap length one.1 in
      omega (arith, length-append {A = Key})

  pub front-new : (vrs : List ℕ) (nodes : List (Option (Box (Node A) A))) → length vrs ≡ 64 → length nodes ≡ 64 → ((k : ℕ) (place : Option (Box (Node A) A)) → k < 64 → get_or nodes k place ≡ None) → IsFront vrs nodes 0 0
  front-new vrs nodes vrs_long nodes_long free =
      record {
        vrs_long = vrs_long;
        nodes_long = nodes_long;
        forward = omega arith;
        within = omega arith;
        few = omega arith;
        taken = λ k low high. absurd (omega arith);
        free_before = λ k low. absurd (omega arith);
        free_behind = λ k high. elim (cases_lt k 64) [
          | inl below ↦ free k None below
          | inr above ↦ get_or_past nodes k None (omega arith)
        ];
      }

  -- the places before one and from there on
  keys-parts : (vrs : List ℕ) (nodes : List (Option (Box (Node A) A))) (k : ℕ) → k ≤ length vrs → length vrs ≡ length nodes → front_keys vrs nodes ≡ keys_before vrs nodes k ++ front_keys (drop k vrs) (drop k nodes)
  keys-parts vrs nodes k within long =
      let parts = keys-append (take k vrs) (drop k vrs) (take k nodes) (drop k nodes) (length-take-le k vrs within ∙ sym (length-take-le k nodes (omega arith))) in
      sym (ap (λ vrs. front_keys vrs (take k nodes ++ drop k nodes)) (take-append-drop k vrs) ∙ ap (front_keys vrs) (take-append-drop k nodes)) ∙ parts

  -- up to the end are all keys
  pub keys-all : (vrs : List ℕ) (nodes : List (Option (Box (Node A) A))) (begin end : ℕ) → IsFront vrs nodes begin end → front_keys vrs nodes ≡ keys_before vrs nodes end
  keys-all vrs nodes begin end front =
      let none = keys-free (drop end vrs) (drop end nodes) (λ k. get_or-drop end nodes k None ∙ front.free_behind (end + k) (omega arith)) in
      keys-parts vrs nodes end (omega (arith, front.vrs_long, front.within)) (front.vrs_long ∙ sym front.nodes_long)
      ∙ ap (λ keys. keys_before vrs nodes end ++ keys) none ∙ append-nil (keys_before vrs nodes end)

  -- the first node is taken out, and the last one
  pub keys-first : (vrs : List ℕ) (nodes : List (Option (Box (Node A) A))) (begin end vr : ℕ) (node : Box (Node A) A) → IsFront vrs nodes begin end → begin < end → get_or nodes begin None ≡ Some node → vr ≡ get_or vrs begin 0 →
      front_keys vrs nodes ≡ key_of vr node.value ∷ front_keys vrs (set nodes begin None)
  keys-first vrs nodes begin end vr node front some here at =
      let within : begin < length vrs = omega (arith, front.vrs_long, front.within) in
      let long : length vrs ≡ length nodes = front.vrs_long ∙ sym front.nodes_long in
      let none = before-first vrs nodes begin front.free_before (omega arith) in
      let whole = keys-split vrs nodes begin within long in
      let less = keys-taken vrs nodes begin within long in
      whole ∙ rw (none, here, ← at) (ap (λ keys. key_of vr node.value ∷ keys) (sym (less ∙ rw none refl)))

  pub keys-last : (vrs : List ℕ) (nodes : List (Option (Box (Node A) A))) (begin last end vr : ℕ) (node : Box (Node A) A) → IsFront vrs nodes begin end → last < end → end ≤ last + 1 → get_or nodes last None ≡ Some node → vr ≡ get_or vrs last 0 →
      front_keys vrs nodes ≡ front_keys vrs (set nodes last None) ++ key_of vr node.value ∷ []
  keys-last vrs nodes begin last end vr node front some is here at =
      let within : last < length vrs = omega (arith, front.vrs_long, front.within) in
      let long : length vrs ≡ length nodes = front.vrs_long ∙ sym front.nodes_long in
      let none = behind-last vrs nodes last (λ k high. front.free_behind k (omega arith)) in
      let whole = keys-split vrs nodes last within long in
      let less = keys-taken vrs nodes last within long in
      let rest : front_keys vrs (set nodes last None) ≡ keys_before vrs nodes last = less ∙ ap (λ keys. keys_before vrs nodes last ++ keys) none ∙ append-nil (keys_before vrs nodes last) in
      whole ∙ rw (none, here, ← at, rest) refl

  -- the free place goes down to that of a new key
  pub record IsMoving (old : List Key) (key : Key) (vrs : List ℕ) (nodes : List (Option (Box (Node A) A))) (begin at end : ℕ) : Type 0 where
    pub gap : HasGap vrs nodes begin at end
    pub keys : front_keys vrs nodes ≡ old
    pub behind : EachKey (StandsBefore key) (keys_behind vrs nodes at)

  pub moving-start : (key : Key) (vrs : List ℕ) (nodes : List (Option (Box (Node A) A))) (begin end : ℕ) (old : List Key) → HasGap vrs nodes begin end end → front_keys vrs nodes ≡ old → IsMoving old key vrs nodes begin end end
  moving-start key vrs nodes begin end old gap keys =
      record { gap = gap; keys = keys; behind = subst (EachKey (StandsBefore key)) (sym (behind-last vrs nodes end gap.free_behind)) tt }

  moving-down : (old : List Key) (key : Key) (vrs : List ℕ) (nodes : List (Option (Box (Node A) A))) (begin from end : ℕ) → IsMoving old key vrs nodes begin (suc from) end → begin ≤ from →
      EachKey (λ there. stands_before key there ≡ true) (keys_at (get_or vrs from 0) (get_or nodes from None)) →
      IsMoving old key (set vrs (suc from) (get_or vrs from 0)) (set (set nodes from None) (suc from) (get_or nodes from None)) begin from end
  moving-down old key vrs nodes begin from end moving low before =
      let gap = moving.gap in
      let within : suc from < length vrs = omega (arith, gap.vrs_long, gap.to_end, gap.within) in
      let long : length vrs ≡ length nodes = gap.vrs_long ∙ sym gap.nodes_long in
      let earlier = EachKey-weaker (λ there. stands_before key there ≡ true) (StandsBefore key) (λ there is. (Decides-stands_before key there).0 is) (keys_at (get_or vrs from 0) (get_or nodes from None)) before in
      record {
        gap = gap-move vrs nodes begin (suc from) from end (get_or vrs from 0) gap low (omega (arith, gap.to_end)) (omega arith);
        keys = keys-up vrs nodes from within long gap.free_here ∙ moving.keys;
        behind = subst (EachKey (StandsBefore key)) (sym (behind-up vrs nodes from within long)) (EachKey-append (StandsBefore key) (keys_at (get_or vrs from 0) (get_or nodes from None)) (keys_behind vrs nodes (suc from)) earlier moving.behind);
      }

  pub moving-on : (old : List Key) (key : Key) (vrs : List ℕ) (nodes : List (Option (Box (Node A) A))) (begin at from end : ℕ) → from + 1 ≡ at → IsMoving old key vrs nodes begin at end → begin ≤ from →
      EachKey (λ there. stands_before key there ≡ true) (keys_at (get_or vrs from 0) (get_or nodes from None)) →
      IsMoving old key (set vrs at (get_or vrs from 0)) (set (set nodes from None) at (get_or nodes from None)) begin from end
  moving-on old key vrs nodes begin at from end is moving low before =
      let next : suc from ≡ at = omega arith in
      subst (λ at. IsMoving old key (set vrs at (get_or vrs from 0)) (set (set nodes from None) at (get_or nodes from None)) begin from end) next
      (moving-down old key vrs nodes begin from end (subst (λ at. IsMoving old key vrs nodes begin at end) (sym next) moving) low before)

  -- the keys before a place that the key doesn't stand before
  not-before : (key : Key) (vrs : List ℕ) (nodes : List (Option (Box (Node A) A))) (from : ℕ) (back : List Key) → suc from < length vrs → length vrs ≡ length nodes → IsTaken (get_or nodes from None) → IsRising (keys_before vrs nodes (suc from) ++ back) →
      EachKey (λ there. stands_before key there ≡ false) (keys_at (get_or vrs from 0) (get_or nodes from None)) → EachKey (λ there. stands_before key there ≡ false) (keys_before vrs nodes (suc from))
  not-before key vrs nodes from back within long taken rising late =
      let one = one-key (get_or vrs from 0) (get_or nodes from None) taken in
      let next = keys-next vrs nodes from (omega arith) long ∙ ap (λ keys. keys_before vrs nodes from ++ keys) one.1 in
      let front_rises = subst IsRising next (IsRising-front (keys_before vrs nodes (suc from)) back rising) in
      let here = subst (EachKey (λ there. stands_before key there ≡ false)) one.1 late in
      let all = EachKey-weaker (λ there. StandsBefore there one.0) (λ there. stands_before key there ≡ false) (λ there before. not_before_earlier key one.0 there here.0 before) (keys_before vrs nodes from) (front_before (keys_before vrs nodes from) one.0 [] front_rises) in
      subst (EachKey (λ there. stands_before key there ≡ false)) (sym next) (EachKey-append (λ there. stands_before key there ≡ false) (keys_before vrs nodes from) (one.0 ∷ []) all here)

  settled : (key : Key) (vrs : List ℕ) (nodes : List (Option (Box (Node A) A))) (begin at from end : ℕ) (back : List Key) → HasGap vrs nodes begin at end → from + 1 ≡ at → begin ≤ from → IsRising (keys_before vrs nodes at ++ back) →
      EachKey (λ there. stands_before key there ≡ false) (keys_at (get_or vrs from 0) (get_or nodes from None)) → EachKey (λ there. stands_before key there ≡ false) (keys_before vrs nodes at)
  settled key vrs nodes begin at from end back gap is low rising late =
      let next : suc from ≡ at = omega arith in
      subst (λ at. EachKey (λ there. stands_before key there ≡ false) (keys_before vrs nodes at)) next
      (not-before key vrs nodes from back (omega (arith, gap.vrs_long, gap.to_end, gap.within)) (gap.vrs_long ∙ sym gap.nodes_long) (gap.taken from low (omega (arith, gap.to_end)) (omega arith)) (subst (λ at. IsRising (keys_before vrs nodes at ++ back)) (sym next) rising) late)

  moving-end : (old : List Key) (vrs : List ℕ) (nodes : List (Option (Box (Node A) A))) (begin at end vr : ℕ) (node : Box (Node A) A) → IsMoving old (key_of vr node.value) vrs nodes begin at end → IsRising old →
      (begin < at → EachKey (λ there. stands_before (key_of vr node.value) there ≡ false) (keys_at (get_or vrs (at - 1) 0) (get_or nodes (at - 1) None))) →
      front_keys (set vrs at vr) (set nodes at (Some node)) ≡ inserted (key_of vr node.value) old
  moving-end old vrs nodes begin at end vr node moving rising late =
      let gap = moving.gap in
      let parts = keys-gap vrs nodes begin at end gap in
      let whole : old ≡ keys_before vrs nodes at ++ keys_behind vrs nodes at = sym moving.keys ∙ parts in
      let early : EachKey (λ there. stands_before (key_of vr node.value) there ≡ false) (keys_before vrs nodes at) = elim (cases_lt begin at) [
        | inl some ↦ settled (key_of vr node.value) vrs nodes begin at (at - 1) end (keys_behind vrs nodes at) gap (omega arith) (omega arith) (subst IsRising whole rising) (late some)
        | inr none ↦ subst (EachKey (λ there. stands_before (key_of vr node.value) there ≡ false)) (sym (before-first vrs nodes at (λ k low. gap.free_before k (omega (arith, gap.from_begin))) (omega (arith, gap.nodes_long, gap.to_end, gap.within)))) tt
      ] in
      keys-put vrs nodes begin at end vr node gap ∙ sym (ap (inserted (key_of vr node.value)) whole ∙ inserted-between (key_of vr node.value) (keys_before vrs nodes at) (keys_behind vrs nodes at) early moving.behind)

  pub moving-done : (old now : List Key) (key : Key) (vrs : List ℕ) (nodes : List (Option (Box (Node A) A))) (begin at end vr : ℕ) (node : Box (Node A) A) → key ≡ key_of vr node.value → old ≡ now → IsMoving old key vrs nodes begin at end → IsRising now →
      (begin < at → EachKey (λ there. stands_before key there ≡ false) (keys_at (get_or vrs (at - 1) 0) (get_or nodes (at - 1) None))) →
      front_keys (set vrs at vr) (set nodes at (Some node)) ≡ inserted (key_of vr node.value) now
  moving-done old now key vrs nodes begin at end vr node is same moving rising late =
      moving-end now vrs nodes begin at end vr node (subst (λ key. IsMoving now key vrs nodes begin at end) is (subst (λ keys. IsMoving keys key vrs nodes begin at end) same moving)) rising
      (subst (λ key. begin < at → EachKey (λ there. stands_before key there ≡ false) (keys_at (get_or vrs (at - 1) 0) (get_or nodes (at - 1) None))) is late)

  -- the free place goes up by one
  lower-next : (vrs : List ℕ) (nodes : List (Option (Box (Node A) A))) (begin to last : ℕ) → HasGap vrs nodes begin to last → suc to ≤ last → front_keys (set vrs to (get_or vrs (suc to) 0)) (set (set nodes (suc to) None) to (get_or nodes (suc to) None)) ≡ front_keys vrs nodes
  lower-next vrs nodes begin to last gap high = keys-down vrs nodes to (omega (arith, gap.vrs_long, gap.within)) (gap.vrs_long ∙ sym gap.nodes_long) gap.free_here

  pub gap-lower : (vrs : List ℕ) (nodes : List (Option (Box (Node A) A))) (begin to from last : ℕ) → HasGap vrs nodes begin to last → from ≡ to + 1 → from ≤ last →
      HasGap (set vrs to (get_or vrs from 0)) (set (set nodes from None) to (get_or nodes from None)) begin from last × (front_keys (set vrs to (get_or vrs from 0)) (set (set nodes from None) to (get_or nodes from None)) ≡ front_keys vrs nodes)
  gap-lower vrs nodes begin to from last gap is high =
      let next : suc to ≡ from = omega arith in (
        gap-move vrs nodes begin to from last (get_or vrs from 0) gap (omega (arith, gap.from_begin)) high (omega arith),
        subst (λ from. front_keys (set vrs to (get_or vrs from 0)) (set (set nodes from None) to (get_or nodes from None)) ≡ front_keys vrs nodes) next (lower-next vrs nodes begin to last gap (omega arith)),
      )
