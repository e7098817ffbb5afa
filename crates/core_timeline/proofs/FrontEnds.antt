-- Both ends of a front: its least node, its last one, and the room behind that.
use Rattle.std.proofs.Common.{◌≡◌, ◌≢◌, ℕ, ◌+◌, ◌-◌, ◌<◌, Bool, IsTrue, ◌↔◌, List, [], ◌∷◌, ◌++◌, length, get_or, set, Option, Some, None, Box, refl, sym, ap, ◌∙◌, subst, inl, inr, arith, append-nil, length-set}
use Rattle.std.proofs.lemmas.Bool.{cases_eq, cases_lt}
use Rattle.std.proofs.lemmas.List.{get_or-set_same, get_or-set_other}
use Rattle.base_words.specs.declared.names.Key.{Key}
use Rattle.core_timeline.specs.declared.tree.Node.{Node}
use Rattle.core_timeline.specs.Nodes.{key_of}
use Rattle.core_timeline.specs.Rising.{StandsBefore, stands_before, EachKey, LastStandsBefore, first_key}
use Rattle.core_timeline.specs.Front.{front_keys, keys_at, IsFront, HasGap}
use Rattle.core_timeline.proofs.Before.{Decides-stands_before}
use Rattle.core_timeline.proofs.FrontKeys.{keys_before, keys_behind, keys-split, keys-free}
use Rattle.core_timeline.proofs.FrontPlaces.{front-none, before-first, behind-last, keys-gap, keys-put}
use Rattle.core_timeline.proofs.FrontSteps.{one-key, front-length}

-- the last key stands before another one
last-to : (front : List Key) (last key : Key) → LastStandsBefore (front ++ last ∷ []) key → StandsBefore last key
last-to [] last key before = before
last-to (one ∷ []) last key before = before
last-to (one ∷ next ∷ later) last key before = last-to (next ∷ later) last key before

last-from : (front : List Key) (last key : Key) → StandsBefore last key → LastStandsBefore (front ++ last ∷ []) key
last-from [] last key before = before
last-from (one ∷ []) last key before = before
last-from (one ∷ next ∷ later) last key before = last-from (next ∷ later) last key before

module _ {A : Type 0} where
  pub keys-none : (vrs : List ℕ) (nodes : List (Option (Box (Node A) A))) (begin end : ℕ) → IsFront vrs nodes begin end → begin ≡ end → front_keys vrs nodes ≡ []
  keys-none vrs nodes begin end front same = keys-free vrs nodes (λ k. (front-none vrs nodes begin end front same).free_behind k (omega arith))

  pub front-some : (vrs : List ℕ) (nodes : List (Option (Box (Node A) A))) (begin end : ℕ) (keys : List Key) → IsFront vrs nodes begin end → front_keys vrs nodes ≡ keys → keys ≢ [] → begin < end
  front-some vrs nodes begin end keys front is some =
      elim (cases_lt begin end) [
        | inl less ↦ less
        | inr none ↦ absurd (some (sym is ∙ keys-none vrs nodes begin end front (omega (arith, front.forward))))
      ]

  pub front-len : (vrs : List ℕ) (nodes : List (Option (Box (Node A) A))) (begin end : ℕ) → IsFront vrs nodes begin end → length (front_keys vrs nodes) ≡ end - begin
  front-len vrs nodes begin end front = front-length (end - begin) vrs nodes begin end front (omega (arith, front.forward))

  pub front-few : (vrs : List ℕ) (nodes : List (Option (Box (Node A) A))) (begin end : ℕ) (keys : List Key) → IsFront vrs nodes begin end → front_keys vrs nodes ≡ keys → length keys < 32 → end < begin + 32
  front-few vrs nodes begin end keys front is few =
      let len = front-len vrs nodes begin end front in
      let same = ap length is in
      omega (arith, front.forward)

  -- the first place is free
  pub front-pop : (vrs : List ℕ) (nodes : List (Option (Box (Node A) A))) (begin end : ℕ) → IsFront vrs nodes begin end → begin < end → IsFront vrs (set nodes begin None) (begin + 1) end
  front-pop vrs nodes begin end front some =
      record {
        vrs_long = front.vrs_long;
        nodes_long = length-set nodes begin None ∙ front.nodes_long;
        forward = omega arith;
        within = front.within;
        few = omega (arith, front.few);
        taken = λ j low high. rw (get_or-set_other nodes begin j None None (omega arith)) (front.taken j (omega arith) high);
        free_before = λ j low. elim (cases_eq j begin) [
          | inl same ↦ rw same (get_or-set_same nodes begin None None (omega (arith, front.nodes_long, front.within)))
          | inr other ↦ get_or-set_other nodes begin j None None other ∙ front.free_before j (omega arith)
        ];
        free_behind = λ j high. get_or-set_other nodes begin j None None (omega arith) ∙ front.free_behind j high;
      }

  pub keys-push : (vrs : List ℕ) (nodes : List (Option (Box (Node A) A))) (begin end vr : ℕ) (node : Box (Node A) A) (keys : List Key) → HasGap vrs nodes begin end end → front_keys vrs nodes ≡ keys → front_keys (set vrs end vr) (set nodes end (Some node)) ≡ keys ++ key_of vr node.value ∷ []
  keys-push vrs nodes begin end vr node keys gap is =
      let none = behind-last vrs nodes end gap.free_behind in
      let old : front_keys vrs nodes ≡ keys_before vrs nodes end = keys-gap vrs nodes begin end end gap ∙ ap (λ keys. keys_before vrs nodes end ++ keys) none ∙ append-nil (keys_before vrs nodes end) in
      keys-put vrs nodes begin end end vr node gap ∙ ap (λ keys. keys_before vrs nodes end ++ key_of vr node.value ∷ keys) none ∙ ap (λ keys. keys ++ key_of vr node.value ∷ []) (sym old ∙ is)

  -- the first key and the last one
  pub keys-least : (vrs : List ℕ) (nodes : List (Option (Box (Node A) A))) (begin end : ℕ) (key : Key) (keys : List Key) → IsFront vrs nodes begin end → begin ≢ end → front_keys vrs nodes ≡ keys → keys_at (get_or vrs begin 0) (get_or nodes begin None) ≡ key ∷ [] → Some key ≡ first_key keys
  keys-least vrs nodes begin end key keys front some is here =
      let parts = keys-split vrs nodes begin (omega (arith, front.vrs_long, front.forward, front.within)) (front.vrs_long ∙ sym front.nodes_long) in
      let none = before-first vrs nodes begin front.free_before (omega (arith, front.nodes_long, front.forward, front.within)) in
      let whole : front_keys vrs nodes ≡ key ∷ keys_behind vrs nodes begin = parts ∙ rw (none, here) refl in
      sym (ap first_key (sym is ∙ whole))

  pub last-before : (vrs : List ℕ) (nodes : List (Option (Box (Node A) A))) (begin end : ℕ) (key : Key) (keys : List Key) (result : Bool) → IsFront vrs nodes begin end → keys ≢ [] → front_keys vrs nodes ≡ keys →
      EachKey (λ there. result ≡ stands_before there key) (keys_at (get_or vrs (end - 1) 0) (get_or nodes (end - 1) None)) → IsTrue result ↔ LastStandsBefore keys key
  last-before vrs nodes begin end key keys result front filled is before =
      let some = front-some vrs nodes begin end keys front is filled in
      let parts = keys-split vrs nodes (end - 1) (omega (arith, front.vrs_long, front.within)) (front.vrs_long ∙ sym front.nodes_long) in
      let none = behind-last vrs nodes (end - 1) (λ k high. front.free_behind k (omega arith)) in
      let one = one-key (get_or vrs (end - 1) 0) (get_or nodes (end - 1) None) (front.taken (end - 1) (omega arith) (omega arith)) in
      let whole : keys ≡ keys_before vrs nodes (end - 1) ++ one.0 ∷ [] = sym is ∙ parts ∙ rw (none, one.1) refl in
      let same : result ≡ stands_before one.0 key = (subst (EachKey (λ there. result ≡ stands_before there key)) one.1 before).0 in (
        λ passes. subst (λ keys. LastStandsBefore keys key) (sym whole) (last-from (keys_before vrs nodes (end - 1)) one.0 key ((Decides-stands_before one.0 key).0 (sym same ∙ passes))),
        λ stands. same ∙ (Decides-stands_before one.0 key).1 (last-to (keys_before vrs nodes (end - 1)) one.0 key (subst (λ keys. LastStandsBefore keys key) whole stands)),
      )

  -- the only node has another virtual runtime
  same-place : (was vr : ℕ) (place : Option (Box (Node A) A)) (key : Key) → keys_at was place ≡ key ∷ [] → keys_at vr place ≡ (record { vr = vr; queue = key.queue }) ∷ []
  same-place was vr None key is = cc
  same-place was vr (Some node) key is =
      let same : key_of was node.value ≡ key = cc in
      ap (λ (one : Key). (record { vr = vr; queue = one.queue }) ∷ []) same

  pub keys-only : (vrs : List ℕ) (nodes : List (Option (Box (Node A) A))) (begin end vr : ℕ) (key : Key) → IsFront vrs nodes begin end → front_keys vrs nodes ≡ key ∷ [] → front_keys (set vrs begin vr) nodes ≡ (record { vr = vr; queue = key.queue }) ∷ []
  keys-only vrs nodes begin end vr key front is =
      let len = front-len vrs nodes begin end front in
      let one : length (front_keys vrs nodes) ≡ 1 = ap (λ (keys : List Key). length keys) is in
      let within : begin < length vrs = omega (arith, front.vrs_long, front.within, len, one) in
      let long : length vrs ≡ length nodes = front.vrs_long ∙ sym front.nodes_long in
      let alone : (k : ℕ) → begin < k → get_or nodes k None ≡ None = λ k high. front.free_behind k (omega (arith, len, one)) in
      let place = get_or nodes begin None in
      let whole : front_keys vrs nodes ≡ keys_at (get_or vrs begin 0) place = keys-split vrs nodes begin within long ∙ rw (before-first vrs nodes begin front.free_before (omega arith), behind-last vrs nodes begin alone) (append-nil (keys_at (get_or vrs begin 0) place)) in
      let moved = set vrs begin vr in
      keys-split moved nodes begin (omega (arith, length-set vrs begin vr)) (length-set vrs begin vr ∙ long)
      ∙ rw (before-first moved nodes begin front.free_before (omega arith), behind-last moved nodes begin alone, get_or-set_same vrs begin vr 0 within) (append-nil (keys_at vr place))
      ∙ same-place (get_or vrs begin 0) vr place key (sym whole ∙ is)
