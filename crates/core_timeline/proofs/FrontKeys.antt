-- The keys of places: those before a place, its own, and those behind it.
use Rattle.std.proofs.Common.{◌≡◌, ℕ, zero, suc, ◌<◌, List, [], ◌∷◌, ◌++◌, length, get_or, take, drop, set, Option, Some, None, Box, refl, ap, arith}
use Rattle.base_words.specs.declared.names.Key.{Key}
use Rattle.core_timeline.specs.declared.tree.Node.{Node}
use Rattle.core_timeline.specs.Nodes.{key_of}
use Rattle.core_timeline.specs.Front.{front_keys, keys_at}

-- the keys of the places before this one
abbrev pub keys_before : {A : Type 0} → List ℕ → List (Option (Box (Node A) A)) → ℕ → List Key
keys_before vrs nodes k = front_keys (take k vrs) (take k nodes)

-- those of the places behind it
abbrev pub keys_behind : {A : Type 0} → List ℕ → List (Option (Box (Node A) A)) → ℕ → List Key
keys_behind vrs nodes k = front_keys (drop (suc k) vrs) (drop (suc k) nodes)

pub front_keys-cons : {A : Type 0} (vr : ℕ) (place : Option (Box (Node A) A)) (vrs : List ℕ) (nodes : List (Option (Box (Node A) A))) → front_keys (vr ∷ vrs) (place ∷ nodes) ≡ keys_at vr place ++ front_keys vrs nodes
front_keys-cons vr None vrs nodes = refl
front_keys-cons vr (Some node) vrs nodes = refl

pub keys-set : {A : Type 0} (vrs : List ℕ) (nodes : List (Option (Box (Node A) A))) (k vr : ℕ) (place : Option (Box (Node A) A)) → k < length vrs → length vrs ≡ length nodes →
    front_keys (set vrs k vr) (set nodes k place) ≡ keys_before vrs nodes k ++ (keys_at vr place ++ keys_behind vrs nodes k)
keys-set [] nodes k vr place within long = absurd (omega arith)
keys-set (v ∷ vrs) [] k vr place within long = absurd (omega arith)
keys-set (v ∷ vrs) (n ∷ nodes) zero vr place within long = front_keys-cons vr place vrs nodes
keys-set (v ∷ vrs) (None ∷ nodes) (suc k) vr place within long = keys-set vrs nodes k vr place (omega arith) (omega arith)
keys-set (v ∷ vrs) (Some node ∷ nodes) (suc k) vr place within long = ap (λ keys. key_of v node.value ∷ keys) (keys-set vrs nodes k vr place (omega arith) (omega arith))

pub keys-split : {A : Type 0} (vrs : List ℕ) (nodes : List (Option (Box (Node A) A))) (k : ℕ) → k < length vrs → length vrs ≡ length nodes →
    front_keys vrs nodes ≡ keys_before vrs nodes k ++ (keys_at (get_or vrs k 0) (get_or nodes k None) ++ keys_behind vrs nodes k)
keys-split [] nodes k within long = absurd (omega arith)
keys-split (v ∷ vrs) [] k within long = absurd (omega arith)
keys-split (v ∷ vrs) (n ∷ nodes) zero within long = front_keys-cons v n vrs nodes
keys-split (v ∷ vrs) (None ∷ nodes) (suc k) within long = keys-split vrs nodes k (omega arith) (omega arith)
keys-split (v ∷ vrs) (Some node ∷ nodes) (suc k) within long = ap (λ keys. key_of v node.value ∷ keys) (keys-split vrs nodes k (omega arith) (omega arith))

pub keys-next : {A : Type 0} (vrs : List ℕ) (nodes : List (Option (Box (Node A) A))) (k : ℕ) → k < length vrs → length vrs ≡ length nodes →
    keys_before vrs nodes (suc k) ≡ keys_before vrs nodes k ++ keys_at (get_or vrs k 0) (get_or nodes k None)
keys-next [] nodes k within long = absurd (omega arith)
keys-next (v ∷ vrs) [] k within long = absurd (omega arith)
keys-next (v ∷ vrs) (None ∷ nodes) zero within long = refl
keys-next (v ∷ vrs) (Some node ∷ nodes) zero within long = refl
keys-next (v ∷ vrs) (None ∷ nodes) (suc k) within long = keys-next vrs nodes k (omega arith) (omega arith)
keys-next (v ∷ vrs) (Some node ∷ nodes) (suc k) within long = ap (λ keys. key_of v node.value ∷ keys) (keys-next vrs nodes k (omega arith) (omega arith))

-- where each place is free there is no key
pub keys-free : {A : Type 0} (vrs : List ℕ) (nodes : List (Option (Box (Node A) A))) → ((k : ℕ) → get_or nodes k None ≡ None) → front_keys vrs nodes ≡ []
keys-free [] nodes free = refl
keys-free (v ∷ vrs) [] free = refl
keys-free (v ∷ vrs) (None ∷ nodes) free = keys-free vrs nodes (λ k. free (suc k))
keys-free (v ∷ vrs) (Some node ∷ nodes) free = let here : Some node ≡ None = free 0 in absurd (cc)

-- the places one after another
pub keys-append : {A : Type 0} (vrs more : List ℕ) (nodes others : List (Option (Box (Node A) A))) → length vrs ≡ length nodes → front_keys (vrs ++ more) (nodes ++ others) ≡ front_keys vrs nodes ++ front_keys more others
keys-append [] more [] others long = refl
keys-append [] more (n ∷ nodes) others long = absurd (omega arith)
keys-append (v ∷ vrs) more [] others long = absurd (omega arith)
keys-append (v ∷ vrs) more (None ∷ nodes) others long = keys-append vrs more nodes others (omega arith)
keys-append (v ∷ vrs) more (Some node ∷ nodes) others long = ap (λ keys. key_of v node.value ∷ keys) (keys-append vrs more nodes others (omega arith))

-- a node that moves up to the free place behind it
pub keys-up : {A : Type 0} (vrs : List ℕ) (nodes : List (Option (Box (Node A) A))) (k : ℕ) → suc k < length vrs → length vrs ≡ length nodes → get_or nodes (suc k) None ≡ None →
    front_keys (set vrs (suc k) (get_or vrs k 0)) (set (set nodes k None) (suc k) (get_or nodes k None)) ≡ front_keys vrs nodes
keys-up [] nodes k within long free = absurd (omega arith)
keys-up (v ∷ []) nodes k within long free = absurd (omega arith)
keys-up (v ∷ w ∷ vrs) [] k within long free = absurd (omega arith)
keys-up (v ∷ w ∷ vrs) (n ∷ []) k within long free = absurd (omega arith)
keys-up (v ∷ w ∷ vrs) (n ∷ Some m ∷ nodes) zero within long free = absurd (cc)
keys-up (v ∷ w ∷ vrs) (None ∷ None ∷ nodes) zero within long free = refl
keys-up (v ∷ w ∷ vrs) (Some n ∷ None ∷ nodes) zero within long free = refl
keys-up (v ∷ w ∷ vrs) (None ∷ m ∷ nodes) (suc k) within long free = keys-up (w ∷ vrs) (m ∷ nodes) k (omega arith) (omega arith) free
keys-up (v ∷ w ∷ vrs) (Some n ∷ m ∷ nodes) (suc k) within long free = ap (λ keys. key_of v n.value ∷ keys) (keys-up (w ∷ vrs) (m ∷ nodes) k (omega arith) (omega arith) free)

pub behind-up : {A : Type 0} (vrs : List ℕ) (nodes : List (Option (Box (Node A) A))) (k : ℕ) → suc k < length vrs → length vrs ≡ length nodes →
    keys_behind (set vrs (suc k) (get_or vrs k 0)) (set (set nodes k None) (suc k) (get_or nodes k None)) k ≡ keys_at (get_or vrs k 0) (get_or nodes k None) ++ keys_behind vrs nodes (suc k)
behind-up [] nodes k within long = absurd (omega arith)
behind-up (v ∷ []) nodes k within long = absurd (omega arith)
behind-up (v ∷ w ∷ vrs) [] k within long = absurd (omega arith)
behind-up (v ∷ w ∷ vrs) (n ∷ []) k within long = absurd (omega arith)
behind-up (v ∷ w ∷ vrs) (n ∷ m ∷ nodes) zero within long = front_keys-cons v n vrs nodes
behind-up (v ∷ w ∷ vrs) (n ∷ m ∷ nodes) (suc k) within long = behind-up (w ∷ vrs) (m ∷ nodes) k (omega arith) (omega arith)

-- a node that moves down to the free place before it
pub keys-down : {A : Type 0} (vrs : List ℕ) (nodes : List (Option (Box (Node A) A))) (k : ℕ) → suc k < length vrs → length vrs ≡ length nodes → get_or nodes k None ≡ None →
    front_keys (set vrs k (get_or vrs (suc k) 0)) (set (set nodes (suc k) None) k (get_or nodes (suc k) None)) ≡ front_keys vrs nodes
keys-down [] nodes k within long free = absurd (omega arith)
keys-down (v ∷ []) nodes k within long free = absurd (omega arith)
keys-down (v ∷ w ∷ vrs) [] k within long free = absurd (omega arith)
keys-down (v ∷ w ∷ vrs) (n ∷ []) k within long free = absurd (omega arith)
keys-down (v ∷ w ∷ vrs) (Some n ∷ m ∷ nodes) zero within long free = absurd (cc)
keys-down (v ∷ w ∷ vrs) (None ∷ None ∷ nodes) zero within long free = refl
keys-down (v ∷ w ∷ vrs) (None ∷ Some m ∷ nodes) zero within long free = refl
keys-down (v ∷ w ∷ vrs) (None ∷ m ∷ nodes) (suc k) within long free = keys-down (w ∷ vrs) (m ∷ nodes) k (omega arith) (omega arith) free
keys-down (v ∷ w ∷ vrs) (Some n ∷ m ∷ nodes) (suc k) within long free = ap (λ keys. key_of v n.value ∷ keys) (keys-down (w ∷ vrs) (m ∷ nodes) k (omega arith) (omega arith) free)
