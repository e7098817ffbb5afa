-- Which virtual runtime a queue has among keys that rise.
use Rattle.core_core.proofs.Names.{ap, arith, Bool, cond, EachKey, eq-eqb, eqb, eqb-true, eqb_tells, false, inl, inr, inserted, IsRising, Key, KeyAtMost, LacksQueue, List, None, refl, runtime_listed, Some, stands_before, StandsBefore, sym}
use Rattle.core_core.proofs.Names.{true, true≢false, ℕ, [], ◌∙◌, ◌∷◌, ◌≡◌, ◌≢◌}

pub eqb-self : (a : ℕ) → eqb a a ≡ true
eqb-self a = eq-eqb a a refl

pub eqb-apart : (a b : ℕ) → a ≢ b → eqb a b ≡ false
eqb-apart a b apart = elim (eqb_tells a b) [ inl same ↦ absurd (apart same.1) | inr differ ↦ differ.0 ]

-- a queue that isn't listed has no key
lacking_if : (queue : ℕ) (key : Key) (later : List Key) (test : Bool) → eqb queue key.queue ≡ test → (runtime_listed queue later ≡ None → LacksQueue queue later) →
    cond test (Some key.vr) (runtime_listed queue later) ≡ None → LacksQueue queue (key ∷ later)
lacking_if queue key later true e more none = cc
lacking_if queue key later false e more none = ((λ same. elim (eqb_tells queue key.queue) [ inl equal ↦ true≢false (sym equal.0 ∙ e) | inr differ ↦ differ.1 (sym same) ]), more none)

pub LacksQueue-from_none : (queue : ℕ) (keys : List Key) → runtime_listed queue keys ≡ None → LacksQueue queue keys
LacksQueue-from_none queue [] none = tt
LacksQueue-from_none queue (key ∷ later) none =
    lacking_if queue key later (eqb queue key.queue) refl (LacksQueue-from_none queue later) none

pub none_from_lacking : (queue : ℕ) (keys : List Key) → LacksQueue queue keys → runtime_listed queue keys ≡ None
none_from_lacking queue [] lacks = refl
none_from_lacking queue (key ∷ later) lacks = rw (eqb-apart queue key.queue (λ same. lacks.0 (sym same))) (none_from_lacking queue later lacks.1)

-- the key that was put in is listed
listed_if : (key next : Key) (later : List Key) (test : Bool) → next.queue ≢ key.queue → runtime_listed key.queue (inserted key later) ≡ Some key.vr →
    runtime_listed key.queue (cond test (key ∷ next ∷ later) (next ∷ inserted key later)) ≡ Some key.vr
listed_if key next later true apart more = rw (eqb-self key.queue)
listed_if key next later false apart more = rw (eqb-apart key.queue next.queue (λ same. apart (sym same))) more

pub listed-inserted_same : (key : Key) (keys : List Key) → LacksQueue key.queue keys → runtime_listed key.queue (inserted key keys) ≡ Some key.vr
listed-inserted_same key [] lacks = rw (eqb-self key.queue)
listed-inserted_same key (next ∷ later) lacks = listed_if key next later (stands_before key next) lacks.0 (listed-inserted_same key later lacks.1)

-- the others are listed as before
other_if : (queue : ℕ) (key next : Key) (later : List Key) (test : Bool) → queue ≢ key.queue → runtime_listed queue (inserted key later) ≡ runtime_listed queue later →
    runtime_listed queue (cond test (key ∷ next ∷ later) (next ∷ inserted key later)) ≡ runtime_listed queue (next ∷ later)
other_if queue key next later true apart more = rw (eqb-apart queue key.queue apart)
other_if queue key next later false apart more = ap (λ runtime. cond (eqb queue next.queue) (Some next.vr) runtime) more

pub listed-inserted_other : (queue : ℕ) (key : Key) (keys : List Key) → queue ≢ key.queue → runtime_listed queue (inserted key keys) ≡ runtime_listed queue keys
listed-inserted_other queue key [] apart = rw (eqb-apart queue key.queue apart)
listed-inserted_other queue key (next ∷ later) apart =
    other_if queue key next later (stands_before key next) apart (listed-inserted_other queue key later apart)

-- the least key, and the others without it
pub listed-least : (key : Key) (later : List Key) → runtime_listed key.queue (key ∷ later) ≡ Some key.vr
listed-least key later = rw (eqb-self key.queue)

pub listed-later : (queue : ℕ) (key : Key) (later : List Key) → queue ≢ key.queue → runtime_listed queue (key ∷ later) ≡ runtime_listed queue later
listed-later queue key later apart = rw (eqb-apart queue key.queue apart)

-- nothing listed stands before the least key
at_most_if : (first : Key) (queue runtime : ℕ) (key : Key) (later : List Key) (test : Bool) → eqb queue key.queue ≡ test → StandsBefore first key →
    (runtime_listed queue later ≡ Some runtime → KeyAtMost first.vr first.queue runtime queue) →
    cond test (Some key.vr) (runtime_listed queue later) ≡ Some runtime → KeyAtMost first.vr first.queue runtime queue
at_most_if first queue runtime key later true e before more is = by_order before
  where
    by_order : StandsBefore first key → KeyAtMost first.vr first.queue runtime queue
    by_order (inl less) = let same : key.vr ≡ runtime = cc in inl (omega arith)
    by_order (inr least) = let same : key.vr ≡ runtime = cc in let at = eqb-true queue key.queue e in inr (omega arith, omega arith)
at_most_if first queue runtime key later false e before more is = more is

least_of_later : (first : Key) (queue runtime : ℕ) (later : List Key) → EachKey (StandsBefore first) later → runtime_listed queue later ≡ Some runtime →
    KeyAtMost first.vr first.queue runtime queue
least_of_later first queue runtime [] each is = cc
least_of_later first queue runtime (key ∷ later) each is =
    at_most_if first queue runtime key later (eqb queue key.queue) refl each.0 (least_of_later first queue runtime later each.1) is

least_if : (first : Key) (queue runtime : ℕ) (later : List Key) (test : Bool) → eqb queue first.queue ≡ test → EachKey (StandsBefore first) later →
    cond test (Some first.vr) (runtime_listed queue later) ≡ Some runtime → KeyAtMost first.vr first.queue runtime queue
least_if first queue runtime later true e each is =
    let same : first.vr ≡ runtime = cc in let at = eqb-true queue first.queue e in inr (omega arith, omega arith)
least_if first queue runtime later false e each is = least_of_later first queue runtime later each is

pub least_of_listed : (first : Key) (later : List Key) (queue runtime : ℕ) → IsRising (first ∷ later) → runtime_listed queue (first ∷ later) ≡ Some runtime →
    KeyAtMost first.vr first.queue runtime queue
least_of_listed first later queue runtime rising is = least_if first queue runtime later (eqb queue first.queue) refl rising.0 is
