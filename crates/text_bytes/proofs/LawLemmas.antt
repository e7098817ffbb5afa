-- A device that counts its tries has counted those that were interrupted.
use Rattle.std.proofs.Common.{◌≡◌, ℕ, zero, suc, ◌+◌, ◌<◌, ◌≤◌, inl, inr, Option, None, Some, refl, ap, sym, ◌∙◌, subst, arith}
use Rattle.text_bytes.specs.Tries.{IsOneMore, IsNoFewer, AreInterrupted, FailsAfter, HasFailed, HasFailedSince}
use Rattle.text_bytes.specs.Tries as spec
use Rattle.text_bytes.specs.Laws.{FaultsAreTried}

-- what is counted after one try more
one_more : (before : ℕ) (new : Option ℕ) → IsOneMore (Some before) new → new ≡ Some (before + 1)
one_more before None none = absurd none
one_more before (Some new) is = ap Some is

next : (old new : Option ℕ) (before : ℕ) → old ≡ Some before → IsOneMore old new → new ≡ Some (before + 1)
next old new before is more = one_more before new (subst (λ was. IsOneMore was new) is more)

module _ {S : Type 0} (tries : S → Option ℕ) (interrupts fails : S → S → Type 0) where
  pub counted : (count before : ℕ) (old new : S) → tries old ≡ Some before → AreInterrupted tries interrupts count old new → tries new ≡ Some (before + count)
  counted zero before old new is same =
      let sum : before ≡ before + 0 = omega arith in
      ap tries same ∙ is ∙ ap Some sum
  counted (suc more) before old new is chain =
      let here = counted more before old chain.0 is chain.1 in
      let sum : (before + more) + 1 ≡ before + suc more = omega arith in
      next (tries chain.0) (tries new) (before + more) here chain.3 ∙ ap Some sum

  fewer : (count before : ℕ) (now : Option ℕ) → now ≡ Some (before + count) → now ≡ Some before → 0 < count → ⊥
  fewer count before now one other some =
      let same : Some (before + count) ≡ Some before = sym one ∙ other in
      let sum : before + count ≡ before = cc in
      omega arith

  pub untried : (before : ℕ) (old new : S) → tries old ≡ Some before → tries new ≡ Some before → HasFailed tries interrupts fails old new → ⊥
  untried before old new is still (inl after) =
      let here = counted after.count before old after.between is after.interrupted in
      let sum : (before + after.count) + 1 ≡ before + (after.count + 1) = omega arith in
      fewer (after.count + 1) before (tries new) (next (tries after.between) (tries new) (before + after.count) here after.counted ∙ ap Some sum) still (omega arith)
  untried before old new is still (inr all) = fewer 1000 before (tries new) (counted 1000 before old new is all) still (omega arith)

  -- what is counted behind a fault
  pub since_first : (before : ℕ) (old new : S) → tries old ≡ Some before → HasFailed tries interrupts fails old new → (after : ℕ) × (before < after) × (tries new ≡ Some after)
  since_first before old new is (inl after) =
      let here = counted after.count before old after.between is after.interrupted in
      ((before + after.count) + 1, omega arith, next (tries after.between) (tries new) (before + after.count) here after.counted)
  since_first before old new is (inr all) = (before + 1000, omega arith, counted 1000 before old new is all)

  later : (before : ℕ) (from : S) (now : Option ℕ) → tries from ≡ now → before + 1 ≤ spec.counted now → (count : ℕ) × (before ≤ count) × (tries from ≡ Some count)
  later before from None is few = absurd (omega (arith, few))
  later before from (Some count) is few = (count, omega (arith, few), is)

  pub since : (before : ℕ) (old new : S) → tries old ≡ Some before → HasFailedSince tries interrupts fails old new → (after : ℕ) × (before < after) × (tries new ≡ Some after)
  since before old new is (from, few, failed) =
      let here = later before from (tries from) refl (subst (λ was. spec.counted was ≤ spec.counted (tries from)) is few) in
      let there = since_first here.0 from new here.2 failed in
      (there.0, omega (arith, here.1, there.1), there.2)

pub faults_tried : {S : Type 0} (tries : S → Option ℕ) (interrupts fails : S → S → Type 0) → FaultsAreTried tries interrupts fails
faults_tried tries interrupts fails = record { counted = counted tries interrupts fails; untried = untried tries interrupts fails; since = since tries interrupts fails }
