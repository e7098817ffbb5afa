-- The numbers of outcomes: each is given once, and its outcome fits the order of that number.
use Rattle.std.proofs.Common.{◌≡◌, ℕ, ◌+◌, ◌-◌, ◌<◌, ◌≤◌, ⊎_elim, List, [], ◌∷◌, ◌++◌, length, length-append, sym, ap, ◌∙◌, subst, arith, Option, Some, None}
use Rattle.std.specs.Prelude.{slice_get, IfSome}
use Rattle.base_words.specs.declared.order.Order.{Order}
use Rattle.base_words.specs.declared.order.Outcome.{Outcome}
use Rattle.base_words.specs.Assembly.{IsPrefix}
use Rattle.link_ends.specs.Ends.{AreDistinct, AreNamed, AreOf, AreReady}
use Rattle.circular_buffer.proofs.Places.{slice_get-some}
use Rattle.base_words.proofs.Prefixes.{IsPrefix-length}
use Rattle.link_ends.proofs.Lists.{slice_get-with_last, slice_get-starts}
use Rattle.link_ends.proofs.Pigeonhole.{pigeonhole}

module _ {J T : Type 0} where
  -- no outcome has this number
  abbrev pub IsNew : List (ℕ × Outcome J T) → ℕ → Type 0
  IsNew outcomes number = (j : ℕ) (y : ℕ × Outcome J T) → slice_get outcomes j ≡ Some y → ¬ (y.0 ≡ number)

  pub AreDistinct-append : (outcomes : List (ℕ × Outcome J T)) (number : ℕ) (outcome : Outcome J T)
      → IsNew outcomes number → AreDistinct outcomes → AreDistinct (outcomes ++ (number, outcome) ∷ [])
  AreDistinct-append outcomes number outcome new distinct i j y z e f same =
      ⊎_elim
      (λ h. ⊎_elim (λ q. distinct i j y z h q same)
      (λ q. absurd (new i y h (same ∙ sym (ap (λ (p : ℕ × Outcome J T). p.0) q.1)))) (slice_get-with_last outcomes (number, outcome) z j f))
      (λ h. ⊎_elim (λ q. absurd (new j z q (sym same ∙ sym (ap (λ (p : ℕ × Outcome J T). p.0) h.1))))
      (λ q. h.0 ∙ sym q.0) (slice_get-with_last outcomes (number, outcome) z j f))
      (slice_get-with_last outcomes (number, outcome) y i e)

  pub AreNamed-append : (base count : ℕ) (outcomes : List (ℕ × Outcome J T)) (number : ℕ) (outcome : Outcome J T)
      → base < number → number ≤ base + count → IsNew outcomes number → AreNamed base count outcomes → AreNamed base count (outcomes ++ (number, outcome) ∷ [])
  AreNamed-append base count outcomes number outcome low high new a = (
    λ i y e. ⊎_elim (λ h. a.0 i y h)
        (λ h. subst (λ (z : ℕ × Outcome J T). (base < z.0) × (z.0 ≤ base + count)) h.1 (low, high)) (slice_get-with_last outcomes (number, outcome) y i e),
    AreDistinct-append outcomes number outcome new a.1,
  )

  -- what has one of some numbers has one of more
  pub AreNamed-wider : (base count more : ℕ) (outcomes : List (ℕ × Outcome J T)) → count ≤ more → AreNamed base count outcomes → AreNamed base more outcomes
  AreNamed-wider base count more outcomes h a = (λ i x e. let r = a.0 i x e in let m : x.0 ≤ base + count = r.1 in (r.0, omega arith), a.1)

  abbrev place_in : ℕ → Option (ℕ × Outcome J T) → ℕ
  place_in base None = 0
  place_in base (Some x) = x.0 - base - 1

  -- how far behind the base the number of an outcome is
  abbrev place : ℕ → List (ℕ × Outcome J T) → ℕ → ℕ
  place base outcomes i = place_in base (slice_get outcomes i)

  -- there are no more outcomes than numbers
  pub AreNamed-length : (base count : ℕ) (outcomes : List (ℕ × Outcome J T)) → AreNamed base count outcomes → length outcomes ≤ count
  AreNamed-length base count outcomes a = pigeonhole (length outcomes) count (place base outcomes) into apart
    where
      is : (i : ℕ) (x : ℕ × Outcome J T) → slice_get outcomes i ≡ Some x → place base outcomes i ≡ x.0 - base - 1
      is i x e = ap (place_in base) e

      into : (i : ℕ) → i < length outcomes → place base outcomes i < count
      into i h =
          let x = slice_get-some outcomes i h in let r = a.0 i x.0 x.1 in let e : place base outcomes i ≡ x.0.0 - base - 1 = is i x.0 x.1 in
          let low : base < x.0.0 = r.0 in let high : x.0.0 ≤ base + count = r.1 in omega arith

      apart : (i j : ℕ) → i < length outcomes → j < length outcomes → place base outcomes i ≡ place base outcomes j → i ≡ j
      apart i j h k e =
          let x = slice_get-some outcomes i h in let y = slice_get-some outcomes j k in
          let p : place base outcomes i ≡ x.0.0 - base - 1 = is i x.0 x.1 in let q : place base outcomes j ≡ y.0.0 - base - 1 = is j y.0 y.1 in
          let low : base < x.0.0 = (a.0 i x.0 x.1).0 in let low' : base < y.0.0 = (a.0 j y.0 y.1).0 in
          a.1 i j x.0 y.0 x.1 y.1 (omega arith)

  -- where a number is left, there are fewer outcomes than numbers
  pub AreNamed-room : (base count : ℕ) (outcomes : List (ℕ × Outcome J T)) (number : ℕ) (outcome : Outcome J T)
      → base < number → number ≤ base + count → IsNew outcomes number → AreNamed base count outcomes → length outcomes < count
  AreNamed-room base count outcomes number outcome low high new a =
      let h : length (outcomes ++ (number, outcome) ∷ []) ≤ count =
      AreNamed-length base count (outcomes ++ (number, outcome) ∷ []) (AreNamed-append base count outcomes number outcome low high new a) in
      let e : length (outcomes ++ (number, outcome) ∷ []) ≡ length outcomes + 1 = length-append outcomes ((number, outcome) ∷ []) in omega arith

module _ {J T : Type 0} (fits : Order J → Outcome J T → Type 0) (base : ℕ) where
  pub AreOf-starts : (orders more : List (Order J)) (outcomes : List (ℕ × Outcome J T)) → IsPrefix orders more → AreOf fits base orders outcomes → AreOf fits base more outcomes
  AreOf-starts orders more outcomes s a = (
    λ i x e. let h = a.0 i x e in let low : base < x.0 = h.0 in let high : x.0 ≤ base + length orders = h.2 in
        let longer : length orders ≤ length more = IsPrefix-length more orders s in
        (low, subst (λ (z : Option (Order J)). IfSome z (λ o. fits o x.1)) (sym (slice_get-starts more orders (x.0 - base - 1) s (omega arith))) h.1, omega arith),
    a.1,
  )

  pub AreOf-append : (orders : List (Order J)) (outcomes : List (ℕ × Outcome J T)) (number : ℕ) (outcome : Outcome J T)
      → base < number → number ≤ base + length orders → IfSome (slice_get orders (number - base - 1)) (λ o. fits o outcome)
      → IsNew outcomes number → AreOf fits base orders outcomes → AreOf fits base orders (outcomes ++ (number, outcome) ∷ [])
  AreOf-append orders outcomes number outcome low high fit new a = (
    λ i y e. ⊎_elim (λ h. a.0 i y h)
        (λ h. subst (λ (z : ℕ × Outcome J T). (base < z.0) × IfSome (slice_get orders (z.0 - base - 1)) (λ o. fits o z.1) × (z.0 ≤ base + length orders)) h.1 (low, fit, high))
        (slice_get-with_last outcomes (number, outcome) y i e),
    AreDistinct-append outcomes number outcome new a.1,
  )

pub AreReady-append : {J : Type 0} (ready : Order J → Type 0) (orders : List (Order J)) (order : Order J)
    → ready order → AreReady ready orders → AreReady ready (orders ++ order ∷ [])
AreReady-append ready orders order last all i found e = ⊎_elim (λ h. all i found h) (λ h. subst ready h.1 last) (slice_get-with_last orders order found i e)
