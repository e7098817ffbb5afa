-- The place of a slot in its cell. Each alignment divides 16, so the slot follows the word and the link without a gap.
use Rattle.std.proofs.Common.{◌≡◌, ℕ, ◌+◌, ◌-◌, ◌%◌, ap, sym, ◌∙◌, subst, arith}
use native.Mathlib.Nat.{mod_self, sub-zero}
use mir.Syntax.{Ty, Width, w8, w16, w32, w64, w128}
use mir.Val.{bytes}
use prog.Memory.{align, pad, up}
use prog.Align.{Dv, dv→, dv_zero, align_w, align-bytes}

divides_16 : (w : Width) → Dv (bytes w) 16
divides_16 w8 = tt
divides_16 w16 = tt
divides_16 w32 = tt
divides_16 w64 = tt
divides_16 w128 = tt

-- a multiple is not rounded up
even : (a n : ℕ) → Dv a n → up a n ≡ n
even a n d =
    let gone : pad a n ≡ 0 = ap (λ (r : ℕ). (a - r) % a) (dv→ a n d) ∙ ap (λ (r : ℕ). r % a) (sub-zero a) ∙ mod_self a in
    ap (λ (r : ℕ). n + r) gone ∙ omega arith

at_16 : (τ : Ty) → up (align τ) 16 ≡ 16
at_16 τ = even (align τ) 16 (subst (λ (k : ℕ). Dv k 16) (sym (align-bytes τ)) (divides_16 (align_w τ)))

at_0 : (τ : Ty) → up (align τ) 0 ≡ 0
at_0 τ = even (align τ) 0 (dv_zero (align τ))

-- the only field of the slot at e of a cell
pub slot_is : (σ τ : Ty) (e : ℕ) → 16 + e ≡ e + up (align σ) 16 + up (align τ) 0
slot_is σ τ e = let x = at_16 σ in let y = at_0 τ in omega (arith, x, y)
