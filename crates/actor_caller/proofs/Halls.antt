-- Each step of a lock keeps its rule.
use Rattle.std.proofs.Common.{◌≡◌, ℕ, List, [], ◌∷◌, get_or, sym, refl, ◌∙◌, subst, arith, Option, Some, None, length-set, get_or-set_same}
use mathlib.Core.Logic.{dite}
use mathlib.Core.Option.{some}
use native.Mathlib.Decide.{ℕ_discrete}
use Rattle.atomic_table.specs.Table.{Me, keeps, takes, gives, Allows, Arrives, opening}
use Rattle.atomic_table.proofs.Lists.{set_here}
use Rattle.actor_caller.specs.Halls.{Guarded, HasOnly, Seized}

module _ {T V : Type 0} (fits : T → Type 0) where
  -- a lock with nothing behind it yet
  pub begins : (v : V) → Guarded fits (opening (2 ∷ []) (None ∷ []) v)
  begins v = (refl, (λ zero. absurd (omega arith)), λ two. refl)

  -- the value is back
  pub releases : (id : ℕ) (me : Me (Option T) V) (v : V) (value : T) (more : List (ℕ × Option T)) → me ≡ (v, (0, Some value) ∷ more) → fits value
      → Allows (Guarded fits) 1 id me 0 (λ _. 0) (λ _ _. Unit {0})
  releases id me v value more e ok = subst (λ (x : Me (Option T) V). Allows (Guarded fits) 1 id x 0 (λ _. 0) (λ _ _. Unit {0})) (sym e)
      (λ s g wide view _.
      let now = get_or-set_same s.words 0 0 0 (omega (arith, g.0)) in
      (v, gives, tt, (length-set s.words 0 0 ∙ g.0, (λ _. (value, set_here s.homes 0 (some (Some value)) (omega arith), ok)), λ two. absurd (omega (arith, now, two))), tt))

  -- the value is taken, if it was there
  pub seizes : (n : ℕ) (v : V) → Arrives (Guarded fits) n 0 (λ _. 1) (λ r me. r ≡ 0 → Seized {V = V} fits me)
  seizes n v s g wide _ =
      let long = g.0 in let one = get_or-set_same s.words 0 1 0 (omega arith) in
      dite (ℕ_discrete (get_or s.words 0 0) 0)
      (λ free. let t = g.1 free in (v, takes 0 (Some t.0), t.1, (length-set s.words 0 1 ∙ long, (λ e. absurd (omega arith)), λ e. absurd (omega arith)), λ _. (t.0, refl, t.2)))
      (λ held. (v, keeps, tt, (length-set s.words 0 1 ∙ long, (λ e. absurd (omega arith)), λ e. absurd (omega arith)), λ e. absurd (held e)))

  -- the empty place is taken, if no value was there yet
  pub fills : (n : ℕ) (v : V) → Arrives (Guarded fits) n 0 (λ _. 1) (λ r me. r ≡ 2 → HasOnly {T = T} {V = V} me)
  fills n v s g wide _ =
      let long = g.0 in let one = get_or-set_same s.words 0 1 0 (omega arith) in
      dite (ℕ_discrete (get_or s.words 0 0) 2)
      (λ free. (v, takes 0 None, g.2 free, (length-set s.words 0 1 ∙ long, (λ e. absurd (omega arith)), λ e. absurd (omega arith)), λ _. (None, refl)))
      (λ held. (v, keeps, tt, (length-set s.words 0 1 ∙ long, (λ e. absurd (omega arith)), λ e. absurd (omega arith)), λ e. absurd (held e)))
