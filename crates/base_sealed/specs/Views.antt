-- What a contract sees of a sealed vector.
use Rattle.std.specs.Prelude.{ℕ, List, refl}
use Rattle.std.specs.Coded.{Coded, code_by, coded×, coded_ℕ, coded_list}

-- its values, and how many fit
pub record SealedView (T : Type 0) : Type 0 where
  pub items : List T
  pub cap : ℕ

-- a view is stored as the pair of its fields
abbrev pub view_code : {T : Type 0} → Coded T → Coded (SealedView T)
view_code {T} code = code_by (List T × ℕ) (coded× (coded_list code) coded_ℕ) (λ v. (v.items, v.cap)) (λ p. record { items = p.0; cap = p.1 }) (λ _. refl)
