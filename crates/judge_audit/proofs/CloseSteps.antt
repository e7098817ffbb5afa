-- Nothing is closed at first.
use Rattle.judge_audit.proofs.Names.{Bool, false, get_or, refl, replicate, suc, zero, ℕ, ◌≡◌}

pub none_there : (count place : ℕ) → ◌≡◌ {A = Bool} (get_or (replicate count false) place false) false
none_there zero place = refl
none_there (suc count) zero = refl
none_there (suc count) (suc place) = none_there count place
