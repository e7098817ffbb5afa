-- A list of one value has that value everywhere.
use Rattle.std.proofs.Common.{◌≡◌, ℕ, zero, suc, refl, get_or, replicate}

pub get_or-replicate : {A : Type 0} (count place : ℕ) (item : A) → get_or (replicate count item) place item ≡ item
get_or-replicate zero place item = refl
get_or-replicate (suc count) zero item = refl
get_or-replicate (suc count) (suc place) item = get_or-replicate count place item
