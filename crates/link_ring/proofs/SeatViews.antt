-- Truth values that differ.
use Rattle.std.proofs.Common.{◌≡◌, true, false}

pub true-not_false : true ≡ false → ⊥
true-not_false e = cc
