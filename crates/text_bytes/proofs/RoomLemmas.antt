-- Room for bytes, line by line.
use Rattle.std.proofs.Common.{◌≡◌, ℕ, ◌+◌, ◌-◌, ◌*◌, ◌≤◌, arith}

-- a line less leaves room for a line less
pub room_less : (after before longest count : ℕ) → after + 1 ≤ before → count ≤ longest → (after + 1) * (longest + 1) + 1 ≤ (before + 1) * (longest + 1) - count
room_less after before longest count less short =
    let lines = before - (after + 1) in
    let is : before ≡ after + 1 + lines = omega arith in
    rw is (omega (arith, split after lines longest))
  where
    split : (after lines longest : ℕ) → (after + 1 + lines + 1) * (longest + 1) ≡ (after + 1) * (longest + 1) + (longest + 1) + lines * (longest + 1)
    split after lines longest = omega arith
