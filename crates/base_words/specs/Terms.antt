-- Whose journal a note stands in, and what holds of the whole house.
use Rattle.std.specs.Prelude.{ℕ}
use Rattle.base_words.specs.Assembly.{Assembly}

-- the actor whose journal it is, how many cores there are, how much each link may hold, and how many polls a turn may have
pub record Terms : Type 0 where
  pub actor : ℕ
  pub cores : ℕ
  pub cap : ℕ
  pub burst : ℕ

-- the terms of an actor among these journals
abbrev pub terms_of : {T : Type 0} → ℕ → Assembly T → Terms
terms_of actor assembly = record { actor = actor; cores = assembly.cores; cap = assembly.cap; burst = assembly.burst }
