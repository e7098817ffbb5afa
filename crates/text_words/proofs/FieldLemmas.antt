-- What was read of parts, if the whole was read.
use Rattle.std.proofs.Common.{◌≡◌, ◌≤◌, ℕ, Option, None, Some, Result, Ok, Err, refl, arith}
use Rattle.std.proofs.lemmas.Bool.Decides.{nat_tests}
use Rattle.text_words.specs.declared.fault.Cause.{Cause}
use Rattle.text_words.specs.Numbers.{within}
use Rattle.text_words.specs.Fields.{both, made}

pub made_ok : {A B : Type 0} (f : A → B) (r : Result A Cause) (b : B) → made f r ≡ Ok b → (a : A) × (r ≡ Ok a) × (b ≡ f a)
made_ok f (Ok a) b e = (a, refl, cc)
made_ok f (Err cause) b e = cc

pub made_err : {A B : Type 0} (f : A → B) (r : Result A Cause) (cause : Cause) → r ≡ Err cause → made f r ≡ Err cause
made_err f (Ok a) cause e = cc
made_err f (Err other) cause e = cc

pub both_ok : {A B : Type 0} (a : Result A Cause) (b : Result B Cause) (p : A × B) → both a b ≡ Ok p → (a ≡ Ok p.0) × (b ≡ Ok p.1)
both_ok (Ok a) (Ok b) p e = (cc, cc)
both_ok (Ok a) (Err f) p e = cc
both_ok (Err f) (Ok b) p e = cc
both_ok (Err f) (Err g) p e = cc

-- a number that was read is within its range
pub within_ok : (least most : ℕ) (read : Option ℕ) (n : ℕ) → within least most read ≡ Ok n → (least ≤ n) × (n ≤ most)
within_ok least most None n e = cc
within_ok least most (Some m) n e = grind (arith, nat_tests)
