-- Some calls, and then more.
use Rattle.std.proofs.Common.{List, [], ◌∷◌, ◌++◌, subst}
use Rattle.base_jobs.specs.Calls.{Call, Doing, Makes}
use Rattle.base_jobs.specs.Asking.{MakesSome}

module _ {P J T : Type 0} (does : Doing P J T) where
  Makes-append : (first second : List (Call J T)) (old middle new : P) → Makes does first old middle → Makes does second middle new → Makes does (first ++ second) old new
  Makes-append [] second old middle new one two = subst (λ at. Makes does second at new) one two
  Makes-append (call ∷ first) second old middle new one two = (one.0, one.1, Makes-append first second one.0 middle new one.2 two)

  -- calls after some calls are some calls
  pub MakesSome-more : (second : List (Call J T)) (old middle new : P) → MakesSome does old middle → Makes does second middle new → MakesSome does old new
  MakesSome-more second old middle new some two =
      record { calls = some.calls ++ second; makes = Makes-append some.calls second old middle new some.makes two }
