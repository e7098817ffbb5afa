-- What became of workers.
use Rattle.std.specs.Prelude.{◌≡◌, List, [], ◌∷◌}
use Rattle.run_team.specs.declared.work.Left.{Left}
use Rattle.run_team.specs.declared.work.Left.TheVariants.{Unbegun, Ended}

module _ {W E : Type 0} (keeps : W → E → Type 0) where
  -- it is the worker as it was given, or what that worker owes
  abbrev pub IsLeft : W → Left W E → Type 0
  IsLeft worker (Unbegun same) = same ≡ worker
  IsLeft worker (Ended end) = keeps worker end

  -- a worker that never began is brought to its end; one that had ended gave this back
  abbrev pub HasEndedFrom : Left W E → E → Type 0
  HasEndedFrom (Unbegun worker) end = keeps worker end
  HasEndedFrom (Ended same) end = end ≡ same

-- the two lists are as long as each other, and at each place the relation holds
abbrev pub Together : {A B : Type 0} → (A → B → Type 0) → List A → List B → Type 0
Together related [] [] = Unit {0}
Together related (x ∷ xs) (y ∷ ys) = related x y × Together related xs ys
Together related _ _ = ⊥
