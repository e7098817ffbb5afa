-- What the calls of a lent post keep: which desk and ends they are of. As calls of the desk and its ends alone they are the same.
use Rattle.actor_desk.proofs.Names.{◌≡◌, ℕ, List, [], ◌∷◌, ◌∙◌, ap, Order, Outcome, Outward, Call, Makes, Does}
use Rattle.actor_desk.specs.Lent.{LentView, DoesLent}

module _ {J T E : Type 0} (fits : Order J → Outcome J T → Type 0) (out : E → Outward J T) (credited : E → ℕ) (untouched : E → List ℕ) where
  pub lent_makes : (calls : List (Call J T)) (old new : LentView J T E) → Makes (DoesLent fits out credited untouched) calls old new → Makes (Does fits out credited untouched) calls old.lent new.lent
  lent_makes [] old new same = ap (λ (post : LentView J T E). post.lent) same
  lent_makes (call ∷ calls) old new makes = (makes.0.lent, makes.1.does, lent_makes calls makes.0 new makes.2)

  pub desk_kept : (calls : List (Call J T)) (old new : LentView J T E) → Makes (DoesLent fits out credited untouched) calls old new → new.desk_at ≡ old.desk_at
  desk_kept [] old new same = ap (λ (post : LentView J T E). post.desk_at) same
  desk_kept (call ∷ calls) old new makes = desk_kept calls makes.0 new makes.2 ∙ makes.1.desk_at

  pub ends_kept : (calls : List (Call J T)) (old new : LentView J T E) → Makes (DoesLent fits out credited untouched) calls old new → new.ends_at ≡ old.ends_at
  ends_kept [] old new same = ap (λ (post : LentView J T E). post.ends_at) same
  ends_kept (call ∷ calls) old new makes = ends_kept calls makes.0 new makes.2 ∙ makes.1.ends_at
