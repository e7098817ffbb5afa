-- A desk and its ends while they are lent, with the borrows that they are of.
use Rattle.std.specs.Prelude.{◌≡◌, ℕ, List}
use Rattle.base_words.specs.declared.order.Order.{Order}
use Rattle.base_words.specs.declared.order.Outcome.{Outcome}
use Rattle.base_jobs.specs.Calls.{Call}
use Rattle.link_ends.specs.declared.ends.Outward.{Outward}
use Rattle.actor_desk.specs.Calls.{Does}
use Rattle.actor_desk.specs.Posts.{PostView}

-- a desk and its ends, and the names of the two borrows
pub record LentView (J T E : Type 0) : Type 0 where
  pub lent : PostView J T E
  pub desk_at : ℕ
  pub ends_at : ℕ

-- what a call does to the desk and its ends; they stay the ones that were lent
pub record DoesLent {J T E : Type 0} (fits : Order J → Outcome J T → Type 0) (out : E → Outward J T) (credited : E → ℕ) (untouched : E → List ℕ) (old : LentView J T E) (call : Call J T) (new : LentView J T E) : Type 0 where
  pub does : Does fits out credited untouched old.lent call new.lent
  pub desk_at : new.desk_at ≡ old.desk_at
  pub ends_at : new.ends_at ≡ old.ends_at
