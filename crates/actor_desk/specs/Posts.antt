-- A desk and its ends, lent to a job for one poll, and what was posted there.
use Rattle.std.specs.Prelude.{◌≡◌, ℕ, ◌+◌, ◌<◌, ◌≤◌, List, [], ◌∷◌, ◌++◌, length, sum_by, Some, slice_get}
use Rattle.base_words.specs.declared.note.Note.{Note}
use Rattle.base_words.specs.declared.note.Note.TheVariants.{Sent, Redeemed, Detached}
use Rattle.base_words.specs.declared.order.Order.{Order}
use Rattle.base_words.specs.declared.order.Outcome.{Outcome}
use Rattle.link_ends.specs.declared.ends.Outward.{Outward}
pub use Rattle.link_ends.specs.Calls.{SendsMore}
use Rattle.actor_desk.specs.Submissions.{DeskView}
use Rattle.actor_desk.specs.Ends.{IsOutOf}
use Rattle.actor_desk.specs.Tickets.{HasLane}
use Rattle.actor_desk.specs.Spending.{left_of}

-- a desk, and an end for each core
pub record PostView (J T E : Type 0) : Type 0 where
  pub desk : DeskView J T
  pub ends : List E

-- this desk and these ends, lent to a job
abbrev pub lends : {J T E : Type 0} → DeskView J T → List E → PostView J T E
lends desk ends = record { desk = desk; ends = ends }

-- these notes submit, redeem and detach
abbrev pub ArePosts : {T : Type 0} → List (Note T) → Type 0
ArePosts [] = Unit {0}
ArePosts (Sent name order ∷ notes) = ArePosts notes
ArePosts (Redeemed name outcome ∷ notes) = ArePosts notes
ArePosts (Detached name ∷ notes) = ArePosts notes
ArePosts (_ ∷ notes) = ⊥

module _ {J T E : Type 0} (fits : Order J → Outcome J T → Type 0) (out : E → Outward J T) (credited : E → ℕ) where
  -- there is an end for each core, beside the desk and its lane
  pub record AreOutsOf (desk : DeskView J T) (ends : List E) : Type 0 where
    pub count : length ends ≡ desk.cores
    pub beside : (core : ℕ) (end : E) → slice_get ends core ≡ Some end → IsOutOf core desk (out end) (credited end)
    pub lanes : (core : ℕ) (end : E) → slice_get ends core ≡ Some end → HasLane fits core desk (out end) (credited end)

  -- the ends are beside the desk, and there is room for each note that can be made before the next outcome is collected, and for one more
  pub record IsLent (post : PostView J T E) : Type 0 where
    pub outs : AreOutsOf post.desk post.ends
    pub spare : length post.desk.journal.notes + sum_by left_of post.desk.lanes < post.desk.journal.room

module _ {J T E : Type 0} (out : E → Outward J T) (untouched : E → List ℕ) where
  -- the desk has noted what it submitted, redeemed and detached, and for each note one less is left; the ends have sent more
  pub record HasPosted (old new : PostView J T E) : Type 0 where
    pub notes : List (Note T)
    pub posts : ArePosts notes
    pub desk : new.desk ≡ record old.desk { journal = record old.desk.journal { notes = notes ++ old.desk.journal.notes }; lanes = new.desk.lanes }
    pub few : length notes + sum_by left_of new.desk.lanes ≤ sum_by left_of old.desk.lanes
    pub count : length new.ends ≡ length old.ends
    pub ends : (core : ℕ) (was end : E) → slice_get old.ends core ≡ Some was → slice_get new.ends core ≡ Some end → (untouched end ≡ untouched was) × SendsMore (out was) (out end)
