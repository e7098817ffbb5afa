-- What a call at the seat leaves of the outside actor.
use Rattle.std.proofs.Common.{◌≡◌, ℕ, refl, sym, ◌∙◌, ap}
use Rattle.std.specs.Prelude.{[]}
use Rattle.base_words.specs.Journal.{Journal}
use Rattle.link_ends.specs.Fits.{Fits}
use Rattle.link_ring.proofs.Using.{ends_same}
use Rattle.actor_seat.specs.OutsideSeats.{UsesOutside}
use Rattle.host_core.specs.Jobs.{host_meaning}
use Rattle.host_house.specs.Outside.{CallerView, StaysOutside}

-- a call that is refused leaves the outside actor as it was
pub stays_same : (view : CallerView) → StaysOutside view view
stays_same view = record { seat = refl; ends = ends_same view.ends; grows = ([], refl) }

module _ {core : ℕ} {old new : CallerView} (uses : UsesOutside (Fits host_meaning) core old new) where
  pub stays_after : StaysOutside old new
  stays_after = record { seat = uses.rest; ends = uses.same; grows = uses.grows }

  -- the count of cores, and what was passed on
  pub holds_after : {cores : ℕ} {passed : Journal ℕ} → cores ≡ old.desk.cores → passed ≡ old.desk.journal.passed → (cores ≡ new.desk.cores) × (passed ≡ new.desk.journal.passed)
  holds_after counts had = (counts ∙ sym (ap (λ desk. desk.cores) uses.rest), had ∙ sym (ap (λ desk. desk.journal.passed) uses.rest))
