-- What an actor may do with the outcomes of its submissions.
use Rattle.std.specs.Prelude.{◌≡◌, false, Some}
use Rattle.base_words.specs.declared.names.JobId.{JobId}
use Rattle.base_words.specs.declared.note.OutcomeNote.{OutcomeNote}
use Rattle.base_words.specs.declared.order.Order.{Order}
use Rattle.base_words.specs.Assembly.{first_under}
use Rattle.base_words.specs.Filters.{accepted_orders, collected_outcomes}
use Rattle.base_words.specs.Journal.{Journal, is_told}
use Rattle.base_words.specs.Outcomes.{FitsOrder}
use Rattle.base_words.specs.Outstanding.{is_gone, name_collected}

-- the submission was accepted, the outcome fits its order, and it wasn't collected before
pub record IsNextCollected {T : Type 0} (name : JobId) (outcome : OutcomeNote T) (before : Journal T) : Type 0 where
  pub order : Order (Unit {0})
  pub accepted : first_under name (accepted_orders name.to before) ≡ Some order
  pub fits : FitsOrder order outcome
  pub new : is_told name_collected name before ≡ false

-- the outcome was collected, and the submission is neither redeemed nor detached
pub record IsRedeemable {T : Type 0} (name : JobId) (outcome : OutcomeNote T) (before : Journal T) : Type 0 where
  pub collected : first_under name (collected_outcomes name.to before) ≡ Some outcome
  pub kept : is_gone name before ≡ false

-- the submission was accepted, and is neither redeemed nor detached
pub record IsDetachable {T : Type 0} (name : JobId) (before : Journal T) : Type 0 where
  pub order : Order (Unit {0})
  pub accepted : first_under name (accepted_orders name.to before) ≡ Some order
  pub kept : is_gone name before ≡ false
