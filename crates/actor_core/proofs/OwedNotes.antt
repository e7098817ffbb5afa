-- Each poll of a journal stays owed when notes are written that settle no poll, and when more is known.
use Rattle.actor_core.proofs.Names.{◌≡◌, ℕ, ◌+◌, List, [], ◌∷◌, ◌++◌, Option, Some, None, none-some, refl, sym, ◌∙◌, ap, add-zero, JobId, Note, Envelope, Order, Journal, Terms, Meaning, Step, Call, name_settled, is_name, number_if, polls_made}
use Rattle.actor_core.proofs.Names.{AreCollected, order_taken, or_else, cond, same_name}
use Rattle.base_words.specs.declared.note.Note.TheVariants as writes
use Rattle.base_words.specs.declared.order.SendError.TheVariants as refused
use Rattle.base_words.specs.declared.names.TicketError.TheVariants as ticket
use Rattle.base_jobs.specs.declared.job.Step.TheVariants as steps
use Rattle.base_jobs.specs.Calls.Call.{Submit, Redeem, Detach}
use Rattle.std.specs.Prelude.{Ok, Err}
use Rattle.actor_core.proofs.Received.{order_taken-with}
use Rattle.actor_core.specs.RightAnswers.{Seen, SeesNoLess, call_notes, posted_notes, IsRightAnswer, AreRightAnswers}
use Rattle.actor_core.specs.OwedPolls.{IsPollOf, PollIsOwed, PollsAreOwed}

-- none of these notes settles a poll
abbrev pub SettleNothing : {T : Type 0} → List (Note T) → Type 0
SettleNothing [] = Unit {0}
SettleNothing (note ∷ notes) = (name_settled note ≡ None) × SettleNothing notes

module _ {T : Type 0} where
  pub settle_nothing-append : (later earlier : List (Note T)) → SettleNothing later → SettleNothing earlier → SettleNothing (later ++ earlier)
  settle_nothing-append [] earlier one two = two
  settle_nothing-append (note ∷ later) earlier one two = (one.0, settle_nothing-append later earlier one.1 two)

  -- and of what is collected
  pub collections_settle_nothing : (core : ℕ) (notes : List (Note T)) → AreCollected core notes → SettleNothing notes
  collections_settle_nothing core [] are = tt
  collections_settle_nothing core (writes.Collected name outcome ∷ notes) are = (refl, collections_settle_nothing core notes are.1)
  collections_settle_nothing core (_ ∷ notes) are = absurd are

  -- who was polled so often was polled as often before them
  pub polls_made-longer : (name : JobId) (notes : List (Note T)) (before : Journal T) → SettleNothing notes → polls_made name (notes ++ before) ≡ polls_made name before
  polls_made-longer name [] before none = refl
  polls_made-longer name (note ∷ notes) before none =
      ap (λ settled. polls_made name (notes ++ before) + number_if (is_name name settled)) none.0
      ∙ (add-zero (polls_made name (notes ++ before)) ∙ polls_made-longer name notes before none.1)

module _ {J T : Type 0} where
  call_settles_nothing : (call : Call J T) → SettleNothing (call_notes call)
  call_settles_nothing (Submit to order (Ok name)) = (refl, tt)
  call_settles_nothing (Submit to order (Err error)) = tt
  call_settles_nothing (Redeem name (Ok outcome)) = (refl, tt)
  call_settles_nothing (Redeem name (Err error)) = tt
  call_settles_nothing (Detach name (Ok done)) = (refl, tt)
  call_settles_nothing (Detach name (Err error)) = tt

  -- what calls of a post write settles no poll
  pub posted_settle_nothing : (calls : List (Call J T)) → SettleNothing (posted_notes calls)
  posted_settle_nothing [] = tt
  posted_settle_nothing (call ∷ calls) = settle_nothing-append (posted_notes calls) (call_notes call) (posted_settle_nothing calls) (call_settles_nothing call)

module _ {J T : Type 0} (terms : Terms) (seen now : Seen J) (more : SeesNoLess seen now) where
  -- an answer stays right where no less is known of the links
  pub right_stays : (call : Call J T) (before : Journal T) → IsRightAnswer terms seen call before → IsRightAnswer terms now call before
  right_stays (Submit to order (Ok name)) before right = (right.0, right.1, more.sent name order right.2)
  right_stays (Submit to order (Err (refused.Closed back final))) before right = (right.0, more.shut to final right.1, right.2)
  right_stays (Submit to order (Err (refused.Full back))) before right = right
  right_stays (Submit to order (Err (refused.Spent back))) before right = right
  right_stays (Submit to order (Err (refused.NoCore back))) before right = right
  right_stays (Redeem name (Ok outcome)) before right = right
  right_stays (Redeem name (Err error)) before right = right
  right_stays (Detach name (Ok done)) before right = right
  right_stays (Detach name (Err ticket.Unknown)) before right = right
  right_stays (Detach name (Err ticket.Gone)) before right = right
  right_stays (Detach name (Err ticket.Pending)) before right = right

  pub rights_stay : (calls : List (Call J T)) (before : Journal T) → AreRightAnswers terms seen calls before → AreRightAnswers terms now calls before
  rights_stay [] before right = tt
  rights_stay (call ∷ calls) before right = (right_stays call before right.0, rights_stay calls (call_notes call ++ before) right.1)

  module _ (meaning : Meaning J T) where
    -- a poll stays one of its job
    pub poll_stays : (queue : ℕ) (sent : J) (name : JobId) (time : ℕ) (step : Step T) (before : Journal T) →
        IsPollOf meaning terms seen queue sent name time step before → IsPollOf meaning terms now queue sent name time step before
    poll_stays queue sent name time step before poll =
        record { calls = poll.calls; told = poll.told; was_started = poll.was_started; earlier = poll.earlier; due = poll.due; stands = poll.stands; right = rights_stay poll.calls _ poll.right; owed = poll.owed; answered = poll.answered; timed = poll.timed }

    module _ (under later : JobId → Option (Order J)) (keeps : (name : JobId) (order : Order J) → under name ≡ Some order → later name ≡ Some order) where
      note_stays : (note : Note T) (before : Journal T) → PollIsOwed meaning terms seen under note before → PollIsOwed meaning terms now later note before
      note_stays (writes.Yield name time) before owed = record { queue = owed.queue; sent = owed.sent; task = keeps name _ owed.task; poll = poll_stays owed.queue owed.sent name time steps.Yield before owed.poll }
      note_stays (writes.Park name time) before owed = record { queue = owed.queue; sent = owed.sent; task = keeps name _ owed.task; poll = poll_stays owed.queue owed.sent name time steps.Park before owed.poll }
      note_stays (writes.Stayed name time) before owed = record { queue = owed.queue; sent = owed.sent; task = keeps name _ owed.task; poll = poll_stays owed.queue owed.sent name time steps.Park before owed.poll }
      note_stays (writes.Done name time out) before owed = record { queue = owed.queue; sent = owed.sent; task = keeps name _ owed.task; poll = poll_stays owed.queue owed.sent name time (steps.Done out) before owed.poll }
      note_stays _ before owed = tt

      -- each poll of a journal stays owed where no less is known of links and orders
      pub owed_stays : (notes : Journal T) → PollsAreOwed meaning terms seen under notes → PollsAreOwed meaning terms now later notes
      owed_stays [] owed = tt
      owed_stays (note ∷ before) owed = (note_stays note before owed.0, owed_stays before owed.1)

module _ {J T : Type 0} (meaning : Meaning J T) (terms : Terms) (seen : Seen J) (under : JobId → Option (Order J)) where
  quiet_owed : (note : Note T) (before : Journal T) → name_settled note ≡ None → PollIsOwed meaning terms seen under note before
  quiet_owed (writes.Yield name time) before none = absurd (none-some name (sym none))
  quiet_owed (writes.Park name time) before none = absurd (none-some name (sym none))
  quiet_owed (writes.Stayed name time) before none = absurd (none-some name (sym none))
  quiet_owed (writes.Done name time out) before none = absurd (none-some name (sym none))
  quiet_owed _ before none = tt

  -- notes that settle no poll leave each poll owed
  pub owed_longer : (notes : List (Note T)) (before : Journal T) → SettleNothing notes → PollsAreOwed meaning terms seen under before → PollsAreOwed meaning terms seen under (notes ++ before)
  owed_longer [] before none owed = owed
  owed_longer (note ∷ notes) before none owed = (quiet_owed note (notes ++ before) none.0, owed_longer notes before none.1 owed)

-- what was delivered under a name stays there as more is delivered
pub taken_longer : {J : Type 0} (took : List (Envelope J)) (last : Envelope J) (name : JobId) (order : Order J) → order_taken took name ≡ Some order → order_taken (took ++ last ∷ []) name ≡ Some order
taken_longer took last name order at = order_taken-with last took name ∙ ap (λ first. or_else first (cond (same_name name last.name) (Some last.order) None)) at
