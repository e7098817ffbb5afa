-- What each call of a post adds to its notes, the newest first, and what it leaves as it was.
use Rattle.std.specs.Borrow.{Fml, Lends, MutBor, RattleType}
use Rattle.std.specs.Prelude.{◌≡◌, ℕ, ◌∷◌, Result, Ok, Err}
use Rattle.base_words.specs.declared.names.JobId.{JobId}
use Rattle.base_words.specs.declared.names.TicketError.{TicketError}
use Rattle.base_words.specs.declared.note.Note.TheVariants.{Sent, Redeemed, Detached}
use Rattle.base_words.specs.declared.order.Order.{Order}
use Rattle.base_words.specs.declared.order.Outcome.{Outcome}
use Rattle.base_words.specs.declared.order.SendError.{SendError}
use Rattle.base_words.specs.declared.order.SendError.TheVariants as refused
use Rattle.base_words.specs.Journal.{Journal}
use Rattle.base_words.specs.Orders.{without_job}
use Rattle.base_words.specs.Outcomes.{outcome_note}

-- the order that comes back
abbrev pub order_back : {J : Type 0} → SendError J → Order J
order_back (refused.Closed order last) = order
order_back (refused.Full order) = order
order_back (refused.Spent order) = order
order_back (refused.NoCore order) = order

-- an order that is accepted is noted under the name of its ticket; one that is refused comes back, and nothing is noted
abbrev pub NotesSubmit : {J T : Type 0} → Journal T → ℕ → Order J → Result JobId (SendError J) → Journal T → Type 0
NotesSubmit old to order (Ok name) new = (name.to ≡ to) × (new ≡ Sent name (without_job order) ∷ old)
NotesSubmit old to order (Err error) new = (order_back error ≡ order) × (new ≡ old)

-- an outcome that is redeemed is noted; a refused ticket isn't
abbrev pub NotesRedeem : {J T : Type 0} → Journal T → JobId → Result (Outcome J T) TicketError → Journal T → Type 0
NotesRedeem old name (Ok outcome) new = new ≡ Redeemed name (outcome_note outcome) ∷ old
NotesRedeem old name (Err error) new = new ≡ old

-- a submission that is detached is noted; a refused ticket isn't
abbrev pub NotesDetach : {T : Type 0} → Journal T → JobId → Result (Unit {0}) TicketError → Journal T → Type 0
NotesDetach old name (Ok done) new = new ≡ Detached name ∷ old
NotesDetach old name (Err error) new = new ≡ old

-- a post that lends a state is as it was once the state is back, whatever was written there
abbrev pub LendsState : (R T : RattleType) → MutBor R.Denot → MutBor T.Denot → Fml
LendsState R T post state = Lends R T post state (λ _. post.now)
