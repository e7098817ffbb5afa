-- What the calls of an actor on its tickets do.
use Rattle.std.specs.Prelude.{◌≡◌, ℕ, ◌+◌, ◌≤◌, Bool, true, false, None, List, [], ◌∷◌, length, Result, Ok, Err, IsSome}
use Rattle.base_words.specs.declared.names.JobId.{JobId}
use Rattle.base_words.specs.declared.names.TicketError.{TicketError}
use Rattle.base_words.specs.declared.names.TicketError.TheVariants.{Unknown, Gone, Pending}
use Rattle.base_words.specs.declared.note.OutcomeNote.{OutcomeNote}
use Rattle.base_words.specs.declared.note.Note.{Note}
use Rattle.base_words.specs.declared.note.Note.TheVariants as writes
use Rattle.base_words.specs.declared.order.Outcome.{Outcome}
use Rattle.base_words.specs.Assembly.{first_under}
use Rattle.base_words.specs.Collecting.{IsRedeemable, IsDetachable}
use Rattle.base_words.specs.Filters.{accepted_orders}
use Rattle.base_words.specs.Journal.{Journal, is_told}
use Rattle.base_words.specs.Outcomes.{outcome_note}
use Rattle.base_words.specs.Outstanding.{is_gone, name_collected}
use Rattle.link_ends.specs.declared.ends.Outward.{Outward}
use Rattle.base_words.specs.Assembly.{IsPrefix}
use Rattle.actor_desk.specs.Submissions.{DeskView, desk_with}
pub use Rattle.actor_desk.specs.KnownLanes.{is_let_go, KnowsLane, KnowsLanes, HasLane, StaysBeside}

module _ {T : Type 0} where
  -- why a ticket is refused: nothing was accepted under its name; it was redeemed or detached; its outcome isn't collected
  abbrev pub RefusesTicket : JobId → TicketError → Journal T → Type 0
  RefusesTicket name Unknown notes = first_under name (accepted_orders name.to notes) ≡ None
  RefusesTicket name Gone notes = IsSome (first_under name (accepted_orders name.to notes)) × (is_gone name notes ≡ true)
  RefusesTicket name Pending notes =
      IsSome (first_under name (accepted_orders name.to notes)) × (is_gone name notes ≡ false) × (is_told name_collected name notes ≡ false)

  -- these notes each say that an outcome of this core was collected
  abbrev pub AreCollected : ℕ → List (Note T) → Type 0
  AreCollected core [] = Unit {0}
  AreCollected core (writes.Collected name outcome ∷ notes) = (name.to ≡ core) × AreCollected core notes
  AreCollected core (_ ∷ notes) = ⊥

module _ {J T : Type 0} where
  -- the journal is longer by these notes
  abbrev pub Notes : DeskView J T → List (Note T) → DeskView J T → Type 0
  Notes old notes new = new.journal ≡ (desk_with notes old).journal

  -- an outcome that was collected is redeemed, and noted; or the ticket is refused
  abbrev pub RedeemsTicket : JobId → DeskView J T → Result (Outcome J T) TicketError → DeskView J T → Type 0
  RedeemsTicket name old (Ok outcome) new =
      IsRedeemable name (outcome_note outcome) old.journal.notes × IsSome (first_under name (accepted_orders name.to old.journal.notes))
      × Notes old (writes.Redeemed name (outcome_note outcome) ∷ []) new
  RedeemsTicket name old (Err error) new = RefusesTicket name error old.journal.notes × (new ≡ old)

  -- a submission is detached, and that is noted; or the ticket is refused
  abbrev pub DetachesTicket : JobId → DeskView J T → Result (Unit {0}) TicketError → DeskView J T → Type 0
  DetachesTicket name old (Ok done) new = IsDetachable name old.journal.notes × Notes old (writes.Detached name ∷ []) new
  DetachesTicket name old (Err Pending) new = ⊥
  DetachesTicket name old (Err Unknown) new = RefusesTicket name Unknown old.journal.notes × (new ≡ old)
  DetachesTicket name old (Err Gone) new = RefusesTicket name Gone old.journal.notes × (new ≡ old)

  -- so many outcomes of this core are collected, and each is noted
  abbrev pub CollectsFrom : ℕ → DeskView J T → ℕ → DeskView J T → Type 0
  CollectsFrom core old count new = (notes : List (Note T)) × AreCollected core notes × (length notes ≡ count) × Notes old notes new

  -- an end has got all that it shows, and nothing else changes of it
  abbrev pub GetsAll : Outward J T → Outward J T → Type 0
  GetsAll out later = (later ≡ record out { seen = later.seen; got = later.got }) × IsPrefix out.seen later.seen × (later.got ≡ length later.seen)

  -- the next outcome of this core is collected, and noted; or the end shows no more than it has got
  abbrev pub GetsNext : ℕ → DeskView J T → DeskView J T → Outward J T → Outward J T → Bool → Type 0
  GetsNext core old new out later true =
      ((name : JobId) × (outcome : OutcomeNote T) × (name.to ≡ core) × Notes old (writes.Collected name outcome ∷ []) new)
      × (later ≡ record out { seen = later.seen; got = out.got + 1 }) × IsPrefix out.seen later.seen × (later.got ≤ length later.sent)
  GetsNext core old new out later false = (new ≡ old) × (later ≡ record out { seen = later.seen }) × IsPrefix out.seen later.seen × (later.got ≡ length later.seen)
