-- Each step of a core but its turn leaves each poll owed: it settles none.
use Rattle.actor_core.proofs.Names.{◌≡◌, ℕ, Bool, true, false, List, [], ◌∷◌, ◌++◌, Option, Some, None, Result, Ok, Err, refl, sym, ◌∙◌, ap, subst, JobId, Note, Envelope, Order, Outcome, Journal, Meaning, RecordedView, terms_at, desk_of}
use Rattle.actor_core.proofs.Names.{order_taken, IsSameSeat, SendError, TicketError, Submits, RedeemsTicket, DetachesTicket, CollectsFrom, IsDelivery, Reason, Mode, Turn, PickError, Receives, Delivers, CreatesQueue, TellsShut, ClosesItself, IsPick}
use Rattle.actor_core.proofs.Names.{IsHandBack, Picks, IsFurther, Follows, EndsTurn, Answer, poll_note, entry_note, CreateError, Inward, DeskView}
use Rattle.base_words.specs.declared.note.Note.TheVariants as writes
use Rattle.base_words.specs.declared.order.Order.TheVariants as order
use Rattle.base_words.specs.declared.order.Answer.TheVariants as answers
use Rattle.base_words.specs.declared.order.SendError.TheVariants as refused
use Rattle.base_words.specs.declared.names.TicketError.TheVariants as ticket
use Rattle.base_words.specs.Commands.{effect_note}
use Rattle.core_core.specs.declared.turn.Turn.TheVariants as turn
use Rattle.core_core.specs.declared.turn.PickError.TheVariants as picking
use Rattle.core_queues.specs.declared.queues.CreateError.TheVariants as creating
use Rattle.actor_core.specs.Deliveries.{with_effect, IsAnswered}
use Rattle.actor_core.specs.OwedPolls.{PollsAreOwed, HasOwedPolls}
use Rattle.actor_core.specs.RightAnswers.{Seen, SeesNoLess}
use Rattle.actor_core.proofs.OwedNotes.{SettleNothing, collections_settle_nothing, owed_longer, owed_stays, taken_longer}

module _ (T : Type 0) where
  -- a poll that begins settles nothing
  pub pick_settles_nothing : (name : JobId) (was_started : Bool) (queue runtime : ℕ) → SettleNothing {T = T} (poll_note name was_started ∷ writes.Pick queue runtime ∷ [])
  pick_settles_nothing name false queue runtime = (refl, (refl, tt))
  pick_settles_nothing name true queue runtime = (refl, (refl, tt))

  pub begin_settles_nothing : (name : JobId) (was_started : Bool) → SettleNothing {T = T} (poll_note name was_started ∷ [])
  begin_settles_nothing name false = (refl, tt)
  begin_settles_nothing name true = (refl, tt)

  effect_settles_nothing : (what : Order (Unit {0})) (answer : Answer) (name : JobId) → SettleNothing {T = T} (with_effect (effect_note name.to what answer) (writes.Answered name answer ∷ []))
  effect_settles_nothing (order.Create weight) (answers.Created queue) name = (refl, (refl, tt))
  effect_settles_nothing (order.SetShares queue weight) answers.SharesSet name = (refl, (refl, tt))
  effect_settles_nothing (order.Close queue mode) answers.Closed name = (refl, (refl, tt))
  effect_settles_nothing (order.CloseCore mode) answers.Closed name = (refl, (refl, tt))
  effect_settles_nothing (order.Wake actor number) answers.Woken name = (refl, (refl, tt))
  effect_settles_nothing _ _ name = (refl, tt)

  entry_settles_nothing : (name : JobId) (queue : ℕ) (reason : Option Reason) → SettleNothing {T = T} (entry_note name queue reason ∷ [])
  entry_settles_nothing name queue None = (refl, tt)
  entry_settles_nothing name queue (Some reason) = (refl, tt)

  answer_settles_nothing : (name : JobId) (what : Order (Unit {0})) (before : Journal T) (notes : List (Note T)) → IsAnswered name what before notes → SettleNothing notes
  answer_settles_nothing name what before notes is = subst (λ notes. SettleNothing notes) (sym is.2) (effect_settles_nothing what is.0 name)

  -- a delivery settles nothing
  pub delivery_settles_nothing : {J : Type 0} (name : JobId) (what : Order J) (before : Journal T) (notes : List (Note T)) → IsDelivery name what before notes → SettleNothing notes
  delivery_settles_nothing name (order.Job queue job) before notes is = subst (λ notes. SettleNothing notes) (sym is) (entry_settles_nothing name queue _)
  delivery_settles_nothing name (order.Create weight) before notes is = answer_settles_nothing name (order.Create weight) before notes is
  delivery_settles_nothing name (order.SetShares queue weight) before notes is = answer_settles_nothing name (order.SetShares queue weight) before notes is
  delivery_settles_nothing name (order.Close queue mode) before notes is = answer_settles_nothing name (order.Close queue mode) before notes is
  delivery_settles_nothing name (order.CloseCore mode) before notes is = answer_settles_nothing name (order.CloseCore mode) before notes is
  delivery_settles_nothing name (order.Wake actor number) before notes is = answer_settles_nothing name (order.Wake actor number) before notes is

module _ {J T : Type 0} (meaning : Meaning J T) (seen : Seen J) (old new : RecordedView J T) where
  -- where as much is known of the links as before, this step leaves each poll owed
  abbrev pub KeepsOwed : Type 0
  KeepsOwed = HasOwedPolls meaning seen old → HasOwedPolls meaning seen new

  -- a step whose notes settle no poll, and that keeps what was delivered
  pub noted_keeps : terms_at new ≡ terms_at old → ((name : JobId) (what : Order J) → order_taken old.took name ≡ Some what → order_taken new.took name ≡ Some what) →
      (notes : List (Note T)) → SettleNothing notes → new.journal.notes ≡ notes ++ old.journal.notes → KeepsOwed
  noted_keeps terms keeps notes none noted owed =
      subst (λ terms. PollsAreOwed meaning terms seen (order_taken new.took) new.journal.notes) (sym terms)
      (subst (PollsAreOwed meaning (terms_at old) seen (order_taken new.took)) (sym noted)
      (owed_longer meaning (terms_at old) seen (order_taken new.took) notes old.journal.notes none
      (owed_stays (terms_at old) seen seen (record { shut = λ core final saw. saw; sent = λ name what saw. saw }) meaning (order_taken old.took) (order_taken new.took) keeps old.journal.notes owed)))

  same_terms : IsSameSeat old new → terms_at new ≡ terms_at old
  same_terms seat = λ i. record { actor = seat.number i; cores = seat.cores i; cap = seat.cap i; burst = seat.burst i }

  -- a step that delivers nothing
  pub quiet_keeps : IsSameSeat old new → new.took ≡ old.took → (notes : List (Note T)) → SettleNothing notes → new.journal.notes ≡ notes ++ old.journal.notes → KeepsOwed
  quiet_keeps seat took notes none noted = noted_keeps (same_terms seat) (λ name what at. ap (λ took. order_taken took name) took ∙ at) notes none noted

  pub same_keeps : new ≡ old → KeepsOwed
  same_keeps same owed = subst (HasOwedPolls meaning seen) (sym same) owed

  module _ (seat : IsSameSeat old new) where
    pub receives_keep : (envelope : Envelope J) → Receives old envelope new → KeepsOwed
    receives_keep envelope did =
        noted_keeps (same_terms seat) (λ name what at. ap (λ took. order_taken took name) did.took ∙ taken_longer old.took envelope name what at) did.notes
        (delivery_settles_nothing T envelope.name envelope.order old.journal.notes did.notes did.delivery) (ap (λ journal. journal.notes) did.journal)

    pub delivers_keep : (before after : Inward J T) (found : Bool) → Delivers old before new after found → KeepsOwed
    delivers_keep before after true did = receives_keep did.0 did.2
    delivers_keep before after false did = same_keeps did.1

    pub creates_keep : (weight : ℕ) (created : Result ℕ CreateError) → CreatesQueue weight old created new → KeepsOwed
    creates_keep weight (Ok queue) did = quiet_keeps seat did.4 (writes.Created queue weight ∷ []) (refl, tt) (ap (λ journal. journal.notes) did.2)
    creates_keep weight (Err creating.TooMany) did = same_keeps did.1
    creates_keep weight (Err creating.Memory) did = same_keeps did.1

    pub shuts_keep : (sender count : ℕ) → TellsShut old sender count new → KeepsOwed
    shuts_keep sender count did = quiet_keeps seat did.took (writes.Shut sender count ∷ []) (refl, tt) (ap (λ journal. journal.notes) did.journal)

    pub closes_keep : (mode : Mode) (closed : Bool) → ClosesItself old mode closed new → KeepsOwed
    closes_keep mode true did = quiet_keeps seat did.3 (writes.CoreClosed mode ∷ []) (refl, tt) (ap (λ journal. journal.notes) did.1)
    closes_keep mode false did = same_keeps did.1

    pub pick_keeps : (name : JobId) (queue : ℕ) (was_started : Bool) (job : J) → IsPick old name queue was_started job new → KeepsOwed
    pick_keeps name queue was_started job did =
        quiet_keeps seat did.took (poll_note name was_started ∷ writes.Pick queue did.runtime ∷ []) (pick_settles_nothing T name was_started queue did.runtime) (ap (λ journal. journal.notes) did.journal)

    pub hand_back_keeps : (name : JobId) (reason : Reason) (back : Order J) → IsHandBack meaning old name reason back new → KeepsOwed
    hand_back_keeps name reason back did =
        quiet_keeps seat did.took (writes.Returned name reason ∷ writes.Pick did.queue did.runtime ∷ []) (refl, (refl, tt)) (ap (λ journal. journal.notes) did.journal)

    pub picks_keep : (picked : Result (Turn J) PickError) → Picks meaning old picked new → KeepsOwed
    picks_keep (Ok (turn.Start name queue job)) did = pick_keeps name queue false job did
    picks_keep (Ok (turn.Resume name queue job)) did = pick_keeps name queue true job did
    picks_keep (Ok (turn.Back name back reason)) did = hand_back_keeps name reason back did
    picks_keep (Ok turn.Idle) did = same_keeps did.1
    picks_keep (Err picking.Busy) did = same_keeps did.1
    picks_keep (Err picking.Spent) did = same_keeps did.2

    further_keeps : (name : JobId) (queue : ℕ) (was_started : Bool) (job : J) → IsFurther old name queue was_started job new → KeepsOwed
    further_keeps name queue was_started job did =
        quiet_keeps seat did.took (poll_note name was_started ∷ []) (begin_settles_nothing T name was_started) (ap (λ journal. journal.notes) did.journal)

    pub follows_keep : (followed : Option (Turn J)) → Follows old followed new → KeepsOwed
    follows_keep (Some (turn.Start name queue job)) did = further_keeps name queue false job did
    follows_keep (Some (turn.Resume name queue job)) did = further_keeps name queue true job did
    follows_keep (Some (turn.Back name back reason)) did = absurd did
    follows_keep (Some turn.Idle) did = absurd did
    follows_keep None did = same_keeps did.1

    pub ends_keep : (time : ℕ) → EndsTurn old time new → KeepsOwed
    ends_keep time did = quiet_keeps seat did.took (writes.Turned did.queue time ∷ []) (refl, tt) (ap (λ journal. journal.notes) did.journal)

  -- what the desk does while no job is polled
  module _ (rest : new ≡ record old { journal = new.journal; lanes = new.lanes }) where
    desk_keeps : (notes : List (Note T)) → SettleNothing notes → (desk_of new).journal.notes ≡ notes ++ (desk_of old).journal.notes → KeepsOwed
    desk_keeps notes none noted = noted_keeps (ap terms_at rest) (λ name what at. ap (λ (view : RecordedView J T). order_taken view.took name) rest ∙ at) notes none noted

    same_desk_keeps : desk_of new ≡ desk_of old → KeepsOwed
    same_desk_keeps same = desk_keeps [] tt (ap (λ (desk : DeskView J T). desk.journal.notes) same)

    pub collects_keep : (core count : ℕ) → CollectsFrom core (desk_of old) count (desk_of new) → KeepsOwed
    collects_keep core count did = desk_keeps did.0 (collections_settle_nothing core did.0 did.1) (ap (λ journal. journal.notes) did.3)

    pub submits_keep : (to : ℕ) (what : Order J) (answer : Result JobId (SendError J)) → Submits to what (desk_of old) answer (desk_of new) → KeepsOwed
    submits_keep to what (Ok name) did = desk_keeps (writes.Sent name _ ∷ []) (refl, tt) (ap (λ journal. journal.notes) did.2)
    submits_keep to what (Err (refused.Closed back final)) did = same_desk_keeps did.2
    submits_keep to what (Err (refused.Full back)) did = same_desk_keeps did.2
    submits_keep to what (Err (refused.Spent back)) did = same_desk_keeps did.3
    submits_keep to what (Err (refused.NoCore back)) did = absurd did

    pub redeems_keep : (name : JobId) (answer : Result (Outcome J T) TicketError) → RedeemsTicket name (desk_of old) answer (desk_of new) → KeepsOwed
    redeems_keep name (Ok outcome) did = desk_keeps (writes.Redeemed name _ ∷ []) (refl, tt) (ap (λ journal. journal.notes) did.2)
    redeems_keep name (Err error) did = same_desk_keeps did.1

    pub detaches_keep : (name : JobId) (answer : Result (Unit {0}) TicketError) → DetachesTicket name (desk_of old) answer (desk_of new) → KeepsOwed
    detaches_keep name (Ok done) did = desk_keeps (writes.Detached name ∷ []) (refl, tt) (ap (λ journal. journal.notes) did.1)
    detaches_keep name (Err ticket.Unknown) did = same_desk_keeps did.1
    detaches_keep name (Err ticket.Gone) did = same_desk_keeps did.1
    detaches_keep name (Err ticket.Pending) did = absurd did

-- each poll stays owed where no less is known of the links
pub sees_more_owed : {J T : Type 0} (meaning : Meaning J T) (seen now : Seen J) → SeesNoLess seen now → (view : RecordedView J T) → HasOwedPolls meaning seen view → HasOwedPolls meaning now view
sees_more_owed meaning seen now more view owed =
    owed_stays (terms_at view) seen now more meaning (order_taken view.took) (order_taken view.took) (λ name what at. at) view.journal.notes owed
