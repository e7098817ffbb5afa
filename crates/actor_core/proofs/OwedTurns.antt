-- A whole turn, and a further poll in place, settles a poll that is owed: its calls wrote what stands before the note of the settling, and the ends answered as the notes say.
use Rattle.actor_core.proofs.Names.{◌≡◌, ℕ, ◌+◌, ◌<◌, Bool, true, false, List, [], ◌∷◌, ◌++◌, length, Option, Some, None, Result, Ok, Err, refl, sym, ◌∙◌, ap, subst, arith, inl, inr, JobId, Order, Outcome, Journal, terms_of_desk, terms_at, Meaning}
use Rattle.actor_core.proofs.Names.{Step, Call, Makes, slice_get, slice_get_within, Outward, PostView, Does, DeskView, SendError, TicketError, Fits, RecordedView, IsPostingTurn, post_of, Settled, JobOut, same_Some, unwrap_or, IfSome, settle_note}
use Rattle.actor_core.proofs.Names.{poll_note, is_wake_kept, settled_of, stays_in_line, polls_made, RedeemsTicket, DetachesTicket, order_taken, Job}
use Rattle.std.proofs.Common.{append_assoc, set, get_or-set_same}
use Rattle.std.proofs.lemmas.List.{length-set}
use Rattle.std.proofs.lemmas.Option.{slice_get-get_or}
use Rattle.base_words.specs.declared.order.SendError.TheVariants as refused
use Rattle.base_words.specs.declared.names.TicketError.TheVariants as ticket
use Rattle.base_jobs.specs.declared.job.Step.TheVariants as steps
use Rattle.base_jobs.specs.Calls.Call.{Submit, Redeem, Detach}
use Rattle.actor_desk.proofs.Posting.{posted_did, posted_made}
use Rattle.actor_desk.specs.Calls.{LendsEnd, SubmitsOn}
use Rattle.actor_core.specs.Whole.{Begins}
use Rattle.actor_core.proofs.Beginnings.{IsBeginning}
use Rattle.actor_core.proofs.OwedNotes.{SettleNothing, polls_made-longer, posted_settle_nothing, owed_longer, owed_stays, right_stays}
use Rattle.actor_core.specs.RightAnswers.{call_notes, posted_notes, IsRightAnswer, AreRightAnswers}
use Rattle.actor_core.specs.OwedPolls.{seen_by, IsPollOf, IsOwedPoll, PollIsOwed, PollsAreOwed, HasOwedPolls}
pub use Rattle.actor_core.proofs.SeenEnds.{at_front, at_end, seen_got}
use Rattle.actor_core.proofs.SeenEnds.{seen_posted}

same_notes : {J T : Type 0} (old new : DeskView J T) → new ≡ old → new.journal.notes ≡ old.journal.notes
same_notes old new same = ap (λ (desk : DeskView _ _). desk.journal.notes) same

module _ {J T E : Type 0} (fits : Order J → Outcome J T → Type 0) (out : E → Outward J T) (credited : E → ℕ) (untouched : E → List ℕ) where
  -- an end that was lent stands in its place
  lent_there : (core : ℕ) (old new : PostView J T E) (lent : LendsEnd fits out credited untouched core old new) → slice_get new.ends core ≡ Some lent.later
  lent_there core old new lent =
      let within : core < length (set old.ends core lent.later) = omega (arith, length-set old.ends core lent.later, slice_get_within old.ends core lent.end lent.is) in
      ap (λ ends. slice_get ends core) lent.ends
      ∙ (slice_get-get_or (set old.ends core lent.later) core lent.later within
      ∙ ap Some (get_or-set_same old.ends core lent.later lent.later (slice_get_within old.ends core lent.end lent.is)))

  -- a submission writes its note, and is answered as the notes say
  module _ (old new : PostView J T E) where
    abbrev HasCalled : Call J T → Type 0
    HasCalled call = (new.desk.journal.notes ≡ call_notes call ++ old.desk.journal.notes) × IsRightAnswer (terms_of_desk old.desk) (seen_by out new.ends) call old.desk.journal.notes

    submitted : (to : ℕ) (order : Order J) (answer : Result JobId (SendError J)) → SubmitsOn fits out credited untouched to order answer old new → HasCalled (Submit to order answer)
    submitted to order (Ok name) did = (
      ap (λ journal. journal.notes) did.submits.2,
      (did.submits.0, did.submits.1, (did.lent.later, ap (slice_get new.ends) did.submits.1 ∙ lent_there to old new did.lent, (length (out did.lent.end).sent, its_number, is_sent))),
    )
      where
        its_number : name.number ≡ (out did.lent.later).base + length (out did.lent.end).sent + 1
        its_number = did.sends.2 ∙ sym (ap (λ (end : Outward J T). end.base + length (out did.lent.end).sent + 1) did.sends.4)

        is_sent : slice_get (out did.lent.later).sent (length (out did.lent.end).sent) ≡ Some order
        is_sent = ap (λ (end : Outward J T). slice_get end.sent (length (out did.lent.end).sent)) did.sends.4 ∙ at_end (out did.lent.end).sent order
    submitted to order (Err (refused.Closed back final)) did = (
      same_notes old.desk new.desk did.submits.2,
      (
        did.submits.0,
        (
          did.lent.later,
          lent_there to old new did.lent,
          ap (λ (end : Outward J T). end.closed) did.sends.2,
          did.sends.1 ∙ sym (ap (λ (end : Outward J T). end.base + length end.sent) did.sends.2),
        ),
        did.submits.1,
      ),
    )
    submitted to order (Err (refused.Full back)) did = (same_notes old.desk new.desk did.submits.2, (did.submits.0, did.submits.1))
    submitted to order (Err (refused.Spent back)) did = (same_notes old.desk new.desk did.submits.3, (did.submits.0, did.submits.2))
    submitted to order (Err (refused.NoCore back)) did = absurd did.submits

    redeemed : (name : JobId) (answer : Result (Outcome J T) TicketError) → RedeemsTicket name old.desk answer new.desk → HasCalled (Redeem name answer)
    redeemed name (Ok outcome) did = (ap (λ journal. journal.notes) did.2, did.0)
    redeemed name (Err error) did = (same_notes old.desk new.desk did.1, did.0)

    detached : (name : JobId) (answer : Result (Unit {0}) TicketError) → DetachesTicket name old.desk answer new.desk → HasCalled (Detach name answer)
    detached name (Ok done) did = (ap (λ journal. journal.notes) did.1, did.0)
    detached name (Err ticket.Unknown) did = (same_notes old.desk new.desk did.1, did.0)
    detached name (Err ticket.Gone) did = (same_notes old.desk new.desk did.1, did.0)
    detached name (Err ticket.Pending) did = absurd did

    called : (call : Call J T) → Does fits out credited untouched old call new → HasCalled call
    called (Submit to order answer) (inl refusal) = subst (λ answer. HasCalled (Submit to order answer)) (sym refusal.1) (ap (λ (post : PostView J T E). post.desk.journal.notes) refusal.2, (refl, refusal.0))
    called (Submit to order answer) (inr did) = submitted to order answer did
    called (Redeem name answer) (inl refusal) = subst (λ answer. HasCalled (Redeem name answer)) (sym refusal.1) (ap (λ (post : PostView J T E). post.desk.journal.notes) refusal.3, refusal.2)
    called (Redeem name answer) (inr did) = redeemed name answer did.redeems
    called (Detach name answer) (inl refusal) = subst (λ answer. HasCalled (Detach name answer)) (sym refusal.1) (ap (λ (post : PostView J T E). post.desk.journal.notes) refusal.3, refusal.2)
    called (Detach name answer) (inr did) = detached name answer did.detaches

  -- so do calls one after another
  pub made_rightly : (calls : List (Call J T)) (old new : PostView J T E) → Makes (Does fits out credited untouched) calls old new →
      (new.desk.journal.notes ≡ posted_notes calls ++ old.desk.journal.notes) × AreRightAnswers (terms_of_desk old.desk) (seen_by out new.ends) calls old.desk.journal.notes
  made_rightly [] old new made = (ap (λ (post : PostView J T E). post.desk.journal.notes) made, tt)
  made_rightly (call ∷ calls) old new made =
      let middle : PostView J T E = made.0 in
      let first : HasCalled old middle call = called old middle call made.1 in
      let rest = made_rightly calls middle new made.2 in
      let same : terms_of_desk middle.desk ≡ terms_of_desk old.desk = ap terms_of_desk (posted_did fits out credited untouched old middle call made.1).desk in
      let after = posted_made fits out credited untouched calls middle new made.2 in (
        rest.0 ∙ (ap (λ notes. posted_notes calls ++ notes) first.0 ∙ sym (append_assoc (posted_notes calls) (call_notes call) old.desk.journal.notes)),
        (
          right_stays (terms_of_desk old.desk) (seen_by out middle.ends) (seen_by out new.ends) (seen_posted middle new after) call old.desk.journal.notes first.1,
          subst (λ terms. AreRightAnswers terms (seen_by out new.ends) calls (call_notes call ++ old.desk.journal.notes)) same
              (subst (λ notes. AreRightAnswers (terms_of_desk middle.desk) (seen_by out new.ends) calls notes) first.0 rest.1),
        ),
      )

-- the time that counts is the one that was told, if one was
pub counts_told : (told : Option ℕ) (spent : ℕ) → IfSome told (λ stated. stated ≡ unwrap_or told spent)
counts_told None spent = tt
counts_told (Some time) spent = refl

module _ {J T E : Type 0} {meaning : Meaning J T} {out : E → Outward J T} {credited : E → ℕ} {untouched : E → List ℕ} {tells : ℕ → Type 0} {begins : Begins J T}
    (old : RecordedView J T) (ends : List E) (name : JobId) (queue : ℕ) (started : Bool) (settled : Settled T) (new : RecordedView J T) (later : List E)
    (turn : IsPostingTurn meaning begins (Does (Fits meaning) out credited untouched) out untouched tells old ends name queue started settled new later)
    (begun : IsBeginning old name queue started turn.ran.before turn.picked) where
  abbrev earlier : Journal T
  earlier = begun.before ++ old.journal.notes

  abbrev at_poll : Journal T
  at_poll = poll_note name started ∷ earlier

  its_out : turn.settles.out ≡ record { name = name; queue = queue; woken = is_wake_kept name old.journal.notes; job = turn.ran.before }
  its_out = same_Some _ _ (sym turn.settles.was_out ∙ (ap (λ (view : RecordedView J T). view.core.out) turn.rest ∙ begun.out))

  same_terms : terms_at turn.picked ≡ terms_at old
  same_terms = λ i. record { actor = turn.stays.seat.number i; cores = turn.stays.seat.cores i; cap = turn.stays.seat.cap i; burst = turn.stays.seat.burst i }

  left_terms : terms_at new ≡ terms_at old
  left_terms =
      (λ i. record { actor = turn.stays_settled.seat.number i; cores = turn.stays_settled.seat.cores i; cap = turn.stays_settled.seat.cap i; burst = turn.stays_settled.seat.burst i })
      ∙ (ap terms_at turn.rest ∙ same_terms)

  picked_notes : turn.picked.journal.notes ≡ at_poll
  picked_notes = begun.notes

  made : (turn.left.journal.notes ≡ posted_notes turn.owed.calls ++ turn.picked.journal.notes) × AreRightAnswers (terms_at turn.picked) (seen_by out later) turn.owed.calls turn.picked.journal.notes
  made = made_rightly (Fits meaning) out credited untouched turn.owed.calls (post_of turn.picked ends) (post_of turn.left later) turn.owed.makes

  stands : turn.left.journal.notes ≡ posted_notes turn.owed.calls ++ at_poll
  stands = made.0 ∙ ap (λ notes. posted_notes turn.owed.calls ++ notes) picked_notes

  begins_nothing : (started : Bool) → SettleNothing {T = T} (poll_note name started ∷ [])
  begins_nothing false = (refl, tt)
  begins_nothing true = (refl, tt)

  counted : polls_made turn.settles.out.name turn.left.journal.notes ≡ polls_made name earlier
  counted =
      (λ i. polls_made (its_out i).name (stands i))
      ∙ (polls_made-longer name (posted_notes turn.owed.calls) at_poll (posted_settle_nothing turn.owed.calls)
      ∙ polls_made-longer name (poll_note name started ∷ []) earlier (begins_nothing started))

  -- its poll is one that its job owes
  pub its_poll : IsPollOf meaning (terms_at old) (seen_by out later) queue turn.settles.sent name (unwrap_or turn.ran.told turn.spent) turn.ran.step turn.left.journal.notes
  its_poll = record {
    calls = turn.owed.calls;
    told = turn.ran.told;
    was_started = started;
    earlier = earlier;
    due = begun.due;
    stands = stands;
    right = subst (λ terms. AreRightAnswers terms (seen_by out later) turn.owed.calls at_poll) same_terms
        (subst (λ notes. AreRightAnswers (terms_at turn.picked) (seen_by out later) turn.owed.calls notes) picked_notes made.1);
    owed = subst (λ count. meaning.polls turn.settles.sent (meaning.made turn.settles.sent + count) turn.owed.calls turn.ran.step turn.ran.told) counted
        (turn.settles.owed turn.owed.calls turn.owed.owed);
    answered = turn.settles.answered;
    timed = counts_told turn.ran.told turn.spent;
  }

  owed_poll : IsOwedPoll meaning (terms_at old) (seen_by out later) (order_taken old.took) name (unwrap_or turn.ran.told turn.spent) turn.ran.step turn.left.journal.notes
  owed_poll = record {
    queue = queue;
    sent = turn.settles.sent;
    task = subst (λ (job : JobOut J). order_taken old.took job.name ≡ Some (Job job.queue turn.settles.sent)) its_out
        (subst (λ took. order_taken took turn.settles.out.name ≡ Some (Job turn.settles.out.queue turn.settles.sent)) left_took turn.settles.task);
    poll = its_poll;
  }
    where
      left_took : turn.left.took ≡ old.took
      left_took = ap (λ (view : RecordedView J T). view.took) turn.rest ∙ begun.took

  settling : (step : Step T) (stays : Bool) → IsOwedPoll meaning (terms_at old) (seen_by out later) (order_taken old.took) name (unwrap_or turn.ran.told turn.spent) step turn.left.journal.notes →
      PollIsOwed meaning (terms_at old) (seen_by out later) (order_taken old.took) (settle_note name (unwrap_or turn.ran.told turn.spent) (settled_of step stays)) turn.left.journal.notes
  settling (steps.Done value) stays owed = owed
  settling steps.Yield stays owed = owed
  settling steps.Park true owed = owed
  settling steps.Park false owed = owed

  abbrev its_settled : Settled T
  its_settled = settled_of turn.ran.step (stays_in_line turn.settles.out.name turn.left.journal.notes)

  abbrev Owed : Journal T → Type 0
  Owed notes = PollsAreOwed meaning (terms_at old) (seen_by out later) (order_taken old.took) notes

  settled_notes : new.journal.notes ≡ settle_note name (unwrap_or turn.ran.told turn.spent) its_settled ∷ turn.left.journal.notes
  settled_notes =
      ap (λ journal. journal.notes) turn.settles.journal
      ∙ (ap (λ came. settle_note turn.settles.out.name (unwrap_or turn.ran.told turn.spent) came ∷ turn.left.journal.notes) turn.settles.tells
      ∙ ap (λ (job : JobOut J). settle_note job.name (unwrap_or turn.ran.told turn.spent) its_settled ∷ turn.left.journal.notes) its_out)

  owed_before : HasOwedPolls meaning (seen_by out ends) old → Owed (posted_notes turn.owed.calls ++ at_poll)
  owed_before owed =
      owed_longer meaning (terms_at old) (seen_by out later) (order_taken old.took) (posted_notes turn.owed.calls) at_poll (posted_settle_nothing turn.owed.calls)
      (owed_longer meaning (terms_at old) (seen_by out later) (order_taken old.took) (poll_note name started ∷ []) earlier (begins_nothing started)
      (owed_longer meaning (terms_at old) (seen_by out later) (order_taken old.took) begun.before old.journal.notes begun.quiet
      (owed_stays (terms_at old) (seen_by out ends) (seen_by out later) (seen_posted (post_of turn.picked ends) (post_of turn.left later) turn.posted) meaning
      (order_taken old.took) (order_taken old.took) (λ which order at. at) old.journal.notes owed)))

  -- it leaves each poll owed
  pub turn_keeps : HasOwedPolls meaning (seen_by out ends) old → HasOwedPolls meaning (seen_by out later) new
  turn_keeps owed =
      subst (λ terms. PollsAreOwed meaning terms (seen_by out later) (order_taken new.took) new.journal.notes) (sym left_terms)
      (subst (λ took. PollsAreOwed meaning (terms_at old) (seen_by out later) (order_taken took) new.journal.notes) (sym took_is)
      (subst Owed (sym settled_notes) (settling turn.ran.step (stays_in_line turn.settles.out.name turn.left.journal.notes) owed_poll, subst Owed (sym stands) (owed_before owed))))
    where
      took_is : new.took ≡ old.took
      took_is = turn.settles.took ∙ (ap (λ (view : RecordedView J T). view.took) turn.rest ∙ begun.took)
