-- A wake that a core sends itself and lets go of: the ticket that it was given is never refused.
use Rattle.actor_seat.proofs.Names.{ap, desk_of, DetachesOn, DetachesTicket, DeskView, EndsView, Err, in_at, IsSeated, JobId, JournalView, LinkedView, Meaning, Ok, Order, RecordedView, Result, SendError, Submits}
use Rattle.actor_seat.proofs.Names.{SubmitsOn, subst, sym, terms_at, TicketError, UsesOut, WakesOwn, ℕ, ◌∙◌, ◌∷◌, ◌≡◌}
use Rattle.std.specs.Prelude.{true, false}
use Rattle.base_words.specs.Collecting.{IsDetachable}
use Rattle.base_words.specs.Journal.{EachNote}
use Rattle.base_words.specs.Lawful.{MayStand}
use Rattle.base_words.specs.declared.names.TicketError.TheVariants.{Unknown, Gone, Pending}
use Rattle.base_words.specs.declared.note.Note.TheVariants.{Sent, Detached}
use Rattle.base_words.specs.declared.order.Order.TheVariants.{Wake}
use Rattle.base_words.specs.declared.order.SendError.TheVariants.{Closed, Full, Spent, NoCore}
use Rattle.actor_seat.proofs.Unsent.{sent_waits}

module _ {J T : Type 0} where
  -- a submission that waits is detached
  detaches_waiting : (name : JobId) (old : DeskView J T) (answer : Result (Unit {0}) TicketError) (new : DeskView J T) → DetachesTicket name old answer new → IsDetachable name old.journal.notes →
      new.journal ≡ record old.journal { notes = Detached name ∷ old.journal.notes }
  detaches_waiting name old (Ok done) new detaches waits = detaches.1
  detaches_waiting name old (Err Unknown) new detaches waits = let none = detaches.0 in let some = waits.accepted in absurd cc
  detaches_waiting name old (Err Gone) new detaches waits = let gone = detaches.0.1 in let kept = waits.kept in absurd cc
  detaches_waiting name old (Err Pending) new detaches waits = absurd detaches

  -- a refused order leaves the desk
  refused_leaves : (to : ℕ) (order : Order J) (old : DeskView J T) (error : SendError J) (new : DeskView J T) → Submits to order old (Err error) new → new ≡ old
  refused_leaves to order old (Closed back final) new submits = submits.2
  refused_leaves to order old (Full back) new submits = submits.2
  refused_leaves to order old (Spent back) new submits = submits.3
  refused_leaves to order old (NoCore back) new submits = absurd submits

  -- one end is used twice
  uses_again : (core other : ℕ) (old middle new : EndsView J T) → other ≡ core → UsesOut core old middle → UsesOut other middle new → UsesOut core old new
  uses_again core other old middle new same one two = record {
    others = λ its away. two.others its (λ at. away (at ∙ same)) ∙ one.others its away;
    rest = two.rest ∙ ap (λ (ends : EndsView J T). record ends { outs = new.outs }) one.rest;
  }

module _ {J T : Type 0} (job : JobId) (old new : LinkedView J T) where
  -- a core whose link refuses its wake
  pub wake_refused : (error : SendError J) → SubmitsOn old.recorded.core.core (Wake job.from job.number) old (Err error) new → WakesOwn job old false new
  wake_refused error refused = record {
    tells = record {
      error = error;
      refuses = refused.sends;
      rest =
          refused.rest
          ∙ ap (λ (desk : DeskView J T). record old.recorded { journal = desk.journal; lanes = desk.lanes })
          (refused_leaves old.recorded.core.core (Wake job.from job.number) (desk_of old.recorded) error (desk_of new.recorded) refused.submits);
    };
    uses = refused.uses;
    ins = λ sender. ap (λ (ends : EndsView J T). in_at sender ends) refused.uses.rest;
  }

  -- a core whose link takes it
  module _ (meaning : Meaning J T) (middle : LinkedView J T) (name : JobId) (answer : Result (Unit {0}) TicketError) (sent : SubmitsOn old.recorded.core.core (Wake job.from job.number) old (Ok name) middle)
      (let_go : DetachesOn name middle answer new) (seated : IsSeated meaning middle) where
    sent_journal : middle.recorded.journal ≡ record old.recorded.journal { notes = Sent name (Wake job.from job.number) ∷ old.recorded.journal.notes }
    sent_journal = sent.submits.2

    -- the newest note of a lawful journal is that of the submission
    waits : IsDetachable name middle.recorded.journal.notes
    waits =
        let lawful = subst (EachNote (MayStand (terms_at middle.recorded))) (ap (λ (journal : JournalView T). journal.notes) sent_journal) seated.recorded.kept.notes in
        subst (IsDetachable name) (sym (ap (λ (journal : JournalView T). journal.notes) sent_journal)) (sent_waits (terms_at middle.recorded) name (Wake job.from job.number) old.recorded.journal.notes lawful.1 lawful.0.may_follow)

    journal_now : new.recorded.journal ≡ record old.recorded.journal { notes = Detached name ∷ Sent name (Wake job.from job.number) ∷ old.recorded.journal.notes }
    journal_now = detaches_waiting name (desk_of middle.recorded) answer (desk_of new.recorded) let_go.detaches waits ∙ ap (λ (journal : JournalView T). record journal { notes = Detached name ∷ journal.notes }) sent_journal

    notes_now : new.recorded.journal.notes ≡ Detached name ∷ Sent name (Wake job.from job.number) ∷ old.recorded.journal.notes
    notes_now = ap (λ (journal : JournalView T). journal.notes) journal_now

    pub wake_sent : WakesOwn job old true new
    wake_sent = record {
      tells = record {
        name = name;
        from = sent.submits.0.sender;
        to = sent.submits.1;
        notes = notes_now;
        rest =
            let_go.rest
            ∙ (ap (λ (view : RecordedView J T). record view { journal = new.recorded.journal; lanes = new.recorded.lanes }) sent.rest
            ∙ ap (λ (journal : JournalView T). record old.recorded { journal = journal; lanes = new.recorded.lanes }) (journal_now ∙ ap (λ notes. record old.recorded.journal { notes = notes }) (sym notes_now)));
      };
      uses = uses_again old.recorded.core.core name.to old.ends middle.ends new.ends sent.submits.1 sent.uses let_go.uses;
      ins = λ sender. ap (λ (ends : EndsView J T). in_at sender ends) let_go.uses.rest ∙ ap (λ (ends : EndsView J T). in_at sender ends) sent.uses.rest;
    }
