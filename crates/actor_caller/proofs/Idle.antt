-- Steps that submit nothing, one behind another, and tickets that are pending meanwhile.
use Rattle.std.proofs.Common.{◌≡◌, ℕ, ◌+◌, ◌<◌, List, [], ◌∷◌, ◌++◌, length, take, get_or, add-one, refl, sym, ◌∙◌, ap, subst, append_assoc, Err}
use Rattle.std.proofs.lemmas.List.Elements.{All-nil, All-push}
use Rattle.std.proofs.Math.Seq.{take-suc}
use Rattle.std.specs.Prelude.{All}
use Rattle.base_words.specs.declared.names.JobId.{JobId}
use Rattle.base_words.specs.declared.names.TicketError.TheVariants.{Pending}
use Rattle.base_words.specs.declared.order.Order.{Order}
use Rattle.base_words.specs.declared.order.Outcome.{Outcome}
use Rattle.base_words.specs.declared.note.Note.{Note}
use Rattle.note_journal.specs.Journals.{JournalView}
use Rattle.actor_desk.specs.Submissions.{DeskView}
use Rattle.actor_desk.specs.Tickets.{RefusesTicket}
use Rattle.actor_seat.specs.Linked.{Grows}
use Rattle.actor_caller.specs.State.{RuntimeView, StaysRunning, SubmitsNothing}
use Rattle.actor_caller.specs.Tickets.{RedeemsHere}
use Rattle.actor_caller.specs.Waiting.{AreAllPending}

-- newer notes behind newer ones
grows_then : {T : Type 0} (old between new : List (Note T)) → Grows old between → Grows between new → Grows old new
grows_then old between new first later = (later.0 ++ first.0, later.1 ∙ (ap (λ notes. later.0 ++ notes) first.1 ∙ sym (append_assoc later.0 first.0 old)))

module _ {J T : Type 0} where
  pub nothing_same : (old new : RuntimeView J T) → new ≡ old → SubmitsNothing old new
  nothing_same old new same =
      subst (λ (view : RuntimeView J T). SubmitsNothing old view) (sym same)
      (record {
        orders = λ core. refl;
        gates = λ core. refl;
        closing = refl;
        rung = refl;
        passes = record { journal = refl; refused = refl; asks = refl };
        stays = record { desk = refl; places = refl; grows = ([], refl); workers = refl; room = refl; bells = refl; names = refl; watched = refl; marks = refl; tries = refl };
      })

  pub stays_then : (old between new : RuntimeView J T) → StaysRunning old between → StaysRunning between new → StaysRunning old new
  stays_then old between new first later = record {
    desk = later.desk ∙ ap (λ (desk : DeskView J T). record desk { journal = new.desk.journal; lanes = new.desk.lanes }) first.desk;
    places = later.places ∙ first.places;
    grows = grows_then old.desk.journal.notes between.desk.journal.notes new.desk.journal.notes first.grows later.grows;
    workers = later.workers ∙ first.workers;
    room = later.room ∙ first.room;
    bells = later.bells ∙ first.bells;
    names = later.names ∙ first.names;
    watched = later.watched ∙ first.watched;
    marks = later.marks ∙ first.marks;
    tries = later.tries ∙ first.tries;
  }

  pub nothing_then : (old between new : RuntimeView J T) → SubmitsNothing old between → SubmitsNothing between new → SubmitsNothing old new
  nothing_then old between new first later = record {
    orders = λ core. later.orders core ∙ first.orders core;
    gates = λ core. later.gates core ∙ first.gates core;
    closing = later.closing ∙ first.closing;
    rung = later.rung ∙ first.rung;
    passes = record {
      journal = later.passes.journal ∙ ap (λ (journal : JournalView T). record journal { notes = new.desk.journal.notes }) first.passes.journal;
      refused = later.passes.refused ∙ first.passes.refused;
      asks = later.passes.asks ∙ first.passes.asks;
    };
    stays = stays_then old between new first.stays later.stays;
  }

  -- no ticket was tried
  pub none_pending : (view : RuntimeView J T) → AreAllPending [] view view
  none_pending view = record { each = All-nil (λ one. RefusesTicket one Pending view.desk.journal.notes); desk = refl; nothing = nothing_same view view refl }

  -- one more ticket is pending
  pub one_pending : (fits : Order J → Outcome J T → Type 0) (names : List JobId) (place : ℕ) (name : JobId) (old tried new : RuntimeView J T) → place < length names → get_or names place name ≡ name →
      AreAllPending (take place names) old tried → RedeemsHere fits name tried (Err Pending) new → AreAllPending (take (place + 1) names) old new
  one_pending fits names place name old tried new low here before redeems =
      let same = ap (λ desk. desk.journal.notes) before.desk in
      let pending : RefusesTicket name Pending old.desk.journal.notes = subst (λ notes. RefusesTicket name Pending notes) same redeems.redeems.0 in
      let longer : take (place + 1) names ≡ take place names ++ name ∷ [] = rw add-one (take-suc names place name low ∙ ap (λ one. take place names ++ one ∷ []) here) in
      record {
        each = subst (λ names. All (λ one. RefusesTicket one Pending old.desk.journal.notes) names) (sym longer) (All-push (λ one. RefusesTicket one Pending old.desk.journal.notes) (take place names) name before.each pending);
        desk = redeems.redeems.1 ∙ before.desk;
        nothing = nothing_then old tried new before.nothing redeems.nothing;
      }
