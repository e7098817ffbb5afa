-- A turn asks the gate for each poll that it notes, in their order.
use Rattle.run_worker.proofs.Names.{ap, AsksFor, AsksSince, Bool, false, GoesThrough, JobId, List, MakesTurn, Meaning, polls_of, PollsOn, refl, subst, sym, true, Turned, TurnView, writes_first, writes_further, ℕ, [], ◌++◌, ◌∙◌, ◌∷◌, ◌≡◌}
use Rattle.actor_core.specs.declared.whole.Turned.TheVariants as came
use Rattle.run_worker.proofs.Asking.{asks_along, asks_none}
use Rattle.run_worker.proofs.PollNotes.{poll_told}
use Rattle.run_worker.proofs.TurnNotes.{ended_notes, notes_at}

module _ {J T M G : Type 0} (meaning : Meaning J T) (tells : M → ℕ → M → Type 0) (asked : G → ℕ → JobId → G → Type 0) where
  abbrev core_at : TurnView J T M G → ℕ
  core_at view = view.linked.recorded.core.core

  -- further polls are of the same core
  on_core : (polls : List JobId) (old new : TurnView J T M G) → PollsOn meaning tells asked polls old new → core_at new ≡ core_at old
  on_core [] old new did = ap core_at did
  on_core (name ∷ before) old new did = did.2.polls.seat.number ∙ on_core before old did.0 did.1

  on_told : (polls : List JobId) (old new : TurnView J T M G) → PollsOn meaning tells asked polls old new → polls_of (notes_at new) ≡ polls ++ polls_of (notes_at old)
  on_told [] old new did = ap (λ view. polls_of (notes_at view)) did
  on_told (name ∷ before) old new did =
      poll_told name (notes_at did.0) (notes_at new) (writes_further name did.0.linked new.linked did.2.polls) ∙ ap (λ polls. name ∷ polls) (on_told before old did.0 did.1)

  on_asked : (polls : List JobId) (old new : TurnView J T M G) → PollsOn meaning tells asked polls old new → AsksFor asked (core_at old) polls old.gate new.gate
  on_asked [] old new did = ap (λ view. view.gate) did
  on_asked (name ∷ before) old new did =
      (did.0.gate, on_asked before old did.0 did.1, subst (λ core. asked did.0.gate core name new.gate) (on_core before old did.0 did.1) did.2.gate)

  -- the gate is asked for each further poll, and not for the end
  through_asks : (form : Bool) (old new : TurnView J T M G) → GoesThrough meaning tells asked form old new → AsksSince asked (core_at old) (notes_at old) (notes_at new) old.gate new.gate
  through_asks false old new did = asks_none asked (core_at old) (notes_at old) (notes_at new) old.gate new.gate (ap (λ view. polls_of (notes_at view)) did) (ap (λ view. view.gate) did)
  through_asks true old new did = record {
    polls = did.0;
    told = ap polls_of (ended_notes did.1 new did.3) ∙ on_told did.0 old did.1 did.2;
    asks = subst (AsksFor asked (core_at old) did.0 old.gate) (sym (ap (λ view. view.gate) did.3.rest)) (on_asked did.0 old did.1 did.2);
  }

  module _ (old new : TurnView J T M G) where
    polled_asks : MakesTurn meaning tells asked old came.Polled new → AsksSince asked (core_at old) (notes_at old) (notes_at new) old.gate new.gate
    polled_asks did =
        asks_along asked (core_at old) (notes_at old) (notes_at did.1) (notes_at new) old.gate did.1.gate new.gate
        (record { polls = did.0 ∷ []; told = poll_told did.0 (notes_at old) (notes_at did.1) (writes_first did.0 old.linked did.1.linked did.2.polls); asks = (old.gate, refl, did.2.gate) })
        (subst (λ core. AsksSince asked core (notes_at did.1) (notes_at new) did.1.gate new.gate) did.2.polls.seat.number (through_asks _ did.1 new did.3))

    -- a turn asks the gate for each poll that it notes
    pub turn_asks : (made : Turned) → MakesTurn meaning tells asked old made new → AsksSince asked (core_at old) (notes_at old) (notes_at new) old.gate new.gate
    turn_asks came.Polled did = polled_asks did
    turn_asks came.Returned did = record { polls = []; told = ap (λ journal. polls_of journal.notes) did.0.did.journal; asks = did.1.0 }
    turn_asks came.Idle did = record { polls = []; told = ap (λ view. polls_of view.journal.notes) did.1; asks = did.2.0 }
    turn_asks came.Spent did = record { polls = []; told = ap (λ view. polls_of view.journal.notes) did.2; asks = did.3.0 }
