-- Turns of the only core of a small house that are refused: told as idle or as spent where a queue has work, and polls whose outcome is given on another end, or on none.
use Rattle.std.proofs.Common.{◌≡◌, ℕ, ◌<◌, true, false, List, [], ◌∷◌, length, ◌∙◌, ap, subst, arith}
use Rattle.std.specs.Prelude.{None, Some, slice_index_or, slice_set}
use Rattle.base_words.specs.declared.names.JobId.{JobId}
use Rattle.base_words.specs.declared.note.Note.TheVariants.{Done, Pick, Start, Took}
use Rattle.base_words.specs.declared.order.Outcome.{Outcome}
use Rattle.base_words.specs.declared.order.Outcome.TheVariants as outcome
use Rattle.base_words.specs.Journal.{Journal}
use Rattle.base_jobs.specs.Meanings.{Meaning}
use Rattle.core_core.specs.declared.turn.Settled.{Settled}
use Rattle.core_core.specs.declared.turn.Settled.TheVariants.{Finished, Parked, Stayed, Yielded}
use Rattle.link_ends.specs.declared.ends.Inward.{Inward}
use Rattle.link_ends.specs.declared.ends.Outward.{Outward}
use Rattle.link_ends.specs.Around.{Reach}
use Rattle.actor_core.specs.Owed.{outcome_settled}
use Rattle.actor_core.specs.Polls.{settle_note}
use Rattle.actor_core.specs.Recorded.{RecordedView}
use Rattle.actor_core.specs.Steps.{opened_beside}
use Rattle.actor_core.specs.Whole.{Begins}
use Rattle.actor_core.specs.TurnPolls.{GivesOn, PollsOne}
use Rattle.actor_core.specs.WholeTurns.{MakesTurn, TurnView, turn_view}
use Rattle.actor_core.specs.declared.whole.Turned.TheVariants as came

-- a job that the core sent to itself
abbrev job : JobId
job = record { from = 0; to = 0; number = 1 }

-- the job was delivered, and its first poll began
abbrev waiting : Journal ℕ
waiting = Took job 0 ∷ []

abbrev begun : Journal ℕ
begun = Start job ∷ Pick 0 0 ∷ waiting

-- the only core of a house, with this journal
abbrev core_of : Journal ℕ → RecordedView ℕ ℕ
core_of notes = record (opened_beside 0 1 1 100 1) { journal = record { notes = notes; passed = []; room = 100 } }

-- the end of a sender, on which these outcomes were given
abbrev end_of : ℕ → List (ℕ × Outcome ℕ ℕ) → Inward ℕ ℕ
end_of sender given = record { from = sender; to = 0; base = 0; capacity = 1; seen = []; taken = 0; given = given; shut = false }

-- a core is lent an end of each sender, and sends on none
abbrev small : Reach ℕ ℕ (List (Inward ℕ ℕ)) (Outward ℕ ℕ) (Inward ℕ ℕ)
small = record {
  sides = record { out = λ out. out; credited = λ out. 0; kept = λ out. []; inward = λ end. end; held = λ end. [] };
  outs = λ own ends. [];
  in_at = λ own sender ends. slice_index_or ends sender (end_of 0 []);
  with_outs = λ own row ends. ends;
  with_in = λ own sender end ends. slice_set ends sender end;
  HasOuts = λ own ends. Unit {0};
  HasIn = λ own sender ends. sender < length ends;
}

-- the ends of the core itself and of the outside actor, with what was given on each
abbrev ends : List (ℕ × Outcome ℕ ℕ) → List (ℕ × Outcome ℕ ℕ) → List (Inward ℕ ℕ)
ends own outside = end_of 0 own ∷ end_of 1 outside ∷ []

abbrev nine : Outcome ℕ ℕ
nine = outcome.Finished 9

-- the number of the outcome that was given first
abbrev first_number : List (ℕ × Outcome ℕ ℕ) → ℕ
first_number given = (slice_index_or given 0 (0, nine)).0

-- what was given on the core's own end
abbrev own_given : List (Inward ℕ ℕ) → List (ℕ × Outcome ℕ ℕ)
own_given ends = (small.in_at 0 0 ends).given

-- an outcome of the core's own job isn't given on its end
not_given : (outcome : Outcome ℕ ℕ) (outside : List (ℕ × Outcome ℕ ℕ)) → GivesOn small 0 0 1 (Some outcome) (ends [] []) (ends [] outside) → ⊥
not_given outcome outside did =
    let none : 0 ≡ 1 = ap (λ ends. length (own_given ends)) did.rest ∙ ap (λ (end : Inward ℕ ℕ). length end.given) did.gave.gives in omega (arith, none)

-- it is given to the outside actor
given_elsewhere : GivesOn small 0 0 1 (Some nine) (ends [] []) (ends [] ((1, nine) ∷ [])) → ⊥
given_elsewhere = not_given nine ((1, nine) ∷ [])

-- it is given under another number
given_otherwise : GivesOn small 0 0 1 (Some nine) (ends [] []) (ends ((2, nine) ∷ []) []) → ⊥
given_otherwise did =
    let other : 2 ≡ 1 = ap (λ ends. first_number (own_given ends)) did.rest ∙ ap (λ (end : Inward ℕ ℕ). first_number end.given) did.gave.gives in omega (arith, other)

-- it is given, and there is none
given_unasked : GivesOn small 0 0 1 None (ends [] []) (ends ((1, nine) ∷ []) []) → ⊥
given_unasked did =
    let none : 1 ≡ 0 = ap (λ ends. length (own_given ends)) did.rest ∙ ap (λ (end : Inward ℕ ℕ). length end.given) did.gave.gives in omega (arith, none)

-- the note of a job that is done settles no other poll
settled_done : (settled : Settled ℕ) (name : JobId) (time : ℕ) (before : Journal ℕ) → Done job 1 9 ∷ begun ≡ settle_note name time settled ∷ before →
    GivesOn small 0 0 1 (outcome_settled settled) (ends [] []) (ends [] []) → ⊥
settled_done Yielded name time before noted gives = cc
settled_done Parked name time before noted gives = cc
settled_done Stayed name time before noted gives = cc
settled_done (Finished answer) name time before noted gives = not_given (outcome.Finished answer) [] gives

module _ (meaning : Meaning ℕ ℕ) where
  -- the job is done by its poll, and its outcome is given to nobody
  keeps_its_outcome : (begins : Begins ℕ ℕ) (tells : ℕ → Type 0) (notes polls : ℕ) (old : RecordedView ℕ ℕ) →
      PollsOne meaning small 0 begins tells notes polls job old (core_of (Done job 1 9 ∷ begun)) (ends [] []) (ends [] []) → ⊥
  keeps_its_outcome begins tells notes polls old did =
      let settles = did.posts.noted.turns.settles in
      settled_done did.settled settles.out.name _ did.posts.noted.turns.left.journal.notes (ap (λ journal. journal.notes) settles.journal)
      (subst (λ between. GivesOn small 0 0 1 (outcome_settled did.settled) between (ends [] [])) did.posts.rest did.gives)

  module _ (tells : ℕ → ℕ → ℕ → Type 0) (asked : ℕ → ℕ → JobId → ℕ → Type 0) where
    -- a core with this journal, among ends on which nothing was given, and what its gate is
    abbrev view : Journal ℕ → ℕ → TurnView ℕ ℕ (List (Inward ℕ ℕ)) ℕ ℕ
    view notes gate = turn_view (core_of notes) (ends [] []) 0 gate

    -- a queue has work, and the turn is told as idle
    idle_with_work : MakesTurn meaning small 0 tells asked (view waiting 0) came.Idle (view waiting 0) → ⊥
    idle_with_work did = let none : true ≡ false = did.0 0 in cc

    -- turns are left, and the turn is told as spent
    spent_too_early : MakesTurn meaning small 0 tells asked (view waiting 0) came.Spent (view waiting 0) → ⊥
    spent_too_early did = omega (arith, did.0)

    -- a turn that is told as idle took an order
    idle_and_noted : MakesTurn meaning small 0 tells asked (view [] 0) came.Idle (view waiting 0) → ⊥
    idle_and_noted did = let none : waiting ≡ [] = ap (λ (view : TurnView ℕ ℕ (List (Inward ℕ ℕ)) ℕ ℕ). view.core.journal.notes) did.1 in cc

    -- a job is handed back, and the gate was asked
    back_and_asked : (new : Journal ℕ) → MakesTurn meaning small 0 tells asked (view waiting 0) came.Returned (view new 1) → ⊥
    back_and_asked new did = omega (arith, did.1.0)
