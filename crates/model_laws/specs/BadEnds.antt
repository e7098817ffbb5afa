-- What no end of a link takes, gets and gives, and what no core beside its ends and its journal leaves, each refused by the definition that judges it.
use Rattle.std.specs.Prelude.{ℕ, Bool, false, List, [], ◌∷◌, length, Some, None}
use Rattle.std.proofs.Common.{ap, refl, length-append, sym, arith}
use Rattle.base_words.specs.declared.note.Note.TheVariants.{Yield}
use Rattle.base_words.specs.declared.order.Order.{Order}
use Rattle.base_words.specs.declared.order.Outcome.{Outcome}
use Rattle.base_words.specs.declared.stats.CoreStats.{CoreStats}
use Rattle.base_jobs.specs.Calls.{Doing}
use Rattle.base_jobs.specs.Meanings.{Meaning}
use Rattle.core_core.specs.State.{JobOut}
use Rattle.core_core.specs.declared.turn.Settled.{Settled}
use Rattle.core_core.specs.declared.turn.Settled.TheVariants.{Finished}
use Rattle.link_ends.specs.declared.ends.Inward.{Inward}
use Rattle.link_ends.specs.declared.ends.Outward.{Outward}
use Rattle.link_ends.specs.Around.{Reach}
use Rattle.link_ends.specs.Calls.{Collects, MayGive, Takes}
use Rattle.link_ends.specs.Ends.{AreNamed}
use Rattle.actor_desk.specs.Posts.{PostView}
use Rattle.actor_core.specs.Beside.{IsAtRest, PollsAsOwed}
use Rattle.actor_core.specs.Polls.{poll_note}
use Rattle.actor_core.specs.Recorded.{RecordedView}
use Rattle.actor_core.specs.RightAnswers.{posted_notes}
use Rattle.actor_core.specs.Stats.{TellsCore}
use Rattle.actor_core.specs.Steps.{with_notes}
use Rattle.actor_core.specs.Whole.{Begins, IsPostingTurn, LeavesTurn, MayAnswer}
use Rattle.model_laws.specs.BadCalls.{fresh}
use Rattle.model_laws.specs.BadLanes.{job, none_some, showing}

-- an end that sees one order, and has taken none
abbrev pub seeing : Order ℕ → Inward ℕ ℕ
seeing order = record { from = 1; to = 0; base = 0; capacity = 1; seen = order ∷ []; taken = 0; given = []; shut = false }

-- nothing is found where an order or an outcome is seen
pub seen_order_isnt_found : (order : Order ℕ) → Takes (seeing order) (seeing order) None → ⊥
seen_order_isnt_found order takes = absurd (omega (arith, takes.2))

module _ (outcome : Outcome ℕ ℕ) where
  pub shown_outcome_isnt_found : Collects (showing (1, outcome)) (showing (1, outcome)) None → ⊥
  shown_outcome_isnt_found collects = absurd (omega (arith, collects.2))

  -- an outcome is got, and isn't counted
  pub got_uncounted : Collects (showing (1, outcome)) (showing (1, outcome)) (Some (1, outcome)) → ⊥
  got_uncounted collects = absurd (omega (arith, ap (λ (out : Outward ℕ ℕ). out.got) collects.0))

  -- an outcome is given under a number that wasn't taken, and has a number of which there are none
  pub given_untaken : (fits : Order ℕ → Outcome ℕ ℕ → Type 0) (order : Order ℕ) → MayGive fits (seeing order) 1 outcome → ⊥
  given_untaken fits order may = absurd (omega (arith, may.1))

  pub named_beyond : AreNamed 0 0 ((1, outcome) ∷ []) → ⊥
  named_beyond named = absurd (omega (arith, (named.0 0 (1, outcome) refl).1))

-- a core is told a turn that its journal hasn't, and a poll of a turn is left that isn't there
pub turn_out_of_nothing : (floor held : ℕ) (drained : Bool) → TellsCore {T = ℕ} 1 [] (record { turns = 1; floor = floor; held = held; drained = drained }) → ⊥
turn_out_of_nothing floor held drained tells = absurd (omega (arith, ap (λ (told : CoreStats). told.turns) tells.sums))

pub poll_out_of_nothing : LeavesTurn {T = ℕ} 1 0 1 [] → ⊥
poll_out_of_nothing leaves = absurd (omega (arith, leaves.polls_are))

module _ (meaning : Meaning ℕ ℕ) where
  -- a job answers of which no order was taken
  pub nobody_answers : MayAnswer meaning [] job (Finished 7) → ⊥
  nobody_answers may = none_some may.2

  module _ {A O I : Type 0} (reach : Reach ℕ ℕ A O I) (own : ℕ) (around : A) where
    -- a core rests beside a job that is out
    pub rests_beside_a_job : (out : JobOut ℕ) → IsAtRest meaning reach own (record fresh { core = record fresh.core { out = Some out } }) around → ⊥
    rests_beside_a_job out rests = none_some (sym rests.free)

    -- a poll is settled that nobody began
    pub settled_unbegun : PollsAsOwed meaning reach own (record fresh { journal = with_notes (Yield job 5 ∷ []) fresh.journal }) around → ⊥
    settled_unbegun owed =
        let begun = owed.0.poll in
        absurd (omega (arith, ap length begun.stands, length-append (posted_notes begun.calls) (poll_note job begun.was_started ∷ begun.earlier)))

  -- a poll counts with a time that the meter can't tell
  module _ {E : Type 0} (begins : Begins ℕ ℕ) (does : Doing (PostView ℕ ℕ E) ℕ ℕ) (out : E → Outward ℕ ℕ) (untouched : E → List ℕ) (old new : RecordedView ℕ ℕ) (ends later : List E) where
    pub time_of_no_meter : (settled : Settled ℕ) → IsPostingTurn meaning begins does out untouched (λ spent. ⊥) old ends job 0 false settled new later → ⊥
    time_of_no_meter settled turns = turns.told
