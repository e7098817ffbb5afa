-- What no call on submissions and tickets does, each refused by the definition that judges it.
use Rattle.std.proofs.Common.{ap, length-append, sym, arith}
use Rattle.std.specs.Prelude.{ℕ, [], ◌∷◌, length, Ok}
use Rattle.base_words.specs.Terms.{Terms}
use Rattle.base_words.specs.declared.note.Note.TheVariants.{Pick, Sent}
use Rattle.base_words.specs.declared.order.Order.{Order}
use Rattle.base_words.specs.declared.order.Outcome.{Outcome}
use Rattle.link_ends.specs.declared.ends.Outward.{Outward}
use Rattle.note_journal.specs.Journals.{JournalView}
use Rattle.model_laws.specs.BadLanes.{empty, job, none_some, showing}
use Rattle.actor_desk.specs.Ends.{IsOutOf, KeepsSent}
use Rattle.actor_desk.specs.Lanes.{FitsSent, IsLaneOf, fresh_lane}
use Rattle.actor_desk.specs.Posts.{AreOutsOf}
use Rattle.actor_desk.specs.Spending.{Spends}
use Rattle.actor_desk.specs.Steps.{Redeems}
use Rattle.actor_desk.specs.Submissions.{IsWritten}
use Rattle.actor_desk.specs.Tickets.{CollectsFrom, GetsAll, RedeemsTicket}

-- how many notes a journal has
abbrev noted : JournalView ℕ → ℕ
noted journal = length journal.notes

-- a note is spent on no lane, and an end is of a core that isn't there
pub spent_nowhere : Spends 0 0 empty empty → ⊥
spent_nowhere spends = none_some spends.was

pub end_of_no_core : (out : Outward ℕ ℕ) → IsOutOf 1 empty out 0 → ⊥
end_of_no_core out is = absurd (omega (arith, is.known))

-- a submission changes nothing of its links, and a pick stands without its turn
pub sent_and_kept : (order : Order (Unit {0})) → KeepsSent {T = ℕ} [] (Sent job order ∷ []) → ⊥
sent_and_kept order keeps = absurd (omega (arith, ap length (keeps.accepted 0)))

pub pick_alone : (terms : Terms) → IsWritten {T = ℕ} terms (Pick 0 0 ∷ []) → ⊥
pick_alone terms written = none_some (sym written.no_pick)

-- an outcome is collected that nobody notes
pub collected_unnoted : CollectsFrom 0 empty 1 empty → ⊥
collected_unnoted collects = absurd (omega (arith, collects.2, ap noted collects.3, length-append collects.0 []))

module _ (outcome : Outcome ℕ ℕ) where
  -- a redemption frees no place, and nobody notes it
  pub redeemed_and_kept : Redeems (fresh_lane 1) (fresh_lane 1) 1 0 0 (Ok outcome) → ⊥
  redeemed_and_kept redeems = absurd (omega (arith, redeems.2))

  pub redeemed_unnoted : RedeemsTicket job empty (Ok outcome) empty → ⊥
  redeemed_unnoted redeems = absurd (omega (arith, ap noted redeems.2))

  -- an end that shows an outcome has got all
  pub shown_and_left : (out : Outward ℕ ℕ) → GetsAll out (showing (1, outcome)) → ⊥
  shown_and_left out gets = absurd (omega (arith, gets.2))

  -- an outcome fits where none does
  pub unfit : (order : Order ℕ) → FitsSent (λ order outcome. ⊥) (record (showing (1, outcome)) { sent = order ∷ [] }) 1 outcome → ⊥
  unfit order fits = fits

  module _ (fits : Order ℕ → Outcome ℕ ℕ → Type 0) where
    -- a lane has another room than its link, and a desk has no end
    pub lane_of_another_room : IsLaneOf fits (fresh_lane 2) (showing (1, outcome)) 0 → ⊥
    lane_of_another_room is = absurd (omega (arith, is.room))

    pub desk_without_end : (out : ℕ → Outward ℕ ℕ) (credited : ℕ → ℕ) → AreOutsOf fits out credited empty [] → ⊥
    desk_without_end out credited are = absurd (omega (arith, are.count))
