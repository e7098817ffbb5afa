-- Entries and lines that no call leaves, each refused by the definition that judges it.
use Rattle.std.specs.Prelude.{◌≡◌, ℕ, true, false, List, Option, Some, None, is_some}
use Rattle.std.proofs.Common.{inl, inr, ap, sym, ◌∙◌, arith}
use Rattle.slab.specs.Slab.{Slab, get}
use Rattle.base_jobs.specs.Calls.{Call}
use Rattle.base_jobs.specs.Meanings.{Meaning}
use Rattle.base_jobs.specs.declared.job.Step.{Step}
use Rattle.core_queues.specs.declared.line.Line.{Line}
use Rattle.core_queues.specs.declared.seats.Stands.TheVariants.{Waits}
use Rattle.core_queues.specs.declared.waiting.Waiting.{Waiting}
use Rattle.core_queues.specs.Entries.{Appends, MovesHead, Requeues, StartsAt}
use Rattle.core_queues.specs.Fronts.{PollsAt}
use Rattle.core_queues.specs.Lines.{Follows, IsChain, JoinsLines, KeepsWakeOf, MovesOut, Skips}
use Rattle.core_queues.specs.Seats.{Tells}

-- a line of one job, and an empty one
abbrev pub one : Line
one = record { head = 0; tail = 0; count = 1 }

abbrev pub none : Line
none = record { head = 0; tail = 0; count = 0 }

-- a vacant key has no entry
nothing_there : {A : Type 0} {found : Option A} {value : A} → found ≡ None → found ≡ Some value → ⊥
nothing_there vacant there = let both = sym vacant ∙ there in cc

-- the seat of a parked job tells that it waits
pub parked_waits : Tells (record { before = 0; queue = 3; parked = true }) Waits → ⊥
parked_waits told = let waits : true ≡ false = told in cc

module _ (old new : Slab (Waiting ℕ)) where
  -- a job starts, is polled, or is woken, that isn't there
  pub nobody_starts : (next : ℕ) → get old 0 ≡ None → StartsAt old 0 false new next → ⊥
  nobody_starts next vacant starts = nothing_there vacant starts.1.at

  pub nobody_is_polled : (meaning : Meaning ℕ ℕ) (calls : List (Call ℕ ℕ)) (step : Step ℕ) → get old 0 ≡ None → PollsAt meaning old 0 calls step None new → ⊥
  nobody_is_polled meaning calls step vacant polls = nothing_there vacant polls.renews.at

  pub nobody_is_woken : get old 0 ≡ None → KeepsWakeOf old 0 new → ⊥
  nobody_is_woken vacant keeps = nothing_there vacant keeps.at

  -- a line has a job that isn't there
  pub nobody_waits : get old 0 ≡ None → IsChain old one → ⊥
  nobody_waits vacant chain = let there : false ≡ true = sym (ap is_some vacant) ∙ chain 0 (omega arith) in cc

  -- a job that comes to a line isn't counted there
  pub appended_lost : (last : Waiting ℕ) → Appends old one last new one → ⊥
  appended_lost last appends = absurd (omega (arith, appends.count))

  pub follower_lost : Follows old one 7 new one → ⊥
  follower_lost follows = absurd (omega (arith, follows.count))

  -- the head of a line is lost as it goes to the tail, or to another line
  pub head_lost : Requeues old one false new none → ⊥
  head_lost requeues = absurd (omega (arith, requeues.count))

  pub moved_head_lost : MovesHead old one none new none none → ⊥
  moved_head_lost moves = absurd (omega (arith, moves.count))

  -- a job that leaves its line is counted there still, or doesn't come to the other one
  pub skipped_stays : Skips old one 0 0 0 new one → ⊥
  skipped_stays skips = absurd (omega (arith, skips.count))

  pub moved_out_lost : MovesOut old one 0 0 none new 0 none none → ⊥
  moved_out_lost moves = absurd (omega (arith, moves.follows.count))

  -- of two lines that are joined one is lost
  pub joined_line_lost : JoinsLines old one one new one → ⊥
  joined_line_lost joins =
      elim joins [
        | inl empty ↦ absurd (omega (arith, empty.0))
        | inr others ↦ elim others [ inl empty ↦ absurd (omega (arith, empty.1)) | inr both ↦ absurd (omega (arith, ap (λ (line : Line). line.count) both.2)) ]
      ]
