-- Calls on outcomes that are refused: one that the link doesn't show, one that wasn't collected, one of nothing that was submitted, one of another kind, and one that isn't noted; and a refused ticket behind which
-- more is seen.
use Rattle.std.proofs.Common.{◌≡◌, ℕ, ◌+◌, ◌≤◌, ap, sym, ◌∙◌, length, subst, arith}
use Rattle.std.specs.Prelude.{Some, None, Ok, Err}
use Rattle.base_words.specs.declared.names.JobId.{JobId}
use Rattle.base_words.specs.declared.names.TicketError.TheVariants.{Pending}
use Rattle.base_words.specs.declared.order.Answer.{Answer}
use Rattle.base_words.specs.declared.order.Order.{Order}
use Rattle.base_words.specs.declared.order.Order.TheVariants.{Job}
use Rattle.base_words.specs.declared.order.Outcome.{Outcome}
use Rattle.base_words.specs.declared.order.Outcome.TheVariants.{Answered}
use Rattle.base_jobs.specs.Meanings.{Meaning}
use Rattle.link_ends.specs.Fits.{Fits}
use Rattle.link_ring.specs.Ends.{out_at}
use Rattle.actor_caller.specs.State.{RuntimeView, submitted_under}
use Rattle.actor_caller.specs.Tickets.{Collects, CollectsHere, DetachesHere, RedeemsHere}

module _ {J T : Type 0} (core : ℕ) (old new : RuntimeView J T) where
  -- an outcome is counted, and the link shows none
  unshown_refused : CollectsHere core old 1 old → ⊥
  unshown_refused collects = omega (arith, collects.counted)

  -- there is no such core, and an outcome is counted
  no_core_refused : old.desk.cores ≤ core → Collects core old 1 new → ⊥
  no_core_refused missing collects = omega (arith, (collects.missing missing).0)

module _ {J T : Type 0} (fits : Order J → Outcome J T → Type 0) (name : JobId) (old : RuntimeView J T) (outcome : Outcome J T) (new : RuntimeView J T) where
  -- nothing was submitted under this name, and there is an outcome of it
  unsubmitted_refused : submitted_under name old ≡ None → RedeemsHere fits name old (Ok outcome) new → ⊥
  unsubmitted_refused none redeems = let is = redeems.fitting.is in absurd cc

  -- no outcome was collected from this core, and one is answered
  ungot_refused : (out_at name.to old.ends).out.got ≡ 0 → RedeemsHere fits name old (Ok outcome) new → ⊥
  ungot_refused none redeems = let got = redeems.given.got in omega (arith, none, got)

  -- the outcome is answered, and nothing is noted
  unnoted_refused : RedeemsHere fits name old (Ok outcome) new → new.desk.journal ≡ old.desk.journal → ⊥
  unnoted_refused redeems same =
      let long = ap (λ journal. length journal.notes) (sym same ∙ redeems.redeems.2) in
      omega (arith, long)

  -- a ticket is refused, and the end to its core has seen one more outcome
  seen_refused : RedeemsHere fits name old (Err Pending) new → length (out_at name.to new.ends).out.seen ≡ length (out_at name.to old.ends).out.seen + 1 → ⊥
  seen_refused redeems more = let same = ap (λ (view : RuntimeView J T). length (out_at name.to view.ends).out.seen) redeems.refused in omega (arith, same, more)

  -- a submission is let go, and nothing is noted
  kept_refused : DetachesHere name old (Ok tt) new → new.desk.journal ≡ old.desk.journal → ⊥
  kept_refused detaches same =
      let long = ap (λ journal. length journal.notes) (sym same ∙ detaches.detaches.1) in
      omega (arith, long)

  -- what can't be let go isn't pending
  pending_refused : DetachesHere name old (Err Pending) new → ⊥
  pending_refused detaches = detaches.detaches

-- a job was submitted, and its outcome is a command's
command_refused : {J T : Type 0} (meaning : Meaning J T) (queue : ℕ) (job : J) (answer : Answer) (name : JobId) (old new : RuntimeView J T) → submitted_under name old ≡ Some (Job queue job) →
    RedeemsHere (Fits meaning) name old (Ok (Answered answer)) new → ⊥
command_refused meaning queue job answer name old new is redeems =
    let fitting = redeems.fitting in
    let order : fitting.order ≡ Job queue job = cc (is, fitting.is) in
    subst (λ order. Fits meaning order (Answered answer)) order fitting.fit
