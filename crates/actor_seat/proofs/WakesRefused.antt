-- Own wakes that are refused: one that was never sent, and one whose ticket is kept.
use Rattle.actor_seat.proofs.Names.{ap, arith, Err, false, JobId, length, LinkedView, Order, out_at, SendError, Sends, sym, true, WakesOwn, ℕ, ◌+◌, ◌-◌, ◌<◌, ◌∙◌, ◌∷◌, ◌≡◌}
use Rattle.std.proofs.Common.{◌^◌}
use Rattle.std.proofs.lemmas.Bool.{true≢false}
use Rattle.base_words.specs.declared.note.Note.TheVariants.{Sent}
use Rattle.base_words.specs.declared.order.Order.TheVariants.{Wake}
use Rattle.base_words.specs.declared.order.SendError.TheVariants.{Closed, Full, Spent, NoCore}
use Rattle.link_ends.specs.declared.ends.Outward.{Outward}

module _ {J T : Type 0} where
  -- an end whose gate is open, with a place and a number left, refuses nothing
  not_refused : (out : Outward J T) (credited : ℕ) (order : Order J) (error : SendError J) → out.closed ≡ false → length out.sent < credited + out.capacity → out.base + length out.sent < 2 ^ 63 - 1 → Sends out credited order out (Err error) → ⊥
  not_refused out credited order (Closed back final) is_open place left sends = true≢false (sym (ap (λ (out : Outward J T). out.closed) sends.2) ∙ is_open)
  not_refused out credited order (Full back) is_open place left sends = omega (arith, place, sends.2)
  not_refused out credited order (Spent back) is_open place left sends = omega (arith, left, sends.3)
  not_refused out credited order (NoCore back) is_open place left sends = sends

  -- a core that does nothing isn't told that such an end refused its wake
  never_sent : (job : JobId) (view : LinkedView J T) → let end = out_at view.recorded.core.core view.ends in
      end.out.closed ≡ false → length end.out.sent < end.credited + end.out.capacity → end.out.base + length end.out.sent < 2 ^ 63 - 1 → WakesOwn job view false view → ⊥
  never_sent job view is_open place left wakes =
      let end = out_at view.recorded.core.core view.ends in
      not_refused end.out end.credited (Wake job.from job.number) wakes.tells.error is_open place left wakes.tells.refuses

  -- a wake that was sent isn't told before its ticket was let go of
  ticket_kept : (job name : JobId) (old new : LinkedView J T) → new.recorded.journal.notes ≡ Sent name (Wake job.from job.number) ∷ old.recorded.journal.notes → WakesOwn job old true new → ⊥
  ticket_kept job name old new noted wakes = omega (arith, ap length noted, ap length wakes.tells.notes)
