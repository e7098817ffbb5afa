use Rattle.std.proofs.Common.{◌≡◌, ℕ, sym, subst}
use Rattle.base_words.specs.declared.order.Order.{Order}
use Rattle.base_words.specs.declared.order.Outcome.{Outcome}
use Rattle.link_ends.specs.Ends.{AreOf}
use Rattle.link_board.specs.After.{with_got}
use Rattle.link_board.specs.Told.{SeesOutcomes}
use Rattle.link_board.specs.declared.board.Known.{Known}
use Rattle.link_ends.specs.Fits.{Fits}
use Rattle.link_ring.proofs.ring_out.RingOutOutEnd.collect.Goals as goal

module _ {J T : Type 0} (fits : Order J → Outcome J T → Type 0) (old new : Known J T) (sees : SeesOutcomes fits old.out new.out.seen) where
  -- nothing was found
  AreOf-none : new ≡ old → AreOf fits new.out.base new.out.sent new.out.seen
  AreOf-none now = subst (λ (v : Known J T). AreOf fits v.out.base v.out.sent new.out.seen) (sym now) sees.named

  -- an outcome was got
  AreOf-got : (got : ℕ) → new ≡ with_got old new.out.seen got → AreOf fits new.out.base new.out.sent new.out.seen
  AreOf-got got now = subst (λ (v : Known J T). AreOf fits v.out.base v.out.sent new.out.seen) (sym now) sees.named

pub returns-then-self-clause-named : goal.returns-then-self-clause-named
returns-then-self-clause-named g c = let old = c.self.inside.seat.me.view in let step = c.see_none.ensures in
    AreOf-none (Fits g.J.Task.meaning) old c.see_none.new.seat.me.view (subst (λ v. SeesOutcomes (Fits g.J.Task.meaning) old.out v.out.seen) (sym step.same) step.sees) step.same

pub returns-in_err-found-clause-named : goal.returns-in_err-found-clause-named
returns-in_err-found-clause-named g c = let step = c.in_err-found.ensures in
    AreOf-none (Fits g.J.Task.meaning) c.self.inside.seat.me.view c.next_outcome.new.seat.me.view step.sees step.none

pub returns-clause-named : goal.returns-clause-named
returns-clause-named g c = let step = c.in_ok-found.ensures in
    AreOf-got (Fits g.J.Task.meaning) c.self.inside.seat.me.view c.next_outcome.new.seat.me.view step.sees _ step.got
