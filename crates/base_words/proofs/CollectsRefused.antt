-- Each bad collection, redeem and detach breaks the law of its note.
use Rattle.base_words.proofs.Words.{CollectsAreRefused, FitsOrder, Order, OutcomeNote, same_Some, Some, subst, sym, ℕ, ◌≡◌}
use Rattle.base_words.specs.declared.note.OutcomeNote.TheVariants.{Finished, Answered}
use Rattle.base_words.specs.declared.order.Answer.TheVariants.{NoMemory, SharesSet}
use Rattle.base_words.specs.declared.order.Order.TheVariants.{Job, Create}

-- what fits the order that was accepted fits the one that was sent
fits_sent : (sent order : Order (Unit {0})) (outcome : OutcomeNote ℕ) → Some sent ≡ Some order → FitsOrder order outcome → FitsOrder sent outcome
fits_sent sent order outcome accepted fits = subst (λ one. FitsOrder one outcome) (sym (same_Some sent order accepted)) fits

pub collects_refused : CollectsAreRefused
collects_refused = record {
  unsent = λ law. let sent = law.0.may_follow.accepted in cc;
  twice = λ law. let new = law.0.may_follow.new in cc;
  command = λ law. fits_sent (Create 500) law.0.may_follow.order (Finished 7) law.0.may_follow.accepted law.0.may_follow.fits;
  job = λ law. fits_sent (Job 0 tt) law.0.may_follow.order (Answered NoMemory) law.0.may_follow.accepted law.0.may_follow.fits;
  creation = λ law. fits_sent (Create 500) law.0.may_follow.order (Answered SharesSet) law.0.may_follow.accepted law.0.may_follow.fits;
  uncollected = λ law. let collected = law.0.may_follow.collected in cc;
  another = λ law. let collected = law.0.may_follow.collected in cc;
  redeemed = λ law. let kept = law.0.may_follow.kept in cc;
  detached = λ law. let kept = law.0.may_follow.kept in cc;
  nothing = λ law. let sent = law.0.may_follow.accepted in cc;
  again = λ law. let kept = law.0.may_follow.kept in cc;
  gone = λ law. let kept = law.0.may_follow.kept in cc;
}
