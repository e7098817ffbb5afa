use Rattle.judge_fronts.proofs.Names.{Journal, length, None, ℕ, queue_just_picked, subst, ◌<◌, ◌≡◌, ◌⊎◌}
use Rattle.judge_fronts.proofs.LostFaults.{fourth_lost, picks_lost}
use Rattle.judge_fronts.proofs.lost.is_fault_lost.Goals as goal

pub returns-in-4-clause-lost : goal.returns-in-4-clause-lost
returns-in-4-clause-lost c = λ yes. fourth_lost c.args.assembly.now c.requires.spelled c.args.actor c.args.line c.args.rule c.in-4.is c.requires.fault

pub returns-in-5-clause-lost : goal.returns-in-5-clause-lost
returns-in-5-clause-lost c = λ yes.
    let front = c.args.assembly.now in
    let place = c.requires.fault.place.picks c.in-5.is in
    picks_lost front c.requires.spelled c.args.actor c.args.line place.within place.here
    (
    subst (λ (notes : Journal ℕ). (c.args.line < length notes) ⊎ (queue_just_picked notes ≡ None)) c.journal.ensures (c.is_followed.ensures.right yes)
    )
