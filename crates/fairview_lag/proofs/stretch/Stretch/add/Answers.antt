use Rattle.fairview_lag.proofs.stretch.Stretch.add.Goals as goal

pub returns-clause-knows : goal.returns-clause-knows
returns-clause-knows c =
    λ burst before short knows.
    let standing = c.in_ok-add.ensures.knows burst before short knows.standing in
    record { standing = standing; begun = c.begun_after-self.ensures burst c.args.note.now before standing knows.begun }
