use Rattle.std.proofs.Common.{◌∷◌}
use Rattle.fairview_lag.proofs.stretch.lag_told.Goals as goal

pub returns-in-Yield : goal.returns-in-Yield
returns-in-Yield c = λ burst before knows is. rw c.in-Yield.is (rw c.in-Yield.is at (c.lag_polled.ensures burst (c.args.note.now ∷ before) knows is))

pub returns-in-Park : goal.returns-in-Park
returns-in-Park c = λ burst before knows is. rw c.in-Park.is (rw c.in-Park.is at (c.lag_polled-in-Park.ensures burst (c.args.note.now ∷ before) knows is))

pub returns-in-Stayed : goal.returns-in-Stayed
returns-in-Stayed c = λ burst before knows is. rw c.in-Stayed.is (rw c.in-Stayed.is at (c.lag_polled-in-Stayed.ensures burst (c.args.note.now ∷ before) knows is))

pub returns-in-Done : goal.returns-in-Done
returns-in-Done c = λ burst before knows is. rw c.in-Done.is (rw c.in-Done.is at (c.lag_polled-in-Done.ensures burst (c.args.note.now ∷ before) knows is))

pub returns-in-Turned : goal.returns-in-Turned
returns-in-Turned c = λ burst before knows is. rw c.in-Turned.is (rw c.in-Turned.is at (c.lag_turned.ensures burst (c.args.note.now ∷ before) knows is))
