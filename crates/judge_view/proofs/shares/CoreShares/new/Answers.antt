use Rattle.judge_view.proofs.shares.CoreShares.new.Goals as goal

pub returns : goal.returns
returns c = record { clock = c.new.ensures; figures = c.new-2.ensures; watches = c.new-3.ensures }
