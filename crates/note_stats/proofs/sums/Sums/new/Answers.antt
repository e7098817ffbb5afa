use Rattle.note_stats.proofs.sums.Sums.new.Goals as goal

pub returns : goal.returns
returns c = record { parks = c.new.ensures; figures = c.new-2.ensures }
