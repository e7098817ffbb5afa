use Rattle.note_facts.proofs.histories.History.fact.Goals as goal

pub returns : goal.returns
returns c = λ journal note before history within at. rw c.fact_at.ensures (history.facts c.args.place note before within at)
