use Rattle.note_stats.proofs.stats.core_stats.Goals as goal

pub returns-clause-drained : goal.returns-clause-drained
returns-clause-drained c = c.core_stats-2.ensures.drained 1 c.args.journal.now.notes c.in_ok-of.ensures
