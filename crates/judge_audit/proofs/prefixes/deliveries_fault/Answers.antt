use Rattle.judge_audit.proofs.ToldNames.{names_sent}
use Rattle.judge_audit.proofs.prefixes.deliveries_fault.Goals as goal

pub returns-clause-kept : goal.returns-clause-kept
returns-clause-kept c = λ none. rw (names_sent c.args.core c.args.sent.now.notes) (c.prefix_fault.ensures.kept none)

pub returns-clause-named : goal.returns-clause-named
returns-clause-named c = rw (names_sent c.args.core c.args.sent.now.notes) c.prefix_fault.ensures.named
