use Rattle.judge_audit.proofs.Names.{collected_outcomes, Journal, list_told, name_collected, names_of, sym, ℕ}
use Rattle.judge_audit.proofs.ToldNames.{names_collected, names_given, off_same}
use Rattle.judge_audit.proofs.prefixes.collections_fault.Goals as goal

pub returns-clause-kept : goal.returns-clause-kept
returns-clause-kept c =
    λ none.
    rw (names_collected c.args.core c.args.collected.now.notes, names_given c.args.sender c.args.given.now.notes) (c.prefix_fault.ensures.kept none)

pub returns-clause-named : goal.returns-clause-named
returns-clause-named c =
    rw (names_given c.args.sender c.args.given.now.notes)
    (
    off_same (list_told (name_collected c.args.core)) (λ (notes : Journal ℕ). names_of (collected_outcomes c.args.core notes))
    (λ notes. sym (names_collected c.args.core notes)) c.args.collected.now.notes _ c.prefix_fault.result c.prefix_fault.ensures.named
    )
