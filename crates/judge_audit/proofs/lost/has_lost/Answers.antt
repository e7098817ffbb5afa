use Rattle.judge_audit.proofs.Names.{ap, arith, both_ways, false_from_ne_true, has_work, IsDrained, Journal, journal_of, not_from_true, subst, sym, true, true≢false, ℕ, ◌∙◌, ◌≡◌}
use Rattle.judge_audit.proofs.AllEnded.{all_ended, each_ended, is_kept}
use Rattle.judge_audit.proofs.lost.has_lost.Goals as goal

pub returns-then-not-are_emptied-clause-kept : goal.returns-then-not-are_emptied-clause-kept
returns-then-not-are_emptied-clause-kept c =
    λ lost drained.
    let notes = c.journal-journal.ensures ∙ ap (λ (actor : ℕ). journal_of actor c.args.assembly.now) c.core.view_is in
    let here = subst (λ (journal : Journal ℕ). IsDrained c.args.assembly.now.cores journal) (sym notes) drained in
    let emptied : c.are_emptied.result ≡ true =
    c.are_emptied.ensures.only (λ sender within. here.delivered_all sender (omega (arith, within, c.cores-count.ensures.value))) in
    absurd (both_ways c.are_emptied.result c.if-not-are_emptied.true emptied)

pub returns-then-not-is_idle-clause-kept : goal.returns-then-not-is_idle-clause-kept
returns-then-not-is_idle-clause-kept c =
    λ lost drained.
    let notes = c.journal-journal.ensures ∙ ap (λ (actor : ℕ). journal_of actor c.args.assembly.now) c.core.view_is in
    let here = subst (λ (journal : Journal ℕ). IsDrained c.args.assembly.now.cores journal) (sym notes) drained in
    let idle : c.is_idle.result ≡ true =
    c.is_idle.ensures.only c.burst.result c.journal-journal.result.now.notes c.accounts_after-accounts.ensures
    (λ queue. record {
      idle = false_from_ne_true (has_work queue c.journal-journal.result.now.notes) (here.idle queue);
      nobody_parked = here.nobody_parked queue;
    }) in
    absurd (both_ways c.is_idle.result c.if-not-is_idle.true idle)

pub returns-clause-kept : goal.returns-clause-kept
returns-clause-kept c =
    λ kept drained.
    all_ended c.args.assembly.now c.args.core c.cores-count.ensures.journals
    (c.ended_of_all.ensures.right (is_kept c.ended_of_all.result kept))

pub returns-clause-only : goal.returns-clause-only
returns-clause-only c =
    λ ended.
    let notes = c.journal-journal.ensures ∙ ap (λ (actor : ℕ). journal_of actor c.args.assembly.now) c.core.view_is in
    let nobody = c.is_idle.ensures.right c.burst.result c.journal-journal.result.now.notes c.accounts_after-accounts.ensures c.if-not-is_idle.false in
    let drained : IsDrained c.args.assembly.now.cores c.journal-journal.result.now.notes =
    record {
      delivered_all = λ sender within. c.are_emptied.ensures.right c.if-not-are_emptied.false sender (omega (arith, within, c.cores-count.ensures.value));
      idle = λ queue work. true≢false (sym work ∙ (nobody queue).idle);
      nobody_parked = λ queue. (nobody queue).nobody_parked;
    } in
    let all = ended (subst (λ (journal : Journal ℕ). IsDrained c.args.assembly.now.cores journal) notes drained) in
    not_from_true c.ended_of_all.result
    (c.ended_of_all.ensures.only (each_ended c.args.assembly.now c.args.core c.cores-count.ensures.journals all))
