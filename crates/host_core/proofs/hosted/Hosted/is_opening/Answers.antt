use Rattle.std.proofs.Common.{◌≡◌, ◌+◌, ◌-◌, length, ◌∙◌, ap, subst, arith}
use Rattle.std.proofs.lemmas.Bool.{eqb-true, eq-eqb}
use Rattle.base_words.specs.Commands.{created_count}
use Rattle.note_journal.specs.Journals.{JournalView}
use Rattle.host_core.specs.Hosted.{HostedView, IsHosted}
use Rattle.host_core.proofs.Openings.{counts_opening, none_passed, opening_counts}
use Rattle.host_core.proofs.hosted.Hosted.is_opening.Goals as goal
use Rattle.host_core.proofs.hosted.Hosted.is_opening.Goals.{After-from}

-- so many notes are kept
kept : (c : After-from) → length c.args.self.now.recorded.journal.passed + c.kept_count-noted.result ≡ length c.args.self.now.recorded.journal.notes
kept c =
    subst (λ (journal : JournalView _). length journal.passed + c.kept_count-noted.result ≡ length journal.notes)
    (c.journal.ensures ∙ ap (λ recorded. recorded.journal) c.recorded.ensures.same ∙ ap (λ (view : HostedView). view.recorded.journal) c.self.view_is) c.kept_count-noted.ensures.value

-- and so many queues were created
created : (c : After-from) → c.queue_count.result ≡ created_count c.args.self.now.recorded.journal.notes + 1
created c = c.queue_count.ensures.value ∙ (subst IsHosted c.self.view_is c.self.invariant.0).recorded.kept.agrees.last

pub returns-clause-yes : goal.returns-clause-yes
returns-clause-yes c = λ yes.
    let none = none_passed c.args.self.now.recorded.journal.passed c.has_passed.result c.has_passed.ensures c.if-has_passed.false in
    (none, opening_counts c.args.self.now.recorded.journal.notes (omega (arith, eqb-true _ _ yes, c.from.ensures, ap length none, kept c, created c)))

pub returns-clause-no : goal.returns-clause-no
returns-clause-no c = λ no none opening.
    let is = eq-eqb c.kept_count-noted.result (c.from.result - 1) (omega (arith, c.from.ensures, ap length none, kept c, created c, counts_opening c.args.self.now.recorded.journal.notes opening)) in
    cc (is, no)
