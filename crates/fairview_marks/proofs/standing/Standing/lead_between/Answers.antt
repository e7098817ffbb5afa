use Rattle.std.proofs.Common.{ap, ◌∙◌}
use Rattle.note_facts.specs.declared.accounts.Account.{Account}
use Rattle.note_stats.specs.declared.tally.Tally.{Tally}
use Rattle.fairview_marks.proofs.LeadSteps.{next_turn}
use Rattle.fairview_marks.proofs.standing.Standing.lead_between.Goals as goal

pub returns : goal.returns
returns c =
    λ burst before short knows.
    let turn = next_turn before c.args.self.now.clock c.saturating_add.result short c.saturating_add.ensures knows.clock in
    let first = ap (λ (account : Account). account.virtual_runtime) c.of.ensures ∙ (knows.accounts.each c.args.first).runtime in
    let second = ap (λ (account : Account). account.virtual_runtime) c.of-2.ensures ∙ (knows.accounts.each c.args.second).runtime in
    let first_most = ap (λ (tally : Tally). tally.greatest) (c.of-3.ensures ∙ (knows.tallies c.args.first).figures) in
    let second_most = ap (λ (tally : Tally). tally.greatest) (c.of-4.ensures ∙ (knows.tallies c.args.second).figures) in
    λ i. record { turn = turn i; first = first i; second = second i; first_most = first_most i; second_most = second_most i }
