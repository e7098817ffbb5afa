use Rattle.std.proofs.Common.{◌≡◌, ℕ, get_or, sym, ◌∙◌, ap, arith}
use Rattle.std.specs.Prelude.{Some}
use Rattle.base_words.specs.Runtimes.{shares}
use Rattle.note_facts.specs.declared.accounts.Account.{Account}
use Rattle.note_facts.specs.Accounts.{fresh_account}
use Rattle.note_stats.specs.Tallies.{no_tally, tally_after, cost_told}
use Rattle.note_stats.proofs.TallySteps.{tallies_after_one}
use Rattle.note_stats.proofs.tally.Tallies.add.Goals as goal

pub returns-in-Some : goal.returns-in-Some
returns-in-Some c =
    λ before noted short accounts knows.
    let index = c.queue.inside.0 in
    let weight : c.of-account.result.shares ≡ shares index before =
    ap (λ (account : Account). account.shares)
    (c.of-account.ensures ∙ ap (λ at. get_or c.args.accounts.now.queues at fresh_account) (sym c.queue.view_is)) ∙
    (accounts.each index).shares in
    tallies_after_one c.args.burst c.args.note.now before c.args.self.now.queues knows index c.cost_told-cost.result c.add.new.self (omega arith) short
    c.cost_told-cost.ensures.bounded (sym noted ∙ (c.in-Some.is ∙ ap Some (sym c.queue.view_is)))
    (c.cost_told-cost.ensures.value ∙ ap (λ at. cost_told {T = ℕ} at c.args.note.now) weight)
    (c.add.ensures ∙
    ap (tally_after {T = ℕ} c.args.burst c.cost_told-cost.result c.args.note.now)
    (c.of-tally.ensures ∙ ap (λ at. get_or c.args.self.now.queues at no_tally) (sym c.queue.view_is)))
