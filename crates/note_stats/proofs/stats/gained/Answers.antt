use Rattle.std.proofs.Common.{ℕ, ◌-◌, sym, subst, ap, ◌∙◌, arith}
use Rattle.base_words.specs.Journal.{Journal, at_place}
use Rattle.note_facts.proofs.Walks.{at_start}
use Rattle.base_words.specs.Sums.{charges}
use Rattle.note_stats.specs.Walks.{KnowsSums}
use Rattle.note_stats.proofs.Gains.{gained_is}
use Rattle.note_stats.proofs.stats.gained.Goals as goal

pub returns : goal.returns
returns c =
    let notes = c.args.journal.now.notes in
    let first = c.in_ok-read.ensures.knows c.args.burst (subst (λ (before : Journal ℕ). KnowsSums c.args.burst c.new-sums.result before) (sym (at_start notes)) c.new-sums.ensures) in
    let second = c.in_ok-read-2.ensures.knows c.args.burst first in
    c.saturating_sub.ensures ∙
    (ap (λ later. later - c.charged-earlier.result) (c.charged.ensures _ _ second) ∙
    (ap (λ earlier. charges c.args.burst c.args.queue (at_place c.args.to notes) - earlier) (c.charged-earlier.ensures _ _ first) ∙
    gained_is c.args.burst c.args.queue c.args.from c.args.to notes (omega arith)))
