use Rattle.std.proofs.Common.{ℕ, sym, subst, ap, ◌∙◌}
use Rattle.base_words.specs.Journal.{Journal, at_place}
use Rattle.note_facts.proofs.Walks.{at_start, at_end}
use Rattle.note_stats.specs.Walks.{KnowsSums}
use Rattle.note_stats.proofs.sums.Sums.of.Goals as goal

pub returns : goal.returns
returns c =
    let notes = c.args.journal.now.notes in
    subst (λ (before : Journal ℕ). KnowsSums c.args.burst c.read.new.self before) (ap (λ place. at_place place notes) c.len.ensures.value ∙ at_end notes)
    (c.in_ok-read.ensures.knows c.args.burst (subst (λ (before : Journal ℕ). KnowsSums c.args.burst c.new-sums.result before) (sym (at_start notes)) c.new-sums.ensures))
