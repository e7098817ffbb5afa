use Rattle.std.proofs.Common.{◌≡◌, ℕ, ◌<◌, List, length, ap, sym, subst, ◌∙◌, arith}
use Rattle.base_words.specs.Journal.{Journal, at_place, with_last}
use Rattle.note_facts.specs.Accounts.{greatest_count}
use Rattle.note_facts.proofs.Walks.{at_start, whole_walk}
use Rattle.judge_view.specs.Polls.{KnowsTurns, polls}
use Rattle.judge_view.specs.declared.polls.Poll.{Poll}
use Rattle.judge_view.proofs.ClockSteps.{length-at_place}
use Rattle.judge_view.proofs.polls.settled_polls.Goals as goal

pub loop-place-init : goal.loop-place-init
loop-place-init c = record {
  walk = subst (λ (journal : Journal ℕ). KnowsTurns c.new-walk.result journal) (sym (at_start c.args.journal.now.notes)) c.new-walk.ensures;
  told = c.new-told.ensures.items ∙ sym (ap (λ (journal : Journal ℕ). polls journal) (at_start c.args.journal.now.notes));
}

pub loop-place-preserved : goal.loop-place-preserved
loop-place-preserved c =
    let notes = c.args.journal.now.notes in
    let before = at_place c.loop-place.place notes in
    let short : length before < greatest_count = omega (arith, length-at_place c.loop-place.place notes, c.len-place-end.ensures.value, c.len-place-end.ensures.limits) in
    let tells = c.in_ok-poll.ensures.tells before short c.loop-place.invariant.walk in
    record {
      walk = subst (λ (journal : Journal ℕ). KnowsTurns c.add.new.self journal) (sym c.note_at-note.ensures) tells.knows;
      told =
          c.in_ok-push_poll.ensures
          ∙ ((λ i. with_last (c.loop-place.invariant.told i) (tells.poll i)) ∙ ap (λ (journal : Journal ℕ). polls journal) (sym c.note_at-note.ensures));
    }

pub returns : goal.returns
returns c =
    whole_walk (λ (journal : Journal ℕ). c.loop-place.told.items ≡ polls journal) c.args.journal.now.notes c.loop-place.place (omega arith)
    c.loop-place.invariant.told
