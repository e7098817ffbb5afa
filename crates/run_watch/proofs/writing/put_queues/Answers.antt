use Rattle.std.proofs.Common.{◌≡◌, ℕ, List, sym, ap, ◌∙◌, refl, arith, subst}
use Rattle.std.proofs.lemmas.Option.{slice_get_within}
use Rattle.std.specs.Prelude.{slice_get}
use mathlib.Core.Logic.{dite}
use native.Mathlib.Decide.{ℕ_discrete}
use Rattle.run_watch.specs.Views.{with_row}
use Rattle.run_watch.specs.Words.{HasAt, place_of, queue_words}
use Rattle.run_watch.proofs.Rows.{HasAt-kept, Writes-kept}
use Rattle.run_watch.proofs.Writers.{row-known}
use Rattle.run_watch.proofs.writing.put_queues.Goals as goal

pub loop-number-init : goal.loop-number-init
loop-number-init c = record {
  writing = c.requires.writing;
  table = refl;
  view = row-known _ _ c.requires.writing.row_is;
  writes = record { has = λ i within. absurd (omega arith); wide = refl; before = λ i below. refl };
  each = λ queue stats below. absurd (omega arith);
}

pub put_words-requires-clause-within : goal.put_words-requires-clause-within
put_words-requires-clause-within c =
    omega (arith, c.requires.places.1, c.loop-number.invariant.writes.wide, c.loop-number-test.true, c.words_at-words.ensures.wide, c.place_of.ensures, c.min-number-end.ensures)

pub loop-number-preserved : goal.loop-number-preserved
loop-number-preserved c =
    let inv = c.loop-number.invariant in
    let number = c.loop-number.number in
    let writes = c.put_words.ensures.writes in
    let place : c.place_of.result ≡ place_of number = c.place_of.ensures in record {
      writing = c.put_words.ensures.writing;
      table = c.put_words.ensures.table ∙ inv.table;
      view = c.put_words.ensures.view ∙ ap (λ v. with_row v c.put_words.new.row.items) inv.view;
      writes = Writes-kept 7 _ _ _ _ _ (omega arith) inv.writes writes;
      each = λ queue stats below there. dite (ℕ_discrete queue number)
          (λ same.
          let told = c.words_at-words.ensures.words stats (ap (λ k. slice_get c.args.queues.now k) (sym same) ∙ there) in
          let here : c.place_of.result ≡ place_of queue = place ∙ ap place_of (sym same) in
          (subst (λ (z : ℕ × List ℕ). HasAt c.put_words.new.row.items z.0 z.1) (λ i. (here i, told.0 i)) writes.has, told.1))
          (λ differs.
          let before = inv.each queue stats (omega arith) there in
          (HasAt-kept (place_of queue) _ (queue_words stats) _ _ _ before.0 (omega arith) writes, before.1));
    }

pub returns-clause-has : goal.returns-clause-has
returns-clause-has c = λ queue stats placed there.
    c.loop-number.invariant.each queue stats (omega (arith, placed, slice_get_within c.args.queues.now queue stats there, c.loop-number-test.false, c.min-number-end.ensures)) there
