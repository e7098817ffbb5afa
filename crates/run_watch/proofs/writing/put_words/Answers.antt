use Rattle.std.proofs.Common.{ap, ◌∙◌, refl, length, arith, length-set}
use Rattle.run_watch.specs.Views.{with_row}
use Rattle.run_watch.proofs.Rows.{next-stands, others-stay}
use Rattle.run_watch.proofs.Writers.{row-known}
use Rattle.run_watch.proofs.writing.put_words.Goals as goal

pub loop-index-init : goal.loop-index-init
loop-index-init c = record {
  writing = c.requires.writing;
  table = refl;
  view = row-known _ _ c.requires.writing.row_is;
  wide = refl;
  stands = λ i below. absurd (omega arith);
  stay = λ i below. refl;
}

pub put-requires-clause-within : goal.put-requires-clause-within
put-requires-clause-within c = omega (arith, c.requires.within, c.loop-index.invariant.wide, c.loop-index-test.true)

pub loop-index-preserved : goal.loop-index-preserved
loop-index-preserved c =
    let inv = c.loop-index.invariant in record {
      writing = c.put.ensures.writing;
      table = c.put.ensures.table ∙ inv.table;
      view = c.put.ensures.view ∙ ap (λ v. with_row v c.put.new.row.items) inv.view;
      wide = ap length c.put.ensures.row ∙ (length-set _ _ _ ∙ inv.wide);
      stands = next-stands c.loop-index.row.items c.put.new.row.items c.args.words.now c.args.place c.loop-index.index c.put.ensures.row (omega (arith, c.requires.within, inv.wide, c.loop-index-test.true)) inv.stands;
      stay = others-stay c.loop-index.row.items c.put.new.row.items _ c.args.place c.loop-index.index _ c.put.ensures.row inv.stay;
    }

pub returns-clause-writes : goal.returns-clause-writes
returns-clause-writes c =
    let inv = c.loop-index.invariant in record {
      has = λ i within. inv.stands i (omega (arith, within, c.loop-index-test.false));
      wide = inv.wide;
      before = inv.stay;
    }
