use Rattle.std.proofs.Common.{arith}
use Rattle.run_watch.proofs.PublisherSteps.{puts}
use Rattle.run_watch.proofs.writing.put.Goals as goal

pub store-requires : goal.store-requires
store-requires c =
    let words = c.requires.writing.words in
    (c.requires.writing.at_table, omega (arith, words, c.requires.within), puts _ _ _ _ c.requires.writing.publishes _ c.args.place _ (omega arith) c.requires.writing.begun)
