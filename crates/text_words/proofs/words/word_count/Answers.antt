use Rattle.std.proofs.Common.{arith, ap, length}
use Rattle.text_words.proofs.WordLemmas.{length-words}
use Rattle.text_words.proofs.words.word_count.Goals as goal

pub overflow_add-count : goal.overflow_add-count
overflow_add-count c =
    let counted = c.loop-word.invariant.counted in
    let most = length-words c.args.line.now in
    let left = ap length c.in-Some.ensures.steps in omega arith
