use Rattle.std.proofs.Common.{◌≡◌, ℕ, suc, ◌+◌, [], ◌∷◌, ◌++◌, ◌∙◌, ap, sym, arith}
use Rattle.run_watch.specs.Words.{first_word, words_from}
use Rattle.run_watch.proofs.First.{words-more}
use Rattle.run_watch.proofs.start.first_row.Goals as goal

pub loop-index-preserved : goal.loop-index-preserved
loop-index-preserved c =
    let index = c.loop-index.index in
    let up : suc index ≡ index + 1 = omega arith in
    let e : 0 + index ≡ index = omega arith in
    c.in_ok-push.ensures.items ∙ ((λ i. c.loop-index.invariant i ++ c.first_word.ensures i ∷ [])
    ∙ (sym (words-more 0 index ∙ ap (λ (n : ℕ). words_from 0 index ++ first_word n ∷ []) e) ∙ ap (words_from 0) up))
