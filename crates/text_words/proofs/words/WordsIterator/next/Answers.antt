use Rattle.std.proofs.Common.{◌∙◌, rules}
use Rattle.text_words.proofs.WordLemmas.{words_at, words_end, words_shown}
use Rattle.text_words.proofs.words.WordsIterator.next.Goals as goal

pub returns-then-end-rest-clause-steps : goal.returns-then-end-rest-clause-steps
returns-then-end-rest-clause-steps c =
    words_shown _ _ _ c.self.view_is c.in_ok-rest.was ∙ words_at c.in_ok-rest.rest.now c.first_place-end.result c.first_place-end.ensures.value c.if-end-rest.true

pub returns-then-end-rest-clause-goes : goal.returns-then-end-rest-clause-goes
returns-then-end-rest-clause-goes c =
    rw (words_shown _ _ _ c.self.view_is c.in_ok-rest.was ∙ words_at c.in_ok-rest.rest.now c.first_place-end.result c.first_place-end.ensures.value c.if-end-rest.true)
    (search rules)

pub returns-else-end-rest-clause-steps : goal.returns-else-end-rest-clause-steps
returns-else-end-rest-clause-steps c =
    words_shown _ _ _ c.self.view_is c.in_ok-rest.was ∙ words_end c.in_ok-rest.rest.now c.first_place-end.result c.first_place-end.ensures.value c.if-end-rest.false

pub returns-else-end-rest-clause-goes : goal.returns-else-end-rest-clause-goes
returns-else-end-rest-clause-goes c =
    rw (words_shown _ _ _ c.self.view_is c.in_ok-rest.was ∙ words_end c.in_ok-rest.rest.now c.first_place-end.result c.first_place-end.ensures.value c.if-end-rest.false)
    (search rules)
