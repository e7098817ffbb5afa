-- How long the lists are that a journal tells.
use Rattle.base_words.proofs.Words.{ap, arith, Bool, cond, false, is_some, length, List, None, number_if, Option, refl, Some, sym, true, with_all, with_last, [], ◌++◌, ◌+◌, ◌∙◌, ◌∷◌, ◌≡◌, ◌≤◌}
use Rattle.std.proofs.lemmas.List.{append-nil, length-append}

-- one more, if one comes
pub length-with_last : {A : Type 0} (items : List A) (more : Option A) → length (with_last items more) ≡ length items + number_if (is_some more)
length-with_last items None = omega arith
length-with_last items (Some item) = omega (arith, length-append items (item ∷ []))

-- never fewer
pub grows : {A : Type 0} (items : List A) (more : Option A) → length items ≤ length (with_last items more)
grows items None = omega arith
grows items (Some item) = omega (arith, length-append items (item ∷ []))

-- one more, where the test passes
pub one_longer : {A : Type 0} (items : List A) (item : A) (test : Bool) → test ≡ true →
    length (with_last items (cond test (Some item) None)) ≡ length items + 1
one_longer items item true passed = length-append items (item ∷ [])
one_longer items item false passed = cc

-- one more, as the test says
pub length-with_last_if : {A : Type 0} (items : List A) (item : A) (test : Bool) →
    length (with_last items (cond test (Some item) None)) ≡ length items + number_if test
length-with_last_if items item true = length-append items (item ∷ [])
length-with_last_if items item false = omega arith

-- several more at the end
pub with_all-append : {A : Type 0} (items more : List A) → with_all items more ≡ items ++ more
with_all-append items [] = sym (append-nil items)
with_all-append items (first ∷ rest) = refl

-- as many more as come
pub length-with_all : {A : Type 0} (items more : List A) → length (with_all items more) ≡ length items + length more
length-with_all items more = ap length (with_all-append items more) ∙ length-append items more
