-- Beginnings of one list, and of the lists that journals tell.
use Rattle.judge_fronts.proofs.Names.{arith, at_place, drop, IsPrefix, IsPrefix-append, IsPrefix-self, Journal, length, List, list_told, None, Note, Option, refl, Some, subst, sym, take, take-append-drop, with_last, ℕ, [], ◌++◌, ◌-◌, ◌∙◌, ◌∷◌, ◌≡◌, ◌≤◌}

-- of two beginnings of one list the shorter is the beginning of the longer
shorter_first : {A : Type 0} (front other rest more : List A) → front ++ rest ≡ other ++ more → length front ≤ length other → IsPrefix front other
shorter_first [] other rest more same few = (other, refl)
shorter_first (item ∷ front) [] rest more same few = absurd (omega (arith, few))
shorter_first (item ∷ front) (first ∷ other) rest more same few =
    let fewer : front ++ rest ≡ other ++ more = cc in
    let one : first ≡ item = cc in
    let found = shorter_first front other rest more fewer (omega (arith, few)) in
    let tail : other ≡ front ++ found.0 = found.1 in
    (found.0, (cc))

pub IsPrefix-shorter : {A : Type 0} (front other whole : List A) → IsPrefix front whole → IsPrefix other whole → length front ≤ length other → IsPrefix front other
IsPrefix-shorter front other whole one two few = shorter_first front other one.0 two.0 (sym one.1 ∙ two.1) few

one_more : {A : Type 0} (front whole : List A) (more : Option A) → IsPrefix front whole → IsPrefix front (with_last whole more)
one_more front whole None begins = begins
one_more front whole (Some item) begins = IsPrefix-append whole front (item ∷ []) begins

-- what was told is the beginning of what is told later
pub told_first : {T A : Type 0} (says : Note T → Option A) (later front : Journal T) → IsPrefix (list_told says front) (list_told says (later ++ front))
told_first says [] front = IsPrefix-self (list_told says front)
told_first says (note ∷ later) front = one_more (list_told says front) (list_told says (later ++ front)) (says note) (told_first says later front)

-- and what was told up to a line
pub told_to_line : {T A : Type 0} (says : Note T → Option A) (line : ℕ) (journal : Journal T) → IsPrefix (list_told says (at_place line journal)) (list_told says journal)
told_to_line says line journal =
    let count = length journal - line in
    subst (λ (all : Journal _). IsPrefix (list_told says (drop count journal)) (list_told says all)) (take-append-drop count journal)
    (told_first says (take count journal) (drop count journal))
