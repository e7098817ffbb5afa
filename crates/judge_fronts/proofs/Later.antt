-- What journals tell that go on: as much as before, and maybe more.
use Rattle.judge_fronts.proofs.Names.{arith, at_place, drop, EachNote, first_under, first_under-stays, grows, is_some, JobId, Journal, length, list_told, None, Note, Option, refl, Some, subst, sym, take, take-append-drop, true, true≢false}
use Rattle.judge_fronts.proofs.Names.{ap, ℕ, [], ◌++◌, ◌-◌, ◌∙◌, ◌∷◌, ◌≡◌, ◌≤◌}

module _ {T : Type 0} where
  -- what holds of each note of the whole holds of each note of the front
  pub each_of_front : (P : Note T → Journal T → Type 0) (later front : Journal T) → EachNote P (later ++ front) → EachNote P front
  each_of_front P [] front each = each
  each_of_front P (note ∷ later) front each = each_of_front P later front each.1

  -- a list that is told grows
  pub length-told : {A : Type 0} (says : Note T → Option A) (later front : Journal T) → length (list_told says front) ≤ length (list_told says (later ++ front))
  length-told says [] front = omega arith
  length-told says (note ∷ later) front =
      let rest = length-told says later front in
      let next = grows (list_told says (later ++ front)) (says note) in
      omega (arith, rest, next)

  module _ {V : Type 0} (says : Note T → Option (JobId × V)) (name : JobId) where
    -- what stands first under a name stays first
    pub first_stays : (later front : Journal T) (item : V) → first_under name (list_told says front) ≡ Some item →
        first_under name (list_told says (later ++ front)) ≡ Some item
    first_stays [] front item found = found
    first_stays (note ∷ later) front item found =
        first_under-stays name (list_told says (later ++ front)) (says note) item (first_stays later front item found)

    -- where there is something, it is the same later
    pub same_first : (later front : Journal T) → is_some (first_under name (list_told says front)) ≡ true →
        first_under name (list_told says (later ++ front)) ≡ first_under name (list_told says front)
    same_first later front some = by_first (first_under name (list_told says front)) refl some
      where
        by_first : (found : Option V) → first_under name (list_told says front) ≡ found → is_some found ≡ true →
            first_under name (list_told says (later ++ front)) ≡ first_under name (list_told says front)
        by_first None is there = absurd (true≢false (sym there))
        by_first (Some item) is there = first_stays later front item is ∙ sym is

    -- what the first notes tell, the journal tells
    pub told_by_place : (place : ℕ) (journal : Journal T) → is_some (first_under name (list_told says (at_place place journal))) ≡ true →
        is_some (first_under name (list_told says journal)) ≡ true
    told_by_place place journal there =
        let count = length journal - place in
        let same = same_first (take count journal) (drop count journal) there in
        subst (λ (all : Journal T). is_some (first_under name (list_told says all)) ≡ true) (take-append-drop count journal) (ap is_some same ∙ there)
