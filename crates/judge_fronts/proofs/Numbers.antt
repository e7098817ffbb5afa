-- The names that are sent on a link are numbered 1, 2, 3, .. in sound journals.
use Rattle.judge_fronts.proofs.Names.{accepted_orders, among, ap, arith, Assembly, Bool, cond, EachNote, eqb-true, false, JobId, Journal, length, length-map, List, map-append, names_of, None, Note, one_name, Order, order_sent, refl, same_name}
use Rattle.judge_fronts.proofs.Names.{Some, StandsInOrder, subst, suc, sym, true, true≢false, with_last, ℕ, [], ◌++◌, ◌+◌, ◌==◌, ◌∷◌, ◌≡◌, ◌≤◌, ◌||◌}
use Rattle.base_words.specs.declared.note.Note.TheVariants.{Sent}

-- each has the number behind that of the one before it
abbrev pub AreNumbered : ℕ → List JobId → Type 0
AreNumbered from [] = Unit {0}
AreNumbered from (name ∷ names) = (name.number ≡ from + 1) × AreNumbered (from + 1) names

numbered_more : (from : ℕ) (names : List JobId) (name : JobId) → AreNumbered from names → name.number ≡ (from + length names) + 1 → AreNumbered from (names ++ name ∷ [])
numbered_more from [] name are next = (omega (arith, next), tt)
numbered_more from (first ∷ names) name are next = (are.0, numbered_more (from + 1) names name are.1 (omega (arith, next)))

-- one that is there has no number beyond their count
pub numbered_among : (from : ℕ) (names : List JobId) (name : JobId) → AreNumbered from names → among name names ≡ true → name.number ≤ from + length names
numbered_among from [] name are there = absurd (true≢false (sym there))
numbered_among from (first ∷ names) name are there = by_test (same_name name first) refl there (numbered_among (from + 1) names name are.1)
  where
    by_test : (test : Bool) → same_name name first ≡ test → (test || among name names) ≡ true →
        (among name names ≡ true → name.number ≤ (from + 1) + length names) → name.number ≤ from + suc (length names)
    by_test true same there rest =
        let one = ap (λ (other : JobId). other.number) (one_name name first same) in
        omega (arith, are.0, one)
    by_test false apart there rest = let few = rest there in omega (arith, few)

-- one that stands behind others has the number behind their count
pub numbered_at : (from : ℕ) (front : List JobId) (name : JobId) (rest : List JobId) → AreNumbered from (front ++ name ∷ rest) → name.number ≡ (from + length front) + 1
numbered_at from [] name rest are = omega (arith, are.0)
numbered_at from (first ∷ front) name rest are = let at = numbered_at (from + 1) front name rest are.1 in omega (arith, at)

pub numbered_front : (from : ℕ) (front rest : List JobId) → AreNumbered from (front ++ rest) → AreNumbered from front
numbered_front from [] rest are = tt
numbered_front from (name ∷ front) rest are = (are.0, numbered_front (from + 1) front rest are.1)

-- what an actor sent to a core is numbered, where its notes stand in order
pub sent_numbered : (assembly : Assembly ℕ) (core : ℕ) (journal : Journal ℕ) → EachNote (StandsInOrder assembly) journal → AreNumbered 0 (names_of (accepted_orders core journal))
sent_numbered assembly core [] right = tt
sent_numbered assembly core (note ∷ before) right = by_note note right.0 (sent_numbered assembly core before right.1)
  where
    by_note : (note : Note ℕ) → StandsInOrder assembly note before → AreNumbered 0 (names_of (accepted_orders core before)) →
        AreNumbered 0 (names_of (with_last (accepted_orders core before) (order_sent core note)))
    by_note (Sent name order) law are = by_test (name.to == core) refl
      where
        by_test : (test : Bool) → (name.to == core) ≡ test → AreNumbered 0 (names_of (with_last (accepted_orders core before) (cond test (Some (name, order)) None)))
        by_test false apart = are
        by_test true same =
            let sent = accepted_orders core before in
            let count = length-map sent (λ (entry : JobId × Order (Unit {0})). entry.0) in
            let next : name.number ≡ length sent + 1 =
            subst (λ (receiver : ℕ). name.number ≡ length (accepted_orders receiver before) + 1) (eqb-true name.to core same) law in
            subst (AreNumbered 0) (sym (map-append (λ (entry : JobId × Order (Unit {0})). entry.0) sent ((name, order) ∷ [])))
            (numbered_more 0 (names_of sent) name are (omega (arith, next, count)))
    by_note _ law are = are
