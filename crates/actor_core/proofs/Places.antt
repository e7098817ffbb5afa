-- What holds at one place and at each other one.
use Rattle.actor_core.proofs.AgreementNames.{ChangesLine, ChangesParks, Line, Parks, QueuesView, eqb_tells, inl, inr, parked_of, subst, sym, waiting_of, ℕ, ◌≡◌}

-- it holds everywhere
pub everywhere : (P : ℕ → Type 0) (place : ℕ) → P place → ((other : ℕ) → (other ≡ place → ⊥) → P other) → (other : ℕ) → P other
everywhere P place here elsewhere other = elim (eqb_tells other place) [ inl same ↦ subst P (sym same.1) here | inr away ↦ elsewhere other away.1 ]

-- what holds of the lines as they were, and of the one that changed, holds of each line
pub each_line : {J : Type 0} {old new : QueuesView J} {queue : ℕ} {line : Line J} (P : ℕ → Line J → Type 0) → ChangesLine old new queue line → P queue line →
    ((other : ℕ) → P other (waiting_of other old)) → (other : ℕ) → P other (waiting_of other new)
each_line {new = new} {queue = queue} P changes here stayed =
    everywhere (λ at. P at (waiting_of at new)) queue (subst (P queue) (sym changes.changed) here) (λ other away. subst (P other) (sym (changes.others other away)) (stayed other))

-- and so it is with parked jobs
pub each_parks : {J : Type 0} {old new : QueuesView J} {queue : ℕ} {parks : Parks J} (P : ℕ → Parks J → Type 0) → ChangesParks old new queue parks → P queue parks →
    ((other : ℕ) → P other (parked_of other old)) → (other : ℕ) → P other (parked_of other new)
each_parks {new = new} {queue = queue} P changes here stayed =
    everywhere (λ at. P at (parked_of at new)) queue (subst (P queue) (sym changes.changed) here) (λ other away. subst (P other) (sym (changes.others other away)) (stayed other))
