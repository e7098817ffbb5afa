-- At most one job of a core is out: from the turn that polls it until that poll is settled.
use Rattle.base_words.proofs.Words.{EachNote, inl, inr, IsTurnOf, JobId, jobs_out, Journal, List, MayFollow, MayStand, names_but, Note, poll_settled, refl, same_Some, Some, subst, Terms, true, ℕ, [], ◌∷◌, ◌≡◌, ◌⊎◌}
use Rattle.base_words.specs.declared.note.Note.TheVariants.{Pick, Start, Resume, Yield, Park, Stayed, Done}
use Rattle.base_words.specs.Clauses.{queue_just_picked}
use Rattle.base_words.proofs.NameLemmas.{among, same_as_itself}

-- no name, or one
abbrev pub IsAtMostOne : List JobId → Type 0
IsAtMostOne names = (names ≡ []) ⊎ ((name : JobId) × (names ≡ name ∷ []))

-- the job of a settled poll was the one that was out
pub alone_out : {T : Type 0} (name : JobId) (before : Journal T) → jobs_out before ≡ name ∷ [] → among name (jobs_out before) ≡ true
alone_out name before alone = rw (alone, same_as_itself name)

-- where nobody is out, a poll leaves the one that it polls
pub jobs_out-start : {T : Type 0} (name : JobId) (before : Journal T) → jobs_out before ≡ [] → jobs_out (Start name ∷ before) ≡ name ∷ []
jobs_out-start name before nobody = rw nobody

-- and so does a later one
pub jobs_out-resume : {T : Type 0} (name : JobId) (before : Journal T) → jobs_out before ≡ [] → jobs_out (Resume name ∷ before) ≡ name ∷ []
jobs_out-resume name before nobody = rw nobody

-- a settled poll leaves nobody
pub names_but-alone : {T : Type 0} (name : JobId) (before : Journal T) → jobs_out before ≡ name ∷ [] → names_but name (jobs_out before) ≡ []
names_but-alone name before alone = rw (alone, same_as_itself name)

-- whether its job yields
pub jobs_out-yield : {T : Type 0} (name : JobId) (time : ℕ) (before : Journal T) → jobs_out before ≡ name ∷ [] → jobs_out (Yield name time ∷ before) ≡ []
jobs_out-yield name time before alone = names_but-alone name before alone

-- or is parked
pub jobs_out-park : {T : Type 0} (name : JobId) (time : ℕ) (before : Journal T) → jobs_out before ≡ name ∷ [] → jobs_out (Park name time ∷ before) ≡ []
jobs_out-park name time before alone = names_but-alone name before alone

-- or stays in its line
pub jobs_out-stayed : {T : Type 0} (name : JobId) (time : ℕ) (before : Journal T) → jobs_out before ≡ name ∷ [] → jobs_out (Stayed name time ∷ before) ≡ []
jobs_out-stayed name time before alone = names_but-alone name before alone

-- or is done
pub jobs_out-done : {T : Type 0} (name : JobId) (time : ℕ) (value : T) (before : Journal T) → jobs_out before ≡ name ∷ [] →
    jobs_out (Done name time value ∷ before) ≡ []
jobs_out-done name time value before alone = names_but-alone name before alone

-- the job of a poll is the one that was settled
same_poll : {T : Type 0} (name : JobId) (time : ℕ) (before : Journal T) (poll : JobId × ℕ) → Some (name, time) ≡ Some poll → jobs_out before ≡ name ∷ [] → jobs_out before ≡ poll.0 ∷ []
same_poll name time before poll settles alone =
    let same : ◌≡◌ {A = JobId × ℕ} (name, time) poll = same_Some (name, time) poll settles in
    subst (λ one. jobs_out before ≡ one.0 ∷ []) same alone

module _ {T : Type 0} (terms : Terms) where
  -- a note that settles a poll is of the job that is out
  pub alone_settled : (note : Note T) (before : Journal T) (poll : JobId × ℕ) → MayFollow terms note before → poll_settled note ≡ Some poll → jobs_out before ≡ poll.0 ∷ []
  alone_settled (Yield name time) before poll law settles = same_poll name time before poll settles law
  alone_settled (Park name time) before poll law settles = same_poll name time before poll settles law.0
  alone_settled (Stayed name time) before poll law settles = same_poll name time before poll settles law.0
  alone_settled (Done name time value) before poll law settles = same_poll name time before poll settles law
  alone_settled _ before poll law settles = cc

  -- behind a pick nobody is out
  pub nobody_out : (before : Journal T) → EachNote (MayStand terms) before → (queue : ℕ) → queue_just_picked before ≡ Some queue → jobs_out before ≡ []
  nobody_out [] notes queue picked = cc
  nobody_out (Pick other runtime ∷ before) notes queue picked = notes.0.may_follow.right.eligible.nobody_out
  nobody_out (_ ∷ before) notes queue picked = cc

  -- nor where a turn is taken or goes on
  pub nobody_at_turn : (before : Journal T) → EachNote (MayStand terms) before → (name : JobId) (queue : ℕ) → IsTurnOf terms.burst name queue before → jobs_out before ≡ []
  nobody_at_turn before notes name queue turn = elim turn.due [ inl picked ↦ nobody_out before notes queue picked | inr goes ↦ goes.nobody_out ]

  -- the jobs that are out are none or one
  pub jobs_out-one : (journal : Journal T) → EachNote (MayStand terms) journal → IsAtMostOne (jobs_out journal)
  jobs_out-one [] notes = inl refl
  jobs_out-one (note ∷ before) notes = by_note note notes.0.may_follow (jobs_out-one before notes.1)
    where
      by_note : (note : Note T) → MayFollow terms note before → IsAtMostOne (jobs_out before) → IsAtMostOne (jobs_out (note ∷ before))
      by_note (Start name) law one = inr (name, jobs_out-start name before (nobody_at_turn before notes.1 name law.0 law.1))
      by_note (Resume name) law one = inr (name, jobs_out-resume name before (nobody_at_turn before notes.1 name law.0 law.1))
      by_note (Yield name time) law one = inl (names_but-alone name before law)
      by_note (Park name time) law one = inl (names_but-alone name before law.0)
      by_note (Stayed name time) law one = inl (names_but-alone name before law.0)
      by_note (Done name time value) law one = inl (names_but-alone name before law)
      by_note _ law one = one
