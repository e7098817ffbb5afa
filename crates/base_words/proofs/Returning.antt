-- A queue that hands back, because it is closed or its core is: nobody enters it, and each pick of it is followed by a hand-back.
use Rattle.base_words.proofs.Words.{arith, Bool, closes, cond, core_mode, created_count, EachNote, entered_count, eqb-true, false, false_from_ne_true, inl, inr, is_hand_back, is_number, is_return, is_some, is_wake_kept, IsTrue, IsTurnOf}
use Rattle.base_words.proofs.Words.{JobId, Journal, leb-true, list_told, MayFollow, MayStand, Mode, nat_le, None, Note, number_if, Option, or_else, or_parts, parked, queue_created, queue_joined, queue_mode, queue_of, Reason}
use Rattle.base_words.proofs.Words.{reason_if_closed, reason_if_returning, refl, refusal, return_reason, return_reason_of, same_Some, Some, stays_in_line, sym, Terms, true, true≢false, ℕ, [], ◌&&◌, ◌+◌, ◌<◌, ◌==◌, ◌∙◌, ◌∷◌, ◌≡◌, ◌≤◌, ◌⊎◌}
use Rattle.base_words.specs.declared.note.Note.TheVariants.{Took, Created, QueueClosed, CoreClosed, Woken, Start, Resume, Park, Returned}
use Rattle.base_words.specs.declared.order.Mode.TheVariants.{Finish, Return}
use Rattle.base_words.specs.declared.order.Reason.TheVariants as why
use Rattle.base_words.specs.Picks.{queue_just_picked}
use Rattle.base_words.proofs.NameLemmas.{number_told}
use Rattle.base_words.proofs.ClosesRight.{created_open}
use Rattle.base_words.proofs.OpenTurns.{turn_of_pick}
use Rattle.base_words.proofs.Told.{grows}

-- the queue is closed in mode `Return`, or its core is
abbrev pub IsReturning : {T : Type 0} → ℕ → Journal T → Type 0
IsReturning queue journal = (queue_mode queue journal ≡ Some Return) ⊎ (core_mode journal ≡ Some Return)

-- nothing changes what is closed in mode `Return`
return_stays : (mode : Mode) → closes (Some Return) mode ≡ true → ⊥
return_stays Finish changes = cc
return_stays Return changes = cc

-- a queue in mode `Return` lets nobody in
refused_by_queue : (there : Bool) (returning : Option Reason) → cond there (or_else (reason_if_closed (Some Return) why.QueueClosed) returning) (Some why.NoQueue) ≡ None → ⊥
refused_by_queue true returning enters = cc
refused_by_queue false returning enters = cc

-- nor does a core
refused_by_core : (there : Bool) (mode : Option Mode) →
    cond there (or_else (reason_if_closed mode why.QueueClosed) (reason_if_returning (Some Return) why.CoreClosing)) (Some why.NoQueue) ≡ None → ⊥
refused_by_core true None enters = cc
refused_by_core true (Some mode) enters = cc
refused_by_core false mode enters = cc

-- a core in mode `Return` has a reason to hand back at each pick
reason_of_core : (mode : Option Mode) → or_else (reason_if_returning mode why.QueueReturned) (reason_if_returning (Some Return) why.CoreReturned) ≡ None → ⊥
reason_of_core None none = cc
reason_of_core (Some Finish) none = cc
reason_of_core (Some Return) none = cc

-- what is not there is `None`
none_from : (reason : Option Reason) → is_some reason ≡ false → reason ≡ None
none_from None none = refl
none_from (Some reason) none = cc

-- nobody enters a queue that hands back
pub nobody_enters : {T : Type 0} (queue : ℕ) (journal : Journal T) → IsReturning queue journal → refusal queue journal ≡ None → ⊥
nobody_enters queue journal (inl mode) enters =
    refused_by_queue (nat_le queue (created_count journal)) (reason_if_returning (core_mode journal) why.CoreClosing) (rw mode at enters)
nobody_enters queue journal (inr mode) enters = refused_by_core (nat_le queue (created_count journal)) (queue_mode queue journal) (rw mode at enters)

-- there is a reason to hand back
pub has_reason : {T : Type 0} (queue : ℕ) (journal : Journal T) → IsReturning queue journal → return_reason queue journal ≡ None → ⊥
has_reason queue journal (inl mode) none =
    let some : or_else (Some why.QueueReturned) (reason_if_returning (core_mode journal) why.CoreReturned) ≡ None = rw mode at none in
    cc
has_reason queue journal (inr mode) none = reason_of_core (queue_mode queue journal) (rw mode at none)

module _ {T : Type 0} (terms : Terms) where
  -- a queue in mode `Return` stays so
  queue_stays_returning : (queue : ℕ) (note : Note T) (before : Journal T) → MayFollow terms note before → queue_mode queue before ≡ Some Return →
      queue_mode queue (note ∷ before) ≡ Some Return
  queue_stays_returning queue (QueueClosed other mode) before law was = by_test (queue == other) refl
    where
      by_test : (test : Bool) → (queue == other) ≡ test → or_else (cond test (Some mode) None) (queue_mode queue before) ≡ Some Return
      by_test false apart = was
      by_test true same =
          let now : queue_mode other before ≡ Some Return = rw (eqb-true queue other same) at was in
          absurd (return_stays mode (rw now at law.1))
  queue_stays_returning queue _ before law was = was

  -- so does a core
  pub core_stays_returning : (note : Note T) (before : Journal T) → MayFollow terms note before → core_mode before ≡ Some Return → core_mode (note ∷ before) ≡ Some Return
  core_stays_returning (CoreClosed mode) before law was = absurd (return_stays mode (rw was at law))
  core_stays_returning _ before law was = was

  -- a queue that hands back goes on handing back
  pub returning-stays : (queue : ℕ) (note : Note T) (before : Journal T) → MayFollow terms note before → IsReturning queue before → IsReturning queue (note ∷ before)
  returning-stays queue note before law (inl mode) = inl (queue_stays_returning queue note before law mode)
  returning-stays queue note before law (inr mode) = inr (core_stays_returning note before law mode)

  -- no note brings a job into such a queue
  pub joins_nobody : (queue : ℕ) (note : Note T) (before : Journal T) → MayFollow terms note before → IsReturning queue before → is_number queue (queue_joined note) ≡ false
  joins_nobody queue (Took name into) before law returning = by_test (queue == into) refl
    where
      by_test : (test : Bool) → (queue == into) ≡ test → test ≡ false
      by_test false apart = refl
      by_test true same =
          let enters : refusal queue before ≡ None = rw (eqb-true queue into same) law.1 in
          absurd (nobody_enters queue before returning enters)
  joins_nobody queue _ before law returning = refl

  -- a note behind a pick of such a queue hands a job of it back
  pub hands_back : (queue : ℕ) (note : Note T) (before : Journal T) → MayStand terms note before → IsReturning queue before → queue_just_picked before ≡ Some queue →
      IsTrue (is_hand_back note)
  hands_back queue (Start name) before law returning picked = absurd (has_reason queue before returning (same_queue law.may_follow.0 law.may_follow.1 law.may_follow.2))
    where
      same_queue : (other : ℕ) → IsTurnOf terms.burst name other before → return_reason other before ≡ None → return_reason queue before ≡ None
      same_queue other turn none = let at_pick = turn_of_pick terms.burst name other before turn (rw picked) in let one : queue ≡ other = same_Some queue other (sym picked ∙ at_pick) in rw one none
  hands_back queue (Resume name) before law returning picked = absurd (has_reason queue before returning (same_queue law.may_follow.0 law.may_follow.1 law.may_follow.2))
    where
      same_queue : (other : ℕ) → IsTurnOf terms.burst name other before → return_reason other before ≡ None → return_reason queue before ≡ None
      same_queue other turn none = let at_pick = turn_of_pick terms.burst name other before turn (rw picked) in let one : queue ≡ other = same_Some queue other (sym picked ∙ at_pick) in rw one none
  hands_back queue (Returned name reason) before law returning picked = refl
  hands_back queue _ before law returning picked =
      let some : is_some (queue_just_picked before) ≡ true = rw picked in
      absurd (true≢false (sym some ∙ law.turn))

  -- who is parked now is of a queue that hands nothing back
  parking_nowhere : (queue : ℕ) (name : JobId) (before : Journal T) → stays_in_line name before ≡ false → IsReturning queue before → is_number queue (queue_of name before) ≡ false
  parking_nowhere queue name before parks returning = false_from_ne_true _ not_here
    where
      not_here : is_number queue (queue_of name before) ≡ true → ⊥
      not_here here =
          let its = number_told queue (queue_of name before) here in
          let keeps = (or_parts (is_wake_kept name before) (is_some (return_reason_of (queue_of name before) before)) parks).1 in
          let none : is_some (return_reason queue before) ≡ false = rw its at keeps in
          has_reason queue before returning (none_from (return_reason queue before) none)

  -- of a queue that hands back nobody is parked
  pub nobody_parked-returning : (queue : ℕ) (journal : Journal T) → EachNote (MayStand terms) journal → IsReturning queue journal → parked queue journal ≡ []
  nobody_parked-returning queue [] notes returning = refl
  nobody_parked-returning queue (note ∷ before) notes returning = by_note note notes.0.may_follow returning (nobody_parked-returning queue before notes.1)
    where
      by_note : (note : Note T) → MayFollow terms note before → IsReturning queue (note ∷ before) → (IsReturning queue before → parked queue before ≡ []) → parked queue (note ∷ before) ≡ []
      by_note (QueueClosed other mode) law returning was = by_test (queue == other) mode returning
        where
          by_test : (test : Bool) (mode : Mode) → (or_else (cond test (Some mode) None) (queue_mode queue before) ≡ Some Return) ⊎ (core_mode before ≡ Some Return) →
              cond (test && is_return mode) [] (parked queue before) ≡ []
          by_test true Return returning = refl
          by_test true Finish (inl queue_returns) = cc
          by_test true Finish (inr core_returns) = was (inr core_returns)
          by_test false mode returning = was returning
      by_note (CoreClosed Return) law returning was = refl
      by_note (CoreClosed Finish) law (inl queue_returns) was = was (inl queue_returns)
      by_note (CoreClosed Finish) law (inr core_returns) was = cc
      by_note (Woken name) law returning was = rw (was returning)
      by_note (Park name time) law returning was = rw (was returning, parking_nowhere queue name before law.1 returning)
      by_note note law returning was = was returning

  -- jobs entered only queues that there are
  pub entered_there : (queue : ℕ) (journal : Journal T) → EachNote (MayStand terms) journal → 0 < entered_count queue journal → queue ≤ created_count journal
  entered_there queue [] notes some = absurd (omega arith)
  entered_there queue (note ∷ before) notes some = by_note note notes.0 (entered_there queue before notes.1) some
    where
      more : (note : Note T) → created_count before ≤ created_count (note ∷ before)
      more note = grows (list_told (queue_created {T = T}) before) (queue_created note)

      by_note : (note : Note T) → MayStand terms note before → (0 < entered_count queue before → queue ≤ created_count before) →
          0 < entered_count queue before + number_if (is_number queue (queue_joined note)) → queue ≤ created_count (note ∷ before)
      by_note (Took name into) law was some = by_test (queue == into) refl some
        where
          there : (test : Bool) → cond test (or_else (reason_if_closed (queue_mode into before) why.QueueClosed) (reason_if_returning (core_mode before) why.CoreClosing)) (Some why.NoQueue) ≡ None → test ≡ true
          there true enters = refl
          there false enters = cc

          by_test : (test : Bool) → (queue == into) ≡ test → 0 < entered_count queue before + number_if test → queue ≤ created_count before
          by_test true same some = rw (eqb-true queue into same) (leb-true into (created_count before) (there _ law.may_follow.1))
          by_test false apart some = was (omega arith)
      by_note note law was some = omega (arith, more note, was (omega arith))

  -- a core that hands back creates no queue
  pub created_count-returning : (note : Note T) (before : Journal T) → EachNote (MayStand terms) before → MayStand terms note before → core_mode before ≡ Some Return →
      created_count (note ∷ before) ≡ created_count before
  created_count-returning (Created queue weight) before notes law mode =
      let open_core = created_open terms queue weight before notes law.effect in
      cc
  created_count-returning _ before notes law mode = refl
