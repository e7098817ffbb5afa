-- Two queues that keep work stay near each other, since both stay near the floor.
use Rattle.base_words.proofs.Words.{ap, arith, Bool, brings_work, charge, charge_noted, charge_of, cond, EachNote, eqb-true, false, floor, gained, greatest_charge, has_bursts, has_work, inl, inr, is_number, IsTurnOf, JobId, Journal}
use Rattle.base_words.proofs.Words.{KeepsWork, MayFollow, MayStand, None, not, Note, Option, or_else, place_noted, poll_charged, poll_settled, queue_begun_last, queue_in_turn, queue_of, queue_out, refl, same_Some, shares, Some, sym, Terms}
use Rattle.base_words.proofs.Words.{true, turn_charged, turn_told, virtual_runtime, ℕ, [], ◌&&◌, ◌++◌, ◌+◌, ◌==◌, ◌∙◌, ◌∷◌, ◌≡◌, ◌≤◌, ◌⊎◌}
use Rattle.base_words.specs.declared.note.Note.TheVariants.{Pick, Start, Resume, Yield, Park, Stayed, Done, Turned}
use Rattle.base_words.specs.Picks.{queue_just_picked}
use Rattle.base_words.proofs.Counts.{queue_out-alone, queue_out-stays}
use Rattle.base_words.proofs.NameLemmas.{number_told}
use Rattle.base_words.proofs.JobsOut.{alone_settled, jobs_out-start, jobs_out-resume, names_but-alone, nobody_at_turn}
use Rattle.base_words.proofs.Known.{known_of, first_in_line}
use Rattle.base_words.proofs.OpenTurns.{none_either}
use Rattle.base_words.proofs.PicksNeverFall.{floor_below}
use Rattle.base_words.proofs.RuntimeBound.{place_noted-bounded, poll_in_turn}

-- each queue is near the floor, and the one that was picked, or whose job is out or turn open, is at it or below
pub record IsNearFloor {T : Type 0} (burst : ℕ) (journal : Journal T) : Type 0 where
  pub near : (queue : ℕ) → virtual_runtime burst queue journal ≤ floor journal + greatest_charge burst queue journal
  pub picked : (queue : ℕ) → queue_just_picked journal ≡ Some queue → virtual_runtime burst queue journal ≤ floor journal
  pub outside : (queue : ℕ) → queue_out journal ≡ Some queue → virtual_runtime burst queue journal ≤ floor journal
  pub turning : (queue : ℕ) → queue_in_turn burst journal ≡ Some queue → virtual_runtime burst queue journal ≤ floor journal

module _ {T : Type 0} (terms : Terms) (before : Journal T) (notes : EachNote (MayStand terms) before) (near : IsNearFloor terms.burst before) where
  -- the queue whose turn a note ends was at the floor or below
  turn_ended_low : (queue : ℕ) (note : Note T) → MayFollow terms note before → (charge_of queue (turn_charged terms.burst (turn_told note)) before ≡ 0) ⊎ (virtual_runtime terms.burst queue before ≤ floor before)
  turn_ended_low queue (Turned other time) law = by_form (has_bursts terms.burst)
    where
      by_test : (test : Bool) → (queue == other) ≡ test → (cond test (charge time (shares queue before)) 0 ≡ 0) ⊎ (virtual_runtime terms.burst queue before ≤ floor before)
      by_test false apart = inl refl
      by_test true same = inr (near.turning queue (law.in_turn ∙ ap Some (sym (eqb-true queue other same))))

      by_form : (form : Bool) → (charge_of queue (cond form (Some (Some other, time)) None) before ≡ 0) ⊎ (virtual_runtime terms.burst queue before ≤ floor before)
      by_form true = by_test (queue == other) refl
      by_form false = inl refl
  turn_ended_low queue _ law = inl refl

  -- so was that of a poll that is settled
  poll_settled_low : (queue : ℕ) (note : Note T) → MayFollow terms note before → (poll : Option (JobId × ℕ)) → poll_settled note ≡ poll →
      (charge_of queue (poll_charged terms.burst poll before) before ≡ 0) ⊎ (virtual_runtime terms.burst queue before ≤ floor before)
  poll_settled_low queue note law None settles = inl refl
  poll_settled_low queue note law (Some poll) settles = by_form (has_bursts terms.burst)
    where
      by_test : (test : Bool) → is_number queue (queue_of poll.0 before) ≡ test →
          (cond test (charge poll.1 (shares queue before)) 0 ≡ 0) ⊎ (virtual_runtime terms.burst queue before ≤ floor before)
      by_test false other = inl refl
      by_test true same = inr (near.outside queue (queue_out-alone poll.0 before (alone_settled terms note before poll law settles) ∙ number_told queue (queue_of poll.0 before) same))

      by_form : (form : Bool) → (charge_of queue (cond form None (Some (queue_of poll.0 before, poll.1))) before ≡ 0) ⊎ (virtual_runtime terms.burst queue before ≤ floor before)
      by_form true = inl refl
      by_form false = by_test (is_number queue (queue_of poll.0 before)) refl

  -- only a queue at the floor or below is charged
  charged_at_floor : (queue : ℕ) (note : Note T) → MayFollow terms note before → (charge_noted terms.burst queue note before ≡ 0) ⊎ (virtual_runtime terms.burst queue before ≤ floor before)
  charged_at_floor queue note law = by_turn (turn_charged terms.burst (turn_told note)) (turn_ended_low queue note law)
    where
      by_turn : (turn : Option (Option ℕ × ℕ)) → (charge_of queue turn before ≡ 0) ⊎ (virtual_runtime terms.burst queue before ≤ floor before) →
          (charge_of queue (or_else turn (poll_charged terms.burst (poll_settled note) before)) before ≡ 0) ⊎ (virtual_runtime terms.burst queue before ≤ floor before)
      by_turn (Some turn) low = low
      by_turn None low = poll_settled_low queue note law (poll_settled note) refl

  -- each queue stays near
  near_after : (note : Note T) → MayFollow terms note before → (queue : ℕ) → virtual_runtime terms.burst queue (note ∷ before) ≤ floor (note ∷ before) + greatest_charge terms.burst queue (note ∷ before)
  near_after note law queue =
      let was = near.near queue in
      let placed = place_noted-bounded terms queue note before in
      elim (charged_at_floor queue note law) [ inl free ↦ omega arith | inr low ↦ omega arith ]

  -- the queue that is picked is at the floor
  picked_after : (note : Note T) → MayFollow terms note before → (queue : ℕ) → queue_just_picked (note ∷ before) ≡ Some queue → virtual_runtime terms.burst queue (note ∷ before) ≤ floor (note ∷ before)
  picked_after (Pick other runtime) law queue picked =
      let one : other ≡ queue = same_Some other queue picked in
      let at : runtime ≡ virtual_runtime terms.burst queue before = law.right.at ∙ ap (λ which. virtual_runtime terms.burst which before) one in
      omega arith
  picked_after _ law queue picked = cc

  -- the queue of a job that is polled was picked, or its turn goes on
  turn_at_floor : (name : JobId) (picked queue : ℕ) → IsTurnOf terms.burst name picked before → queue_of name before ≡ Some queue → virtual_runtime terms.burst queue before ≤ floor before
  turn_at_floor name picked queue turn its =
      let at_pick = (known_of terms before notes).line_queue picked name (first_in_line terms name picked before turn) in
      let one : picked ≡ queue = same_Some picked queue (sym at_pick ∙ its) in
      elim turn.due [
        | inl picked_now ↦ near.picked queue (picked_now ∙ ap Some one)
        | inr goes ↦ near.turning queue (goes.in_turn ∙ ap Some one)
      ]

  -- a note that charges nothing leaves a queue at the floor there
  stays_at_floor : (note : Note T) (queue : ℕ) → charge_noted terms.burst queue note before ≡ 0 → virtual_runtime terms.burst queue before ≤ floor before → virtual_runtime terms.burst queue (note ∷ before) ≤ floor (note ∷ before)
  stays_at_floor note queue free low = let placed = place_noted-bounded terms queue note before in omega arith

  -- the queue of the job that is out is at the floor
  outside_after : (note : Note T) → MayFollow terms note before → (queue : ℕ) → queue_out (note ∷ before) ≡ Some queue → virtual_runtime terms.burst queue (note ∷ before) ≤ floor (note ∷ before)
  outside_after (Start name) law queue its =
      let nobody = nobody_at_turn terms before notes name law.0 law.1 in
      let same : queue_of name before ≡ Some queue = sym (queue_out-alone name (Start name ∷ before) (jobs_out-start name before nobody)) ∙ its in
      stays_at_floor (Start name) queue refl (turn_at_floor name law.0 queue law.1 same)
  outside_after (Resume name) law queue its =
      let nobody = nobody_at_turn terms before notes name law.0 law.1 in
      let same : queue_of name before ≡ Some queue = sym (queue_out-alone name (Resume name ∷ before) (jobs_out-resume name before nobody)) ∙ its in
      stays_at_floor (Resume name) queue refl (turn_at_floor name law.0 queue law.1 same)
  outside_after (Yield name time) law queue its =
      let none : queue_out (Yield name time ∷ before) ≡ None = rw (names_but-alone name before law) in
      let nobody : None ≡ Some queue = sym none ∙ its in
      cc
  outside_after (Park name time) law queue its =
      let none : queue_out (Park name time ∷ before) ≡ None = rw (names_but-alone name before law.0) in
      let nobody : None ≡ Some queue = sym none ∙ its in
      cc
  outside_after (Stayed name time) law queue its =
      let none : queue_out (Stayed name time ∷ before) ≡ None = rw (names_but-alone name before law.0) in
      let nobody : None ≡ Some queue = sym none ∙ its in
      cc
  outside_after (Done name time value) law queue its =
      let none : queue_out (Done name time value ∷ before) ≡ None = rw (names_but-alone name before law) in
      let nobody : None ≡ Some queue = sym none ∙ its in
      cc
  outside_after (Turned other time) law queue its =
      let none : queue_out (Turned other time ∷ before) ≡ None = rw law.nobody_out in
      let nobody : None ≡ Some queue = sym none ∙ its in
      cc
  outside_after note law queue its =
      stays_at_floor note queue refl (near.outside queue (sym (queue_out-stays terms note before law (known_of terms before notes)) ∙ its))

  -- a poll begins the turn of the pick, or goes on in the open one
  begun_at_floor : (form : Bool) (picked begun : Option ℕ) (queue : ℕ) → (queue_just_picked before ≡ picked) → (cond form begun None ≡ queue_in_turn terms.burst before) →
      cond form (or_else picked begun) None ≡ Some queue → virtual_runtime terms.burst queue before ≤ floor before
  begun_at_floor false picked begun queue at still its = cc
  begun_at_floor true (Some other) begun queue at still its = near.picked queue (at ∙ its)
  begun_at_floor true None begun queue at still its = near.turning queue (sym still ∙ its)

  -- a poll that is settled in an open turn leaves its queue there
  settled_in_turn : (note : Note T) (queue : ℕ) → queue_in_turn terms.burst before ≡ Some queue → turn_told note ≡ None →
      virtual_runtime terms.burst queue (note ∷ before) ≤ floor (note ∷ before)
  settled_in_turn note queue its goes_on = by_form (has_bursts terms.burst) refl
    where
      by_form : (form : Bool) → has_bursts terms.burst ≡ form → virtual_runtime terms.burst queue (note ∷ before) ≤ floor (note ∷ before)
      by_form false form = let nothing : None ≡ Some queue = rw form at its in cc
      by_form true form = stays_at_floor note queue (rw (goes_on, poll_in_turn terms.burst (poll_settled note) before form)) (near.turning queue its)

  -- the queue whose turn is open is at the floor
  turning_after : (note : Note T) → MayFollow terms note before → (queue : ℕ) → queue_in_turn terms.burst (note ∷ before) ≡ Some queue →
      virtual_runtime terms.burst queue (note ∷ before) ≤ floor (note ∷ before)
  turning_after (Pick other runtime) law queue its = let nothing : None ≡ Some queue = sym (none_either (has_bursts terms.burst)) ∙ its in cc
  turning_after (Turned other time) law queue its = let nothing : None ≡ Some queue = sym (none_either (has_bursts terms.burst)) ∙ its in cc
  turning_after (Start name) law queue its =
      stays_at_floor (Start name) queue refl (begun_at_floor (has_bursts terms.burst) (queue_just_picked before) (queue_begun_last before) queue refl refl its)
  turning_after (Resume name) law queue its =
      stays_at_floor (Resume name) queue refl (begun_at_floor (has_bursts terms.burst) (queue_just_picked before) (queue_begun_last before) queue refl refl its)
  turning_after (Yield name time) law queue its = settled_in_turn (Yield name time) queue its refl
  turning_after (Park name time) law queue its = settled_in_turn (Park name time) queue its refl
  turning_after (Stayed name time) law queue its = settled_in_turn (Stayed name time) queue its refl
  turning_after (Done name time value) law queue its = settled_in_turn (Done name time value) queue its refl
  turning_after note law queue its = stays_at_floor note queue refl (near.turning queue its)

-- it holds of each lawful journal
pub near_floor : {T : Type 0} (terms : Terms) (journal : Journal T) → EachNote (MayStand terms) journal → IsNearFloor terms.burst journal
near_floor terms [] notes = record { near = λ queue. omega arith; picked = λ queue picked. cc; outside = λ queue its. cc; turning = λ queue its. let nothing : None ≡ Some queue = sym (none_either (has_bursts terms.burst)) ∙ its in cc }
near_floor terms (note ∷ before) notes =
    let was = near_floor terms before notes.1 in
    record {
      near = near_after terms before notes.1 was note notes.0.may_follow;
      picked = picked_after terms before notes.1 was note notes.0.may_follow;
      outside = outside_after terms before notes.1 was note notes.0.may_follow;
      turning = turning_after terms before notes.1 was note notes.0.may_follow;
    }

-- no queue stands further above the floor than its greatest charge
pub runtime_is_near_floor : {T : Type 0} (terms : Terms) (queue : ℕ) (journal : Journal T) → EachNote (MayStand terms) journal →
    virtual_runtime terms.burst queue journal ≤ floor journal + greatest_charge terms.burst queue journal
runtime_is_near_floor terms queue journal notes = (near_floor terms journal notes).near queue

module _ {T : Type 0} (burst : ℕ) (earlier : Journal T) where
  -- the queue has work now
  work_now : (queue : ℕ) (later : Journal T) → KeepsWork queue later earlier → has_work queue (later ++ earlier) ≡ true
  work_now queue [] keeps = keeps
  work_now queue (note ∷ later) keeps = keeps.0

  -- it had work at the end of the earlier notes
  work_then : (queue : ℕ) (later : Journal T) → KeepsWork queue later earlier → has_work queue earlier ≡ true
  work_then queue [] keeps = keeps
  work_then queue (note ∷ later) keeps = work_then queue later keeps.1

  -- the earlier notes may stand where they stand
  notes_then : (P : Note T → Journal T → Type 0) (later : Journal T) → EachNote P (later ++ earlier) → EachNote P earlier
  notes_then P [] notes = notes
  notes_then P (note ∷ later) notes = notes_then P later notes.1

  -- the greatest charge doesn't fall
  greatest-grows : (queue : ℕ) (later : Journal T) → greatest_charge burst queue earlier ≤ greatest_charge burst queue (later ++ earlier)
  greatest-grows queue [] = omega arith
  greatest-grows queue (note ∷ later) = let grows = greatest-grows queue later in omega arith

  -- a queue with work isn't placed
  not_placed : (queue : ℕ) (note : Note T) (before : Journal T) → has_work queue before ≡ true → place_noted queue note before ≡ 0
  not_placed queue note before work = rw work (by_test (brings_work queue note before))
    where
      by_test : (test : Bool) → cond (test && not true) (floor before) 0 ≡ 0
      by_test true = refl
      by_test false = refl

  -- so it moves by its charges alone
  moved_by_charges : (queue : ℕ) (later : Journal T) → KeepsWork queue later earlier →
      virtual_runtime burst queue (later ++ earlier) ≡ virtual_runtime burst queue earlier + gained burst queue later earlier
  moved_by_charges queue [] keeps = omega arith
  moved_by_charges queue (note ∷ later) keeps =
      let was = moved_by_charges queue later keeps.1 in
      let still = not_placed queue note (later ++ earlier) (work_now queue later keeps.1) in
      omega arith

-- neither of two queues that keep work gains more than the other by more than the greatest charges of both
pub lag_is_bounded : {T : Type 0} (terms : Terms) (queue other : ℕ) (later earlier : Journal T) → EachNote (MayStand terms) (later ++ earlier) →
    KeepsWork queue later earlier → KeepsWork other later earlier →
    gained terms.burst queue later earlier ≤ gained terms.burst other later earlier + greatest_charge terms.burst queue (later ++ earlier) + greatest_charge terms.burst other (later ++ earlier)
lag_is_bounded terms queue other later earlier notes keeps other_keeps =
    let before = notes_then terms.burst earlier (MayStand terms) later notes in
    let moved = moved_by_charges terms.burst earlier queue later keeps in
    let other_moved = moved_by_charges terms.burst earlier other later other_keeps in
    let high = runtime_is_near_floor terms queue (later ++ earlier) notes in
    let low = floor_below terms other (later ++ earlier) notes (work_now terms.burst earlier other later other_keeps) in
    let other_high = runtime_is_near_floor terms other earlier before in
    let other_low = floor_below terms queue earlier before (work_then terms.burst earlier queue later keeps) in
    let grows = greatest-grows terms.burst earlier other later in
    omega arith
