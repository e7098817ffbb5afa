-- A turn costs less than 2^50, and each was picked: so after n turns a virtual runtime is at most n * 2^50.
use Rattle.base_words.proofs.Words.{ap, arith, Bool, brings_work, charge, charge_noted, charge_of, clamped, cond, div-lt_iff_lt-mul, EachNote, false, floor, has_bursts, has_work, InRange, is_number, is_some, JobId, jobs_out, Journal}
use Rattle.base_words.proofs.Words.{length, MayFollow, MayStand, None, not, Note, number_if, Option, or_else, place_noted, poll_charged, poll_settled, queue_begun_last, queue_just_picked, queue_of, refl, runtime_picked, shares, Some, Terms}
use Rattle.base_words.proofs.Words.{true, turn_charged, turn_told, turns, unwrap_or, virtual_runtime, ℕ, [], ◌&&◌, ◌*◌, ◌+◌, ◌-◌, ◌<◌, ◌==◌, ◌∷◌, ◌≡◌, ◌≤◌}
use Rattle.std.proofs.Common.{◌^◌}
use Rattle.base_words.specs.declared.note.Note.TheVariants.{Created, SharesSet, Pick, Start, Resume, Yield, Park, Stayed, Done, Turned}
use Rattle.base_words.specs.Clauses.{queue_just_picked}
use Rattle.base_words.specs.Lawful.{takes_turn}
use Rattle.base_words.proofs.JobsOut.{nobody_at_turn, jobs_out-start, jobs_out-resume, names_but-alone}

-- whether a note ends a turn, where each settled poll does, and where a note of its own does
abbrev pub ends_turn : {T : Type 0} → Bool → Note T → Bool
ends_turn true note = is_some (turn_told note)
ends_turn false note = is_some (poll_settled note)

-- how many turns have ended
abbrev pub turns_ended : {T : Type 0} → Bool → Journal T → ℕ
turns_ended form [] = 0
turns_ended form (note ∷ before) = turns_ended form before + number_if (ends_turn form note)

-- the first of two or the second is there
one_of_two : (first second : Option ℕ) → number_if (is_some (or_else first second)) ≤ number_if (is_some first) + number_if (is_some second)
one_of_two None second = omega arith
one_of_two (Some queue) second = omega arith

-- a poll costs less than 2^50 at any shares
pub charge_below : (time weight : ℕ) → 1 ≤ weight → charge time weight < 2 ^ 50
charge_below time weight positive =
    (div-lt_iff_lt-mul {k = weight} {x = clamped time * 1000 + (weight - 1)} {y = 2 ^ 50} positive).1 (omega arith)

-- so does one that is charged or not
charge_if-bounded : (test : Bool) (time weight : ℕ) → InRange weight → cond test (charge time weight) 0 ≤ 1 * 2 ^ 50
charge_if-bounded true time weight range = let below = charge_below time weight range.positive in omega arith
charge_if-bounded false time weight range = omega arith

-- where notes of their own end turns, no poll is charged
pub poll_in_turn : {T : Type 0} (burst : ℕ) (poll : Option (JobId × ℕ)) (before : Journal T) → has_bursts burst ≡ true → poll_charged burst poll before ≡ None
poll_in_turn burst None before form = refl
poll_in_turn burst (Some poll) before form = rw form

-- where each settled poll ends its turn, no note of its own is charged
pub turn_of_polls : (burst : ℕ) (turn : Option (ℕ × ℕ)) → has_bursts burst ≡ false → turn_charged burst turn ≡ None
turn_of_polls burst None form = refl
turn_of_polls burst (Some turn) form = rw form

module _ {T : Type 0} (terms : Terms) where
  -- the shares of a queue are within their range
  shares-in_range_next : (queue : ℕ) (note : Note T) (before : Journal T) → MayFollow terms note before → InRange (shares queue before) →
      InRange (shares queue (note ∷ before))
  shares-in_range_next queue (Created other weight) before law was = by_test (queue == other)
    where
      by_test : (test : Bool) → InRange (unwrap_or (cond test (Some weight) None) (shares queue before))
      by_test true = law.shares
      by_test false = was
  shares-in_range_next queue (SharesSet other weight) before law was = by_test (queue == other)
    where
      by_test : (test : Bool) → InRange (unwrap_or (cond test (Some weight) None) (shares queue before))
      by_test true = law.1
      by_test false = was
  shares-in_range_next queue _ before law was = was

  -- in each lawful journal
  pub shares-in_range : (queue : ℕ) (journal : Journal T) → EachNote (MayStand terms) journal → InRange (shares queue journal)
  shares-in_range queue [] notes = record { positive = omega arith; bounded = omega arith }
  shares-in_range queue (note ∷ before) notes = shares-in_range_next queue note before notes.0.may_follow (shares-in_range queue before notes.1)

  -- a note costs a queue at most 2^50, and nothing if it ends no turn
  charge_noted-bounded : (queue : ℕ) (note : Note T) (before : Journal T) → InRange (shares queue before) →
      charge_noted terms.burst queue note before ≤ number_if (ends_turn (has_bursts terms.burst) note) * 2 ^ 50
  charge_noted-bounded queue note before range = by_form (has_bursts terms.burst) refl
    where
      by_turn : (turn : Option (ℕ × ℕ)) → has_bursts terms.burst ≡ true → charge_of queue (or_else (turn_charged terms.burst turn) None) before ≤ number_if (is_some turn) * 2 ^ 50
      by_turn None form = omega arith
      by_turn (Some turn) form = rw form (charge_if-bounded (queue == turn.0) turn.1 (shares queue before) range)

      by_poll : (poll : Option (JobId × ℕ)) → has_bursts terms.burst ≡ false → charge_of queue (poll_charged terms.burst poll before) before ≤ number_if (is_some poll) * 2 ^ 50
      by_poll None form = omega arith
      by_poll (Some poll) form = rw form (charge_if-bounded (is_number queue (queue_of poll.0 before)) poll.1 (shares queue before) range)

      by_form : (form : Bool) → has_bursts terms.burst ≡ form → charge_noted terms.burst queue note before ≤ number_if (ends_turn form note) * 2 ^ 50
      by_form true form = rw (poll_in_turn terms.burst (poll_settled note) before form) (by_turn (turn_told note) form)
      by_form false form = rw (turn_of_polls terms.burst (turn_told note) form) (by_poll (poll_settled note) form)

  -- a queue is placed no higher than at the floor
  pub place_noted-bounded : (queue : ℕ) (note : Note T) (before : Journal T) → place_noted queue note before ≤ floor before
  place_noted-bounded queue note before = by_test (brings_work queue note before && not (has_work queue before))
    where
      by_test : (test : Bool) → cond test (floor before) 0 ≤ floor before
      by_test true = omega arith
      by_test false = omega arith

  -- a pick is at the virtual runtime of its queue
  runtime_picked-bounded : (bound : ℕ) (note : Note T) (before : Journal T) → MayFollow terms note before →
      ((queue : ℕ) → virtual_runtime terms.burst queue before ≤ bound) → runtime_picked note ≤ bound
  runtime_picked-bounded bound (Pick queue runtime) before law below = let at_queue = below queue in omega (arith, law.right.at)
  runtime_picked-bounded bound _ before law below = omega arith

  -- the floor and all virtual runtimes are at most this
  record IsBounded (bound : ℕ) (journal : Journal T) : Type 0 where
    of_floor : floor journal ≤ bound
    of_queues : (queue : ℕ) → virtual_runtime terms.burst queue journal ≤ bound

  -- each virtual runtime is at most what the turns that ended can have cost
  bounded_by_ended : (journal : Journal T) → EachNote (MayStand terms) journal → IsBounded (turns_ended (has_bursts terms.burst) journal * 2 ^ 50) journal
  bounded_by_ended [] notes = record { of_floor = omega arith; of_queues = λ queue. omega arith }
  bounded_by_ended (note ∷ before) notes = step (bounded_by_ended before notes.1)
    where
      step : IsBounded (turns_ended (has_bursts terms.burst) before * 2 ^ 50) before →
          IsBounded (turns_ended (has_bursts terms.burst) (note ∷ before) * 2 ^ 50) (note ∷ before)
      step was = record {
        of_floor =
            let picked = runtime_picked-bounded (turns_ended (has_bursts terms.burst) before * 2 ^ 50) note before notes.0.may_follow was.of_queues in
            let low = was.of_floor in
            omega arith;
        of_queues = λ queue.
            let low = was.of_floor in
            let here = was.of_queues queue in
            let placed = place_noted-bounded queue note before in
            let cost = charge_noted-bounded queue note before (shares-in_range queue before notes.1) in
            omega arith;
      }

  -- where each settled poll ends its turn: each was picked, and so was the one that is out, or is about to be
  settled_below : has_bursts terms.burst ≡ false → (journal : Journal T) → EachNote (MayStand terms) journal →
      turns_ended false journal + length (jobs_out journal) + number_if (is_some (queue_just_picked journal)) ≤ turns journal
  settled_below form [] notes = omega arith
  settled_below form (note ∷ before) notes = by_note note notes.0.may_follow (ap number_if notes.0.turn) (settled_below form before notes.1)
    where
      by_note : (note : Note T) → MayFollow terms note before → number_if (is_some (queue_just_picked before)) ≡ number_if (takes_turn terms.burst note before) →
          turns_ended false before + length (jobs_out before) + number_if (is_some (queue_just_picked before)) ≤ turns before →
          turns_ended false (note ∷ before) + length (jobs_out (note ∷ before)) + number_if (is_some (queue_just_picked (note ∷ before))) ≤ turns (note ∷ before)
      by_note (Pick queue runtime) law turn below = omega arith
      by_note (Start name) law turn below =
          let taken : number_if (is_some (queue_just_picked before)) ≡ 1 = rw form at turn in
          rw (jobs_out-start name before (nobody_at_turn terms before notes.1 name law.0 law.1)) (omega arith)
      by_note (Resume name) law turn below =
          let taken : number_if (is_some (queue_just_picked before)) ≡ 1 = rw form at turn in
          rw (jobs_out-resume name before (nobody_at_turn terms before notes.1 name law.0 law.1)) (omega arith)
      by_note (Yield name time) law turn below =
          let alone : length (jobs_out before) ≡ 1 = rw law in
          rw (names_but-alone name before law) (omega arith)
      by_note (Park name time) law turn below =
          let alone : length (jobs_out before) ≡ 1 = rw law.0 in
          rw (names_but-alone name before law.0) (omega arith)
      by_note (Stayed name time) law turn below =
          let alone : length (jobs_out before) ≡ 1 = rw law.0 in
          rw (names_but-alone name before law.0) (omega arith)
      by_note (Done name time value) law turn below =
          let alone : length (jobs_out before) ≡ 1 = rw law in
          rw (names_but-alone name before law) (omega arith)
      by_note _ law turn below = omega arith

  -- where a note of its own ends a turn: each was picked, and so was the one that is open, or is about to be
  turned_below : has_bursts terms.burst ≡ true → (journal : Journal T) → EachNote (MayStand terms) journal →
      turns_ended true journal + number_if (is_some (queue_begun_last journal)) + number_if (is_some (queue_just_picked journal)) ≤ turns journal
  turned_below form [] notes = omega arith
  turned_below form (note ∷ before) notes = by_note note notes.0.may_follow (turned_below form before notes.1)
    where
      by_note : (note : Note T) → MayFollow terms note before →
          turns_ended true before + number_if (is_some (queue_begun_last before)) + number_if (is_some (queue_just_picked before)) ≤ turns before →
          turns_ended true (note ∷ before) + number_if (is_some (queue_begun_last (note ∷ before))) + number_if (is_some (queue_just_picked (note ∷ before))) ≤ turns (note ∷ before)
      by_note (Pick queue runtime) law below = omega arith
      by_note (Start name) law below = omega (arith, one_of_two (queue_just_picked before) (queue_begun_last before))
      by_note (Resume name) law below = omega (arith, one_of_two (queue_just_picked before) (queue_begun_last before))
      by_note (Turned queue time) law below =
          let begun : queue_begun_last before ≡ Some queue = rw form at law.in_turn in
          let one : number_if (is_some (queue_begun_last before)) ≡ 1 = rw begun in
          omega arith
      by_note _ law below = omega arith

  -- so no more turns ended than were taken
  ended_below : (journal : Journal T) → EachNote (MayStand terms) journal → turns_ended (has_bursts terms.burst) journal ≤ turns journal
  ended_below journal notes = by_form (has_bursts terms.burst) refl
    where
      by_form : (form : Bool) → has_bursts terms.burst ≡ form → turns_ended form journal ≤ turns journal
      by_form true form = omega (arith, turned_below form journal notes)
      by_form false form = omega (arith, settled_below form journal notes)

  -- after n turns each virtual runtime is at most n * 2^50
  pub no_runtime_wraps : (queue : ℕ) (journal : Journal T) → EachNote (MayStand terms) journal → virtual_runtime terms.burst queue journal ≤ turns journal * 2 ^ 50
  no_runtime_wraps queue journal notes =
      let low = (bounded_by_ended journal notes).of_queues queue in
      let fewer = ended_below journal notes in
      omega arith

  -- and so is the floor
  pub floor-bounded : (journal : Journal T) → EachNote (MayStand terms) journal → floor journal ≤ turns journal * 2 ^ 50
  floor-bounded journal notes =
      let low = (bounded_by_ended journal notes).of_floor in
      let fewer = ended_below journal notes in
      omega arith
