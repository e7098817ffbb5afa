-- The head of a line leaves it, and joins it again at the tail, or is parked.
use Rattle.core_queues.proofs.Words.{Appends, AreAtRest, arith, awake, Bool, ChangesLine, ChangesParks, false, get, IsKept, IsWithinLimits, length, Line, line_at, List, MovesHead, parked_of, ParksOrStays, Queue, queue_at, QueuesView, refl}
use Rattle.core_queues.proofs.Words.{Requeues, RestsFront, set, shown, Slab, slab_len, Some, subst, sym, true, TurnsLine, Waiting, waiting_of, ℕ, [], ◌++◌, ◌<◌, ◌∷◌, ◌≡◌}
use Rattle.core_queues.proofs.Spots.{waits, parks, other_side, placed, ChangesOne-placed, length-placed, placed-set}
use Rattle.core_queues.proofs.Leaves.{IsKept-left, Writes-left, waiting_of-left, ChangesLine-left}
use Rattle.core_queues.proofs.Joins.{IsKept-joined, Writes-joined, ChangesLine-joined, ChangesParks-joined}
use Rattle.core_queues.proofs.Fronts.{removed, rest_of, marked, removed-len, Leaves-removed, Appends-requeued, Appends-moved}
use Rattle.core_queues.proofs.Rests.{false_true, IsAtRest-append, AreAtRest-writes}
use Rattle.core_queues.proofs.Views.{line_says, alone, IsWithinLimits-view}

-- the queues once a head stands behind its line again
pub turned_queues : (queues : List Queue) (queue : ℕ) (rest turned : Line) → queue < length queues → placed (placed queues (waits queue) rest) (waits queue) turned ≡ placed queues (waits queue) turned
turned_queues queues queue rest turned within = placed-set queues queue (record (queue_at queues queue) { waiting = rest }) false turned within

-- both lines of the queue are written
pub parked_queues : (queues : List Queue) (queue : ℕ) (rest longer : Line) → queue < length queues → placed (placed queues (waits queue) rest) (parks queue) longer ≡ set queues queue (record (queue_at queues queue) { waiting = rest; parked = longer })
parked_queues queues queue rest longer within = placed-set queues queue (record (queue_at queues queue) { waiting = rest }) true longer within

module _ {J : Type 0} where
  -- the head goes behind the tail of the line that it left
  pub joins_again : (old new : Slab (Waiting J)) (queues : List Queue) (queue : ℕ) (turned : Line) (woken : Bool) (requeues : Requeues old (line_at queues (waits queue)) woken new turned) → queue < length queues → 0 < (line_at queues (waits queue)).count →
      Appends (removed old (line_at queues (waits queue)).head) (line_at (placed queues (waits queue) (rest_of (line_at queues (waits queue)) requeues.front)) (waits queue)) (marked requeues.front woken) new turned
  joins_again old new queues queue turned woken requeues within some =
      let line = line_at queues (waits queue) in
      let rest = rest_of line requeues.front in
      subst (λ (l : Line). Appends (removed old line.head) l (marked requeues.front woken) new turned) (sym (ChangesOne-placed queues (waits queue) rest within).changed)
      (Appends-requeued old new line turned woken requeues some)

  -- the head goes behind the tail of the parked jobs
  pub joins_parked : (old new : Slab (Waiting J)) (queues : List Queue) (queue : ℕ) (shorter longer : Line) (moves : MovesHead old (line_at queues (waits queue)) (line_at queues (parks queue)) new shorter longer) → queue < length queues →
      Appends (removed old (line_at queues (waits queue)).head) (line_at (placed queues (waits queue) (rest_of (line_at queues (waits queue)) moves.front)) (parks queue)) (marked moves.front false) new longer
  joins_parked old new queues queue shorter longer moves within =
      let from = line_at queues (waits queue) in
      let rest = rest_of from moves.front in
      subst (λ (l : Line). Appends (removed old from.head) l (marked moves.front false) new longer) (sym ((ChangesOne-placed queues (waits queue) rest within).others (parks queue) (λ same. other_side queue queue (sym same))))
      (Appends-moved old new from (line_at queues (parks queue)) shorter longer moves)

  -- what a head that goes to the tail of its line leaves, and what it comes to
  pub record Turned (room : ℕ) (old new : Slab (Waiting J)) (queues : List Queue) (queue : ℕ) (front : Waiting J) (woken : Bool) (after : List Queue) : Type 0 where
    pub between : QueuesView J
    pub first : waiting_of queue (alone room old queues) ≡ shown (Some front) ++ waiting_of queue between
    pub leaves : ChangesLine (alone room old queues) between queue (waiting_of queue between)
    pub limits : IsWithinLimits between
    pub joins : ChangesLine between (alone room new after) queue (waiting_of queue between ++ shown (Some (marked front woken)))

module _ {J : Type 0} {room line_places : ℕ} {old : Slab (Waiting J)} {queues : List Queue} where
  -- what is kept once the head has left
  pub IsKept-behind : (queue : ℕ) (front : Waiting J) → IsKept room line_places old queues → get old (line_at queues (waits queue)).head ≡ Some front → queue < length queues → 0 < (line_at queues (waits queue)).count
      → IsKept room line_places (removed old (line_at queues (waits queue)).head) (placed queues (waits queue) (rest_of (line_at queues (waits queue)) front))
  IsKept-behind queue front kept at within some =
      IsKept-left (waits queue) front (rest_of (line_at queues (waits queue)) front) kept (Leaves-removed old (line_at queues (waits queue)) front some at) within

  pub fits_again : (queue : ℕ) (front : Waiting J) → IsKept room line_places old queues → get old (line_at queues (waits queue)).head ≡ Some front → slab_len (removed old (line_at queues (waits queue)).head) < room
  fits_again queue front kept at = omega (arith, removed-len old (line_at queues (waits queue)).head front at, kept.within_room)

module _ {J : Type 0} {room line_places : ℕ} {old new : Slab (Waiting J)} {queues : List Queue} where
  pub IsKept-requeued : (queue : ℕ) (turned : Line) (woken : Bool) → IsKept room line_places old queues → Requeues old (line_at queues (waits queue)) woken new turned → queue < length queues → 0 < (line_at queues (waits queue)).count
      → IsKept room line_places new (placed queues (waits queue) turned)
  IsKept-requeued queue turned woken kept requeues within some =
      let line = line_at queues (waits queue) in
      let rest = rest_of line requeues.front in
      subst (IsKept room line_places new) (turned_queues queues queue rest turned within)
      (IsKept-joined (waits queue) (marked requeues.front woken) turned (IsKept-behind queue requeues.front kept requeues.starts.at within some) (joins_again old new queues queue turned woken requeues within some)
      (omega (arith, length-placed queues (waits queue) rest, within)) (fits_again queue requeues.front kept requeues.starts.at))

  pub AreAtRest-requeued : (queue : ℕ) (turned : Line) (woken : Bool) → IsKept room line_places old queues → Requeues old (line_at queues (waits queue)) woken new turned → queue < length queues → 0 < (line_at queues (waits queue)).count
      → AreAtRest old queues → AreAtRest new (placed queues (waits queue) turned)
  AreAtRest-requeued queue turned woken kept requeues within some rests =
      let line = line_at queues (waits queue) in
      let rest = rest_of line requeues.front in
      let gone = removed old line.head in
      let left = placed queues (waits queue) rest in
      let leaves = AreAtRest-writes old gone queues left (waits queue) _ rests (Writes-left (waits queue) requeues.front rest kept (Leaves-removed old line requeues.front some requeues.starts.at) within) (λ is. absurd (false_true is)) in
      subst (AreAtRest new) (turned_queues queues queue rest turned within)
      (AreAtRest-writes gone new left (placed left (waits queue) turned) (waits queue) _ leaves
      (Writes-joined (waits queue) (marked requeues.front woken) turned (IsKept-behind queue requeues.front kept requeues.starts.at within some) (joins_again old new queues queue turned woken requeues within some)
      (omega (arith, length-placed queues (waits queue) rest, within))) (λ is. absurd (false_true is)))

  pub turned-requeued : (queue : ℕ) (turned : Line) (woken : Bool) → IsKept room line_places old queues → (requeues : Requeues old (line_at queues (waits queue)) woken new turned) → queue < length queues → 0 < (line_at queues (waits queue)).count
      → Turned room old new queues queue requeues.front woken (placed queues (waits queue) turned)
  turned-requeued queue turned woken kept requeues within some =
      let line = line_at queues (waits queue) in
      let front = requeues.front in
      let rest = rest_of line front in
      let leaves = Leaves-removed old line front some requeues.starts.at in
      let left = IsKept-behind queue front kept requeues.starts.at within some in
      let between = alone room (removed old line.head) (placed queues (waits queue) rest) in
      let joins = ChangesLine-joined queue (marked front woken) turned left (joins_again old new queues queue turned woken requeues within some)
      (omega (arith, length-placed queues (waits queue) rest, within)) (fits_again queue front kept requeues.starts.at) in
      record {
        between = between;
        first = waiting_of-left queue front rest kept leaves within;
        leaves = ChangesLine-left queue front rest kept leaves within;
        limits = IsWithinLimits-view left;
        joins = subst (λ (after : List Queue). ChangesLine between (alone room new after) queue (waiting_of queue between ++ shown (Some (marked front woken)))) (turned_queues queues queue rest turned within) joins;
      }

  -- a head that keeps its wake goes to the tail
  pub TurnsLine-requeued : (queue : ℕ) (turned : Line) (woken : Bool) → IsKept room line_places old queues → (requeues : Requeues old (line_at queues (waits queue)) woken new turned) → queue < length queues → 0 < (line_at queues (waits queue)).count
      → woken ≡ requeues.front.woken → TurnsLine (alone room old queues) (alone room new (placed queues (waits queue) turned)) queue
  TurnsLine-requeued queue turned woken kept requeues within some mark =
      let front = requeues.front in
      let turns = turned-requeued queue turned woken kept requeues within some in
      record {
        name = front.name;
        marks = record { started = front.started; woken = front.woken };
        job = front.job;
        between = turns.between;
        first = turns.first;
        leaves = turns.leaves;
        limits = turns.limits;
        joins = subst (λ (b : Bool). ChangesLine turns.between (alone room new (placed queues (waits queue) turned)) queue (waiting_of queue turns.between ++ shown (Some (marked front b)))) mark turns.joins;
      }

  -- a head with a wake that asks to be parked goes to the tail, and the wake is used up
  pub RestsFront-requeued : (queue : ℕ) (turned : Line) → IsKept room line_places old queues → (requeues : Requeues old (line_at queues (waits queue)) false new turned) → queue < length queues → 0 < (line_at queues (waits queue)).count
      → requeues.front.woken ≡ true → RestsFront (alone room old queues) (alone room new (placed queues (waits queue) turned)) queue
  RestsFront-requeued queue turned kept requeues within some awake =
      let front = requeues.front in
      let turns = turned-requeued queue turned false kept requeues within some in
      record {
        name = front.name;
        marks = record { started = front.started; woken = front.woken };
        job = front.job;
        between = turns.between;
        first = turns.first;
        leaves = turns.leaves;
        limits = turns.limits;
        rests = subst (λ (stays : Bool). ParksOrStays stays turns.between queue front.name front.job (alone room new (placed queues (waits queue) turned))) (sym awake) turns.joins;
      }

  pub IsKept-moved : (queue : ℕ) (shorter longer : Line) → IsKept room line_places old queues → MovesHead old (line_at queues (waits queue)) (line_at queues (parks queue)) new shorter longer → queue < length queues → 0 < (line_at queues (waits queue)).count
      → IsKept room line_places new (set queues queue (record (queue_at queues queue) { waiting = shorter; parked = longer }))
  IsKept-moved queue shorter longer kept moves within some =
      let rest = rest_of (line_at queues (waits queue)) moves.front in
      subst (λ (left : Line). IsKept room line_places new (set queues queue (record (queue_at queues queue) { waiting = left; parked = longer }))) (sym moves.left) (
      subst (IsKept room line_places new) (parked_queues queues queue rest longer within)
      (IsKept-joined (parks queue) (marked moves.front false) longer (IsKept-behind queue moves.front kept moves.starts.at within some) (joins_parked old new queues queue shorter longer moves within)
      (omega (arith, length-placed queues (waits queue) rest, within)) (fits_again queue moves.front kept moves.starts.at)))

  pub AreAtRest-moved : (queue : ℕ) (shorter longer : Line) → IsKept room line_places old queues → MovesHead old (line_at queues (waits queue)) (line_at queues (parks queue)) new shorter longer → queue < length queues → 0 < (line_at queues (waits queue)).count
      → AreAtRest old queues → AreAtRest new (set queues queue (record (queue_at queues queue) { waiting = shorter; parked = longer }))
  AreAtRest-moved queue shorter longer kept moves within some rests =
      let line = line_at queues (waits queue) in
      let rest = rest_of line moves.front in
      let gone = removed old line.head in
      let left = placed queues (waits queue) rest in
      let leaves = AreAtRest-writes old gone queues left (waits queue) _ rests (Writes-left (waits queue) moves.front rest kept (Leaves-removed old line moves.front some moves.starts.at) within) (λ is. absurd (false_true is)) in
      subst (λ (l : Line). AreAtRest new (set queues queue (record (queue_at queues queue) { waiting = l; parked = longer }))) (sym moves.left) (
      subst (AreAtRest new) (parked_queues queues queue rest longer within)
      (AreAtRest-writes gone new left (placed left (parks queue) longer) (parks queue) _ leaves
      (Writes-joined (parks queue) (marked moves.front false) longer (IsKept-behind queue moves.front kept moves.starts.at within some) (joins_parked old new queues queue shorter longer moves within)
      (omega (arith, length-placed queues (waits queue) rest, within)))
      (λ _. IsAtRest-append (line_says gone left (parks queue)) (shown (Some (marked moves.front false))) (leaves queue) refl)))

  pub RestsFront-moved : (queue : ℕ) (shorter longer : Line) → IsKept room line_places old queues → (moves : MovesHead old (line_at queues (waits queue)) (line_at queues (parks queue)) new shorter longer) → queue < length queues → 0 < (line_at queues (waits queue)).count
      → moves.front.woken ≡ false → RestsFront (alone room old queues) (alone room new (set queues queue (record (queue_at queues queue) { waiting = shorter; parked = longer }))) queue
  RestsFront-moved queue shorter longer kept moves within some asleep =
      let line = line_at queues (waits queue) in
      let front = moves.front in
      let rest = rest_of line front in
      let leaves = Leaves-removed old line front some moves.starts.at in
      let left = IsKept-behind queue front kept moves.starts.at within some in
      let between = alone room (removed old line.head) (placed queues (waits queue) rest) in
      let joins = ChangesParks-joined queue (marked front false) longer left (joins_parked old new queues queue shorter longer moves within)
      (omega (arith, length-placed queues (waits queue) rest, within)) (fits_again queue front kept moves.starts.at) in
      let parked = subst (λ (after : List Queue). ChangesParks between (alone room new after) queue (parked_of queue between ++ (front.name, front.job) ∷ [])) (parked_queues queues queue rest longer within) joins in
      let written = subst (λ (l : Line). ChangesParks between (alone room new (set queues queue (record (queue_at queues queue) { waiting = l; parked = longer }))) queue (parked_of queue between ++ (front.name, front.job) ∷ [])) (sym moves.left) parked in
      record {
        name = front.name;
        marks = record { started = front.started; woken = front.woken };
        job = front.job;
        between = between;
        first = waiting_of-left queue front rest kept leaves within;
        leaves = ChangesLine-left queue front rest kept leaves within;
        limits = IsWithinLimits-view left;
        rests = subst (λ (stays : Bool). ParksOrStays stays between queue front.name front.job (alone room new (set queues queue (record (queue_at queues queue) { waiting = shorter; parked = longer })))) (sym asleep) written;
      }
