-- The head of a line: it is polled where it stands, and goes to the tail of its own line or of another one by links alone.
use Rattle.core_queues.proofs.Words.{ap, Appends, AreAtRest, arith, Bool, ChangesLine, cond, ContainsKey, ContainsKey-within, false, get, IfSome, inl, inr, is_some, IsFrontReady, IsKept, IsReady, IsSome, length, Line, line_at, List}
use Rattle.core_queues.proofs.Words.{Meaning, MovesHead, None, Option, Queue, refl, Relinks, Renews, Requeues, shown, Slab, slab_len, slice_set, Some, subst, sum_by-set, sym, true, Updates, Updates-set, Waiting, waiting_of, ℕ, [], ◌+◌, ◌-◌}
use Rattle.core_queues.proofs.Words.{◌<◌, ◌∙◌, ◌∷◌, ◌≡◌, ◌⊎◌}
use Rattle.core_queues.specs.View.{Line as Says}
use Rattle.core_queues.proofs.Spots.{waits}
use Rattle.core_queues.proofs.Changes.{ChangesLine-of}
use Rattle.core_queues.proofs.Leaves.{Leaves}
use Rattle.core_queues.proofs.Renewals.{Rewrites, IsKept-renewed, Writes-renewed, says-at, behind_place}
use Rattle.core_queues.proofs.Rests.{false_true, AreAtRest-writes}
use Rattle.core_queues.proofs.Views.{alone, before_some, waiting_of-view, head_filled, length-waiting_of}

module _ {J : Type 0} where
  -- the slab without the entry at a key
  abbrev pub removed : Slab (Waiting J) → ℕ → Slab (Waiting J)
  removed jobs key = record jobs { slots = slice_set jobs.slots key None }

  -- a line without its head
  abbrev pub rest_of : Line → Waiting J → Line
  rest_of line front = record { head = front.next; tail = line.tail; count = line.count - 1 }

  -- an entry that is marked as started, and whether a wake of it is kept
  abbrev pub marked : Waiting J → Bool → Waiting J
  marked front woken = record front { started = true; woken = woken }

  there : (jobs : Slab (Waiting J)) (key : ℕ) (front : Waiting J) → get jobs key ≡ Some front → ContainsKey jobs key
  there jobs key front at = ap is_some at

  pub removes : (jobs : Slab (Waiting J)) (key : ℕ) (front : Waiting J) → get jobs key ≡ Some front → Updates jobs (removed jobs key) key None
  removes jobs key front at = Updates-set jobs (removed jobs key) key None (ContainsKey-within jobs key (there jobs key front at)) refl

  pub removed-len : (jobs : Slab (Waiting J)) (key : ℕ) (front : Waiting J) → get jobs key ≡ Some front → slab_len (removed jobs key) + 1 ≡ slab_len jobs
  removed-len jobs key front at =
      let one : Option (Waiting J) → ℕ = λ entry. cond (is_some entry) 1 0 in
      let full = ap one at in
      omega (arith, full, sum_by-set one jobs.slots key None None (ContainsKey-within jobs key (there jobs key front at)))

  -- a line loses its head to the slab without it
  pub Leaves-removed : (jobs : Slab (Waiting J)) (line : Line) (front : Waiting J) → 0 < line.count → get jobs line.head ≡ Some front → Leaves jobs line front (removed jobs line.head) (rest_of line front)
  Leaves-removed jobs line front some at = record {
    some = some;
    first = at;
    updates = removes jobs line.head front at;
    len = removed-len jobs line.head front at;
    capacity = refl;
    head = refl;
    tail = refl;
    count = refl;
  }

  -- a head that goes behind the tail joins the line that it left
  pub Appends-requeued : (old new : Slab (Waiting J)) (line turned : Line) (woken : Bool) (requeues : Requeues old line woken new turned) → 0 < line.count →
      Appends (removed old line.head) (rest_of line requeues.front) (marked requeues.front woken) new turned
  Appends-requeued old new line turned woken requeues some =
      let gone = removes old line.head requeues.front requeues.starts.at in
      record {
        key = line.head;
        between = requeues.between;
        inserts = record {
          vacant = gone.changed;
          updates = record {
            changed = requeues.starts.updates.changed;
            others = λ other differs. requeues.starts.updates.others other differs ∙ sym (gone.others other differs);
          };
          len = requeues.starts.len ∙ sym (removed-len old line.head requeues.front requeues.starts.at);
          capacity = requeues.starts.capacity;
        };
        links = by_links requeues.links;
        tail = requeues.tail;
        count = omega (arith, requeues.count, some);
      }
    where
      by_links : ((line.count ≡ 1) × (turned.head ≡ line.head) × (new ≡ requeues.between))
          ⊎ ((line.count ≡ 1 → ⊥) × (turned.head ≡ requeues.front.next) × Relinks requeues.between line.tail line.head new) →
          ((line.count - 1 ≡ 0) × (turned.head ≡ line.head) × (new ≡ requeues.between))
          ⊎ ((0 < line.count - 1) × (turned.head ≡ requeues.front.next) × Relinks requeues.between line.tail line.head new)
      by_links (inl alone_there) = inl (omega (arith, alone_there.0), alone_there.1, alone_there.2)
      by_links (inr behind) = inr (omega (arith, some, behind.0), behind.1, behind.2)

  -- a head that goes behind the tail of another line joins that one
  pub Appends-moved : (old new : Slab (Waiting J)) (from to shorter longer : Line) (moves : MovesHead old from to new shorter longer) → Appends (removed old from.head) to (marked moves.front false) new longer
  Appends-moved old new from to shorter longer moves =
      let gone = removes old from.head moves.front moves.starts.at in
      record {
        key = from.head;
        between = moves.between;
        inserts = record {
          vacant = gone.changed;
          updates = record {
            changed = moves.starts.updates.changed;
            others = λ other differs. moves.starts.updates.others other differs ∙ sym (gone.others other differs);
          };
          len = moves.starts.len ∙ sym (removed-len old from.head moves.front moves.starts.at);
          capacity = moves.starts.capacity;
        };
        links = moves.links;
        tail = moves.tail;
        count = moves.count;
      }

  -- a head with another job has the same next key
  pub Rewrites-job : (old new : Slab (Waiting J)) (key : ℕ) (front : Waiting J) (job : J) → Renews old key front job new → Rewrites old key front (record front { job = job }) new
  Rewrites-job old new key front job renews = record { at = renews.at; updates = renews.updates; next = refl; len = renews.len; capacity = renews.capacity }

  -- what has a job has one
  pub some_of : (found : Option (Waiting J)) → IsSome found → (front : Waiting J) × (found ≡ Some front)
  some_of (Some front) some = (front, refl)
  some_of None some = cc

  some_shown : (shown : Says J) → (shown ≡ [] → ⊥) → 0 < length shown
  some_shown [] none = absurd (none refl)
  some_shown (one ∷ shown) none = omega arith

  -- a line whose head is ready has one
  pub some_ready : {T : Type 0} (meaning : Meaning J T) (shown : Says J) → IsFrontReady meaning shown → shown ≡ [] → ⊥
  some_ready meaning shown ready none = subst (IsFrontReady meaning) none ready

module _ {J : Type 0} {room line_places : ℕ} {jobs : Slab (Waiting J)} {queues : List Queue} where
  -- a line that isn't empty counts a job
  pub some_waiting : IsKept room line_places jobs queues → (queue : ℕ) → (waiting_of queue (alone room jobs queues) ≡ [] → ⊥) → 0 < (line_at queues (waits queue)).count
  some_waiting kept queue some =
      omega (arith, some_shown (waiting_of queue (alone room jobs queues)) some, length-waiting_of kept queue (line_at queues (waits queue)) refl)

  -- the line was this job and what stands behind it
  pub head_shown : IsKept room line_places jobs queues → (queue : ℕ) (front : Waiting J) → get jobs (line_at queues (waits queue)).head ≡ Some front → 0 < (line_at queues (waits queue)).count →
      (others : Says J) × (waiting_of queue (alone room jobs queues) ≡ (front.name, record { started = front.started; woken = front.woken }, front.job) ∷ others)
  head_shown kept queue front at some =
      let spot = waits queue in
      let behind = before_some (line_at queues spot).count some in
      (_, waiting_of-view room jobs queues queue ∙ says-at jobs (line_at queues spot) 0 behind.0 (line_at queues spot).head front (omega (arith, behind.1)) refl at)

  -- the job at the head may be polled
  pub head_ready : {T : Type 0} (meaning : Meaning J T) → IsKept room line_places jobs queues → (queue : ℕ) → IsFrontReady meaning (waiting_of queue (alone room jobs queues)) →
      IfSome (get jobs (line_at queues (waits queue)).head) (λ waiting. IsReady meaning waiting.job)
  head_ready meaning kept queue ready =
      let some = some_waiting kept queue (some_ready meaning (waiting_of queue (alone room jobs queues)) ready) in
      let found = some_of (get jobs (line_at queues (waits queue)).head) (head_filled kept (waits queue) (line_at queues (waits queue)) refl some) in
      let shown = head_shown kept queue found.0 found.1 some in
      subst (λ (entry : Option (Waiting J)). IfSome entry (λ waiting. IsReady meaning waiting.job)) (sym found.1) (subst (IsFrontReady meaning) shown.1 ready)

module _ {J : Type 0} {room line_places : ℕ} {old new : Slab (Waiting J)} {queues : List Queue} where
  -- the head is polled where it stands
  pub front_renewed : (queue : ℕ) (front now : Waiting J) → IsKept room line_places old queues → Rewrites old (line_at queues (waits queue)).head front now new → 0 < (line_at queues (waits queue)).count →
      (others : Says J) × (waiting_of queue (alone room old queues) ≡ (front.name, record { started = front.started; woken = front.woken }, front.job) ∷ others)
      × ChangesLine (alone room old queues) (alone room new queues) queue ((now.name, record { started = now.started; woken = now.woken }, now.job) ∷ others)
  front_renewed queue front now kept renews some =
      let spot = waits queue in
      let key = (line_at queues spot).head in
      let behind = before_some (line_at queues spot).count some in
      let after = IsKept-renewed key front now kept renews in (
        behind_place old (line_at queues spot) 0 behind.0,
        waiting_of-view room old queues queue ∙ says-at old (line_at queues spot) 0 behind.0 key front (omega (arith, behind.1)) refl renews.at,
        ChangesLine-of queue _ kept after (Writes-renewed spot 0 behind.0 key front now kept renews (omega (arith, behind.1)) refl),
      )

  -- and the parked jobs stay at rest
  pub front_rests : (queue : ℕ) (front now : Waiting J) → IsKept room line_places old queues → Rewrites old (line_at queues (waits queue)).head front now new → 0 < (line_at queues (waits queue)).count → AreAtRest old queues → AreAtRest new queues
  front_rests queue front now kept renews some rests =
      let spot = waits queue in
      let behind = before_some (line_at queues spot).count some in
      AreAtRest-writes old new queues queues spot _ rests (Writes-renewed spot 0 behind.0 (line_at queues spot).head front now kept renews (omega (arith, behind.1)) refl) (λ is. absurd (false_true is))
