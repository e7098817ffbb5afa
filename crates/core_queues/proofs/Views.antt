-- What the slab and the lines show: shares, lines, parked jobs and how many jobs there are.
use Rattle.core_queues.proofs.Words.{ap, arith, chain, ContainsKey, get, get_or, held_count, held_in, IsKept, IsWithinLimits, job_count, length, length-map, Line, line_at, List, map, mode_of, no_queue, parked_of, Queue, queue_at}
use Rattle.core_queues.proofs.Words.{queue_count, queue_of, QueuesView, QueueView, refl, shares_of, shown_parked, Slab, slab_len, Spot, subst, suc, sum_by, sum_by-cons, sym, Waiting, waiting_of, zero, ℕ, [], ◌+◌, ◌<◌, ◌∙◌, ◌∷◌, ◌≡◌, ◌≤◌}
use Rattle.core_queues.specs.View.{Line as Says}
use Rattle.core_queues.proofs.Chains.{length-chain}
use Rattle.core_queues.proofs.Spots.{waits, parks, count-le-job_count}

-- what a place of a mapped list has, also past its end
pub get_or-map_default : {X Y : Type 0} (f : X → Y) (xs : List X) (i : ℕ) (d : X) → get_or (map f xs) i (f d) ≡ f (get_or xs i d)
get_or-map_default f [] i d = refl
get_or-map_default f (x ∷ xs) zero d = refl
get_or-map_default f (x ∷ xs) (suc i) d = get_or-map_default f xs i d

-- the number before one that isn't 0
pub before_some : (n : ℕ) → 0 < n → (m : ℕ) × (n ≡ suc m)
before_some zero some = absurd (omega arith)
before_some (suc m) some = (m, refl)

module _ {J : Type 0} where
  -- what the line at a spot shows
  abbrev pub line_says : Slab (Waiting J) → List Queue → Spot → Says J
  line_says jobs queues spot = chain (get jobs) (line_at queues spot).head (line_at queues spot).count

  -- these queues, as callers see them
  abbrev pub alone : ℕ → Slab (Waiting J) → List Queue → QueuesView J
  alone room jobs queues = record { queues = map (queue_of (get jobs)) queues; room = room }

  pub queue_count-view : (room : ℕ) (jobs : Slab (Waiting J)) (queues : List Queue) → queue_count (alone room jobs queues) ≡ length queues
  queue_count-view room jobs queues = length-map queues (queue_of (get jobs))

  pub shares_of-view : (room : ℕ) (jobs : Slab (Waiting J)) (queues : List Queue) (queue : ℕ) → shares_of queue (alone room jobs queues) ≡ (queue_at queues queue).shares
  shares_of-view room jobs queues queue = ap (λ (q : QueueView J). q.shares) (get_or-map_default (queue_of (get jobs)) queues queue no_queue)

  pub mode_of-view : (room : ℕ) (jobs : Slab (Waiting J)) (queues : List Queue) (queue : ℕ) → mode_of queue (alone room jobs queues) ≡ (queue_at queues queue).mode
  mode_of-view room jobs queues queue = ap (λ (q : QueueView J). q.mode) (get_or-map_default (queue_of (get jobs)) queues queue no_queue)

  pub waiting_of-view : (room : ℕ) (jobs : Slab (Waiting J)) (queues : List Queue) (queue : ℕ) → waiting_of queue (alone room jobs queues) ≡ line_says jobs queues (waits queue)
  waiting_of-view room jobs queues queue = ap (λ (q : QueueView J). q.waiting) (get_or-map_default (queue_of (get jobs)) queues queue no_queue)

  pub parked_of-view : (room : ℕ) (jobs : Slab (Waiting J)) (queues : List Queue) (queue : ℕ) → parked_of queue (alone room jobs queues) ≡ map shown_parked (line_says jobs queues (parks queue))
  parked_of-view room jobs queues queue = ap (λ (q : QueueView J). q.parked) (get_or-map_default (queue_of (get jobs)) queues queue no_queue)

  held-counts : (jobs : Slab (Waiting J)) (queues : List Queue) → ((spot : Spot) → length (line_says jobs queues spot) ≡ (line_at queues spot).count) → sum_by held_in (map (queue_of (get jobs)) queues) ≡ job_count queues
  held-counts jobs [] same = refl
  held-counts jobs (queue ∷ queues) same =
      let later : (spot : Spot) → length (line_says jobs queues spot) ≡ (line_at queues spot).count = λ spot. same (record { queue = suc spot.queue; is_parked = spot.is_parked }) in
      let rest = held-counts jobs queues later in
      let first : length (chain (get jobs) queue.waiting.head queue.waiting.count) ≡ queue.waiting.count = same (waits 0) in
      let second : length (chain (get jobs) queue.parked.head queue.parked.count) ≡ queue.parked.count = same (parks 0) in
      omega (
        arith,
        sum_by-cons held_in (queue_of (get jobs) queue) (map (queue_of (get jobs)) queues),
        sum_by-cons (λ (q : Queue). q.waiting.count + q.parked.count) queue queues,
        length-map (chain (get jobs) queue.parked.head queue.parked.count) shown_parked,
      )

  -- what a caller knows of the view is so of the parts
  pub exists-view : (room : ℕ) (jobs : Slab (Waiting J)) (queues : List Queue) {view : QueuesView J} → alone room jobs queues ≡ view → {queue : ℕ} → queue < queue_count view → queue < length queues
  exists-view room jobs queues {view} is {queue} exists =
      let count : queue_count view ≡ length queues = ap queue_count (sym is) ∙ queue_count-view room jobs queues in
      omega arith

  module _ {room line_places : ℕ} {jobs : Slab (Waiting J)} {queues : List Queue} where
    pub length-says : IsKept room line_places jobs queues → (spot : Spot) → length (line_says jobs queues spot) ≡ (line_at queues spot).count
    length-says kept spot = length-chain (get jobs) (line_at queues spot).head (line_at queues spot).count (kept.linked.filled spot)

    -- a line in which a job stands has a job at its head and one at its tail
    pub head_filled : IsKept room line_places jobs queues → (spot : Spot) (line : Line) → line_at queues spot ≡ line → 0 < line.count → ContainsKey jobs line.head
    head_filled kept spot line is some =
        subst (λ (l : Line). ContainsKey jobs l.head) is (kept.linked.filled spot 0 (omega (arith, ap (λ (l : Line). l.count) is)))

    pub tail_filled : IsKept room line_places jobs queues → (spot : Spot) (line : Line) → line_at queues spot ≡ line → 0 < line.count → ContainsKey jobs line.tail
    tail_filled kept spot line is some =
        let same : (line_at queues spot).count ≡ line.count = ap (λ (l : Line). l.count) is in
        let last = before_some (line_at queues spot).count (omega arith) in
        let at = kept.linked.tails spot last.0 last.1 in
        subst (λ (l : Line). ContainsKey jobs l.tail) is (subst (ContainsKey jobs) (sym at) (kept.linked.filled spot last.0 (omega (arith, last.1))))

    -- no line is longer than all of them together
    pub count-le-len : IsKept room line_places jobs queues → (spot : Spot) (line : Line) → spot.queue < length queues → line_at queues spot ≡ line → line.count ≤ slab_len jobs
    count-le-len kept spot line within is =
        omega (arith, count-le-job_count queues spot within, ap (λ (l : Line). l.count) is, kept.counted)

    pub length-waiting_of : IsKept room line_places jobs queues → (queue : ℕ) (line : Line) → line_at queues (waits queue) ≡ line → length (waiting_of queue (alone room jobs queues)) ≡ line.count
    length-waiting_of kept queue line is = ap length (waiting_of-view room jobs queues queue) ∙ length-says kept (waits queue) ∙ ap (λ (l : Line). l.count) is

    pub length-parked_of : IsKept room line_places jobs queues → (queue : ℕ) (line : Line) → line_at queues (parks queue) ≡ line → length (parked_of queue (alone room jobs queues)) ≡ line.count
    length-parked_of kept queue line is =
        ap length (parked_of-view room jobs queues queue) ∙ length-map (line_says jobs queues (parks queue)) shown_parked ∙ length-says kept (parks queue) ∙ ap (λ (l : Line). l.count) is

    pub held_count-view : IsKept room line_places jobs queues → held_count (alone room jobs queues) ≡ slab_len jobs
    held_count-view kept = held-counts jobs queues (length-says kept) ∙ kept.counted

    pub IsWithinLimits-view : IsKept room line_places jobs queues → IsWithinLimits (alone room jobs queues)
    IsWithinLimits-view kept =
        let count = queue_count-view room jobs queues in
        let total = held_count-view kept in
        record {
          some_queue = omega (arith, kept.some_queue);
          few_queues = omega (arith, kept.few_queues);
          within_room = omega (arith, kept.within_room);
        }

    pub fits-view : IsKept room line_places jobs queues → {view : QueuesView J} → alone room jobs queues ≡ view → held_count view < view.room → slab_len jobs < room
    fits-view kept {view} is fits =
        let total : held_count view ≡ slab_len jobs = ap held_count (sym is) ∙ held_count-view kept in
        let same : view.room ≡ room = ap (λ (v : QueuesView J). v.room) (sym is) in
        omega arith
