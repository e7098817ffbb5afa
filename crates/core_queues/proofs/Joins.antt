-- A job comes behind the tail of a line.
use Rattle.core_queues.proofs.Words.{ap, Appends, arith, chain, ChangesLine, ChangesParks, get, held_count, inl, inr, Inserts, is_some, IsKept, IsLinked, key_at, length, length_push, Line, line_at, List, map, map-append, next_of, parked_of}
use Rattle.core_queues.proofs.Words.{Queue, Relinks, shown, shown_parked, Slab, slab_len, Some, Spot, subst, suc, sym, Waiting, waiting_of, ℕ, [], ◌++◌, ◌+◌, ◌<◌, ◌∙◌, ◌∷◌, ◌≡◌, ◌⊎◌}
use Rattle.core_queues.proofs.Spots.{waits, parks, placed, ChangesOne-placed, job_count-placed, length-placed}
use Rattle.core_queues.proofs.Links.{KeepsLines, KeepsLines-twice, KeepsLines-insert, KeepsLines-relink, IsLinked-kept, chain-kept, not_in_line, Grows, chain-grown}
use Rattle.core_queues.proofs.Ends.{IsLinked-grown}
use Rattle.core_queues.proofs.Changes.{Writes, Writes-placed, ChangesLine-of, ChangesParks-of}
use Rattle.core_queues.proofs.Views.{before_some, line_says, alone, waiting_of-view, parked_of-view, held_count-view}

module _ {J : Type 0} where
  -- what became of the lines once a job came in
  pub record Joined (old new : Slab (Waiting J)) (line : Spot → Line) (spot : Spot) (last : Waiting J) (longer : Line) : Type 0 where
    pub key : ℕ
    pub keeps : KeepsLines (get old) (get new) line
    pub fresh : (other : Spot) (place : ℕ) → place < (line other).count → key_at (get new) (line other).head place ≡ key → ⊥
    pub grows : Grows (get new) (line spot) key longer
    pub came : get new key ≡ Some last
    pub len : slab_len new ≡ slab_len old + 1
    pub capacity : new.capacity ≡ old.capacity

  joined-first : (old new : Slab (Waiting J)) (line : Spot → Line) (spot : Spot) (key : ℕ) (last : Waiting J) (longer : Line) → IsLinked (get old) line → Inserts old key last new
      → (line spot).count ≡ 0 → longer.head ≡ key → longer.tail ≡ key → longer.count ≡ (line spot).count + 1 → Joined old new line spot last longer
  joined-first old new line spot key last longer linked inserts none head tail count =
      let keeps = KeepsLines-insert (get old) (get new) line key linked inserts.vacant inserts.updates.others in
      record {
        key = key;
        keeps = keeps;
        fresh = λ other place h same. not_in_line (get old) line key linked inserts.vacant other place h (sym (keeps.keys other place h) ∙ same);
        grows = record {
          filled = ap is_some inserts.updates.changed;
          head = λ some. absurd (omega arith);
          last = ap (key_at (get new) longer.head) none ∙ head;
          tail = tail;
          count = omega arith;
        };
        came = inserts.updates.changed;
        len = inserts.len;
        capacity = inserts.capacity;
      }

  joined-behind : (old between new : Slab (Waiting J)) (line : Spot → Line) (spot : Spot) (key before : ℕ) (last : Waiting J) (longer : Line) → IsLinked (get old) line → Inserts old key last between
      → Relinks between (line spot).tail key new → (line spot).count ≡ suc before → longer.head ≡ (line spot).head → longer.tail ≡ key → longer.count ≡ (line spot).count + 1 → Joined old new line spot last longer
  joined-behind old between new line spot key before last longer linked inserts relinks some head tail count =
      let first = KeepsLines-insert (get old) (get between) line key linked inserts.vacant inserts.updates.others in
      let linked_between = IsLinked-kept (get old) (get between) line first linked in
      let second = KeepsLines-relink (get between) (get new) line spot before key relinks.was linked_between some relinks.at relinks.updates.changed relinks.updates.others in
      let keeps = KeepsLines-twice (get old) (get between) (get new) line first second in
      let apart : key ≡ (line spot).tail → ⊥ = λ same. not_in_line (get old) line key linked inserts.vacant spot before (omega arith) (sym (linked.tails spot before some) ∙ sym same) in
      let came : get new key ≡ Some last = relinks.updates.others key apart ∙ inserts.updates.changed in
      let at_tail : key_at (get new) (line spot).head before ≡ (line spot).tail = keeps.keys spot before (omega arith) ∙ sym (linked.tails spot before some) in
      record {
        key = key;
        keeps = keeps;
        fresh = λ other place h same. not_in_line (get old) line key linked inserts.vacant other place h (sym (keeps.keys other place h) ∙ same);
        grows = record {
          filled = ap is_some came;
          head = λ h. head;
          last = ap (key_at (get new) longer.head) some ∙ ap (λ first. key_at (get new) first (suc before)) head ∙ ap (λ at. next_of (get new at)) at_tail ∙ ap next_of relinks.updates.changed;
          tail = tail;
          count = omega arith;
        };
        came = came;
        len = relinks.len ∙ inserts.len;
        capacity = relinks.capacity ∙ inserts.capacity;
      }

  pub joined : (old new : Slab (Waiting J)) (line : Spot → Line) (spot : Spot) (last : Waiting J) (longer : Line) → IsLinked (get old) line → Appends old (line spot) last new longer → Joined old new line spot last longer
  joined old new line spot last longer linked appends = by_links appends.links
    where
      by_links : (((line spot).count ≡ 0) × (longer.head ≡ appends.key) × (new ≡ appends.between)) ⊎ ((0 < (line spot).count) × (longer.head ≡ (line spot).head) × Relinks appends.between (line spot).tail appends.key new) → Joined old new line spot last longer
      by_links (inl first) =
          joined-first old new line spot appends.key last longer linked (subst (Inserts old appends.key last) (sym first.2) appends.inserts) first.0 first.1 appends.tail appends.count
      by_links (inr behind) =
          let before = before_some (line spot).count behind.0 in
          joined-behind old appends.between new line spot appends.key before.0 last longer linked appends.inserts behind.2 before.1 behind.1 appends.tail appends.count

module _ {J : Type 0} {room line_places : ℕ} {old new : Slab (Waiting J)} {queues : List Queue} where
  pub IsKept-joined : (spot : Spot) (last : Waiting J) (longer : Line) → IsKept room line_places old queues → Appends old (line_at queues spot) last new longer → spot.queue < length queues → slab_len old < room
      → IsKept room line_places new (placed queues spot longer)
  IsKept-joined spot last longer kept appends within fits =
      let join = joined old new (line_at queues) spot last longer kept.linked appends in
      let same = length-placed queues spot longer in
      record {
        linked = IsLinked-grown (get new) (line_at queues) (line_at (placed queues spot longer)) spot longer join.key (ChangesOne-placed queues spot longer within) join.grows join.fresh
            (IsLinked-kept (get old) (get new) (line_at queues) join.keeps kept.linked);
        counted = omega (arith, kept.counted, job_count-placed queues spot longer within, join.len, appends.count);
        within_room = omega (arith, join.len);
        reserved = omega (arith, kept.reserved, join.capacity);
        some_queue = omega (arith, kept.some_queue);
        few_queues = omega (arith, kept.few_queues);
        queues_reserved = kept.queues_reserved;
      }

  pub Writes-joined : (spot : Spot) (last : Waiting J) (longer : Line) → IsKept room line_places old queues → Appends old (line_at queues spot) last new longer → spot.queue < length queues
      → Writes old new queues (placed queues spot longer) spot (line_says old queues spot ++ shown (Some last))
  Writes-joined spot last longer kept appends within =
      let join = joined old new (line_at queues) spot last longer kept.linked appends in
      let was = line_at queues spot in
      let before : chain (get new) longer.head was.count ≡ line_says old queues spot =
      chain-grown (get new) was longer join.key join.grows ∙ chain-kept (get old) (get new) (line_at queues) spot join.keeps in
      let at_tail : shown (get new (key_at (get new) longer.head was.count)) ≡ shown (Some last) = ap (λ key. shown (get new key)) join.grows.last ∙ ap shown join.came in
      Writes-placed old new queues spot longer (line_says old queues spot ++ shown (Some last)) within
      (ap (chain (get new) longer.head) join.grows.count ∙ ap (λ line. line ++ shown (get new (key_at (get new) longer.head was.count))) before ∙ ap (λ line. line_says old queues spot ++ line) at_tail)
      (λ other differs. chain-kept (get old) (get new) (line_at queues) other join.keeps)
      (omega (arith, join.len, length_push (line_says old queues spot) (last.name, record { started = last.started; woken = last.woken }, last.job)))

  -- a caller sees that a job joins a line
  pub ChangesLine-joined : (queue : ℕ) (last : Waiting J) (longer : Line) → IsKept room line_places old queues → Appends old (line_at queues (waits queue)) last new longer → queue < length queues → slab_len old < room
      → ChangesLine (alone room old queues) (alone room new (placed queues (waits queue) longer)) queue (waiting_of queue (alone room old queues) ++ shown (Some last))
  ChangesLine-joined queue last longer kept appends within fits =
      subst (λ line. ChangesLine (alone room old queues) (alone room new (placed queues (waits queue) longer)) queue (line ++ shown (Some last))) (sym (waiting_of-view room old queues queue))
      (ChangesLine-of queue _ kept (IsKept-joined (waits queue) last longer kept appends within fits) (Writes-joined (waits queue) last longer kept appends within))

  -- a caller sees that a job is parked
  pub ChangesParks-joined : (queue : ℕ) (last : Waiting J) (longer : Line) → IsKept room line_places old queues → Appends old (line_at queues (parks queue)) last new longer → queue < length queues → slab_len old < room
      → ChangesParks (alone room old queues) (alone room new (placed queues (parks queue) longer)) queue (parked_of queue (alone room old queues) ++ (last.name, last.job) ∷ [])
  ChangesParks-joined queue last longer kept appends within fits =
      let says = line_says old queues (parks queue) in
      let shows : map shown_parked (says ++ shown (Some last)) ≡ parked_of queue (alone room old queues) ++ (last.name, last.job) ∷ [] =
      map-append shown_parked says (shown (Some last)) ∙ ap (λ parks. parks ++ (last.name, last.job) ∷ []) (sym (parked_of-view room old queues queue)) in
      subst (ChangesParks (alone room old queues) (alone room new (placed queues (parks queue) longer)) queue) shows
      (ChangesParks-of queue _ kept (IsKept-joined (parks queue) last longer kept appends within fits) (Writes-joined (parks queue) last longer kept appends within))

  pub held_count-joined : (spot : Spot) (last : Waiting J) (longer : Line) → IsKept room line_places old queues → Appends old (line_at queues spot) last new longer → spot.queue < length queues → slab_len old < room
      → held_count (alone room new (placed queues spot longer)) ≡ held_count (alone room old queues) + 1
  held_count-joined spot last longer kept appends within fits =
      let join = joined old new (line_at queues) spot last longer kept.linked appends in
      omega (arith, held_count-view (IsKept-joined spot last longer kept appends within fits), held_count-view kept, join.len)
