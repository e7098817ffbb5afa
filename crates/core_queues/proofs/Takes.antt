-- A job at a known place leaves its line and the slab.
use Rattle.core_queues.proofs.Words.{ap, arith, cases_lt, ContainsKey, get, inl, inr, IsKept, IsLastOr, JobId, key_at, length, length-append, Line, line_at, List, None, Queue, Relinks, shown, Skips, Slab, slab_len, Some, Spot, subst, suc}
use Rattle.core_queues.proofs.Words.{sym, Updates, Waiting, ℕ, [], ⊎_elim, ◌++◌, ◌+◌, ◌-◌, ◌<◌, ◌∙◌, ◌≡◌, ◌≤◌, ◌⊎◌}
use Rattle.core_queues.specs.View.{Line as Says}
use Rattle.core_queues.proofs.Spots.{placed, ChangesOne-placed, job_count-placed, length-placed}
use Rattle.core_queues.proofs.Changes.{Writes, Writes-placed}
use Rattle.core_queues.proofs.Leaves.{Leaves, shrinks, keeps, IsKept-left, says-left, Writes-left}
use Rattle.core_queues.proofs.Ends.{WasAt, places_shrunk}
use Rattle.core_queues.proofs.Renewals.{before_place, behind_place, says-at}
use Rattle.core_queues.proofs.Middle.{Unlinks, WasBeside, was_beside, IsLinked-unlinked, chain-unlinked, chain-beside}
use Rattle.core_queues.proofs.Views.{before_some, line_says}

-- a place of a line: its key, how many stand before it, and the key right before it, if one stands there
pub record Found : Type 0 where
  pub key : ℕ
  pub index : ℕ
  pub before : ℕ

module _ {J : Type 0} where
  -- this place of a line has this key, and the key of the place before it is known
  pub record StandsAt (jobs : Slab (Waiting J)) (line : Line) (found : Found) : Type 0 where
    pub within : found.index < line.count
    pub at : found.key ≡ key_at (get jobs) line.head found.index
    pub before : (place : ℕ) → found.index ≡ place + 1 → found.before ≡ key_at (get jobs) line.head place

  -- a job of this name stands at this place of a line
  pub record FindsAt (jobs : Slab (Waiting J)) (line : Line) (name : JobId) (found : Found) : Type 0 where
    pub stands : StandsAt jobs line found
    pub waiting : Waiting J
    pub there : get jobs found.key ≡ Some waiting
    pub named : waiting.name ≡ name

  -- an entry leaves its line and the slab
  pub record TakesOut (old : Slab (Waiting J)) (line : Line) (key before : ℕ) (gone : Waiting J) (new : Slab (Waiting J)) (shorter : Line) : Type 0 where
    pub first : get old key ≡ Some gone
    pub between : Slab (Waiting J)
    pub updates : Updates old between key None
    pub len : slab_len between + 1 ≡ slab_len old
    pub capacity : between.capacity ≡ old.capacity
    pub skips : Skips between line key before gone.next new shorter

  -- where a place was before the one at an index of the line at a spot left
  pub record WasBefore (old new : Slab (Waiting J)) (queues : List Queue) (spot : Spot) (index : ℕ) (after : List Queue) (other : Spot) (here : ℕ) : Type 0 where
    pub was : ℕ
    pub within : was < (line_at queues other).count
    pub is : key_at (get new) (line_at after other).head here ≡ key_at (get old) (line_at queues other).head was
    pub moved : ((other ≡ spot → here < index) × (was ≡ here)) ⊎ ((other ≡ spot) × (index ≤ here) × (was ≡ suc here))

-- a line without one of its entries
pub record TookOut {J : Type 0} (room line_places : ℕ) (old new : Slab (Waiting J)) (queues : List Queue) (spot : Spot) (index : ℕ) (gone : Waiting J) (after : List Queue) : Type 0 where
  pub before : Says J
  pub behind : Says J
  pub was : line_says old queues spot ≡ before ++ (shown (Some gone) ++ behind)
  pub writes : Writes old new queues after spot (before ++ behind)
  pub kept : IsKept room line_places new after
  pub places : (other : Spot) (here : ℕ) → here < (line_at after other).count → WasBefore old new queues spot index after other here
  pub len : slab_len new + 1 ≡ slab_len old
  pub capacity : new.capacity ≡ old.capacity

module _ {J : Type 0} {old : Slab (Waiting J)} where
  -- what isn't the head of its line has one before it
  pub not_first : (line : Line) (found : Found) → StandsAt old line found → (line.head ≡ found.key → ⊥) → 0 < found.index
  not_first line found stands apart =
      ⊎_elim
      (λ some. some)
      (λ none. let first : found.index ≡ 0 = omega (arith, none) in absurd (apart (sym (stands.at ∙ ap (key_at (get old) line.head) first))))
      (cases_lt 0 found.index)

module _ {J : Type 0} {room line_places : ℕ} {old : Slab (Waiting J)} {queues : List Queue} where
  -- a key at the tail of a line stands at its last place, and what stands there is the tail
  pub is_last : (spot : Spot) (found : Found) → IsKept room line_places old queues → StandsAt old (line_at queues spot) found → (line_at queues spot).tail ≡ found.key → suc found.index ≡ (line_at queues spot).count
  is_last spot found kept stands is =
      let end = before_some (line_at queues spot).count (omega (arith, stands.within)) in
      let both = kept.linked.apart spot found.index spot end.0 stands.within (omega (arith, end.1)) (sym stands.at ∙ sym is ∙ kept.linked.tails spot end.0 end.1) in
      omega (arith, both.1, end.1)

  pub last_is : (spot : Spot) (found : Found) → IsKept room line_places old queues → StandsAt old (line_at queues spot) found → suc found.index ≡ (line_at queues spot).count → (line_at queues spot).tail ≡ found.key
  last_is spot found kept stands is = kept.linked.tails spot found.index (sym is) ∙ sym stands.at

  -- what stands right before the one that was found has a job, and isn't that one
  pub before_filled : (spot : Spot) (found : Found) → IsKept room line_places old queues → StandsAt old (line_at queues spot) found → 0 < found.index → ContainsKey old found.before
  before_filled spot found kept stands some =
      let index = before_some found.index some in
      subst (ContainsKey old) (sym (stands.before index.0 (omega (arith, index.1)))) (kept.linked.filled spot index.0 (omega (arith, stands.within, index.1)))

  pub before_apart : (spot : Spot) (found : Found) → IsKept room line_places old queues → StandsAt old (line_at queues spot) found → 0 < found.index → found.before ≡ found.key → ⊥
  before_apart spot found kept stands some same =
      let index = before_some found.index some in
      let there = stands.before index.0 (omega (arith, index.1)) in
      let here = stands.at ∙ ap (key_at (get old) (line_at queues spot).head) index.1 in
      let both = kept.linked.apart spot index.0 spot (suc index.0) (omega (arith, stands.within, index.1)) (omega (arith, stands.within, index.1)) (sym there ∙ same ∙ here) in
      omega (arith, both.1)

module _ {J : Type 0} {room line_places : ℕ} {old new : Slab (Waiting J)} {queues : List Queue} where
  took_head : (spot : Spot) (index : ℕ) (gone : Waiting J) (shorter : Line) → IsKept room line_places old queues → spot.queue < length queues → index ≡ 0 → Leaves old (line_at queues spot) gone new shorter → TookOut room line_places old new queues spot index gone (placed queues spot shorter)
  took_head spot index gone shorter kept within first leaves = record {
    before = [];
    behind = line_says new (placed queues spot shorter) spot;
    was = says-left spot gone shorter kept leaves within;
    writes = Writes-left spot gone shorter kept leaves within;
    kept = IsKept-left spot gone shorter kept leaves within;
    places = λ other here h.
        let was = places_shrunk (get old) (line_at queues) (line_at (placed queues spot shorter)) spot shorter (ChangesOne-placed queues spot shorter within) (shrinks old new (line_at queues spot) gone shorter leaves) other here h in
        record { was = was.place; within = was.within; is = (keeps spot gone shorter kept leaves within).keys other here h ∙ was.key; moved = by_move other here was.place was.moved };
    len = leaves.len;
    capacity = leaves.capacity;
  }
    where
      by_move : (other : Spot) (here was : ℕ) → ((other ≡ spot) × (was ≡ suc here)) ⊎ ((other ≡ spot → ⊥) × (was ≡ here)) → ((other ≡ spot → here < index) × (was ≡ here)) ⊎ ((other ≡ spot) × (index ≤ here) × (was ≡ suc here))
      by_move other here was (inl x) = inr (x.0, omega (arith, first), x.1)
      by_move other here was (inr x) = inl (λ same. absurd (x.0 same), x.1)

  took_beside : (spot : Spot) (shorter : Line) (index behind before key : ℕ) (one gone : Waiting J) → IsKept room line_places old queues → spot.queue < length queues
      → Unlinks (get old) (get new) (line_at queues spot) shorter index behind before key one gone → slab_len new + 1 ≡ slab_len old → new.capacity ≡ old.capacity → TookOut room line_places old new queues spot (suc index) gone (placed queues spot shorter)
  took_beside spot shorter index behind before key one gone kept within unlinks len capacity =
      let line = line_at queues spot in
      let changes = ChangesOne-placed queues spot shorter within in
      let same = length-placed queues spot shorter in
      let was = says-at old line (suc index) behind key gone unlinks.counted unlinks.here unlinks.was in
      let front = before_place old line (suc index) in
      let rest = behind_place old line (suc index) behind in
      record {
        before = front;
        behind = rest;
        was = was;
        writes = Writes-placed old new queues spot shorter (front ++ rest) within (chain-unlinked (get old) (get new) (line_at queues) (line_at (placed queues spot shorter)) spot shorter index behind before key one gone kept.linked unlinks)
            (chain-beside (get old) (get new) (line_at queues) (line_at (placed queues spot shorter)) spot shorter index behind before key one gone kept.linked unlinks)
            (omega (arith, len, ap length was, length-append front (shown (Some gone) ++ rest), length-append (shown (Some gone)) rest, length-append front rest));
        kept = record {
          linked = IsLinked-unlinked (get old) (get new) (line_at queues) (line_at (placed queues spot shorter)) spot shorter index behind before key one gone kept.linked unlinks changes;
          counted = omega (arith, kept.counted, job_count-placed queues spot shorter within, len, unlinks.count, unlinks.counted);
          within_room = omega (arith, kept.within_room, len);
          reserved = omega (arith, kept.reserved, capacity);
          some_queue = omega (arith, kept.some_queue, same);
          few_queues = omega (arith, kept.few_queues, same);
          queues_reserved = kept.queues_reserved;
        };
        places = λ other here h.
            let prior = was_beside (get old) (get new) (line_at queues) (line_at (placed queues spot shorter)) spot shorter index behind before key one gone kept.linked unlinks changes other here h in
            record { was = prior.place; within = prior.within; is = prior.key_is; moved = by_move other here prior.place prior.moved };
        len = len;
        capacity = capacity;
      }
    where
      by_move : (other : Spot) (here was : ℕ) → ((other ≡ spot → here < suc index) × (was ≡ here)) ⊎ ((other ≡ spot) × (index < here) × (was ≡ suc here)) → ((other ≡ spot → here < suc index) × (was ≡ here)) ⊎ ((other ≡ spot) × (suc index ≤ here) × (was ≡ suc here))
      by_move other here was (inl x) = inl x
      by_move other here was (inr x) = inr (x.0, omega (arith, x.1), x.2)

  pub took_out : (spot : Spot) (found : Found) (gone : Waiting J) (shorter : Line) → IsKept room line_places old queues → spot.queue < length queues → StandsAt old (line_at queues spot) found → TakesOut old (line_at queues spot) found.key found.before gone new shorter
      → TookOut room line_places old new queues spot found.index gone (placed queues spot shorter)
  took_out spot found gone shorter kept within stands takes = by_links takes.skips.links
    where
      by_tail : IsLastOr (line_at queues spot) found.key found.before shorter → (0 < (line_at queues spot).count - suc found.index) ⊎ ((line_at queues spot).count - suc found.index ≤ 0)
          → (((line_at queues spot).count - suc found.index ≡ 0) × (shorter.tail ≡ found.before)) ⊎ ((0 < (line_at queues spot).count - suc found.index) × (shorter.tail ≡ (line_at queues spot).tail))
      by_tail (inl last) side = inl (omega (arith, is_last spot found kept stands last.0), last.1)
      by_tail (inr more) (inl some) = inr (some, more.1)
      by_tail (inr more) (inr none) = absurd (more.0 (last_is spot found kept stands (omega (arith, none, stands.within))))

      by_links : (((line_at queues spot).head ≡ found.key) × (shorter.head ≡ gone.next) × (shorter.tail ≡ (line_at queues spot).tail) × (new ≡ takes.between))
          ⊎ (((line_at queues spot).head ≡ found.key → ⊥) × (shorter.head ≡ (line_at queues spot).head) × IsLastOr (line_at queues spot) found.key found.before shorter × Relinks takes.between found.before gone.next new)
          → TookOut room line_places old new queues spot found.index gone (placed queues spot shorter)
      by_links (inl first) =
          let at : found.key ≡ (line_at queues spot).head = sym first.0 in
          let start = kept.linked.apart spot found.index spot 0 stands.within (omega (arith, stands.within)) (sym stands.at ∙ at) in
          took_head spot found.index gone shorter kept within start.1 (record {
            some = omega (arith, stands.within);
            first = ap (get old) (sym at) ∙ takes.first;
            updates = subst (λ (jobs : Slab (Waiting J)). Updates old jobs (line_at queues spot).head None) (sym first.3) (subst (λ key. Updates old takes.between key None) at takes.updates);
            len = ap (λ (jobs : Slab (Waiting J)). slab_len jobs + 1) first.3 ∙ takes.len;
            capacity = ap (λ (jobs : Slab (Waiting J)). jobs.capacity) first.3 ∙ takes.capacity;
            head = first.1;
            tail = first.2;
            count = takes.skips.count;
          })
      by_links (inr beside) =
          let relinks = beside.3 in
          let some = not_first (line_at queues spot) found stands beside.0 in
          let index = before_some found.index some in
          let there : found.before ≡ key_at (get old) (line_at queues spot).head index.0 = stands.before index.0 (omega (arith, index.1)) in
          let here : found.key ≡ key_at (get old) (line_at queues spot).head (suc index.0) = stands.at ∙ ap (key_at (get old) (line_at queues spot).head) index.1 in
          let apart = before_apart spot found kept stands some in
          subst (λ n. TookOut room line_places old new queues spot n gone (placed queues spot shorter)) (sym index.1)
          (took_beside spot shorter index.0 ((line_at queues spot).count - suc found.index) found.before found.key relinks.was gone kept within (record {
            counted = omega (arith, stands.within, index.1);
            here = here;
            there = there;
            was = takes.first;
            one_was = sym (takes.updates.others found.before apart) ∙ relinks.at;
            one_is = relinks.updates.changed;
            others = λ other not_key not_before. relinks.updates.others other not_before ∙ takes.updates.others other not_key;
            head = beside.1;
            count = omega (arith, takes.skips.count, stands.within, index.1);
            tail = by_tail beside.2 (cases_lt 0 ((line_at queues spot).count - suc found.index));
          }) (ap (λ n. n + 1) relinks.len ∙ takes.len) (relinks.capacity ∙ takes.capacity))
