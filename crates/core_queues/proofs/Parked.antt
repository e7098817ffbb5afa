-- The keys of parked jobs, as lines change.
use Rattle.core_queues.proofs.Words.{ap, Appends, arith, Bool, cases_eq, get, inl, inr, IsKept, key_at, length, Line, line_at, List, parked_counts, parked_keys, Queue, refl, Requeues, Slab, Spot, subst, suc, sym, Waiting, ℕ, ◌+◌, ◌<◌, ◌∙◌}
use Rattle.core_queues.proofs.Words.{◌≡◌, ◌⊎◌}
use Rattle.core_queues.proofs.Chains.{key_at-same}
use Rattle.core_queues.proofs.Spots.{waits, parks, other_side, placed, ChangesOne-placed, length-placed}
use Rattle.core_queues.proofs.Links.{KeepsLines, key_at-grown}
use Rattle.core_queues.proofs.Joins.{joined}
use Rattle.core_queues.proofs.Leaves.{Leaves, keeps}
use Rattle.core_queues.proofs.Renewals.{Rewrites, next_renewed}
use Rattle.core_queues.proofs.Fronts.{removed, rest_of, marked, Leaves-removed}
use Rattle.core_queues.proofs.Turns.{turned_queues, joins_again, IsKept-behind}
use Rattle.core_queues.proofs.Seated.{ComesBehind}

module _ {J : Type 0} where
  -- the keys of the parked jobs stay
  pub record SameParks (old : Slab (Waiting J)) (before : List Queue) (new : Slab (Waiting J)) (after : List Queue) : Type 0 where
    pub counts : (queue : ℕ) → parked_counts after queue ≡ parked_counts before queue
    pub keys : (queue place : ℕ) → place < parked_counts before queue → parked_keys new after queue place ≡ parked_keys old before queue place

  pub SameParks-twice : (old between new : Slab (Waiting J)) (one two three : List Queue) → SameParks old one between two → SameParks between two new three → SameParks old one new three
  SameParks-twice old between new one two three first second = record {
    counts = λ queue. second.counts queue ∙ first.counts queue;
    keys = λ queue place h. second.keys queue place (omega (arith, h, first.counts queue)) ∙ first.keys queue place h;
  }

  -- lines that stay
  pub SameParks-lines : (jobs : Slab (Waiting J)) (before after : List Queue) → ((spot : Spot) → line_at after spot ≡ line_at before spot) → SameParks jobs before jobs after
  SameParks-lines jobs before after same = record {
    counts = λ queue. ap (λ (l : Line). l.count) (same (parks queue));
    keys = λ queue place h. ap (λ (l : Line). key_at (get jobs) l.head place) (same (parks queue));
  }

  -- entries that keep the keys of all lines that there are then
  pub SameParks-kept : (old new : Slab (Waiting J)) (before after : List Queue) → KeepsLines (get old) (get new) (line_at after) → ((queue : ℕ) → line_at after (parks queue) ≡ line_at before (parks queue)) → SameParks old before new after
  SameParks-kept old new before after keep same = record {
    counts = λ queue. ap (λ (l : Line). l.count) (same queue);
    keys = λ queue place h. keep.keys (parks queue) place (omega (arith, h, ap (λ (l : Line). l.count) (same queue))) ∙ ap (λ (l : Line). key_at (get old) l.head place) (same queue);
  }

  -- entries that keep the keys of all lines that there were
  pub SameParks-entries : (old new : Slab (Waiting J)) (before after : List Queue) → KeepsLines (get old) (get new) (line_at before) → ((queue : ℕ) → line_at after (parks queue) ≡ line_at before (parks queue)) → SameParks old before new after
  SameParks-entries old new before after keep same = record {
    counts = λ queue. ap (λ (l : Line). l.count) (same queue);
    keys = λ queue place h. ap (λ (l : Line). key_at (get new) l.head place) (same queue) ∙ keep.keys (parks queue) place h;
  }

-- another line of jobs that wait leaves the parked ones
pub parks_beside : (queues : List Queue) (queue : ℕ) (line : Line) → queue < length queues → (other : ℕ) → line_at (placed queues (waits queue) line) (parks other) ≡ line_at queues (parks other)
parks_beside queues queue line within other = (ChangesOne-placed queues (waits queue) line within).others (parks other) (λ same. other_side queue other (sym same))

module _ {J : Type 0} {old new : Slab (Waiting J)} {queues : List Queue} where
  -- an entry is another one with the same next key
  pub SameParks-renewed : (key : ℕ) (was now : Waiting J) → Rewrites old key was now new → SameParks old queues new queues
  SameParks-renewed key was now renews = record {
    counts = λ queue. refl;
    keys = λ queue place h.
        let head = (line_at queues (parks queue)).head in
        key_at-same (get old) (get new) head place (λ before b. next_renewed old new key was now renews (key_at (get old) head before));
  }

module _ {J : Type 0} {room line_places : ℕ} {old new : Slab (Waiting J)} {queues : List Queue} where
  pub SameParks-joined : (queue : ℕ) (last : Waiting J) (longer : Line) → IsKept room line_places old queues → Appends old (line_at queues (waits queue)) last new longer → queue < length queues → SameParks old queues new (placed queues (waits queue) longer)
  SameParks-joined queue last longer kept appends within =
      let join = joined old new (line_at queues) (waits queue) last longer kept.linked appends in
      SameParks-entries old new queues (placed queues (waits queue) longer) join.keeps (parks_beside queues queue longer within)

  pub SameParks-left : (queue : ℕ) (front : Waiting J) (rest : Line) → IsKept room line_places old queues → Leaves old (line_at queues (waits queue)) front new rest → queue < length queues → SameParks old queues new (placed queues (waits queue) rest)
  SameParks-left queue front rest kept leaves within =
      SameParks-kept old new queues (placed queues (waits queue) rest) (keeps (waits queue) front rest kept leaves within) (parks_beside queues queue rest within)

  -- a job comes behind the parked ones of a queue
  pub ComesBehind-joined : (queue : ℕ) (last : Waiting J) (longer : Line) → IsKept room line_places old queues → Appends old (line_at queues (parks queue)) last new longer → queue < length queues
      → ComesBehind (parked_counts queues) (parked_counts (placed queues (parks queue) longer)) (parked_keys old queues) (parked_keys new (placed queues (parks queue) longer)) queue longer.tail
  ComesBehind-joined queue last longer kept appends within =
      let join = joined old new (line_at queues) (parks queue) last longer kept.linked appends in
      let now = (ChangesOne-placed queues (parks queue) longer within).changed in
      record {
        count = ap (λ (l : Line). l.count) now ∙ join.grows.count;
        others = λ other differs. ap (λ (l : Line). l.count) (others other differs);
        stays = λ other place h. stays other place h (cases_eq other queue);
        last = ap (λ (l : Line). key_at (get new) l.head (line_at queues (parks queue)).count) now ∙ join.grows.last ∙ sym join.grows.tail;
        fresh = λ other place h same. join.fresh (parks other) place h (join.keeps.keys (parks other) place h ∙ same ∙ join.grows.tail);
      }
    where
      others : (other : ℕ) → (other ≡ queue → ⊥) → line_at (placed queues (parks queue) longer) (parks other) ≡ line_at queues (parks other)
      others other differs = (ChangesOne-placed queues (parks queue) longer within).others (parks other) (λ same. differs (ap (λ (s : Spot). s.queue) same))

      stays : (other place : ℕ) → place < (line_at queues (parks other)).count → (other ≡ queue) ⊎ (other ≡ queue → ⊥) → parked_keys new (placed queues (parks queue) longer) other place ≡ parked_keys old queues other place
      stays other place h (inl same) =
          let join = joined old new (line_at queues) (parks queue) last longer kept.linked appends in
          let now = (ChangesOne-placed queues (parks queue) longer within).changed in
          let here : place < (line_at queues (parks queue)).count = omega (arith, h, ap (λ n. (line_at queues (parks n)).count) same) in
          ap (λ n. key_at (get new) (line_at (placed queues (parks queue) longer) (parks n)).head place) same ∙ ap (λ (l : Line). key_at (get new) l.head place) now
          ∙ key_at-grown (get new) (line_at queues (parks queue)) longer join.key place join.grows here ∙ join.keeps.keys (parks queue) place here
          ∙ ap (λ n. key_at (get old) (line_at queues (parks n)).head place) (sym same)
      stays other place h (inr differs) =
          let join = joined old new (line_at queues) (parks queue) last longer kept.linked appends in
          ap (λ (l : Line). key_at (get new) l.head place) (others other differs) ∙ join.keeps.keys (parks other) place h

module _ {J : Type 0} {room line_places : ℕ} {old new : Slab (Waiting J)} {queues : List Queue} where
  -- the head of a line goes to its tail
  pub SameParks-requeued : (queue : ℕ) (turned : Line) (woken : Bool) → IsKept room line_places old queues → Requeues old (line_at queues (waits queue)) woken new turned → queue < length queues → 0 < (line_at queues (waits queue)).count
      → SameParks old queues new (placed queues (waits queue) turned)
  SameParks-requeued queue turned woken kept requeues within some =
      let line = line_at queues (waits queue) in
      let front = requeues.front in
      let rest = rest_of line front in
      let gone = removed old line.head in
      let left = placed queues (waits queue) rest in
      subst (SameParks old queues new) (turned_queues queues queue rest turned within)
      (SameParks-twice old gone new queues left (placed left (waits queue) turned) (SameParks-left queue front rest kept (Leaves-removed old line front some requeues.starts.at) within)
      (SameParks-joined queue (marked front woken) turned (IsKept-behind queue front kept requeues.starts.at within some) (joins_again old new queues queue turned woken requeues within some) (omega (arith, length-placed queues (waits queue) rest, within))))
