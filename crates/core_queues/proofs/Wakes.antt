-- What a wake does: a parked job that was found comes to the line of its queue, and of one that waits the wake is kept.
use Rattle.core_queues.proofs.Words.{ap, Appends, AreAtRest, AreFound, arith, awake, Bool, cases_lt, ChangesLine, false, get, get_or_past, held_count, inl, inr, is_some, IsAtRest, IsKept, JobId, KeepsWake, KeepsWakeOf, key_at, LeavesSeat}
use Rattle.core_queues.proofs.Words.{IsParkedAs, WaitsAs}
use Rattle.core_queues.proofs.Words.{length, Line, line_at, List, map, map-append, MovesOut, name_at, Names, no_queue, parked_counts, parked_keys, Queue, queue_at, QueuesView, refl, ParkedAt, seat_at, set, shown, shown_parked, Slab, slab_len}
use Rattle.core_queues.proofs.Words.{Some, subst, suc, sym, true, Waiting, waiting_of, WakesParked, ℕ, [], ◌++◌, ◌+◌, ◌-◌, ◌<◌, ◌∙◌, ◌∷◌, ◌≡◌, ◌≤◌, ◌⊎◌}
use Rattle.core_queues.specs.View.{Line as Says, Parks as Parked}
use Rattle.core_queues.specs.Parks.{ChangesParks}
use Rattle.core_queues.proofs.Marked.{one_entry}
use Rattle.core_queues.proofs.Spots.{waits, parks, other_side, placed, ChangesOne-placed, length-placed, placed-set}
use Rattle.core_queues.proofs.Changes.{ChangesLine-of, ChangesParks-of}
use Rattle.core_queues.proofs.Renewals.{Rewrites, before_place, behind_place, says-at, IsKept-renewed, Writes-renewed}
use Rattle.core_queues.proofs.Rests.{false_true, IsAtRest-append, IsAtRest-front, IsAtRest-behind, AreAtRest-writes}
use Rattle.core_queues.proofs.Joins.{joined, IsKept-joined, Writes-joined, ChangesLine-joined, held_count-joined}
use Rattle.core_queues.proofs.Fronts.{removed, marked}
use Rattle.core_queues.proofs.Takes.{Found, FindsAt, TakesOut, TookOut, not_first, before_apart, took_out}
use Rattle.core_queues.proofs.Outs.{TakesOut-moved, Appends-out}
use Rattle.core_queues.proofs.Names.{SameNames-out, SameNames-written, Named-same, entry_of}
use Rattle.core_queues.proofs.Seated.{AreSeated-same}
use Rattle.core_queues.proofs.Parked.{SameParks-joined, SameParks-renewed}
use Rattle.core_queues.proofs.Finds.{AreFound-same, AreSeated-took}
use Rattle.core_queues.proofs.Everywhere.{StandsSomewhere, everywhere}
use Rattle.core_queues.proofs.Unparks.{Moves-of}
use Rattle.core_queues.proofs.Views.{alone, waiting_of-view, parked_of-view, held_count-view}

-- the places of a line around the one that was found
around : (line : Line) (found : Found) → found.index < line.count → line.count ≡ found.index + suc (line.count - suc found.index)
around line found within = omega arith

module _ {J : Type 0} where
  -- an entry that a wake is kept beside has the same next key
  pub Rewrites-wake : (old new : Slab (Waiting J)) (key : ℕ) (keeps : KeepsWakeOf old key new) → Rewrites old key keeps.waiting (record keeps.waiting { woken = true }) new
  Rewrites-wake old new key keeps = record { at = keeps.at; updates = keeps.updates; next = refl; len = keeps.len; capacity = keeps.capacity }

module _ {J : Type 0} {old new : Slab (Waiting J)} {queues : List Queue} where
  -- and the same name
  pub AreFound-woken : (names : Names) (seats : List ParkedAt) (key : ℕ) → KeepsWakeOf old key new → AreFound old queues names seats → AreFound new queues names seats
  AreFound-woken names seats key keeps found =
      let rewrites = Rewrites-wake old new key keeps in
      AreFound-same old new queues queues names seats (SameParks-renewed key keeps.waiting (record keeps.waiting { woken = true }) rewrites) (SameNames-written old new key keeps.waiting (record keeps.waiting { woken = true }) keeps.at keeps.updates refl) keeps.capacity found

module _ {J : Type 0} {room line_places : ℕ} {old new : Slab (Waiting J)} {queues : List Queue} where
  -- the jobs that stay parked stay at rest
  pub AreAtRest-taken : (queue : ℕ) (found : Found) (gone : Waiting J) (shorter : Line) (name : JobId) → IsKept room line_places old queues → queue < length queues → FindsAt old (line_at queues (parks queue)) name found
      → TakesOut old (line_at queues (parks queue)) found.key found.before gone new shorter → AreAtRest old queues → AreAtRest new (placed queues (parks queue) shorter)
  AreAtRest-taken queue found gone shorter name kept within finds takes rests =
      let took : TookOut room line_places old new queues (parks queue) found.index gone (placed queues (parks queue) shorter) = took_out (parks queue) found gone shorter kept within finds.stands takes in
      let all = subst (λ (says : Says J). IsAtRest says) took.was (rests queue) in
      let rest = IsAtRest-behind (shown (Some gone)) took.behind (IsAtRest-behind took.before (shown (Some gone) ++ took.behind) all) in
      AreAtRest-writes old new queues (placed queues (parks queue) shorter) (parks queue) (took.before ++ took.behind) rests took.writes
      (λ _. IsAtRest-append took.before took.behind (IsAtRest-front took.before (shown (Some gone) ++ took.behind) all) rest)

  -- a caller sees that the job leaves the parked ones and comes to the tail of its queue
  pub WakesParked-taken : (queue : ℕ) (found : Found) (gone : Waiting J) (shorter : Line) (name : JobId) (after : QueuesView J) → IsKept room line_places old queues → queue < length queues → FindsAt old (line_at queues (parks queue)) name found
      → TakesOut old (line_at queues (parks queue)) found.key found.before gone new shorter
      → ChangesLine (alone room new (placed queues (parks queue) shorter)) after queue (waiting_of queue (alone room new (placed queues (parks queue) shorter)) ++ awake (gone.name, gone.job) ∷ [])
      → held_count after ≡ held_count (alone room new (placed queues (parks queue) shorter)) + 1 → WakesParked (alone room old queues) after name queue
  WakesParked-taken queue found gone shorter name after kept within finds takes joins one_more =
      let took : TookOut room line_places old new queues (parks queue) found.index gone (placed queues (parks queue) shorter) = took_out (parks queue) found gone shorter kept within finds.stands takes in
      let between = alone room new (placed queues (parks queue) shorter) in
      let before = map shown_parked took.before in
      let behind = map shown_parked took.behind in
      let named : gone.name ≡ name = ap (λ (w : Waiting J). w.name) (one_entry (get old found.key) gone finds.waiting takes.first finds.there) ∙ finds.named in
      let leaves = subst (λ (left : Parked J). ChangesParks (alone room old queues) between queue left) (map-append shown_parked took.before took.behind) (ChangesParks-of queue (took.before ++ took.behind) kept took.kept took.writes) in
      let line : waiting_of queue between ++ awake (gone.name, gone.job) ∷ [] ≡ waiting_of queue (alone room old queues) ++ awake (name, gone.job) ∷ [] =
      ap (λ says. says ++ awake (gone.name, gone.job) ∷ []) (leaves.same_lines queue) ∙ ap (λ n. waiting_of queue (alone room old queues) ++ awake (n, gone.job) ∷ []) named in
      let held : held_count after ≡ held_count (alone room old queues) = omega (arith, one_more, held_count-view took.kept, held_count-view kept, took.len) in
      record {
        before = before;
        behind = behind;
        job = gone.job;
        was = parked_of-view room old queues queue ∙ ap (map shown_parked) took.was ∙ map-append shown_parked took.before (shown (Some gone) ++ took.behind) ∙ ap (λ n. before ++ (n, gone.job) ∷ behind) named;
        moves = Moves-of (alone room old queues) between after queue _ _ leaves (subst (ChangesLine between after queue) line joins) held;
      }

  pub IsKept-woken : (key : ℕ) → IsKept room line_places old queues → KeepsWakeOf old key new → IsKept room line_places new queues
  IsKept-woken key kept keeps = IsKept-renewed key keeps.waiting (record keeps.waiting { woken = true }) kept (Rewrites-wake old new key keeps)

  pub AreAtRest-woken : (queue : ℕ) (found : Found) (name : JobId) → IsKept room line_places old queues → FindsAt old (line_at queues (waits queue)) name found → KeepsWakeOf old found.key new → AreAtRest old queues → AreAtRest new queues
  AreAtRest-woken queue found name kept finds keeps rests =
      let line = line_at queues (waits queue) in
      AreAtRest-writes old new queues queues (waits queue) _ rests
      (Writes-renewed (waits queue) found.index (line.count - suc found.index) found.key keeps.waiting (record keeps.waiting { woken = true }) kept (Rewrites-wake old new found.key keeps) (around line found finds.stands.within) finds.stands.at)
      (λ is. absurd (false_true is))

  -- a caller sees that the wake is kept beside a job that waits
  pub KeepsWake-found : (queue : ℕ) (found : Found) (name : JobId) → IsKept room line_places old queues → FindsAt old (line_at queues (waits queue)) name found → KeepsWakeOf old found.key new → KeepsWake (alone room old queues) (alone room new queues) name
  KeepsWake-found queue found name kept finds keeps =
      let line = line_at queues (waits queue) in
      let rewrites = Rewrites-wake old new found.key keeps in
      let was = keeps.waiting in
      let counted = around line found finds.stands.within in
      let before = before_place old line found.index in
      let behind = behind_place old line found.index (line.count - suc found.index) in
      let named : was.name ≡ name = ap (λ (w : Waiting J). w.name) (one_entry (get old found.key) was finds.waiting keeps.at finds.there) ∙ finds.named in
      let changes = ChangesLine-of queue _ kept (IsKept-woken found.key kept keeps)
      (Writes-renewed (waits queue) found.index (line.count - suc found.index) found.key was (record was { woken = true }) kept rewrites counted finds.stands.at) in
      record {
        queue = queue;
        before = before;
        behind = behind;
        marks = record { started = was.started; woken = was.woken };
        job = was.job;
        was = waiting_of-view room old queues queue ∙ says-at old line found.index (line.count - suc found.index) found.key was counted finds.stands.at keeps.at
            ∙ ap (λ n. before ++ (n, record { started = was.started; woken = was.woken }, was.job) ∷ behind) named;
        line = subst (λ (n : JobId). ChangesLine (alone room old queues) (alone room new queues) queue (before ++ (n, record { started = was.started; woken = true }, was.job) ∷ behind)) named changes;
      }

-- what a parked job that was woken comes to
pub record WokenFrom {J : Type 0} (room line_places : ℕ) (old new : Slab (Waiting J)) (queues : List Queue) (names : Names) (told : List ParkedAt) (name : JobId) (queue : ℕ) (after : List Queue) : Type 0 where
  pub kept : IsKept room line_places new after
  pub rests : AreAtRest new after
  pub found : AreFound new after names told
  pub wakes : WakesParked (alone room old queues) (alone room new after) name queue

module _ {J : Type 0} {room line_places : ℕ} {old new : Slab (Waiting J)} {queues : List Queue} where
  -- a parked job that was found goes to the tail of its queue
  pub woken_from : (names : Names) (seats told : List ParkedAt) (queue : ℕ) (at : Found) (name : JobId) (next : ℕ) (shorter longer : Line) → IsKept room line_places old queues → queue < length queues → FindsAt old (line_at queues (parks queue)) name at
      → MovesOut old (line_at queues (parks queue)) at.key at.before (line_at queues (waits queue)) new next shorter longer → LeavesSeat seats (line_at queues (parks queue)) at.key next told → AreAtRest old queues → AreFound old queues names seats
      → WokenFrom room line_places old new queues names told name queue (set queues queue (record (queue_at queues queue) { waiting = longer; parked = shorter }))
  woken_from names seats told queue at name next shorter longer kept within finds moves leaves rests found =
      let from = line_at queues (parks queue) in
      let to = line_at queues (waits queue) in
      let apart : (from.head ≡ at.key → ⊥) → at.before ≡ at.key → ⊥ = λ not_head. before_apart (parks queue) at kept finds.stands (not_first from at finds.stands not_head) in
      let middle = removed moves.between at.key in
      let gone = moves.gone in
      let last = marked gone false in
      let left = placed queues (parks queue) shorter in
      let takes = TakesOut-moved old new from to at.key at.before next shorter longer moves apart in
      let took = took_out (parks queue) at gone shorter kept within finds.stands takes in
      let beside = (ChangesOne-placed queues (parks queue) shorter within).others (waits queue) (other_side queue queue) in
      let joins = subst (λ (l : Line). Appends middle l last new longer) (sym beside) (Appends-out old new from to at.key at.before next shorter longer moves apart) in
      let short : queue < length left = omega (arith, within, length-placed queues (parks queue) shorter) in
      let fits : slab_len middle < room = omega (arith, took.len, kept.within_room) in
      let count : suc shorter.count ≡ from.count = omega (arith, moves.skips.count, finds.stands.within) in
      let join = joined middle new (line_at left) (waits queue) last longer took.kept.linked joins in
      let same = SameParks-joined queue last longer took.kept joins short in
      let seated = AreSeated-took names seats queue at gone shorter next told kept within finds.stands moves.starts.at moves.next_is count took leaves found in
      let after = placed left (waits queue) longer in
      subst (λ (queues_then : List Queue). WokenFrom room line_places old new queues names told name queue queues_then) (placed-set queues queue (record (queue_at queues queue) { parked = shorter }) false longer within)
      (record {
        kept = IsKept-joined (waits queue) last longer took.kept joins short fits;
        rests = AreAtRest-writes middle new left after (waits queue) _ (AreAtRest-taken queue at gone shorter name kept within finds takes rests) (Writes-joined (waits queue) last longer took.kept joins short) (λ is. absurd (false_true is));
        found = record {
          named = Named-same old new names (SameNames-out old new from to at.key at.before next shorter longer moves) found.named;
          seated = AreSeated-same (parked_counts left) (parked_counts after) (parked_keys middle left) (parked_keys new after) told same.counts same.keys seated;
          names_size = found.names_size ∙ sym took.capacity ∙ sym join.capacity;
          seats_size = leaves.size ∙ found.seats_size ∙ sym took.capacity ∙ sym join.capacity;
        };
        wakes = WakesParked-taken queue at gone shorter name (alone room new after) kept within finds takes (ChangesLine-joined queue last longer took.kept joins short fits) (held_count-joined (waits queue) last longer took.kept joins short fits);
      })

module _ {J : Type 0} {room line_places : ℕ} {old : Slab (Waiting J)} {queues : List Queue} where
  -- where a parked job of this name stands
  pub finds_parked : (names : Names) (seats : List ParkedAt) (name : JobId) (key : ℕ) → IsKept room line_places old queues → AreFound old queues names seats → name_at names key ≡ Some name → (seat_at seats key).parked ≡ true
      → (index : ℕ) × ((seat_at seats key).queue < length queues) × FindsAt old (line_at queues (parks (seat_at seats key).queue)) name (record { key = key; index = index; before = (seat_at seats key).before })
  finds_parked names seats name key kept found is parked =
      let queue = (seat_at seats key).queue in
      let place = found.seated.only key parked in
      let entry = entry_of old names name key found.named is in (
        place.0,
        by_size (cases_lt queue (length queues)) place.1,
        record {
          stands = record {
            within = place.1;
            at = sym place.2;
            before = λ earlier at.
                let next : place.0 ≡ suc earlier = omega (arith, at) in
                ap (λ k. (seat_at seats k).before) (sym place.2 ∙ ap (parked_keys old queues queue) next) ∙ found.seated.behind queue earlier (omega (arith, place.1, next));
          };
          waiting = entry.0;
          there = entry.1;
          named = entry.2;
        },
      )
    where
      by_size : ((seat_at seats key).queue < length queues) ⊎ (length queues ≤ (seat_at seats key).queue) → {place : ℕ} → place < (line_at queues (parks (seat_at seats key).queue)).count → (seat_at seats key).queue < length queues
      by_size (inl within) {place} some = within
      by_size (inr past) {place} some = let none : (line_at queues (parks (seat_at seats key).queue)).count ≡ 0 = ap (λ (q : Queue). q.parked.count) (get_or_past queues (seat_at seats key).queue no_queue past) in absurd (omega (arith, some, none))

  -- where a job of this name stands that isn't parked
  pub finds_waiting : (names : Names) (seats : List ParkedAt) (name : JobId) (key : ℕ) → IsKept room line_places old queues → AreFound old queues names seats → name_at names key ≡ Some name → (seat_at seats key).parked ≡ false
      → (queue : ℕ) × (index : ℕ) × (before : ℕ) × FindsAt old (line_at queues (waits queue)) name (record { key = key; index = index; before = before })
  finds_waiting names seats name key kept found is asleep =
      let entry = entry_of old names name key found.named is in
      by_spot entry.0 entry.1 entry.2 (everywhere old queues kept.linked kept.counted key (ap is_some entry.1))
    where
      by_side : (waiting : Waiting J) → get old key ≡ Some waiting → waiting.name ≡ name → (queue place : ℕ) (is_parked : Bool) → place < (line_at queues (record { queue = queue; is_parked = is_parked })).count
          → key_at (get old) (line_at queues (record { queue = queue; is_parked = is_parked })).head place ≡ key → (queue : ℕ) × (index : ℕ) × (before : ℕ) × FindsAt old (line_at queues (waits queue)) name (record { key = key; index = index; before = before })
      by_side waiting there named queue place true within at =
          let seat = found.seated.stands queue place within in
          absurd (false_true (sym asleep ∙ ap (λ k. (seat_at seats k).parked) (sym at) ∙ seat.0))
      by_side waiting there named queue place false within at = (
        queue,
        place,
        key_at (get old) (line_at queues (waits queue)).head (place - 1),
        record {
          stands = record {
            within = within;
            at = sym at;
            before = λ earlier last. let same : place - 1 ≡ earlier = omega (arith, last) in ap (key_at (get old) (line_at queues (waits queue)).head) same;
          };
          waiting = waiting;
          there = there;
          named = named;
        },
      )

      by_spot : (waiting : Waiting J) → get old key ≡ Some waiting → waiting.name ≡ name → StandsSomewhere old queues key → (queue : ℕ) × (index : ℕ) × (before : ℕ) × FindsAt old (line_at queues (waits queue)) name (record { key = key; index = index; before = before })
      by_spot waiting there named stands = by_side waiting there named stands.spot.queue stands.place stands.spot.is_parked stands.within stands.at

  -- the same of what its seat told
  pub finds_seat : (names : Names) (seats : List ParkedAt) (name : JobId) (key queue before : ℕ) → IsKept room line_places old queues → AreFound old queues names seats → name_at names key ≡ Some name
      → ((seat_at seats key).parked ≡ true) × ((seat_at seats key).queue ≡ queue) × ((seat_at seats key).before ≡ before)
      → (index : ℕ) × (queue < length queues) × FindsAt old (line_at queues (parks queue)) name (record { key = key; index = index; before = before })
  finds_seat names seats name key queue before kept found is told =
      subst (λ b. (index : ℕ) × (queue < length queues) × FindsAt old (line_at queues (parks queue)) name (record { key = key; index = index; before = b })) told.2
      (subst (λ q. (index : ℕ) × (q < length queues) × FindsAt old (line_at queues (parks q)) name (record { key = key; index = index; before = (seat_at seats key).before })) told.1
      (finds_parked names seats name key kept found is told.0))

module _ {J : Type 0} {old : Slab (Waiting J)} (found : Found) (name : JobId) (waiting : Waiting J) (at : get old found.key ≡ Some waiting) where
  -- the entry that was found has the name
  is_named : (line : Line) → FindsAt old line name found → waiting.name ≡ name
  is_named line finds = ap (λ (w : Waiting J). w.name) (one_entry (get old found.key) waiting finds.waiting at finds.there) ∙ finds.named

module _ {J : Type 0} (room : ℕ) (old : Slab (Waiting J)) (queues : List Queue) (queue : ℕ) (found : Found) (name : JobId) (waiting : Waiting J) (at : get old found.key ≡ Some waiting) where
  -- a caller sees the parked job that was found
  pub IsParkedAs-found : FindsAt old (line_at queues (parks queue)) name found → IsParkedAs (alone room old queues) name waiting.job
  IsParkedAs-found finds =
      let line = line_at queues (parks queue) in
      let before = before_place old line found.index in
      let behind = behind_place old line found.index (line.count - suc found.index) in
      record {
        queue = queue;
        before = map shown_parked before;
        behind = map shown_parked behind;
        is_there = parked_of-view room old queues queue ∙ ap (map shown_parked) (says-at old line found.index (line.count - suc found.index) found.key waiting (around line found finds.stands.within) finds.stands.at at)
            ∙ map-append shown_parked before (shown (Some waiting) ++ behind) ∙ ap (λ n. map shown_parked before ++ (n, waiting.job) ∷ map shown_parked behind) (is_named found name waiting at line finds);
      }

  -- a caller sees the job that was found and waits
  pub WaitsAs-found : FindsAt old (line_at queues (waits queue)) name found → WaitsAs (alone room old queues) name
  WaitsAs-found finds =
      let line = line_at queues (waits queue) in
      let before = before_place old line found.index in
      let behind = behind_place old line found.index (line.count - suc found.index) in
      record {
        queue = queue;
        before = before;
        behind = behind;
        marks = record { started = waiting.started; woken = waiting.woken };
        job = waiting.job;
        is_there = waiting_of-view room old queues queue ∙ says-at old line found.index (line.count - suc found.index) found.key waiting (around line found finds.stands.within) finds.stands.at at
            ∙ ap (λ n. before ++ (n, record { started = waiting.started; woken = waiting.woken }, waiting.job) ∷ behind) (is_named found name waiting at line finds);
      }
