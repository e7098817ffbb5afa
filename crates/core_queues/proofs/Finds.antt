-- How jobs are found, as lines change.
use Rattle.core_queues.proofs.Words.{ap, Appends, AreFound, AreSeated, arith, Bool, cases_eq, cases_lt, ContainsKey, false, get, inl, inr, is_some, IsKept, IsSome, JobId, JoinsLines, key_at, LeavesSeat, length, length-replicate, Line}
use Rattle.core_queues.proofs.Words.{line_at, List, MovesHead, MovesOut, name_at, name_of, Names, next_of, no_line, no_seat, None, Option, parked_counts, parked_keys, Queue, queue_at, refl, Relinks, Renews, replicate, Requeues, ParkedAt}
use Rattle.core_queues.proofs.Words.{seat_at, set, Slab, slice_index_or, Some, Spot, subst, suc, sym, true, Vacates, Waiting, zero, ℕ, [], ◌+◌, ◌-◌, ◌<◌, ◌∙◌, ◌∷◌, ◌≡◌, ◌≤◌, ◌⊎◌}
use Rattle.std.proofs.lemmas.List.{length-set}
use Rattle.core_queues.proofs.Spots.{waits, parks, other_side, placed, ChangesOne-placed, length-placed}
use Rattle.core_queues.proofs.Joins.{joined}
use Rattle.core_queues.proofs.Leaves.{Leaves}
use Rattle.core_queues.proofs.Fronts.{removed, rest_of, marked, Leaves-removed, Rewrites-job}
use Rattle.core_queues.proofs.Turns.{parked_queues, joins_parked, IsKept-behind}
use Rattle.core_queues.proofs.Unparks.{lines_of, both_of}
use Rattle.core_queues.proofs.Seated.{AreSeated-same, AreSeated-parked, LeavesPlace, AreSeated-left, AreSeated-vacated}
use Rattle.core_queues.proofs.Names.{SameNames, SameNames-written, SameNames-requeued, SameNames-moved, SameNames-joins, Named-same, Named-set, Named-appended, key_within}
use Rattle.core_queues.proofs.Parked.{SameParks, SameParks-joined, SameParks-left, SameParks-renewed, SameParks-requeued, parks_beside, ComesBehind-joined}
use Rattle.core_queues.proofs.Takes.{Found, StandsAt, TookOut, is_last, last_is}

module _ {J : Type 0} where
  -- parked jobs and names stay
  pub AreFound-same : (old new : Slab (Waiting J)) (before after : List Queue) (names : Names) (seats : List ParkedAt) → SameParks old before new after → SameNames old new → new.capacity ≡ old.capacity → AreFound old before names seats → AreFound new after names seats
  AreFound-same old new before after names seats same kept capacity found = record {
    named = Named-same old new names kept found.named;
    seated = AreSeated-same (parked_counts before) (parked_counts after) (parked_keys old before) (parked_keys new after) seats same.counts same.keys found.seated;
    names_size = found.names_size ∙ sym capacity;
    seats_size = found.seats_size ∙ sym capacity;
  }

  -- no job is inside
  pub AreFound-opened : (jobs : Slab (Waiting J)) (first : Queue) (names : Names) (seats : List ParkedAt) → jobs.slots ≡ [] → first.parked.count ≡ 0 → names ≡ replicate jobs.capacity None → seats ≡ replicate jobs.capacity no_seat → AreFound jobs (first ∷ []) names seats
  AreFound-opened jobs first names seats empty none no_names no_seats = record {
    named = λ key. ap (λ n. name_at n key) no_names ∙ none_at jobs.capacity key ∙ sym (ap name_of (ap (λ (slots : List (Option (Waiting J))). slice_index_or slots key None) empty));
    seated = record {
      stands = λ queue place h. absurd (omega (arith, h, counts queue));
      behind = λ queue place h. absurd (omega (arith, h, counts queue));
      only = λ key is. let both : true ≡ false = sym is ∙ ap (λ (s : List ParkedAt). (seat_at s key).parked) no_seats ∙ ap (λ (s : ParkedAt). s.parked) (vacant_at jobs.capacity key) in absurd (cc);
    };
    names_size = ap length no_names ∙ length-replicate jobs.capacity None;
    seats_size = ap length no_seats ∙ length-replicate jobs.capacity no_seat;
  }
    where
      counts : (queue : ℕ) → parked_counts (first ∷ []) queue ≡ 0
      counts zero = none
      counts (suc queue) = refl

      none_at : (n key : ℕ) → name_at (replicate n None) key ≡ None
      none_at zero key = refl
      none_at (suc n) zero = refl
      none_at (suc n) (suc key) = none_at n key

      vacant_at : (n key : ℕ) → seat_at (replicate n no_seat) key ≡ no_seat
      vacant_at zero key = refl
      vacant_at (suc n) zero = refl
      vacant_at (suc n) (suc key) = vacant_at n key

module _ {J : Type 0} {old new : Slab (Waiting J)} {queues : List Queue} (names : Names) (seats : List ParkedAt) where
  -- an entry has another job
  pub AreFound-renewed : (key : ℕ) (front : Waiting J) (job : J) → Renews old key front job new → AreFound old queues names seats → AreFound new queues names seats
  AreFound-renewed key front job renews found =
      AreFound-same old new queues queues names seats (SameParks-renewed key front (record front { job = job }) (Rewrites-job old new key front job renews)) (SameNames-written old new key front (record front { job = job }) renews.at renews.updates refl) renews.capacity found

module _ {J : Type 0} {room line_places : ℕ} {old : Slab (Waiting J)} {queues : List Queue} (names : Names) (seats : List ParkedAt) where
  -- where the jobs of these keys stand in their lines
  pub found_within : (spot : Spot) (place : ℕ) → IsKept room line_places old queues → AreFound old queues names seats → place < (line_at queues spot).count → key_at (get old) (line_at queues spot).head place < length seats
  found_within spot place kept found h =
      let key = key_at (get old) (line_at queues spot).head place in
      omega (arith, key_within old names key found.named (kept.linked.filled spot place h), found.names_size, found.seats_size)

  -- what stands behind a job that isn't the last has a seat
  pub next_within : (spot : Spot) (at : Found) (gone : Waiting J) → IsKept room line_places old queues → AreFound old queues names seats → StandsAt old (line_at queues spot) at → get old at.key ≡ Some gone → ((line_at queues spot).tail ≡ at.key → ⊥) → gone.next < length seats
  next_within spot at gone kept found stands is not_last =
      let short : suc at.index < (line_at queues spot).count = by_size (cases_lt (suc at.index) (line_at queues spot).count) in
      let there : key_at (get old) (line_at queues spot).head (suc at.index) ≡ gone.next = ap (λ k. next_of (get old k)) (sym stands.at) ∙ ap next_of is in
      subst (λ key. key < length seats) there (found_within spot (suc at.index) kept found short)
    where
      by_size : (suc at.index < (line_at queues spot).count) ⊎ ((line_at queues spot).count ≤ suc at.index) → suc at.index < (line_at queues spot).count
      by_size (inl some) = some
      by_size (inr none) = absurd (not_last (last_is spot at kept stands (omega (arith, none, stands.within))))

module _ {J : Type 0} {room line_places : ℕ} {old new : Slab (Waiting J)} {queues : List Queue} (names : Names) (seats : List ParkedAt) where
  -- a job joins a line
  pub AreFound-joined : (queue : ℕ) (last : Waiting J) (longer : Line) → IsKept room line_places old queues → Appends old (line_at queues (waits queue)) last new longer → queue < length queues → longer.tail < new.capacity → AreFound old queues names seats
      → AreFound new (placed queues (waits queue) longer) (set names longer.tail (Some last.name)) seats
  AreFound-joined queue last longer kept appends within inside found =
      let join = joined old new (line_at queues) (waits queue) last longer kept.linked appends in
      let same = SameParks-joined queue last longer kept appends within in
      record {
        named = Named-appended old new names (line_at queues (waits queue)) longer last appends (omega (arith, inside, found.names_size, join.capacity)) found.named;
        seated = AreSeated-same (parked_counts queues) (parked_counts (placed queues (waits queue) longer)) (parked_keys old queues) (parked_keys new (placed queues (waits queue) longer)) seats same.counts same.keys found.seated;
        names_size = length-set names longer.tail (Some last.name) ∙ found.names_size ∙ sym join.capacity;
        seats_size = found.seats_size ∙ sym join.capacity;
      }

  -- a job comes to be parked
  pub AreFound-parked : (queue : ℕ) (last : Waiting J) (longer : Line) → IsKept room line_places old queues → Appends old (line_at queues (parks queue)) last new longer → queue < length queues → longer.tail < new.capacity → AreFound old queues names seats
      → AreFound new (placed queues (parks queue) longer) (set names longer.tail (Some last.name)) (set seats longer.tail (record { before = (line_at queues (parks queue)).tail; queue = queue; parked = true }))
  AreFound-parked queue last longer kept appends within inside found =
      let join = joined old new (line_at queues) (parks queue) last longer kept.linked appends in
      let seat : ParkedAt = record { before = (line_at queues (parks queue)).tail; queue = queue; parked = true } in
      record {
        named = Named-appended old new names (line_at queues (parks queue)) longer last appends (omega (arith, inside, found.names_size, join.capacity)) found.named;
        seated = AreSeated-parked (parked_counts queues) (parked_counts (placed queues (parks queue) longer)) (parked_keys old queues) (parked_keys new (placed queues (parks queue) longer)) seats queue longer.tail seat
            (ComesBehind-joined queue last longer kept appends within) (omega (arith, inside, found.seats_size, join.capacity)) refl refl (λ before is. kept.linked.tails (parks queue) before is) found.seated;
        names_size = length-set names longer.tail (Some last.name) ∙ found.names_size ∙ sym join.capacity;
        seats_size = length-set seats longer.tail seat ∙ found.seats_size ∙ sym join.capacity;
      }

  -- the head of a line leaves
  pub AreFound-left : (queue : ℕ) (front : Waiting J) (rest : Line) → IsKept room line_places old queues → Leaves old (line_at queues (waits queue)) front new rest → queue < length queues → AreFound old queues names seats
      → AreFound new (placed queues (waits queue) rest) (set names (line_at queues (waits queue)).head None) seats
  AreFound-left queue front rest kept leaves within found =
      let same = SameParks-left queue front rest kept leaves within in
      let head = (line_at queues (waits queue)).head in
      record {
        named = Named-set old new names head None leaves.updates (key_within old names head found.named (ap is_some leaves.first)) found.named;
        seated = AreSeated-same (parked_counts queues) (parked_counts (placed queues (waits queue) rest)) (parked_keys old queues) (parked_keys new (placed queues (waits queue) rest)) seats same.counts same.keys found.seated;
        names_size = length-set names head None ∙ found.names_size ∙ sym leaves.capacity;
        seats_size = found.seats_size ∙ sym leaves.capacity;
      }

  -- the head of a line comes to be parked
  pub AreFound-moved : (queue : ℕ) (shorter longer : Line) → IsKept room line_places old queues → MovesHead old (line_at queues (waits queue)) (line_at queues (parks queue)) new shorter longer → queue < length queues → 0 < (line_at queues (waits queue)).count → AreFound old queues names seats
      → AreFound new (set queues queue (record (queue_at queues queue) { waiting = shorter; parked = longer })) names (set seats (line_at queues (waits queue)).head (record { before = (line_at queues (parks queue)).tail; queue = queue; parked = true }))
  AreFound-moved queue shorter longer kept moves within some found =
      let line = line_at queues (waits queue) in
      let rest = rest_of line moves.front in
      let gone = removed old line.head in
      let left = placed queues (waits queue) rest in
      let seat : ParkedAt = record { before = (line_at queues (parks queue)).tail; queue = queue; parked = true } in
      let same = SameParks-left queue moves.front rest kept (Leaves-removed old line moves.front some moves.starts.at) within in
      let once = AreSeated-same (parked_counts queues) (parked_counts left) (parked_keys old queues) (parked_keys gone left) seats same.counts same.keys found.seated in
      let behind = IsKept-behind queue moves.front kept moves.starts.at within some in
      let joins = joins_parked old new queues queue shorter longer moves within in
      let short : queue < length left = omega (arith, length-placed queues (waits queue) rest, within) in
      let join = joined gone new (line_at left) (parks queue) (marked moves.front false) longer behind.linked joins in
      let inside : line.head < length seats = omega (arith, key_within old names line.head found.named (ap is_some moves.starts.at), found.names_size, found.seats_size) in
      let knows : (before : ℕ) → parked_counts left queue ≡ suc before → seat.before ≡ parked_keys gone left queue before =
      λ before is. sym (ap (λ (l : Line). l.tail) (parks_beside queues queue rest within queue)) ∙ behind.linked.tails (parks queue) before is in
      let twice = AreSeated-parked (parked_counts left) (parked_counts (placed left (parks queue) longer)) (parked_keys gone left) (parked_keys new (placed left (parks queue) longer)) seats queue longer.tail seat
      (ComesBehind-joined queue (marked moves.front false) longer behind joins short) (omega (arith, inside, moves.tail)) refl refl knows once in
      record {
        named = Named-same old new names (SameNames-moved old new line (line_at queues (parks queue)) shorter longer moves) found.named;
        seated = subst (λ (l : Line). AreSeated (parked_counts (set queues queue (record (queue_at queues queue) { waiting = l; parked = longer }))) (parked_keys new (set queues queue (record (queue_at queues queue) { waiting = l; parked = longer }))) (set seats line.head seat)) (sym moves.left)
            (subst (λ (after : List Queue). AreSeated (parked_counts after) (parked_keys new after) (set seats line.head seat)) (parked_queues queues queue rest longer within)
            (subst (λ key. AreSeated (parked_counts (placed left (parks queue) longer)) (parked_keys new (placed left (parks queue) longer)) (set seats key seat)) moves.tail twice));
        names_size = found.names_size ∙ sym join.capacity;
        seats_size = length-set seats line.head seat ∙ found.seats_size ∙ sym join.capacity;
      }

  -- the head of a line goes to its tail
  pub AreFound-requeued : (queue : ℕ) (turned : Line) (woken : Bool) → IsKept room line_places old queues → Requeues old (line_at queues (waits queue)) woken new turned → queue < length queues → 0 < (line_at queues (waits queue)).count → AreFound old queues names seats
      → AreFound new (placed queues (waits queue) turned) names seats
  AreFound-requeued queue turned woken kept requeues within some found =
      AreFound-same old new queues (placed queues (waits queue) turned) names seats (SameParks-requeued queue turned woken kept requeues within some) (SameNames-requeued old new (line_at queues (waits queue)) turned woken requeues) (by_links requeues.links) found
    where
      by_links : (((line_at queues (waits queue)).count ≡ 1) × (turned.head ≡ (line_at queues (waits queue)).head) × (new ≡ requeues.between))
          ⊎ (((line_at queues (waits queue)).count ≡ 1 → ⊥) × (turned.head ≡ requeues.front.next) × Relinks requeues.between (line_at queues (waits queue)).tail (line_at queues (waits queue)).head new) → new.capacity ≡ old.capacity
      by_links (inl one) = ap (λ (jobs : Slab (Waiting J)). jobs.capacity) one.2 ∙ requeues.starts.capacity
      by_links (inr more) = more.2.capacity ∙ requeues.starts.capacity

  -- all parked jobs of a queue come to its line
  pub AreFound-unparked : (queue : ℕ) (both : Line) (vacated : List ParkedAt) → IsKept room line_places old queues → JoinsLines old (line_at queues (waits queue)) (line_at queues (parks queue)) new both → queue < length queues
      → Vacates (parked_keys old queues queue) (parked_counts queues queue) seats vacated → AreFound old queues names seats → AreFound new (placed (placed queues (waits queue) both) (parks queue) no_line) names vacated
  AreFound-unparked queue both vacated kept joins within gone found =
      let after = placed (placed queues (waits queue) both) (parks queue) no_line in
      let lines = lines_of queues queue both within in
      let entries = both_of old new (line_at queues) queue both kept.linked joins in
      let others : (other : ℕ) → (other ≡ queue → ⊥) → line_at after (parks other) ≡ line_at queues (parks other) =
      λ other differs. lines.others (parks other) (λ same. other_side queue other (sym same)) (λ same. differs (ap (λ (s : Spot). s.queue) same)) in
      record {
        named = Named-same old new names (SameNames-joins old new (line_at queues (waits queue)) (line_at queues (parks queue)) both joins) found.named;
        seated = AreSeated-vacated (parked_counts queues) (parked_counts after) (parked_keys old queues) (parked_keys new after) seats vacated queue (ap (λ (l : Line). l.count) lines.second)
            (λ other differs. ap (λ (l : Line). l.count) (others other differs))
            (λ other place differs h. ap (λ (l : Line). key_at (get new) l.head place) (others other differs) ∙ entries.keeps.keys (parks other) place h)
            (λ one here other there h k same. let twin = kept.linked.apart (parks one) here (parks other) there h k same in (ap (λ (s : Spot). s.queue) twin.0, twin.1)) gone found.seated;
        names_size = found.names_size ∙ sym entries.capacity;
        seats_size = gone.size ∙ found.seats_size ∙ sym entries.capacity;
      }

  -- a parked job leaves its place
  LeavesPlace-took : (queue : ℕ) (at : Found) (gone : Waiting J) (shorter : Line) → IsKept room line_places old queues → queue < length queues → StandsAt old (line_at queues (parks queue)) at → suc shorter.count ≡ (line_at queues (parks queue)).count
      → TookOut room line_places old new queues (parks queue) at.index gone (placed queues (parks queue) shorter)
      → LeavesPlace (parked_counts queues) (parked_counts (placed queues (parks queue) shorter)) (parked_keys old queues) (parked_keys new (placed queues (parks queue) shorter)) queue at.index
  LeavesPlace-took queue at gone shorter kept within stands count took =
      let changes = ChangesOne-placed queues (parks queue) shorter within in
      record {
        within = stands.within;
        count = ap (λ (l : Line). suc l.count) changes.changed ∙ count;
        others = λ other differs. ap (λ (l : Line). l.count) (changes.others (parks other) (λ same. differs (ap (λ (s : Spot). s.queue) same)));
        places = λ other place h.
            let prior = took.places (parks other) place h in
            record { was = prior.was; within = prior.within; is = prior.is; moved = by_move other place prior.was prior.moved };
        apart = λ one here other there h k same. let twin = kept.linked.apart (parks one) here (parks other) there h k same in (ap (λ (s : Spot). s.queue) twin.0, twin.1);
      }
    where
      by_move : (other place was : ℕ) → ((parks other ≡ parks queue → place < at.index) × (was ≡ place)) ⊎ ((parks other ≡ parks queue) × (at.index ≤ place) × (was ≡ suc place)) → ((other ≡ queue → place < at.index) × (was ≡ place)) ⊎ ((other ≡ queue) × (at.index ≤ place) × (was ≡ suc place))
      by_move other place was (inl x) = inl (λ same. x.0 (ap parks same), x.1)
      by_move other place was (inr x) = inr (ap (λ (s : Spot). s.queue) x.0, x.1, x.2)

  -- its seat is vacant then, and the one behind it knows the one before it
  pub AreSeated-took : (queue : ℕ) (at : Found) (gone : Waiting J) (shorter : Line) (next : ℕ) (told : List ParkedAt) → IsKept room line_places old queues → queue < length queues → StandsAt old (line_at queues (parks queue)) at → get old at.key ≡ Some gone → next ≡ gone.next
      → suc shorter.count ≡ (line_at queues (parks queue)).count → TookOut room line_places old new queues (parks queue) at.index gone (placed queues (parks queue) shorter) → LeavesSeat seats (line_at queues (parks queue)) at.key next told → AreFound old queues names seats
      → AreSeated (parked_counts (placed queues (parks queue) shorter)) (parked_keys new (placed queues (parks queue) shorter)) told
  AreSeated-took queue at gone shorter next told kept within stands is next_is count took leaves found =
      AreSeated-left (parked_counts queues) (parked_counts (placed queues (parks queue) shorter)) (parked_keys old queues) (parked_keys new (placed queues (parks queue) shorter)) seats told queue at.index at.key next (line_at queues (parks queue))
      (LeavesPlace-took queue at gone shorter kept within stands count took) stands.at leaves (last_is (parks queue) at kept stands)
      (λ more. (λ tail. let end = is_last (parks queue) at kept stands tail in omega (arith, more, end), next_is ∙ sym (ap next_of is) ∙ ap (λ k. next_of (get old k)) stands.at)) found.seated
