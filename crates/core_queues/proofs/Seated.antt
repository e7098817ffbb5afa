-- The seats of parked jobs, as one comes behind the others, as one leaves, and as all of a queue do.
use Rattle.core_queues.proofs.Words.{ap, AreSeated, arith, cases_eq, cases_lt, false, get_or-set_other, get_or-set_same, HasPlace, HasSeat, inl, inr, LeavesSeat, length, Line, List, no_seat, refl, ParkedAt, seat_at, set, subst, suc, sym, true}
use Rattle.core_queues.proofs.Words.{Vacates, zero, ℕ, ⊎_elim, ◌+◌, ◌<◌, ◌∙◌, ◌≡◌, ◌≤◌, ◌⊎◌}
use Rattle.std.proofs.lemmas.List.{length-set}

false_true : false ≡ true → ⊥
false_true is = cc

module _ (counts later : ℕ → ℕ) (keys now : ℕ → ℕ → ℕ) where
  -- where the parked jobs stay
  pub AreSeated-same : (seats : List ParkedAt) → ((queue : ℕ) → later queue ≡ counts queue) → ((queue place : ℕ) → place < counts queue → now queue place ≡ keys queue place) → AreSeated counts keys seats → AreSeated later now seats
  AreSeated-same seats same stay seated = record {
    stands = λ queue place h.
        let within : place < counts queue = omega (arith, h, same queue) in
        subst (λ key. HasSeat seats key queue) (sym (stay queue place within)) (seated.stands queue place within);
    behind = λ queue place h.
        let within : suc place < counts queue = omega (arith, h, same queue) in
        let before : place < counts queue = omega (arith, within) in
        ap (λ key. (seat_at seats key).before) (stay queue (suc place) within) ∙ seated.behind queue place within ∙ sym (stay queue place before);
    only = λ key is.
        let there = seated.only key is in
        let queue = (seat_at seats key).queue in
        (there.0, omega (arith, there.1, same queue), stay queue there.0 there.1 ∙ there.2);
  }

  -- a job comes behind the parked ones of a queue
  pub record ComesBehind (queue key : ℕ) : Type 0 where
    pub count : later queue ≡ suc (counts queue)
    pub others : (other : ℕ) → (other ≡ queue → ⊥) → later other ≡ counts other
    pub stays : (other place : ℕ) → place < counts other → now other place ≡ keys other place
    pub last : now queue (counts queue) ≡ key
    pub fresh : (other place : ℕ) → place < counts other → keys other place ≡ key → ⊥

  pub AreSeated-parked : (seats : List ParkedAt) (queue key : ℕ) (seat : ParkedAt) → ComesBehind queue key → key < length seats → seat.parked ≡ true → seat.queue ≡ queue → ((before : ℕ) → counts queue ≡ suc before → seat.before ≡ keys queue before)
      → AreSeated counts keys seats → AreSeated later now (set seats key seat)
  AreSeated-parked seats queue key seat comes within marked here knows seated = record {
    stands = λ other place h. stands other place (old_or_new other place h (cases_eq other queue));
    behind = λ other place h. behind other place (old_or_new other (suc place) h (cases_eq other queue));
    only = λ one is. only one is (cases_eq one key);
  }
    where
      by_place : (other place : ℕ) → place < later other → other ≡ queue → (place < counts queue) ⊎ (counts queue ≤ place) → (place < counts other) ⊎ ((other ≡ queue) × (place ≡ counts queue))
      by_place other place h same (inl before) = inl (omega (arith, before, ap counts same))
      by_place other place h same (inr past) = inr (same, omega (arith, past, h, ap later same, comes.count))

      old_or_new : (other place : ℕ) → place < later other → (other ≡ queue) ⊎ (other ≡ queue → ⊥) → (place < counts other) ⊎ ((other ≡ queue) × (place ≡ counts queue))
      old_or_new other place h (inl same) = by_place other place h same (cases_lt place (counts queue))
      old_or_new other place h (inr differs) = inl (omega (arith, h, comes.others other differs))

      beside : (one : ℕ) → (one ≡ key → ⊥) → seat_at (set seats key seat) one ≡ seat_at seats one
      beside one apart = get_or-set_other seats key one seat no_seat apart

      old_seat : (other place : ℕ) → place < counts other → seat_at (set seats key seat) (now other place) ≡ seat_at seats (keys other place)
      old_seat other place h = ap (seat_at (set seats key seat)) (comes.stays other place h) ∙ beside (keys other place) (comes.fresh other place h)

      new_key : (other place : ℕ) → other ≡ queue → place ≡ counts queue → now other place ≡ key
      new_key other place same last = ap (λ n. now n place) same ∙ ap (now queue) last ∙ comes.last

      new_seat : (one : ℕ) → one ≡ key → seat_at (set seats key seat) one ≡ seat
      new_seat one same = ap (seat_at (set seats key seat)) same ∙ get_or-set_same seats key seat no_seat within

      stands : (other place : ℕ) → (place < counts other) ⊎ ((other ≡ queue) × (place ≡ counts queue)) → HasSeat (set seats key seat) (now other place) other
      stands other place (inl old) =
          let same = old_seat other place old in
          let was = seated.stands other place old in
          (ap (λ (s : ParkedAt). s.parked) same ∙ was.0, ap (λ (s : ParkedAt). s.queue) same ∙ was.1)
      stands other place (inr new) =
          let same = new_seat (now other place) (new_key other place new.0 new.1) in
          (ap (λ (s : ParkedAt). s.parked) same ∙ marked, ap (λ (s : ParkedAt). s.queue) same ∙ here ∙ sym new.0)

      behind : (other place : ℕ) → (suc place < counts other) ⊎ ((other ≡ queue) × (suc place ≡ counts queue)) → (seat_at (set seats key seat) (now other (suc place))).before ≡ now other place
      behind other place (inl old) =
          let before : place < counts other = omega (arith, old) in
          ap (λ (s : ParkedAt). s.before) (old_seat other (suc place) old) ∙ seated.behind other place old ∙ sym (comes.stays other place before)
      behind other place (inr new) =
          let before : place < counts queue = omega (arith, new.1) in
          ap (λ (s : ParkedAt). s.before) (new_seat (now other (suc place)) (new_key other (suc place) new.0 new.1)) ∙ knows place (sym new.1)
          ∙ sym (comes.stays queue place before) ∙ ap (λ n. now n place) (sym new.0)

      more : (other : ℕ) → (other ≡ queue) ⊎ (other ≡ queue → ⊥) → counts other ≤ later other
      more other (inl same) = omega (arith, ap counts same, ap later same, comes.count)
      more other (inr differs) = omega (arith, comes.others other differs)

      only : (one : ℕ) → (seat_at (set seats key seat) one).parked ≡ true → (one ≡ key) ⊎ (one ≡ key → ⊥) → HasPlace later now (seat_at (set seats key seat) one).queue one
      only one is (inl same) =
          let at = ap (λ (s : ParkedAt). s.queue) (new_seat one same) ∙ here in
          subst (λ n. HasPlace later now n one) (sym at) (counts queue, omega (arith, comes.count), comes.last ∙ sym same)
      only one is (inr apart) =
          let same = beside one apart in
          let there = seated.only one (sym (ap (λ (s : ParkedAt). s.parked) same) ∙ is) in
          let other = (seat_at seats one).queue in
          subst (λ (s : ParkedAt). HasPlace later now s.queue one) (sym same) (there.0, omega (arith, there.1, more other (cases_eq other queue)), comes.stays other there.0 there.1 ∙ there.2)

  -- where a place of the parked jobs was before the one at an index of a queue left
  pub record WasPlaced (queue index other place : ℕ) : Type 0 where
    pub was : ℕ
    pub within : was < counts other
    pub is : now other place ≡ keys other was
    pub moved : ((other ≡ queue → place < index) × (was ≡ place)) ⊎ ((other ≡ queue) × (index ≤ place) × (was ≡ suc place))

  -- a parked job leaves its place
  pub record LeavesPlace (queue index : ℕ) : Type 0 where
    pub within : index < counts queue
    pub count : suc (later queue) ≡ counts queue
    pub others : (other : ℕ) → (other ≡ queue → ⊥) → later other ≡ counts other
    pub places : (other place : ℕ) → place < later other → WasPlaced queue index other place
    pub apart : (one here other there : ℕ) → here < counts one → there < counts other → keys one here ≡ keys other there → (one ≡ other) × (here ≡ there)

  pub AreSeated-left : (seats new : List ParkedAt) (queue index key next : ℕ) (line : Line) → LeavesPlace queue index → key ≡ keys queue index → LeavesSeat seats line key next new
      → (suc index ≡ counts queue → line.tail ≡ key) → (suc index < counts queue → (line.tail ≡ key → ⊥) × (next ≡ keys queue (suc index))) → AreSeated counts keys seats → AreSeated later now new
  AreSeated-left seats new queue index key next line leaves at gone last more seated = record {
    stands = λ other place h. stands other place (leaves.places other place h) (leaves.places other place h).moved;
    behind = λ other place h. let before : place < later other = omega (arith, h) in behind other place (leaves.places other (suc place) h) (leaves.places other place before) (leaves.places other (suc place) h).moved (leaves.places other place before).moved;
    only = λ one is. only one is (cases_eq one key);
  }
    where
      not_gone : (other was : ℕ) → was < counts other → (other ≡ queue → was ≡ index → ⊥) → keys other was ≡ key → ⊥
      not_gone other was within apart same = let both = leaves.apart other was queue index within leaves.within (same ∙ at) in apart both.0 both.1

      not_next : (other was : ℕ) → was < counts other → (other ≡ queue → was ≡ suc index → ⊥) → (line.tail ≡ key → ⊥) → (suc index < counts queue) ⊎ (counts queue ≤ suc index) → keys other was ≡ next → ⊥
      not_next other was within apart not_last (inl some) same = let both = leaves.apart other was queue (suc index) within some (same ∙ (more some).1) in apart both.0 both.1
      not_next other was within apart not_last (inr none) same = not_last (last (omega (arith, none, leaves.within)))

      not_index : (other place was : ℕ) → ((other ≡ queue → place < index) × (was ≡ place)) ⊎ ((other ≡ queue) × (index ≤ place) × (was ≡ suc place)) → other ≡ queue → was ≡ index → ⊥
      not_index other place was (inl stays) same is = omega (arith, stays.0 same, stays.1, is)
      not_index other place was (inr moves) same is = omega (arith, moves.1, moves.2, is)

      stands : (other place : ℕ) (was : WasPlaced queue index other place) → ((other ≡ queue → place < index) × (was.was ≡ place)) ⊎ ((other ≡ queue) × (index ≤ place) × (was.was ≡ suc place)) → HasSeat new (now other place) other
      stands other place was moved =
          let kept = not_gone other was.was was.within (not_index other place was.was moved) in
          let had = seated.stands other was.was was.within in
          subst (λ k. HasSeat new k other) (sym was.is) (gone.parked (keys other was.was) kept ∙ had.0, gone.queue (keys other was.was) kept ∙ had.1)

      stays_behind : (other place was : ℕ) → now other (suc place) ≡ keys other (suc was) → now other place ≡ keys other was → suc was < counts other → (other ≡ queue → suc was ≡ index → ⊥) → (other ≡ queue → suc was ≡ suc index → ⊥) → (seat_at new (now other (suc place))).before ≡ now other place
      stays_behind other place was is too within apart further =
          ap (λ k. (seat_at new k).before) is
          ∙ gone.before (keys other (suc was)) (not_gone other (suc was) within apart) (λ not_last. not_next other (suc was) within further not_last (cases_lt (suc index) (counts queue))) ∙ seated.behind other was within ∙ sym too

      behind : (other place : ℕ) (two : WasPlaced queue index other (suc place)) (one : WasPlaced queue index other place)
          → ((other ≡ queue → suc place < index) × (two.was ≡ suc place)) ⊎ ((other ≡ queue) × (index ≤ suc place) × (two.was ≡ suc (suc place)))
          → ((other ≡ queue → place < index) × (one.was ≡ place)) ⊎ ((other ≡ queue) × (index ≤ place) × (one.was ≡ suc place)) → (seat_at new (now other (suc place))).before ≡ now other place
      behind other place two one (inl x) (inl y) =
          stays_behind other place place (two.is ∙ ap (keys other) x.1) (one.is ∙ ap (keys other) y.1) (omega (arith, two.within, x.1)) (λ same is. omega (arith, x.0 same, is)) (λ same is. omega (arith, x.0 same, is))
      behind other place two one (inr x) (inr y) =
          stays_behind other place (suc place) (two.is ∙ ap (keys other) x.2) (one.is ∙ ap (keys other) y.2) (omega (arith, two.within, x.2)) (λ same is. omega (arith, y.1, is)) (λ same is. omega (arith, y.1, is))
      behind other place two one (inl x) (inr y) = absurd (omega (arith, x.0 y.0, y.1))
      behind other place two one (inr x) (inl y) =
          let here : suc place ≡ index = omega (arith, x.1, y.0 x.0) in
          let short : suc index < counts queue = omega (arith, two.within, x.2, here, ap counts x.0) in
          let told = more short in
          let there : now other (suc place) ≡ next = two.is ∙ ap (λ n. keys n two.was) x.0 ∙ ap (keys queue) (x.2 ∙ ap suc here) ∙ sym told.1 in
          let mine : (seat_at seats key).before ≡ keys queue place = ap (λ k. (seat_at seats k).before) (at ∙ ap (keys queue) (sym here)) ∙ seated.behind queue place (omega (arith, short, here)) in
          ap (λ k. (seat_at new k).before) there ∙ gone.told told.0 ∙ mine ∙ sym (one.is ∙ ap (λ n. keys n one.was) x.0 ∙ ap (keys queue) y.1)

      -- a place that stays is one of those that are left
      by_was : (other place was : ℕ) → place < later other → (p : WasPlaced queue index other place) → ((other ≡ queue → place < index) × (p.was ≡ place)) ⊎ ((other ≡ queue) × (index ≤ place) × (p.was ≡ suc place))
          → ((other ≡ queue → place < index) → was ≡ place) → ((other ≡ queue) → index ≤ place → was ≡ suc place) → (one : ℕ) → keys other was ≡ one → HasPlace later now other one
      by_was other place was h p (inl x) front rest one is = (place, h, p.is ∙ ap (keys other) (x.1 ∙ sym (front x.0)) ∙ is)
      by_was other place was h p (inr x) front rest one is = (place, h, p.is ∙ ap (keys other) (x.2 ∙ sym (rest x.0 x.1)) ∙ is)

      in_queue : (other was one : ℕ) → was < counts other → keys other was ≡ one → (one ≡ key → ⊥) → other ≡ queue → (was < index) ⊎ (index ≤ was) → HasPlace later now other one
      in_queue other was one within is apart same (inl before) =
          let h : was < later other = omega (arith, before, leaves.within, leaves.count, ap later same) in
          let p = leaves.places other was h in
          by_was other was was h p p.moved (λ _. refl) (λ _ past. absurd (omega (arith, before, past))) one is
      in_queue other was one within is apart same (inr past) =
          let differs : was ≡ index → ⊥ = λ too. apart (sym is ∙ ap (λ n. keys n was) same ∙ ap (keys queue) too ∙ sym at) in
          let earlier = before_some was (omega (arith, past, differs)) in
          let h : earlier.0 < later other = omega (arith, earlier.1, within, leaves.count, ap later same, ap counts same) in
          let p = leaves.places other earlier.0 h in
          by_was other earlier.0 was h p p.moved (λ short. absurd (omega (arith, short same, earlier.1, past, differs))) (λ _ _. earlier.1) one is
        where
          before_some : (n : ℕ) → 0 < n → (m : ℕ) × (n ≡ suc m)
          before_some zero some = absurd (omega (arith, some))
          before_some (suc m) some = (m, refl)

      by_queue : (other was one : ℕ) → was < counts other → keys other was ≡ one → (one ≡ key → ⊥) → (other ≡ queue) ⊎ (other ≡ queue → ⊥) → HasPlace later now other one
      by_queue other was one within is apart (inl same) = in_queue other was one within is apart same (cases_lt was index)
      by_queue other was one within is apart (inr differs) =
          let h : was < later other = omega (arith, within, leaves.others other differs) in
          let p = leaves.places other was h in
          by_was other was was h p p.moved (λ _. refl) (λ same past. absurd (differs same)) one is

      only : (one : ℕ) → (seat_at new one).parked ≡ true → (one ≡ key) ⊎ (one ≡ key → ⊥) → HasPlace later now (seat_at new one).queue one
      only one is (inl same) = absurd (false_true (sym gone.gone ∙ ap (λ k. (seat_at new k).parked) (sym same) ∙ is))
      only one is (inr apart) =
          let there = seated.only one (sym (gone.parked one apart) ∙ is) in
          let other = (seat_at seats one).queue in
          subst (λ n. HasPlace later now n one) (sym (gone.queue one apart)) (by_queue other there.0 one there.1 there.2 apart (cases_eq other queue))

  -- all parked jobs of a queue leave
  pub AreSeated-vacated : (seats new : List ParkedAt) (queue : ℕ) → later queue ≡ 0 → ((other : ℕ) → (other ≡ queue → ⊥) → later other ≡ counts other) → ((other place : ℕ) → (other ≡ queue → ⊥) → place < counts other → now other place ≡ keys other place)
      → ((one here other there : ℕ) → here < counts one → there < counts other → keys one here ≡ keys other there → (one ≡ other) × (here ≡ there)) → Vacates (keys queue) (counts queue) seats new → AreSeated counts keys seats → AreSeated later now new
  AreSeated-vacated seats new queue none others stay apart gone seated = record {
    stands = λ other place h. stands other place h (cases_eq other queue);
    behind = λ other place h. behind other place h (cases_eq other queue);
    only = λ one is. only one is (gone.either one);
  }
    where
      same_seat : (other place : ℕ) → (other ≡ queue → ⊥) → place < counts other → seat_at new (keys other place) ≡ seat_at seats (keys other place)
      same_seat other place differs within = gone.others (keys other place) (λ there h same. differs (sym (apart queue there other place h within same).0))

      stands : (other place : ℕ) → place < later other → (other ≡ queue) ⊎ (other ≡ queue → ⊥) → HasSeat new (now other place) other
      stands other place h (inl same) = absurd (omega (arith, h, ap later same, none))
      stands other place h (inr differs) =
          let within : place < counts other = omega (arith, h, others other differs) in
          subst (λ k. HasSeat new k other) (sym (stay other place differs within)) (subst (λ (s : ParkedAt). (s.parked ≡ true) × (s.queue ≡ other)) (sym (same_seat other place differs within)) (seated.stands other place within))

      behind : (other place : ℕ) → suc place < later other → (other ≡ queue) ⊎ (other ≡ queue → ⊥) → (seat_at new (now other (suc place))).before ≡ now other place
      behind other place h (inl same) = absurd (omega (arith, h, ap later same, none))
      behind other place h (inr differs) =
          let within : suc place < counts other = omega (arith, h, others other differs) in
          let before : place < counts other = omega (arith, within) in
          ap (λ k. (seat_at new k).before) (stay other (suc place) differs within) ∙ ap (λ (s : ParkedAt). s.before) (same_seat other (suc place) differs within) ∙ seated.behind other place within ∙ sym (stay other place differs before)

      by_queue : (one other place : ℕ) → place < counts other → keys other place ≡ one → (seat_at new one).parked ≡ true → (other ≡ queue) ⊎ (other ≡ queue → ⊥) → HasPlace later now other one
      by_queue one other place within is parked (inl same) =
          let here : keys queue place ≡ one = ap (λ n. keys n place) (sym same) ∙ is in
          absurd (false_true (sym (gone.vacant place (omega (arith, within, ap counts same))) ∙ ap (λ k. (seat_at new k).parked) here ∙ parked))
      by_queue one other place within is parked (inr differs) = (place, omega (arith, within, others other differs), stay other place differs within ∙ is)

      only : (one : ℕ) → (seat_at new one).parked ≡ true → (seat_at new one ≡ seat_at seats one) ⊎ ((seat_at new one).parked ≡ false) → HasPlace later now (seat_at new one).queue one
      only one is (inl same) =
          let there = seated.only one (sym (ap (λ (s : ParkedAt). s.parked) same) ∙ is) in
          let other = (seat_at seats one).queue in
          subst (λ (s : ParkedAt). HasPlace later now s.queue one) (sym same) (by_queue one other there.0 there.1 there.2 is (cases_eq other queue))
      only one is (inr none_now) = absurd (false_true (sym none_now ∙ is))
