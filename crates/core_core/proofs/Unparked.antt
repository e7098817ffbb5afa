-- All parks of a queue end, of one after another, and so of all.
use Rattle.core_core.proofs.Names.{ap, append-nil, arith, awake, Bool, cases_lt, cond, CoreView, EndsParks, eq-eqb, eqb-true, false, get_or-set_other, get_or-set_same, inl, inr, is_any, is_number, is_working, le-ltb, length, Line, List}
use Rattle.core_core.proofs.Names.{lt-ltb, ltb-false, ltb-true, map, Moves, nat_lt, no_tally, parked_of, parked_of-past, Parks, placed, queue_count, queue_out, QueuesView, refl, slice_index_or, slice_set, still_parked, subst, sym, Tally}
use Rattle.core_core.proofs.Names.{tally_of, tally_woken, true, true≢false, unparked, waiting_of, ℕ, [], ◌++◌, ◌+◌, ◌<◌, ◌==◌, ◌||◌, ◌∙◌, ◌∷◌, ◌≡◌, ◌≤◌, ◌⊎◌}
use Rattle.std.proofs.lemmas.List.{length-set}
use Rattle.core_core.proofs.Charging.{tally_read}
use Rattle.core_core.proofs.Entries.{none_from_is_any}
use Rattle.core_core.proofs.Parts.{both_false}

none_behind : {A : Type 0} (front behind : List A) → front ++ behind ≡ [] → behind ≡ []
none_behind [] behind none = none
none_behind (first ∷ front) behind none = cc

none_mapped : {A B : Type 0} (f : A → B) (items : List A) → map f items ≡ [] → items ≡ []
none_mapped f [] none = refl
none_mapped f (first ∷ items) none = cc

pub is_any-append : {A : Type 0} (front behind : List A) → is_any front ≡ true → is_any (front ++ behind) ≡ true
is_any-append [] behind some = cc
is_any-append (first ∷ front) behind some = refl

pub is_any-mapped : {A B : Type 0} (f : A → B) (items : List A) → is_any (map f items) ≡ is_any items
is_any-mapped f [] = refl
is_any-mapped f (first ∷ items) = refl

-- the queues below a number, and those below the next one
below_next : (queue number : ℕ) → nat_lt queue (number + 1) ≡ (nat_lt queue number || number == queue)
below_next queue number = by_order (nat_lt queue number) refl (number == queue) refl
  where
    by_order : (below : Bool) → nat_lt queue number ≡ below → (here : Bool) → (number == queue) ≡ here → nat_lt queue (number + 1) ≡ (below || here)
    by_order true is here at = lt-ltb queue (number + 1) (omega (arith, ltb-true queue number is))
    by_order false is true at = lt-ltb queue (number + 1) (omega (arith, eqb-true number queue at))
    by_order false is false at =
        let past = ltb-false queue number is in
        let apart : number ≡ queue → ⊥ = λ same. true≢false (sym (eq-eqb number queue same) ∙ at) in
        le-ltb queue (number + 1) (omega (arith, past, apart))

module _ {J : Type 0} where
  -- a queue that has work keeps its tally
  pub tally_woken-busy : (any : Bool) (queue : ℕ) (view : CoreView J) → is_working queue view ≡ true → tally_woken any queue view ≡ tally_of queue view
  tally_woken-busy true queue view work = ap (λ test. record (tally_of queue view) { runtime = cond test (tally_of queue view).runtime (placed (tally_of queue view).runtime view.floor) }) work
  tally_woken-busy false queue view work = refl

  -- one without work is placed
  pub tally_woken-idle : (queue : ℕ) (view : CoreView J) → is_working queue view ≡ false →
      tally_woken true queue view ≡ record (tally_of queue view) { runtime = placed (tally_of queue view).runtime view.floor }
  tally_woken-idle queue view idle = ap (λ test. record (tally_of queue view) { runtime = cond test (tally_of queue view).runtime (placed (tally_of queue view).runtime view.floor) }) idle

  -- it is counted by its line, its tally, the job that is out and the floor
  tally_woken-same : (any : Bool) (queue : ℕ) (one other : CoreView J) → waiting_of queue one.queues ≡ waiting_of queue other.queues → tally_of queue one ≡ tally_of queue other → one.out ≡ other.out → one.floor ≡ other.floor →
      tally_woken any queue one ≡ tally_woken any queue other
  tally_woken-same false queue one other line tally out floor = tally
  tally_woken-same true queue one other line tally out floor =
      λ i. record (tally i) { runtime = cond (is_any (line i) || is_number queue (queue_out (out i))) (tally i).runtime (placed (tally i).runtime (floor i)) }

  -- what the end of its parks is for one queue
  record EndsAt (old : CoreView J) (queue : ℕ) (ends : Bool) (new : CoreView J) : Type 0 where
    line : waiting_of queue new.queues ≡ waiting_of queue old.queues ++ map awake (unparked ends queue old)
    parks : parked_of queue new.queues ≡ still_parked ends queue old
    tally : tally_of queue new ≡ tally_woken (is_any (unparked ends queue old)) queue old

  ends_at : (old : CoreView J) (ends : ℕ → Bool) (new : CoreView J) → EndsParks old ends new → (queue : ℕ) → EndsAt old queue (ends queue) new
  ends_at old ends new all queue = record { line = all.lines queue; parks = all.parks queue; tally = all.tallies queue }

  -- once they ended none is left
  none_left : (two : Bool) (queue : ℕ) (mid : CoreView J) → parked_of queue mid.queues ≡ [] → unparked two queue mid ≡ []
  none_left true queue mid none = none
  none_left false queue mid none = refl

  none_still : (two : Bool) (queue : ℕ) (mid : CoreView J) → parked_of queue mid.queues ≡ [] → still_parked two queue mid ≡ []
  none_still true queue mid none = refl
  none_still false queue mid none = none

  same_unparked : (two : Bool) (queue : ℕ) (old mid : CoreView J) → parked_of queue mid.queues ≡ parked_of queue old.queues → unparked two queue mid ≡ unparked two queue old
  same_unparked true queue old mid parks = parks
  same_unparked false queue old mid parks = refl

  same_still : (two : Bool) (queue : ℕ) (old mid : CoreView J) → parked_of queue mid.queues ≡ parked_of queue old.queues → still_parked two queue mid ≡ still_parked two queue old
  same_still true queue old mid parks = refl
  same_still false queue old mid parks = parks

  ends_both : (old mid new : CoreView J) (queue : ℕ) (one two : Bool) → mid.out ≡ old.out → mid.floor ≡ old.floor → EndsAt old queue one mid → EndsAt mid queue two new → EndsAt old queue (one || two) new
  ends_both old mid new queue true two out floor first second =
      let none = none_left two queue mid first.parks in
      record {
        line = second.line ∙ ap (λ (more : Parks J). waiting_of queue mid.queues ++ map awake more) none ∙ append-nil (waiting_of queue mid.queues) ∙ first.line;
        parks = second.parks ∙ none_still two queue mid first.parks;
        tally = second.tally ∙ ap (λ (more : Parks J). tally_woken (is_any more) queue mid) none ∙ first.tally;
      }
  ends_both old mid new queue false two out floor first second =
      let line = first.line ∙ append-nil (waiting_of queue old.queues) in
      let more = same_unparked two queue old mid first.parks in
      record {
        line = second.line ∙ (λ i. line i ++ map awake (more i));
        parks = second.parks ∙ same_still two queue old mid first.parks;
        tally = second.tally ∙ ap (λ (some : Parks J). tally_woken (is_any some) queue mid) more ∙ tally_woken-same (is_any (unparked two queue old)) queue mid old line first.tally out floor;
      }

  -- where no parks end nothing changes
  pub EndsParks-none : (old : CoreView J) → EndsParks old (λ queue. nat_lt queue 0) old
  EndsParks-none old = record {
    lines = λ queue. sym (ap (λ test. waiting_of queue old.queues ++ map awake (unparked test queue old)) (none queue) ∙ append-nil (waiting_of queue old.queues));
    parks = λ queue. sym (ap (λ test. still_parked test queue old) (none queue));
    same_shares = λ queue. refl;
    same_modes = λ queue. refl;
    same_count = refl;
    same_room = refl;
    same_held = refl;
    tallies = λ queue. sym (ap (λ test. tally_woken (is_any (unparked test queue old)) queue old) (none queue));
    same_tallies = refl;
    rest = refl;
  }
    where
      none : (queue : ℕ) → nat_lt queue 0 ≡ false
      none queue = le-ltb queue 0 (omega arith)

  -- those of some queues end, and then those of others
  EndsParks-both : (old mid new : CoreView J) (one two both : ℕ → Bool) → ((queue : ℕ) → both queue ≡ (one queue || two queue)) → EndsParks old one mid → EndsParks mid two new → EndsParks old both new
  EndsParks-both old mid new one two both are first second = record {
    lines = λ queue. (at queue).line;
    parks = λ queue. (at queue).parks;
    same_shares = λ queue. second.same_shares queue ∙ first.same_shares queue;
    same_modes = λ queue. second.same_modes queue ∙ first.same_modes queue;
    same_count = second.same_count ∙ first.same_count;
    same_room = second.same_room ∙ first.same_room;
    same_held = second.same_held ∙ first.same_held;
    tallies = λ queue. (at queue).tally;
    same_tallies = second.same_tallies ∙ first.same_tallies;
    rest = second.rest ∙ ap (λ (view : CoreView J). record view { queues = new.queues; tallies = new.tallies }) first.rest;
  }
    where
      at : (queue : ℕ) → EndsAt old queue (both queue) new
      at queue = subst (λ (test : Bool). EndsAt old queue test new) (sym (are queue))
          (ends_both old mid new queue (one queue) (two queue) (ap (λ (view : CoreView J). view.out) first.rest) (ap (λ (view : CoreView J). view.floor) first.rest) (ends_at old one mid first queue) (ends_at mid two new second queue))

  -- one queue more
  pub EndsParks-next : (old mid new : CoreView J) (number : ℕ) → EndsParks old (λ queue. nat_lt queue number) mid → EndsParks mid (λ queue. number == queue) new → EndsParks old (λ queue. nat_lt queue (number + 1)) new
  EndsParks-next old mid new number first second = EndsParks-both old mid new (λ queue. nat_lt queue number) (λ queue. number == queue) (λ queue. nat_lt queue (number + 1)) (λ queue. below_next queue number) first second

  -- those of all queues that there are
  pub EndsParks-all : (old new : CoreView J) (count : ℕ) → queue_count old.queues ≤ count → EndsParks old (λ queue. nat_lt queue count) new → EndsParks old (λ queue. true) new
  EndsParks-all old new count all ends = record {
    lines = λ queue. (at queue (cases_lt queue count)).line;
    parks = λ queue. (at queue (cases_lt queue count)).parks;
    same_shares = ends.same_shares;
    same_modes = ends.same_modes;
    same_count = ends.same_count;
    same_room = ends.same_room;
    same_held = ends.same_held;
    tallies = λ queue. (at queue (cases_lt queue count)).tally;
    same_tallies = ends.same_tallies;
    rest = ends.rest;
  }
    where
      at : (queue : ℕ) → (queue < count) ⊎ (count ≤ queue) → EndsAt old queue true new
      at queue (inl within) = subst (λ (test : Bool). EndsAt old queue test new) (lt-ltb queue count within) (ends_at old (λ queue. nat_lt queue count) new ends queue)
      at queue (inr past) =
          let none = parked_of-past queue old.queues (omega (arith, all, past)) in
          let here = subst (λ (test : Bool). EndsAt old queue test new) (le-ltb queue count past) (ends_at old (λ queue. nat_lt queue count) new ends queue) in
          record {
            line = here.line ∙ ap (λ (more : Parks J). waiting_of queue old.queues ++ map awake more) (sym none);
            parks = here.parks ∙ none;
            tally = here.tally ∙ ap (λ (more : Parks J). tally_woken (is_any more) queue old) (sym none);
          }

  -- the parks of one queue end, and its tally is what it is once they ended
  pub EndsParks-one : (old : CoreView J) (queues : QueuesView J) (tallies : List Tally) (queue : ℕ) →
      Moves old.queues queues queue (waiting_of queue old.queues ++ map awake (parked_of queue old.queues)) [] → length tallies ≡ length old.tallies →
      ((other : ℕ) → (other ≡ queue → ⊥) → slice_index_or tallies other no_tally ≡ tally_of other old) →
      slice_index_or tallies queue no_tally ≡ tally_woken (is_any (parked_of queue old.queues)) queue old →
      EndsParks old (λ other. queue == other) (record old { queues = queues; tallies = tallies })
  EndsParks-one old queues tallies queue moves count others here = record {
    lines = λ other. (at other (queue == other) refl).line;
    parks = λ other. (at other (queue == other) refl).parks;
    same_shares = moves.same_shares;
    same_modes = moves.same_modes;
    same_count = moves.same_count;
    same_room = moves.same_room;
    same_held = moves.same_held;
    tallies = λ other. (at other (queue == other) refl).tally;
    same_tallies = count;
    rest = refl;
  }
    where
      at : (other : ℕ) (test : Bool) → (queue == other) ≡ test → EndsAt old other test (record old { queues = queues; tallies = tallies })
      at other true same =
          subst (λ (number : ℕ). EndsAt old number true (record old { queues = queues; tallies = tallies })) (eqb-true queue other same) (record { line = moves.waits; parks = moves.parks_left; tally = here })
      at other false differ =
          let apart : other ≡ queue → ⊥ = λ is. true≢false (sym (eq-eqb queue other (sym is)) ∙ differ) in
          record { line = moves.others other apart ∙ sym (append-nil (waiting_of other old.queues)); parks = moves.other_parks other apart; tally = others other apart }

  -- no job is parked in a queue that is empty once all came to its line
  pub nobody_if_empty : (old : CoreView J) (queues : QueuesView J) (queue : ℕ) → Moves old.queues queues queue (waiting_of queue old.queues ++ map awake (parked_of queue old.queues)) [] → waiting_of queue queues ≡ [] → parked_of queue old.queues ≡ []
  nobody_if_empty old queues queue moves none = none_mapped awake (parked_of queue old.queues) (none_behind (waiting_of queue old.queues) (map awake (parked_of queue old.queues)) (sym moves.waits ∙ none))

  -- some are where it isn't empty then, and had no work before
  pub some_parked : (old : CoreView J) (queues : QueuesView J) (queue : ℕ) → Moves old.queues queues queue (waiting_of queue old.queues ++ map awake (parked_of queue old.queues)) [] → is_working queue old ≡ false →
      is_any (waiting_of queue queues) ≡ true → is_any (parked_of queue old.queues) ≡ true
  some_parked old queues queue moves idle some =
      let none = none_from_is_any (waiting_of queue old.queues) (both_false (is_any (waiting_of queue old.queues)) (is_number queue (queue_out old.out)) idle).0 in
      sym (is_any-mapped awake (parked_of queue old.queues)) ∙ sym (ap (λ (front : Line J). is_any (front ++ map awake (parked_of queue old.queues))) none) ∙ sym (ap is_any moves.waits) ∙ some

  -- the parks of a queue without work end, and it is placed
  pub EndsParks-placed : (old : CoreView J) (queues : QueuesView J) (queue place : ℕ) (was tally : Tally) → Moves old.queues queues queue (waiting_of queue old.queues ++ map awake (parked_of queue old.queues)) [] →
      is_working queue old ≡ false → is_any (waiting_of queue queues) ≡ true → place ≡ queue → queue < length old.tallies → was ≡ slice_index_or old.tallies place was →
      tally ≡ record was { runtime = placed was.runtime old.floor } → EndsParks old (λ other. queue == other) (record old { queues = queues; tallies = slice_set old.tallies place tally })
  EndsParks-placed old queues queue place was tally moves idle some at within read is =
      EndsParks-one old queues (slice_set old.tallies place tally) queue moves (length-set old.tallies place tally)
      (λ other apart. get_or-set_other old.tallies place other tally no_tally (λ same. apart (same ∙ at)))
      (ap (λ number. slice_index_or (slice_set old.tallies number tally) queue no_tally) at ∙ get_or-set_same old.tallies queue tally no_tally within ∙ is
      ∙ ap (λ (one : Tally). record one { runtime = placed one.runtime old.floor }) (tally_read old.tallies place queue was at (omega (arith, at, within)) read)
      ∙ sym (tally_woken-idle queue old idle) ∙ sym (ap (λ any. tally_woken any queue old) (some_parked old queues queue moves idle some)))
