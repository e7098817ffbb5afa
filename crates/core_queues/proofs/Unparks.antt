-- Parked jobs come to the line of their queue: all at once, by one key, or one that was found.
use Rattle.core_queues.proofs.Words.{ap, AreAtRest, arith, awake, cases_eq, chain, ChangesLine, get, get_or-le-sum_by, held_count, inl, inr, IsAtRest, IsKept, IsLinked, JoinsLines, key_at, length, Line, line_at, List, map, Moves, next_of}
use Rattle.core_queues.proofs.Words.{no_line, no_queue, parked_of, Queue, queue_at, QueuesView, refl, Relinks, set, shown_parked, Slab, slab_len, Spot, subst, suc, sym, true, Waiting, waiting_of, ℕ, [], ◌++◌, ◌+◌, ◌<◌, ◌∙◌, ◌≡◌, ◌≤◌, ◌⊎◌}
use Rattle.core_queues.specs.View.{Line as Says, Parks as Parked}
use Rattle.core_queues.specs.Parks.{ChangesParks}
use Rattle.core_queues.proofs.Chains.{key_at-add}
use Rattle.core_queues.proofs.Spots.{waits, parks, other_side, placed, ChangesOne-placed, job_count-placed, shares-placed, mode-placed, length-placed, placed-set}
use Rattle.core_queues.proofs.Links.{KeepsLines, KeepsLines-entries, KeepsLines-relink, IsLinked-kept, chain-kept}
use Rattle.core_queues.proofs.Places.{IsBoth, IsLinked-both, chain-both}
use Rattle.core_queues.proofs.Views.{before_some, alone, line_says, queue_count-view, shares_of-view, mode_of-view, waiting_of-view, parked_of-view, held_count-view}

-- a job that leaves the parked ones and comes to the line of its queue is moved
pub Moves-of : {J : Type 0} (old between new : QueuesView J) (queue : ℕ) (line : Says J) (left : Parked J) → ChangesParks old between queue left → ChangesLine between new queue line → held_count new ≡ held_count old → Moves old new queue line left
Moves-of old between new queue line left leaves joins held = record {
  waits = joins.changed;
  parks_left = joins.same_parks queue ∙ leaves.changed;
  others = λ other differs. joins.others other differs ∙ leaves.same_lines other;
  other_parks = λ other differs. joins.same_parks other ∙ leaves.others other differs;
  same_shares = λ other. joins.same_shares other ∙ leaves.same_shares other;
  same_modes = λ other. joins.same_modes other ∙ leaves.same_modes other;
  same_count = joins.same_count ∙ leaves.same_count;
  same_room = joins.same_room ∙ leaves.same_room;
  same_held = held;
}

-- the queues once the parked jobs of one have come to its line
pub unparked_queues : (queues : List Queue) (queue : ℕ) (both : Line) → queue < length queues → placed (placed queues (waits queue) both) (parks queue) no_line ≡ set queues queue (record (queue_at queues queue) { waiting = both; parked = no_line })
unparked_queues queues queue both within = placed-set queues queue (record (queue_at queues queue) { waiting = both }) true no_line within

module _ {J : Type 0} where
  -- what became of the entries once a line went behind another
  pub record Both (old new : Slab (Waiting J)) (lines : Spot → Line) (queue : ℕ) (both : Line) : Type 0 where
    pub keeps : KeepsLines (get old) (get new) lines
    pub is : IsBoth (get new) (lines (waits queue)) (lines (parks queue)) both
    pub len : slab_len new ≡ slab_len old
    pub capacity : new.capacity ≡ old.capacity

  both_first : (jobs : Slab (Waiting J)) (lines : Spot → Line) (queue : ℕ) → IsLinked (get jobs) lines → (lines (parks queue)).count ≡ 0 → Both jobs jobs lines queue (lines (waits queue))
  both_first jobs lines queue linked none = record {
    keeps = KeepsLines-entries (get jobs) (get jobs) lines (λ spot place h. refl);
    is = record {
      count = omega (arith, none);
      first = λ place h. refl;
      second = λ place h. absurd (omega (arith, none));
      tail = λ last is. linked.tails (waits queue) last is;
    };
    len = refl;
    capacity = refl;
  }

  both_second : (jobs : Slab (Waiting J)) (lines : Spot → Line) (queue : ℕ) → IsLinked (get jobs) lines → (lines (waits queue)).count ≡ 0 → Both jobs jobs lines queue (lines (parks queue))
  both_second jobs lines queue linked none = record {
    keeps = KeepsLines-entries (get jobs) (get jobs) lines (λ spot place h. refl);
    is = record {
      count = omega (arith, none);
      first = λ place h. absurd (omega (arith, none));
      second = λ place h. let at : (lines (waits queue)).count + place ≡ place = omega (arith, none) in ap (key_at (get jobs) (lines (parks queue)).head) at;
      tail = λ last is. linked.tails (parks queue) last is;
    };
    len = refl;
    capacity = refl;
  }

  both_linked : (old new : Slab (Waiting J)) (lines : Spot → Line) (queue last behind : ℕ) → IsLinked (get old) lines → (lines (waits queue)).count ≡ suc last → (lines (parks queue)).count ≡ suc behind
      → Relinks old (lines (waits queue)).tail (lines (parks queue)).head new
      → Both old new lines queue (record { head = (lines (waits queue)).head; tail = (lines (parks queue)).tail; count = (lines (waits queue)).count + (lines (parks queue)).count })
  both_linked old new lines queue last behind linked some rest relinks =
      let one = lines (waits queue) in
      let two = lines (parks queue) in
      let keeps = KeepsLines-relink (get old) (get new) lines (waits queue) last two.head relinks.was linked some relinks.at relinks.updates.changed relinks.updates.others in
      let after = IsLinked-kept (get old) (get new) lines keeps linked in
      let next : key_at (get new) one.head one.count ≡ two.head =
      ap (key_at (get new) one.head) some ∙ ap (λ key. next_of (get new key)) (sym (after.tails (waits queue) last some)) ∙ ap next_of relinks.updates.changed in
      let second : (place : ℕ) → key_at (get new) one.head (one.count + place) ≡ key_at (get new) two.head place =
      λ place. sym (key_at-add (get new) one.head one.count place) ∙ ap (λ key. key_at (get new) key place) next in
      record {
        keeps = keeps;
        is = record {
          count = refl;
          first = λ place h. refl;
          second = λ place h. second place;
          tail = λ end is.
              let at : one.count + behind ≡ end = omega (arith, rest) in
              after.tails (parks queue) behind rest ∙ sym (second behind) ∙ ap (key_at (get new) one.head) at;
        };
        len = relinks.len;
        capacity = relinks.capacity;
      }

  pub both_of : (old new : Slab (Waiting J)) (lines : Spot → Line) (queue : ℕ) (both : Line) → IsLinked (get old) lines → JoinsLines old (lines (waits queue)) (lines (parks queue)) new both → Both old new lines queue both
  both_of old new lines queue both linked (inl first) =
      subst (λ (l : Line). Both old new lines queue l) (sym first.1) (subst (λ (jobs : Slab (Waiting J)). Both old jobs lines queue (lines (waits queue))) (sym first.2) (both_first old lines queue linked first.0))
  both_of old new lines queue both linked (inr (inl second)) =
      subst (λ (l : Line). Both old new lines queue l) (sym second.2) (subst (λ (jobs : Slab (Waiting J)). Both old jobs lines queue (lines (parks queue))) (sym second.3) (both_second old lines queue linked second.1))
  both_of old new lines queue both linked (inr (inr third)) =
      let last = before_some (lines (waits queue)).count third.1 in
      let behind = before_some (lines (parks queue)).count third.0 in
      subst (λ (l : Line). Both old new lines queue l) (sym third.2) (both_linked old new lines queue last.0 behind.0 linked last.1 behind.1 third.3)

-- which lines the queues have once the parked jobs of one have come to its line
pub record Lines (queues : List Queue) (queue : ℕ) (both : Line) (after : List Queue) : Type 0 where
  pub first : line_at after (waits queue) ≡ both
  pub second : line_at after (parks queue) ≡ no_line
  pub others : (other : Spot) → (other ≡ waits queue → ⊥) → (other ≡ parks queue → ⊥) → line_at after other ≡ line_at queues other

pub lines_of : (queues : List Queue) (queue : ℕ) (both : Line) → queue < length queues → Lines queues queue both (placed (placed queues (waits queue) both) (parks queue) no_line)
lines_of queues queue both within =
    let one = ChangesOne-placed queues (waits queue) both within in
    let two = ChangesOne-placed (placed queues (waits queue) both) (parks queue) no_line (omega (arith, within, length-placed queues (waits queue) both)) in
    record {
      first = two.others (waits queue) (other_side queue queue) ∙ one.changed;
      second = two.changed;
      others = λ other differs apart. two.others other apart ∙ one.others other differs;
    }

-- what the lines show then
record Says_then {J : Type 0} (old new : Slab (Waiting J)) (queues : List Queue) (queue : ℕ) (after : List Queue) : Type 0 where
  first : line_says new after (waits queue) ≡ line_says old queues (waits queue) ++ line_says old queues (parks queue)
  second : line_says new after (parks queue) ≡ []
  others : (other : Spot) → (other ≡ waits queue → ⊥) → (other ≡ parks queue → ⊥) → line_says new after other ≡ line_says old queues other

module _ {J : Type 0} {room line_places : ℕ} {old new : Slab (Waiting J)} {queues : List Queue} where
  pub IsKept-unparked : (queue : ℕ) (both : Line) → IsKept room line_places old queues → JoinsLines old (line_at queues (waits queue)) (line_at queues (parks queue)) new both → queue < length queues
      → IsKept room line_places new (placed (placed queues (waits queue) both) (parks queue) no_line)
  IsKept-unparked queue both kept joins within =
      let after = placed (placed queues (waits queue) both) (parks queue) no_line in
      let of_entries = both_of old new (line_at queues) queue both kept.linked joins in
      let lines = lines_of queues queue both within in
      let one = length-placed queues (waits queue) both in
      let two = length-placed (placed queues (waits queue) both) (parks queue) no_line in
      let parked_now : (line_at (placed queues (waits queue) both) (parks queue)).count ≡ (line_at queues (parks queue)).count =
      ap (λ (l : Line). l.count) ((ChangesOne-placed queues (waits queue) both within).others (parks queue) (λ same. other_side queue queue (sym same))) in
      record {
        linked = IsLinked-both (get new) (line_at queues) (line_at after) (waits queue) (parks queue)
            (subst (λ (l : Line). IsBoth (get new) (line_at queues (waits queue)) (line_at queues (parks queue)) l) (sym lines.first) of_entries.is) (ap (λ (l : Line). l.count) lines.second) lines.others
            (IsLinked-kept (get old) (get new) (line_at queues) of_entries.keeps kept.linked);
        counted = omega (
          arith,
          kept.counted,
          of_entries.len,
          of_entries.is.count,
          parked_now,
          job_count-placed queues (waits queue) both within,
          job_count-placed (placed queues (waits queue) both) (parks queue) no_line (omega (arith, one)),
        );
        within_room = omega (arith, kept.within_room, of_entries.len);
        reserved = omega (arith, kept.reserved, of_entries.capacity);
        some_queue = omega (arith, kept.some_queue, one, two);
        few_queues = omega (arith, kept.few_queues, one, two);
        queues_reserved = kept.queues_reserved;
      }

  says_then : (queue : ℕ) (both : Line) → IsKept room line_places old queues → JoinsLines old (line_at queues (waits queue)) (line_at queues (parks queue)) new both → queue < length queues
      → Says_then old new queues queue (placed (placed queues (waits queue) both) (parks queue) no_line)
  says_then queue both kept joins within =
      let of_entries = both_of old new (line_at queues) queue both kept.linked joins in
      let lines = lines_of queues queue both within in
      let one = line_at queues (waits queue) in
      let two = line_at queues (parks queue) in
      record {
        first = ap (λ (l : Line). chain (get new) l.head l.count) lines.first ∙ chain-both (get new) one two both of_entries.is
            ∙ ap (λ line. line ++ chain (get new) two.head two.count) (chain-kept (get old) (get new) (line_at queues) (waits queue) of_entries.keeps)
            ∙ ap (λ line. line_says old queues (waits queue) ++ line) (chain-kept (get old) (get new) (line_at queues) (parks queue) of_entries.keeps);
        second = ap (λ (l : Line). chain (get new) l.head l.count) lines.second;
        others = λ other differs apart. ap (λ (l : Line). chain (get new) l.head l.count) (lines.others other differs apart) ∙ chain-kept (get old) (get new) (line_at queues) other of_entries.keeps;
      }

  pub AreAtRest-unparked : (queue : ℕ) (both : Line) → IsKept room line_places old queues → JoinsLines old (line_at queues (waits queue)) (line_at queues (parks queue)) new both → queue < length queues
      → AreAtRest old queues → AreAtRest new (placed (placed queues (waits queue) both) (parks queue) no_line)
  AreAtRest-unparked queue both kept joins within rests other = by_queue (cases_eq other queue)
    where
      after : List Queue
      after = placed (placed queues (waits queue) both) (parks queue) no_line

      by_queue : (other ≡ queue) ⊎ (other ≡ queue → ⊥) → IsAtRest (line_says new after (parks other))
      by_queue (inl same) = subst (λ (n : ℕ). IsAtRest (line_says new after (parks n))) (sym same) (subst (λ (says : Says J). IsAtRest says) (sym (says_then queue both kept joins within).second) refl)
      by_queue (inr differs) =
          subst (λ (says : Says J). IsAtRest says) (sym ((says_then queue both kept joins within).others (parks other) (λ same. other_side queue other (sym same)) (λ same. differs (ap (λ (s : Spot). s.queue) same)))) (rests other)

  -- a caller sees the parked jobs behind the line, as started and with no wake
  pub Moves-unparked : (queue : ℕ) (both : Line) → IsKept room line_places old queues → JoinsLines old (line_at queues (waits queue)) (line_at queues (parks queue)) new both → queue < length queues → AreAtRest old queues
      → Moves (alone room old queues) (alone room new (placed (placed queues (waits queue) both) (parks queue) no_line)) queue (waiting_of queue (alone room old queues) ++ map awake (parked_of queue (alone room old queues))) []
  Moves-unparked queue both kept joins within rests =
      let after = placed (placed queues (waits queue) both) (parks queue) no_line in
      let middle = placed queues (waits queue) both in
      let longer = length-placed queues (waits queue) both in
      let short : queue < length middle = omega (arith, within, longer) in
      let says = says_then queue both kept joins within in
      let of_entries = both_of old new (line_at queues) queue both kept.linked joins in
      let moved : line_says old queues (parks queue) ≡ map awake (parked_of queue (alone room old queues)) = sym (rests queue) ∙ ap (map awake) (sym (parked_of-view room old queues queue)) in
      record {
        waits = waiting_of-view room new after queue ∙ says.first ∙ ap (λ line. line ++ line_says old queues (parks queue)) (sym (waiting_of-view room old queues queue))
            ∙ ap (λ line. waiting_of queue (alone room old queues) ++ line) moved;
        parks_left = parked_of-view room new after queue ∙ ap (map shown_parked) says.second;
        others = λ other differs. waiting_of-view room new after other ∙ says.others (waits other) (λ same. differs (ap (λ (s : Spot). s.queue) same)) (other_side other queue) ∙ sym (waiting_of-view room old queues other);
        other_parks = λ other differs.
            parked_of-view room new after other ∙ ap (map shown_parked) (says.others (parks other) (λ same. other_side queue other (sym same)) (λ same. differs (ap (λ (s : Spot). s.queue) same))) ∙ sym (parked_of-view room old queues other);
        same_shares = λ other. shares_of-view room new after other ∙ shares-placed middle (parks queue) no_line short other ∙ shares-placed queues (waits queue) both within other ∙ sym (shares_of-view room old queues other);
        same_modes = λ other. mode_of-view room new after other ∙ mode-placed middle (parks queue) no_line short other ∙ mode-placed queues (waits queue) both within other ∙ sym (mode_of-view room old queues other);
        same_count = queue_count-view room new after ∙ length-placed middle (parks queue) no_line ∙ longer ∙ sym (queue_count-view room old queues);
        same_room = refl;
        same_held = held_count-view (IsKept-unparked queue both kept joins within) ∙ of_entries.len ∙ sym (held_count-view kept);
      }

-- both lines of a queue hold no more jobs than there are
pub both-le-len : {J : Type 0} {room line_places : ℕ} {jobs : Slab (Waiting J)} {queues : List Queue} → IsKept room line_places jobs queues → (queue : ℕ) (was : Queue) → queue < length queues → queue_at queues queue ≡ was → was.waiting.count + was.parked.count ≤ slab_len jobs
both-le-len {J} {room} {line_places} {jobs} {queues} kept queue was within is =
    omega (arith, kept.counted, get_or-le-sum_by (λ (q : Queue). q.waiting.count + q.parked.count) queues queue no_queue within, ap (λ (q : Queue). q.waiting.count) is, ap (λ (q : Queue). q.parked.count) is)
