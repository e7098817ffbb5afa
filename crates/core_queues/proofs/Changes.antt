-- What it takes that one line changes, that a queue gets shares or a mode, and that there is one more queue.
use Rattle.core_queues.proofs.Words.{AddsQueue, ap, arith, Bool, cases_eq, cases_lt, chain, ChangesLine, ChangesMode, ChangesParks, ChangesShares, count_by, false, get, get_or-set_other, get_or-set_same, get_or_append_left, get_or_past}
use Rattle.core_queues.proofs.Words.{get_or_push, is_some, IsKept, IsLinked, IsSome, key_at, length, length-map, length_push, Line, line_at, List, map, Mode, no_line, no_queue, None, Option, Queue, queue_at, refl, set, shown_parked, side}
use Rattle.core_queues.proofs.Words.{Slab, slab_len, Some, Spot, subst, suc, sum_by-cons, sum_by-set, sum_by_push, sym, true, Waiting, zero, ℕ, [], ⊎_elim, ◌++◌, ◌+◌, ◌<◌, ◌∙◌, ◌∷◌, ◌≡◌, ◌≤◌}
use Rattle.std.proofs.lemmas.List.{length-set}
use Rattle.core_queues.specs.View.{Line as Says}
use Rattle.core_queues.proofs.Spots.{waits, parks, other_side, placed, ChangesOne-placed, shares-placed, mode-placed, length-placed, read-set}
use Rattle.core_queues.proofs.Views.{line_says, alone, queue_count-view, shares_of-view, mode_of-view, waiting_of-view, parked_of-view, held_count-view}

other_queue : (one other : ℕ) → (one ≡ other → ⊥) → waits one ≡ waits other → ⊥
other_queue one other differs same = differs (ap (λ (s : Spot). s.queue) same)

other_parks : (one other : ℕ) → (one ≡ other → ⊥) → parks one ≡ parks other → ⊥
other_parks one other differs same = differs (ap (λ (s : Spot). s.queue) same)

module _ {J : Type 0} where
  -- only the line at one spot shows other jobs
  pub record Writes (old new : Slab (Waiting J)) (before after : List Queue) (spot : Spot) (shows : Says J) : Type 0 where
    pub shown : line_says new after spot ≡ shows
    pub others : (other : Spot) → (other ≡ spot → ⊥) → line_says new after other ≡ line_says old before other
    pub shares : (queue : ℕ) → (queue_at after queue).shares ≡ (queue_at before queue).shares
    pub modes : (queue : ℕ) → (queue_at after queue).mode ≡ (queue_at before queue).mode
    pub count : length after ≡ length before
    pub len : slab_len new + length (line_says old before spot) ≡ slab_len old + length shows

  -- the line at a spot is written
  pub Writes-placed : (old new : Slab (Waiting J)) (queues : List Queue) (spot : Spot) (line : Line) (shows : Says J) → spot.queue < length queues → chain (get new) line.head line.count ≡ shows
      → ((other : Spot) → (other ≡ spot → ⊥) → line_says new queues other ≡ line_says old queues other)
      → slab_len new + length (line_says old queues spot) ≡ slab_len old + length shows → Writes old new queues (placed queues spot line) spot shows
  Writes-placed old new queues spot line shows within is others len =
      let now = ChangesOne-placed queues spot line within in
      record {
        shown = ap (λ (l : Line). chain (get new) l.head l.count) now.changed ∙ is;
        others = λ other differs. ap (λ (l : Line). chain (get new) l.head l.count) (now.others other differs) ∙ others other differs;
        shares = shares-placed queues spot line within;
        modes = mode-placed queues spot line within;
        count = length-placed queues spot line;
        len = len;
      }

module _ {J : Type 0} {room line_places : ℕ} {old new : Slab (Waiting J)} {before after : List Queue} where
  -- a caller sees that one line changes
  pub ChangesLine-of : (queue : ℕ) (shows : Says J) → IsKept room line_places old before → IsKept room line_places new after → Writes old new before after (waits queue) shows → ChangesLine (alone room old before) (alone room new after) queue shows
  ChangesLine-of queue shows was is writes =
      let later = waiting_of-view room new after in
      let earlier = waiting_of-view room old before in
      record {
        changed = later queue ∙ writes.shown;
        others = λ other differs. later other ∙ writes.others (waits other) (other_queue other queue differs) ∙ sym (earlier other);
        same_shares = λ other. shares_of-view room new after other ∙ writes.shares other ∙ sym (shares_of-view room old before other);
        same_modes = λ other. mode_of-view room new after other ∙ writes.modes other ∙ sym (mode_of-view room old before other);
        same_parks = λ other. parked_of-view room new after other ∙ ap (map shown_parked) (writes.others (parks other) (λ same. other_side queue other (sym same))) ∙ sym (parked_of-view room old before other);
        same_count = queue_count-view room new after ∙ writes.count ∙ sym (queue_count-view room old before);
        same_room = refl;
        held = omega (arith, held_count-view is, held_count-view was, writes.len, ap length (earlier queue));
      }

  -- a caller sees that the parked jobs of one queue change
  pub ChangesParks-of : (queue : ℕ) (shows : Says J) → IsKept room line_places old before → IsKept room line_places new after → Writes old new before after (parks queue) shows → ChangesParks (alone room old before) (alone room new after) queue (map shown_parked shows)
  ChangesParks-of queue shows was is writes =
      let later = parked_of-view room new after in
      let earlier = parked_of-view room old before in
      record {
        changed = later queue ∙ ap (map shown_parked) writes.shown;
        others = λ other differs. later other ∙ ap (map shown_parked) (writes.others (parks other) (other_parks other queue differs)) ∙ sym (earlier other);
        same_shares = λ other. shares_of-view room new after other ∙ writes.shares other ∙ sym (shares_of-view room old before other);
        same_modes = λ other. mode_of-view room new after other ∙ writes.modes other ∙ sym (mode_of-view room old before other);
        same_lines = λ other. waiting_of-view room new after other ∙ writes.others (waits other) (other_side other queue) ∙ sym (waiting_of-view room old before other);
        same_count = queue_count-view room new after ∙ writes.count ∙ sym (queue_count-view room old before);
        same_room = refl;
        held = omega (arith, held_count-view is, held_count-view was, writes.len, ap length (earlier queue), length-map (line_says old before (parks queue)) shown_parked, length-map shows shown_parked);
      }

-- each place except the new one shows what it showed
queue_at-push : (queues : List Queue) (last : Queue) (queue : ℕ) → (queue ≡ length queues → ⊥) → queue_at (queues ++ last ∷ []) queue ≡ queue_at queues queue
queue_at-push queues last queue differs =
    ⊎_elim
    (λ h. get_or_append_left queues (last ∷ []) no_queue queue h)
    (λ past. get_or_past (queues ++ last ∷ []) queue no_queue (omega (arith, length_push queues last)) ∙ sym (get_or_past queues queue no_queue past))
    (cases_lt queue (length queues))

-- what a queue behind the others has in common with the empty one, no place shows
read-push : {X : Type 0} (f : Queue → X) (queues : List Queue) (last : Queue) → f last ≡ f no_queue → (queue : ℕ) → f (queue_at (queues ++ last ∷ []) queue) ≡ f (queue_at queues queue)
read-push f queues last same queue =
    ⊎_elim
    (λ here. ap f (get_or_push queues last no_queue queue (sym here)) ∙ same ∙ ap f (sym (get_or_past queues queue no_queue (omega arith))))
    (λ differs. ap f (queue_at-push queues last queue differs))
    (cases_eq queue (length queues))

-- lines that are the same are linked alike
IsLinked-lines : {J : Type 0} (entry : ℕ → Option (Waiting J)) (old new : Spot → Line) → ((spot : Spot) → new spot ≡ old spot) → IsLinked entry old → IsLinked entry new
IsLinked-lines {J} entry old new same linked = record {
  filled = λ spot place h. subst (λ (l : Line). IsSome (entry (key_at entry l.head place))) (sym (same spot)) (linked.filled spot place (omega (arith, ap (λ (l : Line). l.count) (same spot))));
  apart = λ one here other there h k is.
      linked.apart one here other there (omega (arith, ap (λ (l : Line). l.count) (same one))) (omega (arith, ap (λ (l : Line). l.count) (same other)))
      (ap (λ (l : Line). key_at entry l.head here) (sym (same one)) ∙ is ∙ ap (λ (l : Line). key_at entry l.head there) (same other));
  tails = λ spot last is.
      ap (λ (l : Line). l.tail) (same spot) ∙ linked.tails spot last (ap (λ (l : Line). l.count) (sym (same spot)) ∙ is) ∙ ap (λ (l : Line). key_at entry l.head last) (sym (same spot));
}

-- a queue whose lines are those of another
sides : (one other : Queue) → one.waiting ≡ other.waiting → one.parked ≡ other.parked → (is_parked : Bool) → side is_parked one ≡ side is_parked other
sides one other waiting parked false = waiting
sides one other waiting parked true = parked

-- one queue gets shares or a mode, and keeps its lines
pub lines-weighed : (queues : List Queue) (queue : ℕ) (now : Queue) → queue < length queues → now.waiting ≡ (queue_at queues queue).waiting → now.parked ≡ (queue_at queues queue).parked → (spot : Spot) → line_at (set queues queue now) spot ≡ line_at queues spot
lines-weighed queues queue now within waiting parked spot =
    read-set (side spot.is_parked) queues queue now within (sides now (queue_at queues queue) waiting parked spot.is_parked) spot.queue

pub says-weighed : {J : Type 0} (jobs : Slab (Waiting J)) (queues : List Queue) (queue : ℕ) (now : Queue) → queue < length queues → now.waiting ≡ (queue_at queues queue).waiting → now.parked ≡ (queue_at queues queue).parked → (spot : Spot)
    → line_says jobs (set queues queue now) spot ≡ line_says jobs queues spot
says-weighed jobs queues queue now within waiting parked spot = ap (λ (l : Line). chain (get jobs) l.head l.count) (lines-weighed queues queue now within waiting parked spot)

-- one more queue has empty lines
pub lines-created : (queues : List Queue) (last : Queue) → last.waiting ≡ no_line → last.parked ≡ no_line → (spot : Spot) → line_at (queues ++ last ∷ []) spot ≡ line_at queues spot
lines-created queues last waiting parked spot = read-push (side spot.is_parked) queues last (sides last no_queue waiting parked spot.is_parked) spot.queue

pub says-created : {J : Type 0} (jobs : Slab (Waiting J)) (queues : List Queue) (last : Queue) → last.waiting ≡ no_line → last.parked ≡ no_line → (spot : Spot) → line_says jobs (queues ++ last ∷ []) spot ≡ line_says jobs queues spot
says-created jobs queues last waiting parked spot = ap (λ (l : Line). chain (get jobs) l.head l.count) (lines-created queues last waiting parked spot)

module _ {J : Type 0} {room line_places : ℕ} {jobs : Slab (Waiting J)} {queues : List Queue} where
  -- one queue gets shares or a mode
  pub IsKept-weighed : (queue : ℕ) (now : Queue) → IsKept room line_places jobs queues → queue < length queues
      → now.waiting ≡ (queue_at queues queue).waiting → now.parked ≡ (queue_at queues queue).parked → IsKept room line_places jobs (set queues queue now)
  IsKept-weighed queue now kept within waiting parked =
      let same = length-set queues queue now in
      let first : now.waiting.count ≡ (queue_at queues queue).waiting.count = ap (λ (l : Line). l.count) waiting in
      let second : now.parked.count ≡ (queue_at queues queue).parked.count = ap (λ (l : Line). l.count) parked in
      record {
        linked = IsLinked-lines (get jobs) (line_at queues) (line_at (set queues queue now)) (lines-weighed queues queue now within waiting parked) kept.linked;
        counted = omega (arith, kept.counted, first, second, sum_by-set (λ (q : Queue). q.waiting.count + q.parked.count) queues queue now no_queue within);
        within_room = kept.within_room;
        reserved = kept.reserved;
        some_queue = omega (arith, kept.some_queue);
        few_queues = omega (arith, kept.few_queues);
        queues_reserved = kept.queues_reserved;
      }

  pub ChangesShares-weighed : (queue : ℕ) (now : Queue) → IsKept room line_places jobs queues → queue < length queues
      → now.waiting ≡ (queue_at queues queue).waiting → now.parked ≡ (queue_at queues queue).parked → now.mode ≡ (queue_at queues queue).mode
      → ChangesShares (alone room jobs queues) (alone room jobs (set queues queue now)) queue now.shares
  ChangesShares-weighed queue now kept within waiting parked mode =
      let written = set queues queue now in
      let says = says-weighed jobs queues queue now within waiting parked in
      record {
        changed = shares_of-view room jobs written queue ∙ ap (λ (q : Queue). q.shares) (get_or-set_same queues queue now no_queue within);
        others = λ other differs. shares_of-view room jobs written other ∙ ap (λ (q : Queue). q.shares) (get_or-set_other queues queue other now no_queue differs) ∙ sym (shares_of-view room jobs queues other);
        same_modes = λ other. mode_of-view room jobs written other ∙ read-set (λ (q : Queue). q.mode) queues queue now within mode other ∙ sym (mode_of-view room jobs queues other);
        same_lines = λ other. waiting_of-view room jobs written other ∙ says (waits other) ∙ sym (waiting_of-view room jobs queues other);
        same_parks = λ other. parked_of-view room jobs written other ∙ ap (map shown_parked) (says (parks other)) ∙ sym (parked_of-view room jobs queues other);
        same_count = queue_count-view room jobs written ∙ length-set queues queue now ∙ sym (queue_count-view room jobs queues);
        same_room = refl;
        same_held = held_count-view (IsKept-weighed queue now kept within waiting parked) ∙ sym (held_count-view kept);
      }

  -- one queue is closed
  pub ChangesMode-closed : (queue : ℕ) (now : Queue) (mode : Mode) → IsKept room line_places jobs queues → queue < length queues
      → now.waiting ≡ (queue_at queues queue).waiting → now.parked ≡ (queue_at queues queue).parked → now.shares ≡ (queue_at queues queue).shares → now.mode ≡ Some mode
      → ChangesMode (alone room jobs queues) (alone room jobs (set queues queue now)) queue mode
  ChangesMode-closed queue now mode kept within waiting parked weight closed =
      let written = set queues queue now in
      let says = says-weighed jobs queues queue now within waiting parked in
      record {
        changed = mode_of-view room jobs written queue ∙ ap (λ (q : Queue). q.mode) (get_or-set_same queues queue now no_queue within) ∙ closed;
        others = λ other differs. mode_of-view room jobs written other ∙ ap (λ (q : Queue). q.mode) (get_or-set_other queues queue other now no_queue differs) ∙ sym (mode_of-view room jobs queues other);
        same_shares = λ other. shares_of-view room jobs written other ∙ read-set (λ (q : Queue). q.shares) queues queue now within weight other ∙ sym (shares_of-view room jobs queues other);
        same_lines = λ other. waiting_of-view room jobs written other ∙ says (waits other) ∙ sym (waiting_of-view room jobs queues other);
        same_parks = λ other. parked_of-view room jobs written other ∙ ap (map shown_parked) (says (parks other)) ∙ sym (parked_of-view room jobs queues other);
        same_count = queue_count-view room jobs written ∙ length-set queues queue now ∙ sym (queue_count-view room jobs queues);
        same_room = refl;
        same_held = held_count-view (IsKept-weighed queue now kept within waiting parked) ∙ sym (held_count-view kept);
      }

  -- one more queue
  pub IsKept-created : (last : Queue) → IsKept room line_places jobs queues → (length queues ≡ 256 → ⊥) → last.waiting ≡ no_line → last.parked ≡ no_line → IsKept room line_places jobs (queues ++ last ∷ [])
  IsKept-created last kept more waiting parked =
      let longer = length_push queues last in
      let first : last.waiting.count ≡ 0 = ap (λ (l : Line). l.count) waiting in
      let second : last.parked.count ≡ 0 = ap (λ (l : Line). l.count) parked in
      record {
        linked = IsLinked-lines (get jobs) (line_at queues) (line_at (queues ++ last ∷ [])) (lines-created queues last waiting parked) kept.linked;
        counted = omega (arith, kept.counted, first, second, sum_by_push (λ (q : Queue). q.waiting.count + q.parked.count) queues last);
        within_room = kept.within_room;
        reserved = kept.reserved;
        some_queue = omega (arith, kept.some_queue);
        few_queues = omega (arith, kept.few_queues);
        queues_reserved = kept.queues_reserved;
      }

  pub AddsQueue-created : (last : Queue) → IsKept room line_places jobs queues → (length queues ≡ 256 → ⊥) → last.waiting ≡ no_line → last.parked ≡ no_line → last.mode ≡ None
      → AddsQueue (alone room jobs queues) (alone room jobs (queues ++ last ∷ [])) (length queues) last.shares
  AddsQueue-created last kept more waiting parked never =
      let longer = queues ++ last ∷ [] in
      let says = says-created jobs queues last waiting parked in
      record {
        number = sym (queue_count-view room jobs queues);
        count = queue_count-view room jobs longer ∙ length_push queues last ∙ ap (λ n. n + 1) (sym (queue_count-view room jobs queues));
        given = shares_of-view room jobs longer (length queues) ∙ ap (λ (q : Queue). q.shares) (get_or_push queues last no_queue (length queues) refl);
        others = λ other differs. shares_of-view room jobs longer other ∙ ap (λ (q : Queue). q.shares) (queue_at-push queues last other differs) ∙ sym (shares_of-view room jobs queues other);
        same_modes = λ other. mode_of-view room jobs longer other ∙ read-push (λ (q : Queue). q.mode) queues last never other ∙ sym (mode_of-view room jobs queues other);
        same_lines = λ other. waiting_of-view room jobs longer other ∙ says (waits other) ∙ sym (waiting_of-view room jobs queues other);
        same_parks = λ other. parked_of-view room jobs longer other ∙ ap (map shown_parked) (says (parks other)) ∙ sym (parked_of-view room jobs queues other);
        same_room = refl;
        same_held = held_count-view (IsKept-created last kept more waiting parked) ∙ sym (held_count-view kept);
      }

-- one queue in which no job waits and none is parked
pub IsKept-opened : {J : Type 0} (room line_places : ℕ) (jobs : Slab (Waiting J)) (queue : Queue) → jobs.slots ≡ [] → queue.waiting.count ≡ 0 → queue.parked.count ≡ 0 → room ≤ jobs.capacity → 256 ≤ line_places → IsKept room line_places jobs (queue ∷ [])
IsKept-opened room line_places jobs queue empty none nobody reserved places =
    let free : slab_len jobs ≡ 0 = ap (count_by is_some) empty in
    record {
      linked = record {
        filled = λ spot place h. absurd (omega (arith, counts spot.queue spot.is_parked));
        apart = λ one here other there h k same. absurd (omega (arith, counts one.queue one.is_parked));
        tails = λ spot last is. absurd (omega (arith, counts spot.queue spot.is_parked));
      };
      counted = omega (arith, free, none, nobody, sum_by-cons (λ (q : Queue). q.waiting.count + q.parked.count) queue []);
      within_room = omega arith;
      reserved = reserved;
      some_queue = omega arith;
      few_queues = omega arith;
      queues_reserved = places;
    }
  where
    counts : (number : ℕ) (is_parked : Bool) → (side is_parked (queue_at (queue ∷ []) number)).count ≡ 0
    counts zero false = none
    counts zero true = nobody
    counts (suc number) false = refl
    counts (suc number) true = refl
