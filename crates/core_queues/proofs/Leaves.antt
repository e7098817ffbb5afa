-- The job at the head of a line leaves.
use Rattle.core_queues.proofs.Words.{ap, arith, chain, ChangesLine, get, held_count, IsKept, length, Line, line_at, List, next_of, None, Queue, refl, shown, Slab, slab_len, Some, Spot, subst, sym, Updates, Waiting, waiting_of, ℕ, ◌++◌, ◌+◌}
use Rattle.core_queues.proofs.Words.{◌-◌, ◌<◌, ◌∙◌, ◌≡◌}
use Rattle.core_queues.proofs.Spots.{waits, placed, ChangesOne-placed, job_count-placed, length-placed, shares-placed, mode-placed}
use Rattle.core_queues.proofs.Links.{KeepsLines, IsLinked-kept, chain-kept}
use Rattle.core_queues.proofs.Ends.{Shrinks, IsLinked-shrunk, KeepsLines-take, chain-shrunk}
use Rattle.core_queues.proofs.Changes.{Writes, ChangesLine-of}
use Rattle.core_queues.proofs.Views.{line_says, alone, waiting_of-view, held_count-view}

-- the head of a line goes out of the slab, and the line goes on from its next
pub record Leaves {J : Type 0} (old : Slab (Waiting J)) (line : Line) (front : Waiting J) (new : Slab (Waiting J)) (rest : Line) : Type 0 where
  pub some : 0 < line.count
  pub first : get old line.head ≡ Some front
  pub updates : Updates old new line.head None
  pub len : slab_len new + 1 ≡ slab_len old
  pub capacity : new.capacity ≡ old.capacity
  pub head : rest.head ≡ front.next
  pub tail : rest.tail ≡ line.tail
  pub count : rest.count ≡ line.count - 1

pub shrinks : {J : Type 0} (old new : Slab (Waiting J)) (line : Line) (front : Waiting J) (rest : Line) → Leaves old line front new rest → Shrinks (get old) line rest
shrinks old new line front rest leaves = record {
  count = omega (arith, leaves.some, leaves.count);
  head = leaves.head ∙ sym (ap next_of leaves.first);
  tail = leaves.tail;
}

module _ {J : Type 0} {room line_places : ℕ} {old new : Slab (Waiting J)} {queues : List Queue} where
  pub keeps : (spot : Spot) (front : Waiting J) (rest : Line) → IsKept room line_places old queues → Leaves old (line_at queues spot) front new rest → spot.queue < length queues → KeepsLines (get old) (get new) (line_at (placed queues spot rest))
  keeps spot front rest kept leaves within =
      KeepsLines-take (get old) (line_at queues) (line_at (placed queues spot rest)) spot rest (get new) (ChangesOne-placed queues spot rest within) (shrinks old new (line_at queues spot) front rest leaves) kept.linked leaves.updates.others

  pub IsKept-left : (spot : Spot) (front : Waiting J) (rest : Line) → IsKept room line_places old queues → Leaves old (line_at queues spot) front new rest → spot.queue < length queues → IsKept room line_places new (placed queues spot rest)
  IsKept-left spot front rest kept leaves within =
      let same = length-placed queues spot rest in
      record {
        linked = IsLinked-kept (get old) (get new) (line_at (placed queues spot rest)) (keeps spot front rest kept leaves within)
            (IsLinked-shrunk (get old) (line_at queues) (line_at (placed queues spot rest)) spot rest (ChangesOne-placed queues spot rest within) (shrinks old new (line_at queues spot) front rest leaves) kept.linked);
        counted = omega (arith, kept.counted, job_count-placed queues spot rest within, leaves.len, leaves.count, leaves.some);
        within_room = omega (arith, kept.within_room, leaves.len);
        reserved = omega (arith, kept.reserved, leaves.capacity);
        some_queue = omega (arith, kept.some_queue);
        few_queues = omega (arith, kept.few_queues);
        queues_reserved = kept.queues_reserved;
      }

  -- each line that is left shows what the old slab shows of it
  left_shows : (spot : Spot) (front : Waiting J) (rest : Line) → IsKept room line_places old queues → Leaves old (line_at queues spot) front new rest → spot.queue < length queues → (other : Spot)
      → line_says new (placed queues spot rest) other ≡ line_says old (placed queues spot rest) other
  left_shows spot front rest kept leaves within other = chain-kept (get old) (get new) (line_at (placed queues spot rest)) other (keeps spot front rest kept leaves within)

  -- the line was the head and what is left
  pub says-left : (spot : Spot) (front : Waiting J) (rest : Line) → IsKept room line_places old queues → Leaves old (line_at queues spot) front new rest → spot.queue < length queues
      → line_says old queues spot ≡ shown (Some front) ++ line_says new (placed queues spot rest) spot
  says-left spot front rest kept leaves within =
      let now = (ChangesOne-placed queues spot rest within).changed in
      chain-shrunk (get old) (line_at queues) (line_at (placed queues spot rest)) spot rest front (shrinks old new (line_at queues spot) front rest leaves) leaves.first
      ∙ ap (λ line. shown (Some front) ++ line) (ap (λ (l : Line). chain (get old) l.head l.count) (sym now) ∙ sym (left_shows spot front rest kept leaves within spot))

  pub Writes-left : (spot : Spot) (front : Waiting J) (rest : Line) → IsKept room line_places old queues → Leaves old (line_at queues spot) front new rest → spot.queue < length queues
      → Writes old new queues (placed queues spot rest) spot (line_says new (placed queues spot rest) spot)
  Writes-left spot front rest kept leaves within =
      let now = ChangesOne-placed queues spot rest within in
      record {
        shown = refl;
        others = λ other differs. left_shows spot front rest kept leaves within other ∙ ap (λ (l : Line). chain (get old) l.head l.count) (now.others other differs);
        shares = shares-placed queues spot rest within;
        modes = mode-placed queues spot rest within;
        count = length-placed queues spot rest;
        len = omega (arith, leaves.len, ap length (says-left spot front rest kept leaves within));
      }

  -- a caller sees that the head of a line leaves
  pub waiting_of-left : (queue : ℕ) (front : Waiting J) (rest : Line) → IsKept room line_places old queues → Leaves old (line_at queues (waits queue)) front new rest → queue < length queues
      → waiting_of queue (alone room old queues) ≡ shown (Some front) ++ waiting_of queue (alone room new (placed queues (waits queue) rest))
  waiting_of-left queue front rest kept leaves within =
      waiting_of-view room old queues queue ∙ says-left (waits queue) front rest kept leaves within
      ∙ ap (λ line. shown (Some front) ++ line) (sym (waiting_of-view room new (placed queues (waits queue) rest) queue))

  pub ChangesLine-left : (queue : ℕ) (front : Waiting J) (rest : Line) → IsKept room line_places old queues → Leaves old (line_at queues (waits queue)) front new rest → queue < length queues
      → ChangesLine (alone room old queues) (alone room new (placed queues (waits queue) rest)) queue (waiting_of queue (alone room new (placed queues (waits queue) rest)))
  ChangesLine-left queue front rest kept leaves within =
      let after = alone room new (placed queues (waits queue) rest) in
      subst (ChangesLine (alone room old queues) after queue) (sym (waiting_of-view room new (placed queues (waits queue) rest) queue))
      (ChangesLine-of queue _ kept (IsKept-left (waits queue) front rest kept leaves within) (Writes-left (waits queue) front rest kept leaves within))

  pub held_count-left : (spot : Spot) (front : Waiting J) (rest : Line) → IsKept room line_places old queues → Leaves old (line_at queues spot) front new rest → spot.queue < length queues
      → held_count (alone room new (placed queues spot rest)) + 1 ≡ held_count (alone room old queues)
  held_count-left spot front rest kept leaves within =
      omega (arith, held_count-view (IsKept-left spot front rest kept leaves within), held_count-view kept, leaves.len)
