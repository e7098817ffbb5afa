-- The lines of all queues by their spots, as one of them is written.
use Rattle.core_queues.proofs.Words.{ap, arith, Bool, cases_eq, false, get_or-le-sum_by, get_or-set_other, get_or-set_same, get_or_read, inl, inr, job_count, length, Line, line_at, List, no_queue, Queue, queue_at, refl, set, set-set, side}
use Rattle.core_queues.proofs.Words.{Spot, sum_by-set, sym, true, ℕ, ⊎_elim, ◌+◌, ◌<◌, ◌∙◌, ◌≡◌, ◌≤◌, ◌⊎◌}
use Rattle.std.proofs.Common.{slice_index_or}
use Rattle.std.proofs.lemmas.List.{length-set}

-- the spot of the jobs of a queue that wait, and that of its parked ones
abbrev pub waits : ℕ → Spot
waits queue = record { queue = queue; is_parked = false }

abbrev pub parks : ℕ → Spot
parks queue = record { queue = queue; is_parked = true }

pub other_side : (one other : ℕ) → waits one ≡ parks other → ⊥
other_side one other same = let both : false ≡ true = ap (λ (s : Spot). s.is_parked) same in cc

-- a queue with another line at one of its sides
abbrev pub put : Bool → Line → Queue → Queue
put false line queue = record queue { waiting = line }
put true line queue = record queue { parked = line }

-- the queues with another line at a spot
abbrev pub placed : List Queue → Spot → Line → List Queue
placed queues spot line = set queues spot.queue (put spot.is_parked line (queue_at queues spot.queue))

-- one line changes, and the others stay
pub record ChangesOne (old new : Spot → Line) (spot : Spot) (line : Line) : Type 0 where
  pub changed : new spot ≡ line
  pub others : (other : Spot) → (other ≡ spot → ⊥) → new other ≡ old other

same_spot : (one other : Spot) → one.queue ≡ other.queue → one.is_parked ≡ other.is_parked → one ≡ other
same_spot one other number side =
    ap (λ queue. record { queue = queue; is_parked = one.is_parked }) number ∙ ap (λ is_parked. record { queue = other.queue; is_parked = is_parked }) side

-- two spots are one, or they aren't
pub cases_spot : (one other : Spot) → (one ≡ other) ⊎ (one ≡ other → ⊥)
cases_spot one other = by_queue (cases_eq one.queue other.queue)
  where
    by_side : one.queue ≡ other.queue → (a b : Bool) → one.is_parked ≡ a → other.is_parked ≡ b → (one ≡ other) ⊎ (one ≡ other → ⊥)
    by_side number true true is too = inl (same_spot one other number (is ∙ sym too))
    by_side number false false is too = inl (same_spot one other number (is ∙ sym too))
    by_side number true false is too = inr (λ same. let both : true ≡ false = sym is ∙ ap (λ (s : Spot). s.is_parked) same ∙ too in cc)
    by_side number false true is too = inr (λ same. let both : false ≡ true = sym is ∙ ap (λ (s : Spot). s.is_parked) same ∙ too in cc)

    by_queue : (one.queue ≡ other.queue) ⊎ (one.queue ≡ other.queue → ⊥) → (one ≡ other) ⊎ (one ≡ other → ⊥)
    by_queue (inl number) = by_side number one.is_parked other.is_parked refl refl
    by_queue (inr apart) = inr (λ same. apart (ap (λ (s : Spot). s.queue) same))

side-put : (is_parked : Bool) (line : Line) (queue : Queue) → side is_parked (put is_parked line queue) ≡ line
side-put false line queue = refl
side-put true line queue = refl

side-put_other : (one other : Bool) (line : Line) (queue : Queue) → (one ≡ other → ⊥) → side one (put other line queue) ≡ side one queue
side-put_other false true line queue apart = refl
side-put_other true false line queue apart = refl
side-put_other false false line queue apart = absurd (apart refl)
side-put_other true true line queue apart = absurd (apart refl)

-- one line is written
pub ChangesOne-placed : (queues : List Queue) (spot : Spot) (line : Line) → spot.queue < length queues → ChangesOne (line_at queues) (line_at (placed queues spot line)) spot line
ChangesOne-placed queues spot line within = record {
  changed = ap (side spot.is_parked) here ∙ side-put spot.is_parked line (queue_at queues spot.queue);
  others = λ other differs. others other differs (cases_eq other.queue spot.queue);
}
  where
    here : queue_at (placed queues spot line) spot.queue ≡ put spot.is_parked line (queue_at queues spot.queue)
    here = get_or-set_same queues spot.queue (put spot.is_parked line (queue_at queues spot.queue)) no_queue within

    others : (other : Spot) → (other ≡ spot → ⊥) → (other.queue ≡ spot.queue) ⊎ (other.queue ≡ spot.queue → ⊥) → line_at (placed queues spot line) other ≡ line_at queues other
    others other differs (inl same) =
        ap (λ n. side other.is_parked (queue_at (placed queues spot line) n)) same ∙ ap (side other.is_parked) here
        ∙ side-put_other other.is_parked spot.is_parked line (queue_at queues spot.queue) (λ too. differs (same_spot other spot same too))
        ∙ ap (λ n. side other.is_parked (queue_at queues n)) (sym same)
    others other differs (inr apart) =
        ap (side other.is_parked) (get_or-set_other queues spot.queue other.queue (put spot.is_parked line (queue_at queues spot.queue)) no_queue apart)

-- how many jobs stand in all lines, as one line is written
pub job_count-placed : (queues : List Queue) (spot : Spot) (line : Line) → spot.queue < length queues → job_count (placed queues spot line) + (line_at queues spot).count ≡ job_count queues + line.count
job_count-placed queues spot line within =
    let was = queue_at queues spot.queue in
    omega (arith, sum_by-set (λ (q : Queue). q.waiting.count + q.parked.count) queues spot.queue (put spot.is_parked line was) no_queue within, by_side spot.is_parked was)
  where
    by_side : (is_parked : Bool) (was : Queue) → (put is_parked line was).waiting.count + (put is_parked line was).parked.count + (side is_parked was).count ≡ was.waiting.count + was.parked.count + line.count
    by_side false was = omega arith
    by_side true was = omega arith

-- no line is longer than all of them together
pub count-le-job_count : (queues : List Queue) (spot : Spot) → spot.queue < length queues → (line_at queues spot).count ≤ job_count queues
count-le-job_count queues spot within =
    let was = queue_at queues spot.queue in
    omega (arith, get_or-le-sum_by (λ (q : Queue). q.waiting.count + q.parked.count) queues spot.queue no_queue within, by_side spot.is_parked was)
  where
    by_side : (is_parked : Bool) (was : Queue) → (side is_parked was).count ≤ was.waiting.count + was.parked.count
    by_side false was = omega arith
    by_side true was = omega arith

-- what one queue has in common with the one that it stands for, all queues have
pub read-set : {X : Type 0} (f : Queue → X) (queues : List Queue) (queue : ℕ) (now : Queue) → queue < length queues → f now ≡ f (queue_at queues queue) → (other : ℕ) → f (queue_at (set queues queue now) other) ≡ f (queue_at queues other)
read-set f queues queue now within same other =
    ⊎_elim
    (λ here. ap (λ n. f (queue_at (set queues queue now) n)) here ∙ ap f (get_or-set_same queues queue now no_queue within) ∙ same ∙ ap (λ n. f (queue_at queues n)) (sym here))
    (λ differs. ap f (get_or-set_other queues queue other now no_queue differs))
    (cases_eq other queue)

shares-put : (is_parked : Bool) (line : Line) (queue : Queue) → (put is_parked line queue).shares ≡ queue.shares
shares-put false line queue = refl
shares-put true line queue = refl

mode-put : (is_parked : Bool) (line : Line) (queue : Queue) → (put is_parked line queue).mode ≡ queue.mode
mode-put false line queue = refl
mode-put true line queue = refl

pub shares-placed : (queues : List Queue) (spot : Spot) (line : Line) → spot.queue < length queues → (other : ℕ) → (queue_at (placed queues spot line) other).shares ≡ (queue_at queues other).shares
shares-placed queues spot line within = read-set (λ (q : Queue). q.shares) queues spot.queue _ within (shares-put spot.is_parked line (queue_at queues spot.queue))

pub mode-placed : (queues : List Queue) (spot : Spot) (line : Line) → spot.queue < length queues → (other : ℕ) → (queue_at (placed queues spot line) other).mode ≡ (queue_at queues other).mode
mode-placed queues spot line within = read-set (λ (q : Queue). q.mode) queues spot.queue _ within (mode-put spot.is_parked line (queue_at queues spot.queue))

pub length-placed : (queues : List Queue) (spot : Spot) (line : Line) → length (placed queues spot line) ≡ length queues
length-placed queues spot line = length-set queues spot.queue (put spot.is_parked line (queue_at queues spot.queue))

-- a line of a queue that was written is written over
pub placed-set : (queues : List Queue) (queue : ℕ) (now : Queue) (is_parked : Bool) (line : Line) → queue < length queues
    → placed (set queues queue now) (record { queue = queue; is_parked = is_parked }) line ≡ set queues queue (put is_parked line now)
placed-set queues queue now is_parked line within =
    ap (λ (q : Queue). set (set queues queue now) queue (put is_parked line q)) (get_or-set_same queues queue now no_queue within) ∙ set-set queues queue now (put is_parked line now)

-- a queue that was read
pub queue_read : (queues : List Queue) (place queue : ℕ) (was : Queue) → place < length queues → was ≡ slice_index_or queues place was → place ≡ queue → queue_at queues queue ≡ was
queue_read queues place queue was within read same = ap (queue_at queues) (sym same) ∙ sym (get_or_read queues place was within read no_queue)
