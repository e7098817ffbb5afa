-- The seats as one is left, and the one behind it is told the key before it.
use Rattle.core_queues.proofs.Words.{ap, arith, cases_eq, false, get_or-set_other, get_or-set_same, get_or_read, inl, inr, LeavesSeat, length, Line, List, no_seat, refl, ParkedAt, seat_at, set, slice_index_or, suc, sym, Vacates, ℕ, ◌+◌, ◌<◌}
use Rattle.core_queues.proofs.Words.{◌∙◌, ◌≡◌, ◌⊎◌}
use Rattle.std.proofs.lemmas.List.{length-set}

-- a seat that was read
pub seat_read : (seats : List ParkedAt) (key : ℕ) (seat : ParkedAt) → key < length seats → seat ≡ slice_index_or seats key seat → seat_at seats key ≡ seat
seat_read seats key seat within read = sym (get_or_read seats key seat within read no_seat)

-- what a seat that is written has in common with the one before, all have
pub seat_set : {X : Type 0} (f : ParkedAt → X) (seats : List ParkedAt) (at : ℕ) (now : ParkedAt) → at < length seats → f now ≡ f (seat_at seats at) → (key : ℕ) → f (seat_at (set seats at now) key) ≡ f (seat_at seats key)
seat_set f seats at now within same key = by_key (cases_eq key at)
  where
    by_key : (key ≡ at) ⊎ (key ≡ at → ⊥) → f (seat_at (set seats at now) key) ≡ f (seat_at seats key)
    by_key (inl here) = ap (λ n. f (seat_at (set seats at now) n)) here ∙ ap f (get_or-set_same seats at now no_seat within) ∙ same ∙ ap (λ n. f (seat_at seats n)) (sym here)
    by_key (inr apart) = ap f (get_or-set_other seats at key now no_seat apart)

-- the last one of a line is left
pub LeavesSeat-last : (seats : List ParkedAt) (line : Line) (key next : ℕ) (was : ParkedAt) → key < length seats → was ≡ slice_index_or seats key was → line.tail ≡ key → LeavesSeat seats line key next (set seats key (record was { parked = false }))
LeavesSeat-last seats line key next was within read last =
    let now : ParkedAt = record was { parked = false } in
    record {
      size = length-set seats key now;
      gone = ap (λ (s : ParkedAt). s.parked) (get_or-set_same seats key now no_seat within);
      parked = λ other apart. ap (λ (s : ParkedAt). s.parked) (get_or-set_other seats key other now no_seat apart);
      queue = λ other apart. ap (λ (s : ParkedAt). s.queue) (get_or-set_other seats key other now no_seat apart);
      before = λ other apart unlike. ap (λ (s : ParkedAt). s.before) (get_or-set_other seats key other now no_seat apart);
      told = λ not_last. absurd (not_last last);
    }

-- another one is left, and the one behind it is told
pub LeavesSeat-told : (seats : List ParkedAt) (line : Line) (key next : ℕ) (seen was behind : ParkedAt) → key < length seats → next < length seats → (line.tail ≡ key → ⊥) → seen ≡ slice_index_or seats key seen → was ≡ slice_index_or seats key was
    → behind ≡ slice_index_or (set seats key (record was { parked = false })) next behind → LeavesSeat seats line key next (set (set seats key (record was { parked = false })) next (record behind { before = seen.before }))
LeavesSeat-told seats line key next seen was behind within there not_last saw read after =
    let now : ParkedAt = record was { parked = false } in
    let left = set seats key now in
    let told : ParkedAt = record behind { before = seen.before } in
    let short : next < length left = omega (arith, there, length-set seats key now) in
    let at = seat_read left next behind short after in
    record {
      size = length-set left next told ∙ length-set seats key now;
      gone = seat_set (λ (s : ParkedAt). s.parked) left next told short (ap (λ (s : ParkedAt). s.parked) (sym at)) key ∙ ap (λ (s : ParkedAt). s.parked) (get_or-set_same seats key now no_seat within);
      parked = λ other apart. seat_set (λ (s : ParkedAt). s.parked) left next told short (ap (λ (s : ParkedAt). s.parked) (sym at)) other ∙ ap (λ (s : ParkedAt). s.parked) (get_or-set_other seats key other now no_seat apart);
      queue = λ other apart. seat_set (λ (s : ParkedAt). s.queue) left next told short (ap (λ (s : ParkedAt). s.queue) (sym at)) other ∙ ap (λ (s : ParkedAt). s.queue) (get_or-set_other seats key other now no_seat apart);
      before = λ other apart unlike.
          ap (λ (s : ParkedAt). s.before) (get_or-set_other left next other told no_seat (unlike not_last)) ∙ ap (λ (s : ParkedAt). s.before) (get_or-set_other seats key other now no_seat apart);
      told = λ _. ap (λ (s : ParkedAt). s.before) (get_or-set_same left next told no_seat short) ∙ ap (λ (s : ParkedAt). s.before) (sym (seat_read seats key seen within saw));
    }

-- no seat is left yet
pub Vacates-none : (keys : ℕ → ℕ) (seats : List ParkedAt) → Vacates keys 0 seats seats
Vacates-none keys seats = record {
  size = refl;
  vacant = λ place h. absurd (omega (arith, h));
  others = λ key apart. refl;
  either = λ key. inl refl;
}

-- one more is left
pub Vacates-more : (keys : ℕ → ℕ) (count : ℕ) (old new : List ParkedAt) (key : ℕ) (was : ParkedAt) → key < length new → was ≡ slice_index_or new key was → key ≡ keys count → Vacates keys count old new → Vacates keys (count + 1) old (set new key (record was { parked = false }))
Vacates-more keys count old new key was within read at left = record {
  size = length-set new key (record was { parked = false }) ∙ left.size;
  vacant = λ place h. vacant place h (cases_eq (keys place) key);
  others = λ one apart. get_or-set_other new key one (record was { parked = false }) no_seat (λ same. apart count (omega arith) (sym at ∙ sym same)) ∙ left.others one (λ place h. apart place (omega (arith, h)));
  either = λ one. either one (cases_eq one key) (left.either one);
}
  where
    here : (one : ℕ) → one ≡ key → (seat_at (set new key (record was { parked = false })) one).parked ≡ false
    here one same = ap (λ n. (seat_at (set new key (record was { parked = false })) n).parked) same ∙ ap (λ (s : ParkedAt). s.parked) (get_or-set_same new key (record was { parked = false }) no_seat within)

    vacant : (place : ℕ) → place < count + 1 → (keys place ≡ key) ⊎ (keys place ≡ key → ⊥) → (seat_at (set new key (record was { parked = false })) (keys place)).parked ≡ false
    vacant place h (inl same) = here (keys place) same
    vacant place h (inr apart) =
        let differs : place ≡ count → ⊥ = λ last. apart (ap keys last ∙ sym at) in
        let earlier : place < count = omega (arith, h, differs) in
        ap (λ (s : ParkedAt). s.parked) (get_or-set_other new key (keys place) (record was { parked = false }) no_seat apart) ∙ left.vacant place earlier

    either : (one : ℕ) → (one ≡ key) ⊎ (one ≡ key → ⊥) → (seat_at new one ≡ seat_at old one) ⊎ ((seat_at new one).parked ≡ false)
        → (seat_at (set new key (record was { parked = false })) one ≡ seat_at old one) ⊎ ((seat_at (set new key (record was { parked = false })) one).parked ≡ false)
    either one (inl same) was_so = inr (here one same)
    either one (inr apart) (inl stays) = inl (get_or-set_other new key one (record was { parked = false }) no_seat apart ∙ stays)
    either one (inr apart) (inr left_so) = inr (ap (λ (s : ParkedAt). s.parked) (get_or-set_other new key one (record was { parked = false }) no_seat apart) ∙ left_so)
