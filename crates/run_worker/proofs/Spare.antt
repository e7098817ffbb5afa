-- Sums over senders, and the room that a worker keeps.
use Rattle.run_worker.proofs.Names.{add-mul, ap, arith, Bool, core_mode, core_stays_returning, delivered_count, EachNote, false, final_count, final_of, given_count, has_bursts, HasTurnRoom, in_at, Inward, IsEnding, IsInOf, IsLinked}
use Rattle.run_worker.proofs.Names.{IsReady, IsSameSeat, IsSome, Journal, last_through, least_free, length, LinkedView, MayStand, Meaning, mul-add, mul_left_comm, number_if, RecordedView, Some, subst, suc, suc-mul, sum_upto, Terms, true}
use Rattle.run_worker.proofs.Names.{unwrap_or, zero, ℕ, [], ◌*◌, ◌++◌, ◌+◌, ◌∙◌, ◌∷◌, ◌≡◌, ◌≤◌}
use Rattle.base_words.specs.declared.order.Mode.TheVariants.{Return}

-- each of them at most so much above the other, and so are the sums
pub sums_within : (f g : ℕ → ℕ) (more last : ℕ) → ((s : ℕ) → s ≤ last → f s ≤ g s + more) → sum_upto f last ≤ sum_upto g last + (last + 1) * more
sums_within f g more zero each = let one : f 0 ≤ g 0 + more = each 0 (omega arith) in omega (arith, one)
sums_within f g more (suc last) each =
    let one : f (suc last) ≤ g (suc last) + more = each (suc last) (omega arith) in
    let rest : sum_upto f last ≤ sum_upto g last + (last + 1) * more = sums_within f g more last (λ s low. each s (omega (arith, low))) in
    omega (arith, one, rest, add-mul (suc last) 1 more, suc-mul last more, add-mul last 1 more)

pub sums_below : (f g : ℕ → ℕ) (last : ℕ) → ((s : ℕ) → s ≤ last → f s ≤ g s) → sum_upto f last ≤ sum_upto g last
sums_below f g last each =
    let within : sum_upto f last ≤ sum_upto g last + (last + 1) * 0 = sums_within f g 0 last (λ s low. omega (arith, each s low)) in
    omega (arith, within)

-- the places of a house, and one more for each of its links
pub places_more : (cores cap : ℕ) → (cores + 1) * (cap + 1) ≡ (cores + 1) * cap + (cores + 1)
places_more cores cap = omega (arith, mul-add (cores + 1) cap 1)

-- the same places, each product by itself
pub places_all : (cores cap : ℕ) → (cores + 1) * (cap + 1) ≡ cores * cap + cores + cap + 1
places_all cores cap = omega (arith, places_more cores cap, add-mul cores 1 cap)

-- there is at least one place
pub places_some : (cores cap : ℕ) → 1 ≤ (cores + 1) * (cap + 1)
places_some cores cap = omega (arith, places_more cores cap)

-- a link's places, and all notes that a turn posts, with those of its first poll and of its end, are few enough
pub places_few : (cores cap : ℕ) → cap ≤ 4 * ((cores + 1) * (cap + 1))
places_few cores cap = omega (arith, places_all cores cap)

pub posts_few : (cores cap : ℕ) → cores * (3 * cap) + 4 ≤ 4 * ((cores + 1) * (cap + 1))
posts_few cores cap = omega (arith, places_all cores cap, mul_left_comm cores 3 cap)

-- at most one note of its own ends a turn
pub ends_once : (burst : ℕ) → number_if (has_bursts burst) ≤ 1
ends_once burst = by_form (has_bursts burst)
  where
    by_form : (form : Bool) → number_if form ≤ 1
    by_form true = omega arith
    by_form false = omega arith

module _ {T : Type 0} (terms : Terms) where
  -- a core that hands back goes on so
  pub stays_returning : (notes before : Journal T) → EachNote (MayStand terms) (notes ++ before) → core_mode before ≡ Some Return → core_mode (notes ++ before) ≡ Some Return
  stays_returning [] before each was = was
  stays_returning (note ∷ notes) before each was = core_stays_returning terms note (notes ++ before) each.0.may_follow (stays_returning notes before each.1 was)

module _ {J T : Type 0} {meaning : Meaning J T} (view : LinkedView J T) (linked : IsLinked meaning view) where
  -- what was delivered of a sender came through its gate
  delivered_through : (sender : ℕ) → sender ≤ view.recorded.core.cores → IsSome (final_count sender view.recorded.journal.notes) →
      delivered_count view.recorded.journal.notes sender ≤ last_through view.recorded.journal.notes sender
  delivered_through sender known shut = by_end (in_at sender view.ends).inward (linked.beside.ins sender known)
    where
      by_final : (inward : Inward J T) (count : Bool) → inward.base ≡ 0 → IsSome (final_of inward count) → length inward.seen ≤ unwrap_or (final_of inward count) 0
      by_final inward true base some = omega arith
      by_final inward false base some = cc

      by_end : (inward : Inward J T) → IsInOf sender view.recorded inward → delivered_count view.recorded.journal.notes sender ≤ last_through view.recorded.journal.notes sender
      by_end inward is =
          let some : IsSome (final_of inward inward.shut) = subst (λ count. IsSome count) is.gate shut in
          let low : length inward.seen ≤ unwrap_or (final_of inward inward.shut) 0 = by_final inward inward.shut is.base some in
          let now : last_through view.recorded.journal.notes sender ≡ unwrap_or (final_of inward inward.shut) 0 = ap (λ count. unwrap_or count 0) is.gate in
          omega (arith, low, now, is.taken, is.behind)

  -- no more outcomes were given than orders came through
  pub given_through : IsEnding view.recorded → sum_upto (given_count view.recorded.journal.notes) view.recorded.core.cores ≤ sum_upto (last_through view.recorded.journal.notes) view.recorded.core.cores
  given_through ending =
      let through : sum_upto (delivered_count view.recorded.journal.notes) view.recorded.core.cores ≤ sum_upto (last_through view.recorded.journal.notes) view.recorded.core.cores =
      sums_below (delivered_count view.recorded.journal.notes) (last_through view.recorded.journal.notes) view.recorded.core.cores (λ sender known. delivered_through sender known (ending.gates sender known)) in
      omega (arith, through, linked.recorded.held.inside)

  -- there is room for the next step
  pub step_room : IsEnding view.recorded → length view.recorded.journal.notes + 3 ≤ view.recorded.journal.room
  step_room ending = let through = given_through ending in omega (arith, through, ending.room)

  -- the same at any time
  pub ready_room : (ending : Bool) → IsReady ending view.recorded → length view.recorded.journal.notes + 3 ≤ view.recorded.journal.room
  ready_room true ready = step_room ready
  ready_room false ready = omega (arith, ready, places_some view.recorded.core.cores view.recorded.cap)

  -- there is room for a turn
  pub turn_room : (ending : Bool) → IsReady ending view.recorded → HasTurnRoom view.recorded
  turn_room true ready = record {
    back = omega (arith, step_room ready);
    poll = λ goes_on. absurd (goes_on ready.returning);
  }
  turn_room false ready = record {
    back = omega (arith, ready, places_some view.recorded.core.cores view.recorded.cap);
    poll = λ goes_on. omega (arith, ready, posts_few view.recorded.core.cores view.recorded.cap, ends_once view.recorded.core.bursts.burst);
  }

module _ {J T : Type 0} where
  -- a journal is short with as few notes free as before
  pub least_along : (old new : RecordedView J T) → IsSameSeat old new → least_free new.core.cores new.cap new.core.bursts.burst ≡ least_free old.core.cores old.cap old.core.bursts.burst
  least_along old new seat =
      ap (λ cores. least_free cores new.cap new.core.bursts.burst) seat.cores
      ∙ (ap (λ cap. least_free old.core.cores cap new.core.bursts.burst) seat.cap ∙ ap (λ burst. least_free old.core.cores old.cap burst) seat.burst)
