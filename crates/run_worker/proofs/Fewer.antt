-- How many notes the steps of a worker write, one after another.
use Rattle.run_worker.proofs.Names.{add-mul, ap, arith, Bool, false, IsSameSeat, IsShort, least_free, length, LinkedView, LooksAtRoom, most_of_turn, mul_left_comm, RecordedView, refl, ServedView, subst, sym, true, WritesFew}
use Rattle.run_worker.proofs.Names.{ℕ, ◌*◌, ◌+◌, ◌∙◌, ◌≡◌, ◌≤◌}
use Rattle.run_worker.proofs.Spare.{least_along, ends_once, places_all}

-- a worker that came to its end before came to it between
pub same_between : (old middle new : Bool) → (old ≡ true → middle ≡ true) → (middle ≡ true → new ≡ true) → new ≡ old → middle ≡ old
same_between true middle new one two is = one refl
same_between false false new one two is = refl
same_between false true new one two is = sym (two refl) ∙ is

pub not_before : (old new : Bool) → (old ≡ true → new ≡ true) → new ≡ false → old ≡ false
not_before false new one is = refl
not_before true new one is = sym (one refl) ∙ is

module _ {J T : Type 0} where
  -- a turn writes as many notes as before
  pub most_along : (old new : RecordedView J T) → IsSameSeat old new → most_of_turn new.core.cores new.cap new.core.bursts.burst ≡ most_of_turn old.core.cores old.cap old.core.bursts.burst
  most_along old new seat =
      ap (λ cores. most_of_turn cores new.cap new.core.bursts.burst) seat.cores
      ∙ (ap (λ cap. most_of_turn old.core.cores cap new.core.bursts.burst) seat.cap ∙ ap (λ burst. most_of_turn old.core.cores old.cap burst) seat.burst)

  -- nothing is done
  pub few_none : (count : ℕ) (view : ServedView J T) → WritesFew count view view
  few_none count view = record { wrote = λ same. omega arith; goes = λ going free. going }

  -- at most so many notes are at most more
  pub few_more : (one count : ℕ) (old new : ServedView J T) → one ≤ count → WritesFew one old new → WritesFew count old new
  few_more one count old new low few = record {
    wrote = λ same. let wrote = few.wrote same in omega (arith, wrote, low);
    goes = λ going free. few.goes going (omega (arith, free, low));
  }

  -- a worker that isn't short isn't at its end behind a look at the room
  pub still_going : (old middle : ServedView J T) → LooksAtRoom old middle → old.ending ≡ false → (IsShort old.linked.recorded → ⊥) → (ending : Bool) → middle.ending ≡ ending → middle.ending ≡ false
  still_going old middle looks going long false is = is
  still_going old middle looks going long true is = absurd (long (looks.short going is))

  -- the room is looked at, and then at most so many notes are written
  pub looked_few : (count : ℕ) (old middle inside : ServedView J T) (new : LinkedView J T) → inside ≡ middle → LooksAtRoom old middle → length new.recorded.journal.notes ≤ length inside.linked.recorded.journal.notes + count →
      WritesFew count old (record { linked = new; ending = inside.ending })
  looked_few count old middle inside new seen looks few = record {
    wrote = λ same.
        let whole : inside ≡ old = seen ∙ looks.same (sym (ap (λ view. view.ending) seen) ∙ same) in
        subst (λ (view : ServedView J T). length new.recorded.journal.notes ≤ length view.linked.recorded.journal.notes + count) whole few;
    goes = λ going free. ap (λ view. view.ending) seen ∙ still_going old middle looks going (λ short. omega (arith, short, free)) middle.ending refl;
  }

  -- two steps
  pub few_along : (one two count : ℕ) (old middle new : ServedView J T) → (old.ending ≡ true → middle.ending ≡ true) → (middle.ending ≡ true → new.ending ≡ true) → IsSameSeat old.linked.recorded middle.linked.recorded →
      WritesFew one old middle → WritesFew two middle new → one + two ≤ count → WritesFew count old new
  few_along one two count old middle new first next seat few more low = record {
    wrote = λ same.
        let between : middle.ending ≡ old.ending = same_between old.ending middle.ending new.ending first next same in
        let wrote = few.wrote between in
        let later = more.wrote (same ∙ sym between) in
        omega (arith, wrote, later, low);
    goes = λ going free.
        let on : middle.ending ≡ false = few.goes going (omega (arith, free, low)) in
        let wrote = few.wrote (on ∙ sym going) in
        let least = least_along old.linked.recorded middle.linked.recorded seat in
        more.goes on (omega (arith, free, low, wrote, least, seat.room));
  }

-- so many notes a look at all links writes at most
abbrev pub links_most : ℕ → ℕ → ℕ → ℕ
links_most cores cap burst = cores + 1 + (cores + 1) * (2 * cap) + most_of_turn cores cap burst + cores * cap

module _ {J T : Type 0} where
  pub links_along : (old new : RecordedView J T) → IsSameSeat old new → links_most new.core.cores new.cap new.core.bursts.burst ≡ links_most old.core.cores old.cap old.core.bursts.burst
  links_along old new seat =
      ap (λ cores. links_most cores new.cap new.core.bursts.burst) seat.cores
      ∙ (ap (λ cap. links_most old.core.cores cap new.core.bursts.burst) seat.cap ∙ ap (λ burst. links_most old.core.cores old.cap burst) seat.burst)

-- a round writes no more notes than a short journal lacks
pub round_few : (cores cap burst : ℕ) → 2 * cap + links_most cores cap burst ≤ least_free cores cap burst
round_few cores cap burst =
    omega (arith, places_all cores cap, mul_left_comm cores 3 cap, mul_left_comm (cores + 1) 2 cap, add-mul cores 1 cap, ends_once burst)

-- and so does a turn alone
pub turn_few : (cores cap burst : ℕ) → most_of_turn cores cap burst ≤ least_free cores cap burst
turn_few cores cap burst = let round = round_few cores cap burst in omega (arith, round)
