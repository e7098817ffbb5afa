-- Steps one after another.
use Rattle.actor_seat.proofs.Names.{ap, append_assoc, arith, DeskView, ends_along, ends_same, EndsView, Grows, IsSameSeat, Journal, KeepsIn, KeepsOuts, length, LinkedView, RecordedView, refl, RunsOn, SeesNoLess, StaysLinked, sym, ℕ, []}
use Rattle.actor_seat.proofs.Names.{◌++◌, ◌-◌, ◌∙◌}

module _ {T : Type 0} where
  pub grows_same : (notes : Journal T) → Grows notes notes
  grows_same notes = ([], refl)

  pub grows_along : (old middle new : Journal T) → Grows old middle → Grows middle new → Grows old new
  grows_along old middle new one two = (two.0 ++ one.0, two.1 ∙ (ap (λ notes. two.0 ++ notes) one.1 ∙ sym (append_assoc two.0 one.0 old)))

module _ {J T : Type 0} where
  pub ins_along : (old middle new : RecordedView J T) (sender : ℕ) → KeepsIn sender old middle → KeepsIn sender middle new → KeepsIn sender old new
  ins_along old middle new sender one two = record { each = λ inward is. two.each inward (one.each inward is) }

  pub outs_along : (old middle new : DeskView J T) → KeepsOuts old middle → KeepsOuts middle new → KeepsOuts old new
  outs_along old middle new one two core = record { each = λ out credited is. (two core).each out credited ((one core).each out credited is) }

  pub seat_along : (old middle new : RecordedView J T) → IsSameSeat old middle → IsSameSeat middle new → IsSameSeat old new
  seat_along old middle new one two = record {
    number = two.number ∙ one.number;
    cores = two.cores ∙ one.cores;
    cap = two.cap ∙ one.cap;
    burst = two.burst ∙ one.burst;
    room = two.room ∙ one.room;
    passed = two.passed ∙ one.passed;
  }

  pub seat_same : (view : RecordedView J T) → IsSameSeat view view
  seat_same view = record { number = refl; cores = refl; cap = refl; burst = refl; room = refl; passed = refl }

  pub sees_same : (ends : EndsView J T) → SeesNoLess ends ends
  sees_same ends = record { ins = λ sender. omega arith; outs = λ core. omega arith }

  pub sees_along : (old middle new : EndsView J T) → SeesNoLess old middle → SeesNoLess middle new → SeesNoLess old new
  sees_along old middle new one two = record {
    ins = λ sender. let was = one.ins sender in let now = two.ins sender in omega (arith, was, now);
    outs = λ core. let was = one.outs core in let now = two.outs core in omega (arith, was, now);
  }

  pub stays_same : (view : LinkedView J T) → StaysLinked view view
  stays_same view = record { seat = seat_same view.recorded; ends = ends_same view.ends; sees = sees_same view.ends; opening = refl; grows = grows_same view.recorded.journal.notes }

  pub stays_along : (old middle new : LinkedView J T) → StaysLinked old middle → StaysLinked middle new → StaysLinked old new
  stays_along old middle new one two = record {
    seat = seat_along old.recorded middle.recorded new.recorded one.seat two.seat;
    ends = ends_along old.ends middle.ends new.ends one.ends two.ends;
    sees = sees_along old.ends middle.ends new.ends one.sees two.sees;
    opening = two.opening ∙ one.opening;
    grows = grows_along old.recorded.journal.notes middle.recorded.journal.notes new.recorded.journal.notes one.grows two.grows;
  }

  -- a step is part of a worker's life
  pub runs_stays : (old new : LinkedView J T) → StaysLinked old new → RunsOn old new
  runs_stays old new stays = record {
    seat = λ i. record { actor = stays.seat.number i; cores = stays.seat.cores i; cap = stays.seat.cap i; burst = stays.seat.burst i };
    places = ap (λ room. room - length new.recorded.journal.passed) stays.seat.room ∙ ap (λ passed. old.recorded.journal.room - length passed) stays.seat.passed;
    ends = stays.ends;
    sees = stays.sees;
    opening = stays.opening;
    grows = stays.grows;
  }

  pub runs_same : (view : LinkedView J T) → RunsOn view view
  runs_same view = runs_stays view view (stays_same view)

  pub runs_along : (old middle new : LinkedView J T) → RunsOn old middle → RunsOn middle new → RunsOn old new
  runs_along old middle new one two = record {
    seat = two.seat ∙ one.seat;
    places = two.places ∙ one.places;
    ends = ends_along old.ends middle.ends new.ends one.ends two.ends;
    sees = sees_along old.ends middle.ends new.ends one.sees two.sees;
    opening = two.opening ∙ one.opening;
    grows = grows_along old.recorded.journal.notes middle.recorded.journal.notes new.recorded.journal.notes one.grows two.grows;
  }
