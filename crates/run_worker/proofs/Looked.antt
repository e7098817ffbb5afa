-- What a look, a turn alone and a round come to: what they keep, how many notes they write, and for which polls the gate is asked.
use Rattle.run_worker.proofs.Names.{ap, arith, AsksSince, Bool, core_mode, core_mode_told, count_told, false, Grows, HasShutGates, inl, inr, IsSome, JobId, Journal, latest_told, length, LinkedView, LooksAtAll, LooksAtLinks, LooksOrRests, MakesRound, Meaning}
use Rattle.run_worker.proofs.Names.{None, Note, Option, or_else, Peeks, polls_of, refl, round_most, RoundView, seat_along, ServedView, ShutsClosed, Some, StaysLinked, StepsServed, subst, sym, taken_most, TimesNext, true}
use Rattle.run_worker.proofs.Names.{turn_most, turn_view, TurnsAlone, woken_most, ℕ, [], ◌*◌, ◌++◌, ◌+◌, ◌∙◌, ◌∷◌, ◌≡◌}
use Rattle.std.specs.Prelude.{◌||◌}
use Rattle.run_worker.proofs.Asking.{asks_between, asks_none, asks_then}
use Rattle.run_worker.proofs.Fewer.{links_along, links_most, most_along, round_few, still_going, turn_few}
use Rattle.run_worker.proofs.Spare.{least_along}
use Rattle.run_worker.proofs.Telling.{steps_more, steps_none, steps_wider}
use Rattle.run_worker.proofs.TurnAsks.{turn_asks}

some_else : {A : Type 0} (first second : Option A) → IsSome second → IsSome (or_else first second)
some_else None second is = is
some_else (Some value) second is = refl

module _ {T A : Type 0} (says : Note T → Option A) where
  told_behind : (newer old : Journal T) → IsSome (latest_told says old) → IsSome (latest_told says (newer ++ old))
  told_behind [] old is = is
  told_behind (note ∷ newer) old is = some_else (says note) (latest_told says (newer ++ old)) (told_behind newer old is)

  -- what a note told stays told
  still_told : (old new : Journal T) → Grows old new → IsSome (latest_told says old) → IsSome (latest_told says new)
  still_told old new grows is = subst (λ notes. IsSome (latest_told says notes)) (sym grows.1) (told_behind grows.0 old is)

-- a core that is closed stays closed
pub still_closed : {T : Type 0} (old new : Journal T) → Grows old new → IsSome (core_mode old) → IsSome (core_mode new)
still_closed old new = still_told core_mode_told old new

module _ {J T : Type 0} where
  -- the gates of a core that was closed are shut, if they were shut between
  pub shut_behind : (spared : ℕ) (old middle new : LinkedView J T) → StaysLinked old middle → StaysLinked middle new → HasShutGates spared middle → ShutsClosed spared old new
  shut_behind spared old middle new one two has closed sender known spare =
      still_told (count_told sender) middle.recorded.journal.notes new.recorded.journal.notes two.grows
      (has (still_closed old.recorded.journal.notes middle.recorded.journal.notes one.grows closed) sender (omega (arith, known, one.seat.cores)) spare)

-- three answers, the second one first
order_of_three : (one two three : Bool) → (one || two) || three ≡ two || (one || three)
order_of_three true true three = refl
order_of_three true false three = refl
order_of_three false true three = refl
order_of_three false false three = refl

module _ {J T C G : Type 0} (meaning : Meaning J T) (sleeps : J → Option ℕ) (reads : C → ℕ → C → Type 0) (asked : G → ℕ → JobId → G → Type 0) where
  abbrev notes_in : RoundView J T C G → Journal T
  notes_in view = view.served.linked.recorded.journal.notes

  abbrev core_in : RoundView J T C G → ℕ
  core_in view = view.served.linked.recorded.core.core

  -- a round asks the gate for each poll that it notes
  abbrev Asks : RoundView J T C G → RoundView J T C G → Type 0
  Asks old new = AsksSince asked (core_in old) (notes_in old) (notes_in new) old.gate new.gate

  links_asks : (old new : RoundView J T C G) (some : Bool) → LooksAtLinks meaning sleeps reads asked old some new → Asks old new
  links_asks old new some looks =
      asks_between asked (core_in old) looks.turn.before.linked.recorded.core.core (notes_in old) looks.turn.before.linked.recorded.journal.notes looks.turned.linked.recorded.journal.notes (notes_in new) old.gate new.gate
      (looks.turn.stays.seat.number ∙ looks.steps.stays.seat.number) (looks.turn.none ∙ looks.none_before) looks.none_behind
      (turn_asks meaning (TimesNext reads) asked (turn_view looks.turn.before.linked old.watch old.gate) (turn_view looks.turned.linked looks.timed new.gate) looks.turn.made looks.turn.makes)

  -- a wake asks for no poll
  pub look_asks : (old new : RoundView J T C G) (some : Bool) → LooksAtAll meaning sleeps reads asked old some new → Asks old new
  look_asks old new some looks =
      asks_then asked (core_in old) (core_in looks.woken) (notes_in old) (notes_in looks.woken) (notes_in new) old.gate looks.woken.gate new.gate looks.wakes.steps.stays.seat.number
      (asks_none asked (core_in old) (notes_in old) (notes_in looks.woken) old.gate looks.woken.gate looks.wakes.none looks.wakes.gate) (links_asks looks.woken new looks.found looks.looks)

  alone_asks : (old new : RoundView J T C G) (some : Bool) → TurnsAlone meaning sleeps reads asked old some new → Asks old new
  alone_asks old new some (inl none) = asks_none asked (core_in old) (notes_in old) (notes_in new) old.gate new.gate (ap (λ view. polls_of (notes_in view)) none.2) (ap (λ view. view.gate) none.2)
  alone_asks old new some (inr (passes, turn, steps, sets)) =
      asks_between asked (core_in old) turn.before.linked.recorded.core.core (notes_in old) turn.before.linked.recorded.journal.notes (notes_in new) (notes_in new) old.gate new.gate turn.stays.seat.number turn.none refl
      (turn_asks meaning (TimesNext reads) asked (turn_view turn.before.linked old.watch old.gate) (turn_view new.served.linked new.watch new.gate) turn.made turn.makes)

  -- no step of the core is made by a reading
  pub peeks_served : (old peeked : RoundView J T C G) → Peeks reads old peeked → peeked.served ≡ old.served
  peeks_served old peeked (inl same) = ap (λ (view : RoundView J T C G). view.served) same
  peeks_served old peeked (inr (now, told, rest)) = ap (λ (view : RoundView J T C G). view.served) rest

  peeks_gate : (old peeked : RoundView J T C G) → Peeks reads old peeked → peeked.gate ≡ old.gate
  peeks_gate old peeked (inl same) = ap (λ (view : RoundView J T C G). view.gate) same
  peeks_gate old peeked (inr (now, told, rest)) = ap (λ (view : RoundView J T C G). view.gate) rest

  peek_asks : (old peeked : RoundView J T C G) → Peeks reads old peeked → Asks old peeked
  peek_asks old peeked peeks =
      asks_none asked (core_in old) (notes_in old) (notes_in peeked) old.gate peeked.gate (ap (λ (served : ServedView J T). polls_of served.linked.recorded.journal.notes) (peeks_served old peeked peeks)) (peeks_gate old peeked peeks)

  rest_asks : (was_idle : Bool) (old new : RoundView J T C G) (some : Bool) → LooksOrRests meaning sleeps reads asked was_idle old some new → Asks old new
  rest_asks was_idle old new some (peeked, peeks, inl looks) =
      asks_then asked (core_in old) (core_in peeked) (notes_in old) (notes_in peeked) (notes_in new) old.gate peeked.gate new.gate (ap (λ (served : ServedView J T). served.linked.recorded.core.core) (peeks_served old peeked peeks))
      (peek_asks old peeked peeks) (look_asks peeked new some looks)
  rest_asks was_idle old new some (peeked, peeks, inr none) = subst (λ (view : RoundView J T C G). Asks old view) (sym none.4) (peek_asks old peeked peeks)

  -- what it keeps
  links_steps : (old new : RoundView J T C G) (some : Bool) → LooksAtLinks meaning sleeps reads asked old some new →
      StepsServed (links_most old.served.linked.recorded.core.cores old.served.linked.recorded.cap old.served.linked.recorded.core.bursts.burst) old.served some new.served
  links_steps old new some looks =
      let most = links_most old.served.linked.recorded.core.cores old.served.linked.recorded.cap old.served.linked.recorded.core.bursts.burst in
      let seat = looks.steps.stays.seat in
      let whole = seat_along old.served.linked.recorded looks.heard.linked.recorded looks.turned.linked.recorded seat looks.turn_steps.stays.seat in
      let got : looks.turned.linked.recorded.core.cores * looks.turned.linked.recorded.cap ≡ old.served.linked.recorded.core.cores * old.served.linked.recorded.cap =
      ap (λ cores. cores * looks.turned.linked.recorded.cap) whole.cores ∙ ap (λ cap. old.served.linked.recorded.core.cores * cap) whole.cap in
      subst (λ some. StepsServed most old.served some new.served) (order_of_three looks.came looks.worked looks.back ∙ sym looks.tells)
      (steps_more (taken_most old.served + turn_most old.served) _ most (looks.came || looks.worked) looks.back old.served looks.turned new.served
      (omega (arith, got))
      (steps_more (taken_most old.served) _ _ looks.came looks.worked old.served looks.heard looks.turned (omega (arith, most_along old.served.linked.recorded looks.heard.linked.recorded seat)) looks.steps looks.turn_steps) looks.gathers)

  pub look_steps : (old new : RoundView J T C G) (some : Bool) → LooksAtAll meaning sleeps reads asked old some new → StepsServed (round_most old.served) old.served some new.served
  look_steps old new some looks =
      let recorded = old.served.linked.recorded in
      rw looks.tells (steps_more (woken_most old.served) _ (round_most old.served) looks.woke looks.found old.served looks.woken.served new.served
      (omega (arith, round_few recorded.core.cores recorded.cap recorded.core.bursts.burst, links_along recorded looks.woken.served.linked.recorded looks.wakes.steps.stays.seat))
      looks.wakes.steps (links_steps looks.woken new looks.found looks.looks))

  alone_steps : (old new : RoundView J T C G) (some : Bool) → TurnsAlone meaning sleeps reads asked old some new → StepsServed (turn_most old.served) old.served some new.served
  alone_steps old new some (inl none) = rw (none.1, none.2) (steps_none (turn_most old.served) old.served)
  alone_steps old new some (inr (passes, turn, steps, sets)) = steps

  -- no turn without a look, or one for which there was no work, which looks at the room once and writes nothing
  alone_none : (old new : RoundView J T C G) → TurnsAlone meaning sleeps reads asked old false new → StepsServed 0 old.served false new.served
  alone_none old new (inl none) = subst (λ (view : RoundView J T C G). StepsServed 0 old.served false view.served) (sym none.2) (steps_none 0 old.served)
  alone_none old new (inr (passes, turn, steps, sets)) = record {
    stays = steps.stays;
    ended = steps.ended;
    short = steps.short;
    tells = steps.tells;
    few = record {
      wrote = λ same. let none : length (notes_in new) ≡ length (notes_in old) = ap length (steps.tells same) in omega (arith, none);
      goes = λ going free. turn.ended ∙ still_going old.served turn.before turn.looks going (λ short. omega (arith, short, free)) turn.before.ending refl;
    };
  }

  rest_steps : (was_idle : Bool) (old new : RoundView J T C G) (some : Bool) → LooksOrRests meaning sleeps reads asked was_idle old some new → StepsServed (round_most old.served) old.served some new.served
  rest_steps was_idle old new some (peeked, peeks, inl looks) =
      subst (λ (served : ServedView J T). StepsServed (round_most served) served some new.served) (peeks_served old peeked peeks) (look_steps peeked new some looks)
  rest_steps was_idle old new some (peeked, peeks, inr none) = rw (none.3, none.4, peeks_served old peeked peeks) (steps_none (round_most old.served) old.served)

  module _ (was_idle : Bool) (old new : RoundView J T C G) (some : Bool) where
    pub round_asks : MakesRound meaning sleeps reads asked was_idle old some new → Asks old new
    round_asks (inl turned) = alone_asks old new true turned.1
    round_asks (inr (middle, alone, rest)) =
        asks_then asked (core_in old) (core_in middle) (notes_in old) (notes_in middle) (notes_in new) old.gate middle.gate new.gate (alone_none old middle alone).stays.seat.number (alone_asks old middle false alone)
        (rest_asks was_idle middle new some rest)

    pub round_steps : MakesRound meaning sleeps reads asked was_idle old some new → StepsServed (round_most old.served) old.served some new.served
    round_steps (inl turned) =
        rw turned.0 (steps_wider (turn_most old.served) (round_most old.served) true old.served new.served
        (turn_few old.served.linked.recorded.core.cores old.served.linked.recorded.cap old.served.linked.recorded.core.bursts.burst) (alone_steps old new true turned.1))
    round_steps (inr (middle, alone, rest)) =
        let first = alone_none old middle alone in
        steps_more 0 (round_most middle.served) (round_most old.served) false some old.served middle.served new.served (omega (arith, least_along old.served.linked.recorded middle.served.linked.recorded first.stays.seat)) first
        (rest_steps was_idle middle new some rest)
