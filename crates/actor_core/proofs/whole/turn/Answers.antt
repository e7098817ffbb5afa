use Rattle.std.proofs.Common.{◌≡◌, true, false, refl, sym, ◌∙◌, subst, ⊎_elim}
use Rattle.std.specs.Prelude.{Ok, Err}
use Rattle.core_core.specs.declared.turn.Ahead.{Ahead}
use Rattle.core_core.specs.declared.turn.PickError.{PickError}
use Rattle.core_core.specs.Whole.{TellsAhead}
use Rattle.actor_core.proofs.Ahead.{idle, all_used}
use Rattle.base_words.specs.Bursts.{has_bursts}
use Rattle.actor_core.specs.WholeTurns.{GoesThrough, turn_view}
use Rattle.actor_core.proofs.Rooms.{ahead_room, form_told, none_open, not_open, room_behind_first}
use Rattle.actor_core.proofs.whole.turn.Goals as goal

pub poll_first-requires-clause-ahead : goal.poll_first-requires-clause-ahead
poll_first-requires-clause-ahead g c = rw c.in-Ok-Job.field-0-is at c.in-Ok-Job.ensures

pub poll_first-requires-clause-room : goal.poll_first-requires-clause-room
poll_first-requires-clause-room g c = ahead_room c.requires.rest.recorded (rw c.in-Ok-Job.field-0-is at c.in-Ok-Job.ensures) c.requires.room

pub returns-then-not-has_open_turn-clause-makes : goal.returns-then-not-has_open_turn-clause-makes
returns-then-not-has_open_turn-clause-makes g c =
    let form : has_bursts c.args.core.now.core.bursts.burst ≡ false = form_told c.poll_first.ensures.begins.polls _ c.has_open_turn.ensures ∙ c.if-not-has_open_turn.true in
    let first = turn_view c.poll_first.new.core c.poll_first.new.around c.poll_first.new.meter c.poll_first.new.gate in
    (c.in-Ok-Job.next.name, first, c.poll_first.ensures.begins, subst (λ form. GoesThrough g.J.Task.meaning g.E.Around.reach c.args.own g.M.Meter.Tells g.G.Gate.Asked form first first) (sym form) refl)

pub returns-then-not-has_open_turn-clause-no_turn : goal.returns-then-not-has_open_turn-clause-no_turn
returns-then-not-has_open_turn-clause-no_turn g c = none_open _ (sym c.has_open_turn.ensures ∙ c.if-not-has_open_turn.true)

pub poll_on-requires-clause-is_open : goal.poll_on-requires-clause-is_open
poll_on-requires-clause-is_open g c = sym c.has_open_turn.ensures ∙ c.if-not-has_open_turn.false

pub poll_on-requires-clause-room : goal.poll_on-requires-clause-room
poll_on-requires-clause-room g c =
    room_behind_first c.poll_first.ensures.begins.polls (form_told c.poll_first.ensures.begins.polls _ c.has_open_turn.ensures ∙ c.if-not-has_open_turn.false)
    (ahead_room c.requires.rest.recorded (rw c.in-Ok-Job.field-0-is at c.in-Ok-Job.ensures) c.requires.room)

pub returns-else-not-has_open_turn-clause-makes : goal.returns-else-not-has_open_turn-clause-makes
returns-else-not-has_open_turn-clause-makes g c =
    let form : has_bursts c.args.core.now.core.bursts.burst ≡ true = form_told c.poll_first.ensures.begins.polls _ c.has_open_turn.ensures ∙ c.if-not-has_open_turn.false in
    let first = turn_view c.poll_first.new.core c.poll_first.new.around c.poll_first.new.meter c.poll_first.new.gate in
    let over = turn_view c.poll_on.new.core c.poll_on.new.around c.poll_on.new.meter c.poll_on.new.gate in
    let last = turn_view c.end_among.new.core c.poll_on.new.around c.poll_on.new.meter c.poll_on.new.gate in (
      c.in-Ok-Job.next.name,
      first,
      c.poll_first.ensures.begins,
      subst (λ form. GoesThrough g.J.Task.meaning g.E.Around.reach c.args.own g.M.Meter.Tells g.G.Gate.Asked form first last) (sym form)
          (c.poll_on.ensures.polls.0, over, c.poll_on.ensures.polls.1, record { ends = c.end_among.ensures.ends; rest = refl }),
    )

pub returns-else-not-has_open_turn-clause-owed : goal.returns-else-not-has_open_turn-clause-owed
returns-else-not-has_open_turn-clause-owed g c = λ owed. c.end_among.ensures.owed (c.poll_on.ensures.owed (c.poll_first.ensures.owed owed))

pub hand_back-requires-clause-ahead : goal.hand_back-requires-clause-ahead
hand_back-requires-clause-ahead g c = subst (λ (one : Ahead). TellsAhead c.args.core.now.core (Ok one)) c.in-Ok-Back.field-0-is c.in-Ok-Back.ensures

pub hand_back-requires-clause-room : goal.hand_back-requires-clause-room
hand_back-requires-clause-room g c = c.requires.room.back

pub returns-in-Ok-Back : goal.returns-in-Ok-Back
returns-in-Ok-Back g c = record { makes = (c.hand_back.ensures.back, (refl, refl)); rest = c.hand_back.ensures.back.rests; no_turn = c.hand_back.ensures.no_turn; owed = c.hand_back.ensures.owed }

pub returns-in-Ok-Idle : goal.returns-in-Ok-Idle
returns-in-Ok-Idle g c =
    let told = subst (λ (one : Ahead). TellsAhead c.args.core.now.core (Ok one)) c.in-Ok-Idle.field-0-is c.in-Ok-Idle.ensures in
    record { makes = (idle c.args.core.now c.requires.rest.recorded told.0 told.2, refl); rest = c.requires.rest; no_turn = c.requires.no_turn; owed = λ owed. owed }

pub returns-in-Err-Spent : goal.returns-in-Err-Spent
returns-in-Err-Spent g c =
    let told = subst (λ (one : PickError). TellsAhead c.args.core.now.core (Err one)) c.in-Err-Spent.field-0-is c.in-Err-Spent.ensures in
    let used = all_used c.args.core.now c.requires.rest.recorded told in
    record { makes = (used.0, used.1, refl); rest = c.requires.rest; no_turn = c.requires.no_turn; owed = λ owed. owed }

pub unreachable-requires : goal.unreachable-requires
unreachable-requires g c =
    let told = subst (λ (one : PickError). TellsAhead c.args.core.now.core (Err one)) c.in-Err-Busy.field-0-is c.in-Err-Busy.ensures in
    ⊎_elim (λ out. out c.requires.rest.free) (λ turn. turn (not_open c.requires.rest.recorded c.requires.no_turn)) told
