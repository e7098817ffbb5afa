-- What a turn among any ends is, among the ends of one actor.
use Rattle.actor_seat.proofs.Names.{ap, arith, Begins, Does, ends_along, ends_reach, ends_same, EndsTurn, EndsView, Fits, GoesThrough, has_bursts, HasPosted, in_at, in_used, IsFurther, IsLinked, IsPick, JobId, length, length-map}
use Rattle.actor_seat.proofs.Names.{LinkedView, List, MakesTurn, Meaning, Option, Outcome, OwesAt, polls_in_turn, PollsAsOwed, PollsOn, PollsOne, post_of, Receiving, RecordedView, refl, SameEnds, SeesNoLess, Sending, StaysLinked, StaysPut}
use Rattle.actor_seat.proofs.Names.{subst, sym, turn_view, Turned, TurnView, ℕ, [], ◌+◌, ◌<◌, ◌∙◌, ◌∷◌, ◌≡◌}
use Rattle.std.proofs.Common.{Bool, true, false}
use Rattle.actor_core.specs.Beside as turns
use Rattle.actor_core.specs.TurnPolls as polls
use Rattle.actor_core.specs.WholeTurns as made
use Rattle.actor_core.specs.declared.whole.Turned.TheVariants as came
use Rattle.actor_seat.proofs.AddedTurns.{adds_ended}
use Rattle.actor_seat.proofs.Along.{sees_along, sees_same, stays_along, stays_same}
use Rattle.actor_seat.proofs.Growing.{grows_returned}
use Rattle.actor_seat.proofs.Openings.{opening_returned}
use Rattle.actor_seat.proofs.PollNotes.{poll_grows, poll_opens, writes_first, writes_further}
use Rattle.actor_seat.proofs.Posted.{posted_ends, posted_see}
use Rattle.actor_seat.proofs.Seen.{gives_seen, in_put_sees}

module _ {J T : Type 0} where
  -- a core and its ends, in one record
  abbrev pub pair : RecordedView J T → EndsView J T → LinkedView J T
  pair recorded ends = record { recorded = recorded; ends = ends }

  -- an outcome is given on one end: the ends are of the same links, none has seen less, and those on which the actor sends are as they were
  record Gives (before after : EndsView J T) : Type 0 where
    ends : SameEnds before after
    sees : SeesNoLess before after
    outs : after.outs ≡ before.outs

  gives_on : {own from number : ℕ} {outcome : Option (Outcome J T)} {before after : EndsView J T} → from < length before.ins → polls.GivesOn ends_reach own from number outcome before after → Gives before after
  gives_on {own} {from} {number} {outcome} {before} {after} there gives =
      let seen : length gives.end.inward.seen ≡ length (in_at from before).inward.seen = ap length (gives_seen (in_at from before).inward number outcome gives.end.inward gives.gave.gives) in
      subst (Gives before) (sym gives.rest)
      (record { ends = in_used before from gives.end there gives.gave.held; sees = in_put_sees from before gives.end there (omega (arith, seen)); outs = refl })

  -- the end of a turn touches no end
  ended_stays : (old new : RecordedView J T) (ends : EndsView J T) (time : ℕ) → EndsTurn old time new → StaysPut old new → StaysLinked (pair old ends) (pair new ends)
  ended_stays old new ends time did stays =
      let adds = adds_ended old new time did in
      record { seat = stays.seat; ends = ends_same ends; sees = sees_same ends; opening = adds.opening; grows = adds.grows }

module _ {J T : Type 0} (meaning : Meaning J T) where
  -- a core that is linked is at rest among its ends
  pub among : (view : RecordedView J T) (ends : EndsView J T) (own : ℕ) → IsLinked meaning (pair view ends) → turns.IsAtRest meaning ends_reach own view ends
  among view ends own linked = record {
    recorded = linked.recorded;
    free = linked.at_rest;
    beside = record { has_outs = tt; has_ins = λ sender there. omega (arith, there, linked.beside.ins_are); outs = linked.beside.outs; ins = linked.beside.ins };
  }

  -- and the other way round, where the links are those of a core that was linked
  linked_again : (old new : LinkedView J T) (own : ℕ) → IsLinked meaning old → StaysLinked old new → turns.IsAtRest meaning ends_reach own new.recorded new.ends → PollsAsOwed meaning new.recorded new.ends → IsLinked meaning new
  linked_again old new own was stays rest owed = record {
    recorded = rest.recorded;
    at_rest = rest.free;
    beside = record {
      number = stays.ends.number ∙ (was.beside.number ∙ sym stays.seat.number);
      ins_are =
          let count : length new.ends.ins ≡ length old.ends.ins = sym (length-map new.ends.ins (λ (end : Receiving J T). end.link)) ∙ (ap length stays.ends.ins ∙ length-map old.ends.ins (λ (end : Receiving J T). end.link)) in
          omega (arith, count, was.beside.ins_are, stays.seat.cores);
      outs = rest.beside.outs;
      ins = rest.beside.ins;
    };
    owed = owed;
  }

  module _ {begins : Begins J T} {tells : ℕ → Type 0} {notes count own : ℕ} {name : JobId} {old new : RecordedView J T} {before after : EndsView J T}
      (did : polls.PollsOne meaning ends_reach own begins tells notes count name old new before after) where
    gave : Gives did.between after
    gave = gives_on (did.posts.owing.has_ins name.from did.posts.known) did.gives

    outs_are : after.outs ≡ did.posts.row
    outs_are = gave.outs ∙ ap (λ (ends : EndsView J T). ends.outs) did.posts.rest

    one_poll : PollsOne meaning begins tells notes count name (pair old before) (pair new after)
    one_poll =
        let turn = did.posts.noted.turns in
        record {
          queue = did.queue;
          was_started = did.started;
          picked = turn.picked;
          left = turn.left;
          ran = turn.ran;
          spent = turn.spent;
          settled = did.settled;
          picks = turn.picks;
          owed = subst (λ outs. OwesAt meaning (Does (Fits meaning) (λ (end : Sending J T). end.out) (λ (end : Sending J T). end.credited) (λ (end : Sending J T). end.link)) turn.ran.before (post_of turn.picked before.outs) (post_of turn.left outs) turn.ran.step turn.ran.told)
              (sym outs_are) turn.owed;
          posted = subst (λ outs. HasPosted (λ (end : Sending J T). end.out) (λ (end : Sending J T). end.link) (post_of turn.picked before.outs) (post_of turn.left outs)) (sym outs_are) turn.posted;
          told = turn.told;
          settles = turn.settles;
          few = did.posts.noted.few;
          spends = did.posts.noted.spends;
          spare = did.posts.noted.left;
          in_turn = did.posts.noted.in_turn;
          seat = did.posts.noted.seat;
        }

    ends_stay : SameEnds before after
    ends_stay =
        ends_along before did.between after
        (subst (SameEnds before) (sym did.posts.rest) (posted_ends did.posts.noted.turns.picked did.posts.noted.turns.left before did.posts.row did.posts.noted.turns.posted)) gave.ends

    ends_see : SeesNoLess before after
    ends_see =
        sees_along before did.between after
        (subst (SeesNoLess before) (sym did.posts.rest) (posted_see did.posts.noted.turns.picked did.posts.noted.turns.left before did.posts.row did.posts.noted.turns.posted)) gave.sees

  module _ {tells : ℕ → Type 0} {own : ℕ} {name : JobId} {old new : RecordedView J T} {before after : EndsView J T} where
    first_stays : polls.PollsOne meaning ends_reach own IsPick tells 3 1 name old new before after → StaysLinked (pair old before) (pair new after)
    first_stays did = record {
      seat = did.posts.noted.seat;
      ends = ends_stay did;
      sees = ends_see did;
      opening = poll_opens _ _ _ (writes_first _ _ _ (one_poll did));
      grows = poll_grows _ _ _ (writes_first _ _ _ (one_poll did));
    }

    further_stays : polls.PollsOne meaning ends_reach own IsFurther tells 2 (polls_in_turn old.journal.notes + 1) name old new before after → StaysLinked (pair old before) (pair new after)
    further_stays did = record {
      seat = did.posts.noted.seat;
      ends = ends_stay did;
      sees = ends_see did;
      opening = poll_opens _ _ _ (writes_further _ _ _ (one_poll did));
      grows = poll_grows _ _ _ (writes_further _ _ _ (one_poll did));
    }

module _ {J T M G : Type 0} (meaning : Meaning J T) (tells : M → ℕ → M → Type 0) (asked : G → ℕ → JobId → G → Type 0) where
  -- what a turn of a linked core is to its worker
  pub record TurnsLinked (old : LinkedView J T) (meter : M) (gate : G) (what : Turned) (new : LinkedView J T) (later : M) (after : G) : Type 0 where
    pub makes : MakesTurn meaning tells asked (turn_view old meter gate) what (turn_view new later after)
    pub stays : StaysLinked old new
    pub linked : IsLinked meaning new

module _ {J T M G : Type 0} (meaning : Meaning J T) (tells : M → ℕ → M → Type 0) (asked : G → ℕ → JobId → G → Type 0) (own : ℕ) where
  abbrev View : Type 0
  View = made.TurnView J T (EndsView J T) M G

  -- what the worker sees of a turn
  abbrev linked_of : View → LinkedView J T
  linked_of view = pair view.core view.around

  abbrev seen : View → TurnView J T M G
  seen view = turn_view (linked_of view) view.meter view.gate

  -- further polls are polls of a worker
  record Leads (names : List JobId) (old here : View) : Type 0 where
    on : PollsOn meaning tells asked names (seen old) (seen here)
    stays : StaysLinked (linked_of old) (linked_of here)

  polls_lead : (names : List JobId) (old here : View) → own ≡ old.core.core.core → made.PollsOn meaning ends_reach own tells asked names old here → Leads names old here
  polls_lead [] old here is did = subst (Leads [] old) (sym did) (record { on = refl; stays = stays_same (linked_of old) })
  polls_lead (name ∷ before) old here is did =
      let was = polls_lead before old did.0 is did.1 in
      record {
        on = (
          seen did.0,
          was.on,
          record { polls = one_poll meaning did.2.polls; gate = subst (λ core. asked did.0.gate core name here.gate) (is ∙ sym was.stays.seat.number) did.2.gate },
        );
        stays = stays_along _ _ _ was.stays (further_stays meaning did.2.polls);
      }

  -- and so is the end behind them
  record Through (form : Bool) (old new : View) : Type 0 where
    goes : GoesThrough meaning tells asked form (seen old) (seen new)
    stays : StaysLinked (linked_of old) (linked_of new)

  goes_through : (form : Bool) (old new : View) → own ≡ old.core.core.core → made.GoesThrough meaning ends_reach own tells asked form old new → Through form old new
  goes_through false old new is did = subst (Through false old) (sym did) (record { goes = refl; stays = stays_same (linked_of old) })
  goes_through true old new is did =
      let led = polls_lead did.0 old did.1 is did.2 in
      let ended = did.3.ends in
      subst (Through true old) (sym did.3.rest)
      (record {
        goes = (did.0, seen did.1, led.on, record { time = ended.time; ends = ended.ends; rest = refl });
        stays = stays_along _ _ _ led.stays (ended_stays did.1.core new.core did.1.around ended.time ended.ends ended.stays);
      })

  -- what a turn came to, and that it leaves the links as they are
  record Comes (old : View) (what : Turned) (new : View) : Type 0 where
    makes : MakesTurn meaning tells asked (seen old) what (seen new)
    stays : StaysLinked (linked_of old) (linked_of new)

  comes : (old new : View) → own ≡ old.core.core.core → turns.IsAtRest meaning ends_reach own old.core old.around → (what : Turned) → made.MakesTurn meaning ends_reach own tells asked old what new → Comes old what new
  comes old new is rest came.Polled did =
      let first = did.2.polls in
      let began : StaysLinked (linked_of old) (linked_of did.1) = first_stays meaning first in
      let behind = goes_through (has_bursts old.core.core.bursts.burst) did.1 new (is ∙ sym began.seat.number) did.3 in
      record {
        makes = (did.0, seen did.1, record { polls = one_poll meaning first; gate = subst (λ core. asked old.gate core did.0 did.1.gate) is did.2.gate }, behind.goes);
        stays = stays_along _ _ _ began behind.stays;
      }
  comes old new is rest came.Returned did =
      let back = did.0 in
      let gave = gives_on (rest.beside.has_ins back.name.from (rest.recorded.taken back.name _ back.did.task).sender) back.gives in
      record {
        makes = (record { name = back.name; reason = back.reason; order = back.order; did = back.did }, did.1);
        stays = record {
          seat = back.stays.seat;
          ends = gave.ends;
          sees = gave.sees;
          opening = opening_returned meaning old.core new.core _ _ _ back.did;
          grows = grows_returned meaning old.core new.core _ _ _ back.did;
        };
      }
  comes old new is rest came.Idle did = subst (Comes old came.Idle) (sym did.1) (record { makes = (did.0, refl, (refl, refl)); stays = stays_same (linked_of old) })
  comes old new is rest came.Spent did = subst (Comes old came.Spent) (sym did.2) (record { makes = (did.0, did.1, refl, (refl, refl)); stays = stays_same (linked_of old) })

  -- so a turn among the ends of a linked core leaves it linked
  pub turns_linked : (old new : View) (what : Turned) → own ≡ old.core.core.core → IsLinked meaning (linked_of old) → made.MakesTurn meaning ends_reach own tells asked old what new →
      turns.IsAtRest meaning ends_reach own new.core new.around → PollsAsOwed meaning new.core new.around →
      TurnsLinked meaning tells asked (linked_of old) old.meter old.gate what (linked_of new) new.meter new.gate
  turns_linked old new what is was did rest owed =
      let comes_to = comes old new is (among meaning old.core old.around own was) what did in
      record { makes = comes_to.makes; stays = comes_to.stays; linked = linked_again meaning (linked_of old) (linked_of new) own was comes_to.stays rest owed }
