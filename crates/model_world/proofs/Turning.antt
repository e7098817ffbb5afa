-- A world stays one as a core makes a step that sends nothing, or creates a queue before the first event.
use Rattle.model_world.proofs.Words.{JobId, ◌≡◌, ℕ, ◌+◌, ◌-◌, ◌^◌, ◌<◌, ◌≤◌, [], ◌∷◌, sym, ◌∙◌, ap, subst, arith, List, Result, Ok, Err, get_or_from_slice_get, map}
use Rattle.model_world.proofs.Words.{Journal, Option, None, Some, slice_get, Note, IsRightPick, Meaning, RecordedView, desk_of, Whole, Fits, journal_at, noted, no_link, row_of, link_at}
use Rattle.model_world.proofs.Words.{Parts, core_at, world_of, IsWorld, IsAtRest, created_count, return_reason, line, turns, CreatesQueue, with_notes}
use Rattle.model_world.proofs.Words.{IsHandBack, IsRecorded, Order, Outcome, ChangesLink}
use Rattle.std.proofs.lemmas.Option.{slice_get_within}
use Rattle.base_words.specs.Lawful.{IsTurnEnd}
use Rattle.base_words.specs.Limits.{most_queues}
use Rattle.base_words.specs.declared.note.Note.TheVariants as writes
use Rattle.base_words.specs.declared.order.Outcome.TheVariants.{Returned}
use Rattle.base_words.specs.declared.order.Reason.{Reason}
use Rattle.core_queues.specs.declared.queues.CreateError.{CreateError}
use Rattle.core_queues.specs.declared.queues.CreateError.TheVariants.{TooMany, Memory}
use Rattle.actor_core.specs.Ends.{KeepsIn}
use Rattle.actor_core.specs.Turns as its
use Rattle.actor_core.specs.Whole.{StaysPut}
use Rattle.actor_core.specs.Beside.{AreAround, none_owed}
use Rattle.actor_core.specs.Beside as around
use Rattle.actor_core.specs.TurnPolls.{GivesOn}
use Rattle.actor_core.specs.Rooms.{open_queue}
use Rattle.actor_core.specs.WholeTurns.{HandsBack}
use Rattle.actor_core.proofs.KeptAround.{kept_around}
use Rattle.model_world.specs.Reached.{links_reach}
use Rattle.model_world.specs.Opening.{CreatesAtOpening}
use Rattle.model_world.specs.Turns.{EndsTurn}
use Rattle.model_world.specs.BothEnds.{IsGift, gift}
use Rattle.model_world.proofs.LentLinks.{gives_none}
use Rattle.model_world.proofs.LinkRows.{ChangesLink-with_link, same_sent}
use Rattle.model_world.proofs.LinkSteps.{IsSenderOn, received-given}
use Rattle.model_world.proofs.WorldAfter.{rest_after}
use Rattle.model_world.proofs.CoreSteps.{burst_is, cores_are, parts_now, receives, journal_is, core_sender, core_noted, core_unchanged}

-- what is so of a core's burst and of its journal is so of those of its world
module _ {J T : Type 0} {meaning : Meaning J T} {old : Parts J T} (world : IsWorld meaning old) (core : ℕ) (there : core < old.cores) where
  pub in_world : (Holds : ℕ → Journal T → Type 0) → Holds (core_at core old).core.bursts.burst (core_at core old).journal.notes → Holds old.burst (journal_at core (world_of old))
  in_world Holds holds =
      subst (λ burst. Holds burst (journal_at core (world_of old))) (burst_is world core there)
      (subst (Holds (core_at core old).core.bursts.burst) (sym (journal_is world core there)) holds)

-- a core that makes a step has each end beside it, and nothing is owed
pub all_around : {J T : Type 0} {meaning : Meaning J T} {old : Parts J T}
    (world : IsWorld meaning old) (core : ℕ) (there : core < old.cores) → AreAround meaning links_reach core none_owed (core_at core old) old.links
all_around {meaning = meaning} {old = old} world core there = record {
  has_outs = omega (arith, world.all_there.rows_are, there);
  has_ins = λ sender within. record { row = omega (arith, world.all_there.rows_are, known sender within); place = omega (arith, world.all_there.links_are sender (known sender within), there) };
  outs = record {
    count = world.all_there.links_are core (omega (arith, there)) ∙ sym (cores_are world core there);
    beside = λ to end is. (at_end to end is).out;
    lanes = λ to end is. (at_end to end is).lane;
  };
  ins = λ sender within. world.beside.ins sender core (known sender within) there;
}
  where
    known : (sender : ℕ) → sender ≤ (core_at core old).core.cores → sender ≤ old.cores
    known sender within = subst (λ cores. sender ≤ cores) (cores_are world core there) within

    at_end : (to : ℕ) (end : Whole _ _) → slice_get (row_of core old.links) to ≡ Some end → IsSenderOn (Fits meaning) to (desk_of (core_at core old)) end
    at_end to end is =
        subst (IsSenderOn (Fits meaning) to (desk_of (core_at core old))) (get_or_from_slice_get (row_of core old.links) to end (no_link core to) is)
        (core_sender world core there to (omega (arith, slice_get_within (row_of core old.links) to end is, world.all_there.links_are core (omega (arith, there)))))

-- A step of a core that sends nothing: its seat and its desk stay, it is at rest among its links again, and an outcome was given on one of these, or none was.
pub record IsQuiet {J T : Type 0} (meaning : Meaning J T) (core : ℕ) (old now : RecordedView J T) (before after : List (List (Whole J T))) : Type 0 where
  pub stays : StaysPut old now
  pub rests : around.IsAtRest meaning links_reach core now after
  pub from : ℕ
  pub number : ℕ
  pub outcome : Option (Outcome J T)
  pub known : from ≤ now.core.cores
  pub gives : GivesOn links_reach core from number outcome before after

module _ {J T : Type 0} {meaning : Meaning J T} {core : ℕ} {old now : RecordedView J T} {before : List (List (Whole J T))} where
  -- nothing is given
  pub gives_nothing : StaysPut old now → around.IsAtRest meaning links_reach core now before → IsQuiet meaning core old now before before
  gives_nothing stays rests = record { stays = stays; rests = rests; from = 0; number = 0; outcome = None; known = omega arith; gives = gives_none core before }

  -- a job is handed back
  pub gives_back : {after : List (List (Whole J T))} → IsRecorded meaning old → HandsBack meaning links_reach core old now before after → IsQuiet meaning core old now before after
  gives_back recorded did = record {
    stays = did.stays;
    rests = did.rests;
    from = did.name.from;
    number = did.name.number;
    outcome = Some (Returned did.reason did.order);
    known = subst (λ cores. did.name.from ≤ cores) (sym did.stays.seat.cores) (recorded.taken did.name _ did.did.task).sender;
    gives = did.gives;
  }

  -- a queue is created
  pub creates : AreAround meaning links_reach core none_owed old before → StaysPut old now → IsRecorded meaning now → ((sender : ℕ) → KeepsIn sender old now) → old.core.out ≡ None →
      (weight : ℕ) (told : Result ℕ CreateError) → CreatesQueue weight old told now → IsQuiet meaning core old now before before
  creates beside stays recorded keeps free weight told did = gives_nothing stays (record { recorded = recorded; free = by_told told did ∙ free; beside = kept_around beside none_owed keeps stays })
    where
      by_told : (told : Result ℕ CreateError) → CreatesQueue weight old told now → now.core.out ≡ old.core.out
      by_told (Ok queue) did = did.3
      by_told (Err TooMany) did = ap (λ view. view.core.out) did.1
      by_told (Err Memory) did = ap (λ view. view.core.out) did.1

module _ {J T : Type 0} {meaning : Meaning J T} {old : Parts J T}
    (world : IsWorld meaning old) (core : ℕ) (there : core < old.cores) (now : RecordedView J T) (links : List (List (Whole J T)))
    (step : IsQuiet meaning core (core_at core old) now old.links links) where
  abbrev view : RecordedView J T
  view = core_at core old

  abbrev pub quiet : Parts J T
  quiet = parts_now world core there now links

  cores_now : now.core.cores ≡ old.cores
  cores_now = step.stays.seat.cores ∙ cores_are world core there

  -- what was given on the link of its sender
  abbrev was : Whole J T
  was = link_at step.from core old.links

  given : IsGift was step.gives.end step.gives.gave.held
  given = gift was step.gives.end step.gives.gave.held step.number step.outcome step.gives.gave.gives

  known : step.from ≤ old.cores
  known = subst (λ cores. step.from ≤ cores) cores_now step.known

  -- the core stays beside its ends, on which at most an outcome was given: the world is at rest again
  pub quiet_rests : IsWorld meaning quiet
  quiet_rests = receives world core there now links (record {
    recorded = step.rests.recorded;
    seat = step.stays.seat;
    outs = step.stays.outs;
    lanes = step.stays.lanes;
    sender = step.from;
    link = step.gives.end;
    changes = subst (λ links. ChangesLink old.links links step.from core step.gives.end) (sym step.gives.rest)
        (ChangesLink-with_link old.links step.from core step.gives.end (omega (arith, world.all_there.rows_are, known)) (omega (arith, world.all_there.links_are step.from known, there)));
    received = received-given was step.gives.end given.0 given.1;
    ins = λ sender within. step.rests.beside.ins sender (subst (λ cores. sender ≤ cores) (sym cores_now) within);
  })

  pub quiet_at_rest : IsAtRest old → open_queue now ≡ None → IsAtRest quiet
  quiet_at_rest rest no_turn = rest_after old core now links rest (record { nobody_out = step.rests.free; no_turn = no_turn })

  -- nothing was sent
  same_lists : (world_of quiet).sent ≡ (world_of old).sent
  same_lists = ap (map (map (λ link. link.sent))) step.gives.rest ∙ same_sent old.links step.from core step.gives.end (ap (λ link. link.sent) given.1)

  here : journal_at core (world_of old) ≡ view.journal.notes
  here = journal_is world core there

  pub unchanged : now ≡ view → world_of quiet ≡ world_of old
  unchanged is = core_unchanged world core there now links is same_lists

  -- the core's journal is longer by these notes, and nothing else changed
  pub quiet_noted : (notes : List (Note T)) → now.journal ≡ with_notes notes view.journal → world_of quiet ≡ noted core notes (world_of old)
  quiet_noted notes longer = core_noted world core there now links notes longer same_lists

  pub handed_back : {name : JobId} {reason : Reason} {order : Order J} → its.IsHandBack meaning view name reason order now → IsHandBack core (world_of old) (world_of quiet)
  handed_back {name} {reason} did = record {
    turn_left = subst (λ journal. turns journal < 2 ^ 64 - 1) (sym here) did.turn_left;
    queue = did.queue;
    runtime = did.runtime;
    right = in_world world core there (λ burst journal. IsRightPick burst did.queue did.runtime journal) did.right;
    name = name;
    others = did.others;
    first = ap (line did.queue) here ∙ did.first;
    reason = reason;
    returns = ap (return_reason did.queue) here ∙ did.returns;
    notes = quiet_noted (writes.Returned name reason ∷ writes.Pick did.queue did.runtime ∷ []) did.journal;
  }

  -- the end of a turn is the world's
  pub turn_ends : {time : ℕ} → its.EndsTurn view time now → EndsTurn core (world_of old) (world_of quiet)
  turn_ends {time} ends = record {
    queue = ends.queue;
    time = time;
    end = in_world world core there (λ burst journal. IsTurnEnd burst ends.queue time journal) ends.ends;
    notes = quiet_noted (writes.Turned ends.queue time ∷ []) ends.journal;
  }

  -- the creation is the one of an opening
  pub creates_now : (weight : ℕ) (told : Result ℕ CreateError) → CreatesQueue weight view told now → CreatesAtOpening core weight (world_of old) told (world_of quiet)
  creates_now weight (Ok queue) did = (
    did.0 ∙ ap (λ journal. created_count journal + 1) (sym here),
    did.1,
    quiet_noted (writes.Created queue weight ∷ []) did.2,
  )
  creates_now weight (Err TooMany) did = (ap (λ journal. created_count journal + 1) here ∙ did.0, unchanged did.1)
  creates_now weight (Err Memory) did = (subst (λ journal. created_count journal + 1 < most_queues) (sym here) did.0, unchanged did.1)
