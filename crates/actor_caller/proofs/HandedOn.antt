-- The outside actor after it passed on what is kept, and the room that there is then.
use Rattle.std.proofs.Common.{◌≡◌, ℕ, zero, suc, ◌+◌, ◌*◌, ◌<◌, ◌≤◌, Bool, true, List, length, sym, ◌∙◌, ap, subst, arith, inr, Result, Ok, Err}
use Rattle.std.specs.Prelude.{OnErr, OnOk, Option, is_err, sum_by}
use Rattle.base_words.specs.declared.order.Order.{Order}
use Rattle.base_words.specs.declared.order.Outcome.{Outcome}
use Rattle.base_words.specs.Journal.{Journal}
use Rattle.base_words.specs.Outstanding.{outstanding_count}
use Rattle.note_journal.specs.Journals.{JournalView, free_notes, passed_all, places_of}
use Rattle.note_journal.specs.Passing.{IsAsked, PassesOn}
use Rattle.note_journal.specs.declared.sink.Refused.{Refused}
use Rattle.actor_desk.specs.Spending.{booked, due_of}
use Rattle.actor_desk.proofs.Passed.{passed_holds}
use Rattle.actor_desk.proofs.Spending.{within_room}
use Rattle.run_config.specs.Configs.{least_room}
use Rattle.actor_seat.specs.OutsideSeats.{IsSeatedOutside}
use Rattle.actor_seat.specs.OutsideSeats.{OutsideView}
use Rattle.actor_caller.specs.Passing.{AsksOnce, PassesHere, passed_on, refused_of}
use Rattle.actor_caller.specs.Sends.{MakesRoom, outstanding_upto, room_left}
use Rattle.actor_caller.specs.State.{RuntimeView, outside_of}
use Rattle.actor_caller.specs.Stored.{IsHeld, IsRuntime}
use Rattle.actor_caller.proofs.Booked.{due_all}

module _ {J T : Type 0} {fits : Order J → Outcome J T → Type 0} (view : RuntimeView J T) (is : IsRuntime fits view) where
  -- no more submissions to a core are outstanding than a link holds
  few_at : (core : ℕ) → core < view.desk.cores → outstanding_count core view.desk.journal.notes ≤ view.desk.cap
  few_at core low =
      let has = is.lanes core low in
      let beside = is.outside.outs core low in
      omega (arith, within_room has.lane _ _ has.lane_of, has.lane_of.outstanding, has.lane_of.room, beside.outstanding, beside.capacity)

  few_upto : (count : ℕ) → count ≤ view.desk.cores → outstanding_upto view.desk.journal.notes count ≤ count * view.desk.cap
  few_upto zero low = omega arith
  few_upto (suc count) low = omega (arith, few_upto count (omega (arith, low)), few_at count (omega (arith, low)))

  -- as many notes as all links may ask for are enough for a send
  pub room_for_all : (each : ℕ) → 3 * (view.desk.cores * view.desk.cap + 1) + each * view.desk.cores ≤ free_notes view.desk.journal →
      3 * (outstanding_upto view.desk.journal.notes view.desk.cores + 1) + each * view.desk.cores ≤ free_notes view.desk.journal
  room_for_all each enough = omega (arith, enough, few_upto view.desk.cores (omega arith))

  -- the places are enough for what is due, and for a send
  pub places_enough : sum_by due_of view.desk.lanes + 3 ≤ places_of view.desk.journal
  places_enough = omega (arith, is.places, due_all view is, few_upto view.desk.cores (omega arith))

  -- behind a pass there is room for a send, and for what is due
  pub room_behind : booked (record view.desk { journal = passed_all view.desk.journal }) + 3 ≤ (passed_all view.desk.journal).room
  room_behind = omega (arith, places_enough)

  -- with this journal what is booked has room, and there are as many places as a worker needs
  abbrev HasRoomWith : JournalView T → Type 0
  HasRoomWith journal = (booked (record view.desk { journal = journal }) ≤ journal.room) × (least_room view.desk.cores view.desk.cap view.desk.burst ≤ places_of journal)

  -- so it is, whatever the sink answered
  pub room_passed_on : {S : Type 0} (has : S → Journal T) (refused : S → ℕ → Type 0) (before after : S) (answer : Result (Unit {0}) Refused) (journal : JournalView T) →
      PassesOn has refused view.desk.journal before answer journal after → HasRoomWith journal
  room_passed_on has refused before after answer journal passes =
      passed_holds has refused HasRoomWith view.desk.journal before answer journal after (is.room_is, is.places) (omega (arith, room_behind), omega (arith, is.places)) passes

module _ {S : Type 0} (has : S → Journal ℕ) (refused : S → ℕ → Type 0) (old new : JournalView ℕ) (before after : S) where
  -- behind a pass the sink has all notes, or what it had
  sink_has : (answer : Result (Unit {0}) Refused) → PassesOn has refused old before answer new after → has before ≡ old.passed → has after ≡ new.passed
  sink_has (Ok done) passes had = passes.1 ∙ (ap (λ journal. journal.notes) passes.0 ∙ sym (ap (λ journal. journal.passed) passes.0))
  sink_has (Err why) passes had = passes.1 ∙ (had ∙ sym (ap (λ journal. journal.passed) passes.0))

  -- it refused, if that is told
  sink_refused : (answer : Result (Unit {0}) Refused) → PassesOn has refused old before answer new after → (told : Bool) → told ≡ is_err answer → told ≡ true → refused after (length new.passed)
  sink_refused (Ok done) passes told is tells = absurd cc
  sink_refused (Err why) passes told is tells = subst (λ passed. refused after (length passed)) (sym (ap (λ journal. journal.passed) passes.0)) passes.2

-- a runtime with another outside actor, whose sink was asked
abbrev asked_later : {J : Type 0} → RuntimeView J ℕ → Bool → Option ℕ → List ℕ → OutsideView J ℕ → RuntimeView J ℕ
asked_later view told asks marks outside = record view { desk = outside.desk; ends = outside.ends; refused = told; asks = asks; marks = marks }

-- a runtime whose outside actor passed its notes on
module _ {J S : Type 0} (has : S → Journal ℕ) (refused : S → ℕ → Type 0) (view : RuntimeView J ℕ) (outside : OutsideView J ℕ)
    (rest : outside ≡ record (outside_of view) { desk = record view.desk { journal = outside.desk.journal } }) (before after : S) (told : Bool) (asks : Option ℕ) (marks : List ℕ) where
  -- it is a runtime as before, whatever its sink answered
  pub held_passed : {fits : Order J → Outcome J ℕ → Type 0} {cores cap : ℕ} → IsHeld fits has refused view cores cap before → IsSeatedOutside fits outside → (answer : Result (Unit {0}) Refused) → told ≡ is_err answer →
      PassesOn has refused view.desk.journal before answer outside.desk.journal after → IsHeld fits has refused (asked_later view told asks marks outside) cores cap after
  held_passed {fits} {cores} {cap} held seated answer told_is passes =
      let is = held.runtime in
      let now : IsSeatedOutside fits (record (outside_of view) { desk = record view.desk { journal = outside.desk.journal } }) = subst (IsSeatedOutside fits) rest seated in
      let room = room_passed_on view is has refused before after answer outside.desk.journal passes in
      subst (λ (outside : OutsideView J ℕ). IsHeld fits has refused (asked_later view told asks marks outside) cores cap after) (sym rest)
      (record {
        runtime = record {
          count = is.count;
          each = is.each;
          actor = is.actor;
          outside = now.outside;
          grid = is.grid;
          closings = is.closings;
          bells = is.bells;
          lanes = now.lanes;
          lanes_are = now.lanes_are;
          room_is = room.0;
          places = room.1;
          limits = is.limits;
        };
        cores_are = held.cores_are;
        cap_is = held.cap_is;
        has_passed = sink_has has refused view.desk.journal outside.desk.journal before after answer passes held.has_passed;
        refusal = sink_refused has refused view.desk.journal outside.desk.journal before after answer passes told told_is;
      })

  -- the sink was asked once, and the rest follows from what it answered
  asked_once : (answer : Result (Unit {0}) Refused) → told ≡ is_err answer → PassesOn has refused view.desk.journal before answer outside.desk.journal after → IsAsked view.asks asks → marks ≡ view.marks →
      PassesHere view answer (asked_later view told asks marks outside)
  asked_once (Ok done) is passes asked same =
      let outside_is = rest ∙ ap (λ (journal : JournalView ℕ). record (outside_of view) { desk = record view.desk { journal = journal } }) passes.0 in (asked, λ i. asked_later view (is i) asks (same i) (outside_is i))
  asked_once (Err why) is passes asked same =
      let outside_is = rest ∙ ap (λ (journal : JournalView ℕ). record (outside_of view) { desk = record view.desk { journal = journal } }) passes.0 in (asked, λ i. asked_later view (is i) asks (same i) (outside_is i))

  -- the same, over the runtime as it was seen
  pub passes_here : (answer : Result (Unit {0}) Refused) → told ≡ is_err answer → PassesOn has refused view.desk.journal before answer outside.desk.journal after → IsAsked view.asks asks → marks ≡ view.marks → (seen : RuntimeView J ℕ) → view ≡ seen →
      PassesHere seen answer (asked_later view told asks marks outside)
  passes_here answer is passed asked marked seen same = subst (λ was. PassesHere was answer (asked_later view told asks marks outside)) same (asked_once answer is passed asked marked)

module _ {J T : Type 0} (each : ℕ) (old new : RuntimeView J T) where
  -- where the sink took all there is room for a send
  pub room_made : (answer : Result (Unit {0}) Refused) → PassesHere old answer new → free_notes old.desk.journal < room_left each old → OnOk answer (MakesRoom each old new)
  room_made (Ok done) passes few = inr (few, passes)
  room_made (Err why) passes few = tt

  -- or it was asked and refused
  pub none_made : (answer : Result (Unit {0}) Refused) → PassesHere old answer new → OnErr answer (AsksOnce old (refused_of old) new)
  none_made (Ok done) passes = tt
  none_made (Err why) passes = passes

-- behind a pass there is the room that it leaves
pub room_passed : {J T : Type 0} (old new : RuntimeView J T) (answer : Result (Unit {0}) Refused) → PassesHere old answer new → booked (passed_on old).desk + 3 ≤ (passed_on old).desk.journal.room →
    OnOk answer (booked new.desk + 3 ≤ new.desk.journal.room)
room_passed {J} {T} old new (Ok done) is room = subst (λ (view : RuntimeView J T). booked view.desk + 3 ≤ view.desk.journal.room) (sym is.1) room
room_passed old new (Err why) is room = tt
