-- What it changes to pass on notes: nothing but what is kept, and how many notes there may be.
use Rattle.actor_seat.proofs.Names.{ap, AreBeside, arith, desk_of, DeskView, EndsView, Err, Fits, free_notes, inl, inr, Inward, IsInOf, IsLinked, IsOutOf, IsRecorded, IsSeated, Journal, JournalView, length, List, Meaning, Ok, Outward}
use Rattle.actor_seat.proofs.Names.{PassesOn, places_of, PollsAsOwed, RecordedView, Refused, Result, Sending, subst, sym, ℕ, ◌+◌, ◌∙◌, ◌≡◌, ◌≤◌, ◌⊎◌}
use Rattle.actor_seat.proofs.LentOut.{AreOuts}

module _ {J T : Type 0} where
  -- the same core and the same notes, of which others were passed on
  abbrev pub passed_from : Journal T → ℕ → RecordedView J T → RecordedView J T
  passed_from passed room view = record view { journal = record view.journal { passed = passed; room = room } }

  -- the same of a desk
  abbrev pub desk_passed : Journal T → ℕ → DeskView J T → DeskView J T
  desk_passed passed room desk = record desk { journal = record desk.journal { passed = passed; room = room } }

  module _ (passed : Journal T) (room : ℕ) where
    in_again : (view : RecordedView J T) (sender : ℕ) (inward : Inward J T) → IsInOf sender view inward → IsInOf sender (passed_from passed room view) inward
    in_again view sender inward is = record {
      known = is.known;
      from = is.from;
      to = is.to;
      base = is.base;
      capacity = is.capacity;
      gate = is.gate;
      taken = is.taken;
      behind = is.behind;
      given = is.given;
      ungiven = is.ungiven;
      orders = is.orders;
    }

    out_again : (desk : DeskView J T) (core : ℕ) (out : Outward J T) (credited : ℕ) → IsOutOf core desk out credited → IsOutOf core (desk_passed passed room desk) out credited
    out_again desk core out credited is = record {
      known = is.known;
      from = is.from;
      to = is.to;
      base = is.base;
      capacity = is.capacity;
      accepted = is.accepted;
      outstanding = is.outstanding;
      behind = is.behind;
      collected = is.collected;
    }

    -- the ends on which an actor sends are beside its desk as before
    pub outs_again : (meaning : Meaning J T) (desk : DeskView J T) (outs : List (Sending J T)) → AreOuts meaning desk outs → AreOuts meaning (desk_passed passed room desk) outs
    outs_again meaning desk outs are = record {
      count = are.count;
      beside = λ core end there. out_again desk core end.out end.credited (are.beside core end there);
      lanes = λ core end there. let had = are.lanes core end there in record { lane = had.lane; is = had.is; lane_of = had.lane_of };
    }

    beside_again : (meaning : Meaning J T) (view : RecordedView J T) (ends : EndsView J T) → AreBeside (Fits meaning) view ends → AreBeside (Fits meaning) (passed_from passed room view) ends
    beside_again meaning view ends are = record {
      number = are.number;
      ins_are = are.ins_are;
      outs = outs_again meaning (desk_of view) ends.outs are.outs;
      ins = λ sender known. in_again view sender _ (are.ins sender known);
    }

  module _ (old new : RecordedView J T) (rest : new ≡ record old { journal = new.journal }) (same : new.journal.notes ≡ old.journal.notes) where
    passed_is : new ≡ passed_from new.journal.passed new.journal.room old
    passed_is = rest ∙ ap (λ notes. record old { journal = record { notes = notes; passed = new.journal.passed; room = new.journal.room } }) same

    pub passed_beside : (meaning : Meaning J T) (ends : EndsView J T) → AreBeside (Fits meaning) old ends → AreBeside (Fits meaning) new ends
    passed_beside meaning ends beside = subst (λ (view : RecordedView J T). AreBeside (Fits meaning) view ends) (sym passed_is) (beside_again new.journal.passed new.journal.room meaning old ends beside)

    -- the core and its ends agree as before, whatever was passed on
    pub passed_seated : {meaning : Meaning J T} (ends : EndsView J T) → IsSeated meaning (record { recorded = old; ends = ends }) → IsRecorded meaning new → IsSeated meaning (record { recorded = new; ends = ends })
    passed_seated {meaning} ends seated sound = record { recorded = sound; beside = passed_beside meaning ends seated.beside }

    pub passed_linked : {meaning : Meaning J T} (ends : EndsView J T) → IsLinked meaning (record { recorded = old; ends = ends }) → IsRecorded meaning new → IsLinked meaning (record { recorded = new; ends = ends })
    passed_linked {meaning} ends linked sound = record {
      recorded = sound;
      at_rest = ap (λ view. view.core.out) rest ∙ linked.at_rest;
      beside = passed_beside meaning ends linked.beside;
      owed = subst (λ (view : RecordedView J T). PollsAsOwed meaning view ends) (sym passed_is) linked.owed;
    }

module _ {T S : Type 0} (has : S → Journal T) (refused : S → ℕ → Type 0) (old new : JournalView T) (before after : S) where
  -- no note is lost, and none comes
  pub same_notes : (answer : Result (Unit {0}) Refused) → PassesOn has refused old before answer new after → new.notes ≡ old.notes
  same_notes (Ok done) did = ap (λ journal. journal.notes) did.0
  same_notes (Err why) did = ap (λ journal. journal.notes) did.0

  -- as many may be kept as before
  pub same_places : (answer : Result (Unit {0}) Refused) → PassesOn has refused old before answer new after → places_of new ≡ places_of old
  same_places (Ok done) did = ap places_of did.0 ∙ omega arith
  same_places (Err why) did = ap places_of did.0

  -- the sink has what was passed on
  pub has_passed : (answer : Result (Unit {0}) Refused) → PassesOn has refused old before answer new after → has before ≡ old.passed → has after ≡ new.passed
  has_passed (Ok done) did had = did.1 ∙ (ap (λ journal. journal.notes) did.0 ∙ sym (ap (λ journal. journal.passed) did.0))
  has_passed (Err why) did had = did.1 ∙ (had ∙ sym (ap (λ journal. journal.passed) did.0))

  -- all are passed on, or the sink refused
  pub all_passed : (answer : Result (Unit {0}) Refused) → PassesOn has refused old before answer new after → (new.passed ≡ new.notes) ⊎ refused after (length new.passed)
  all_passed (Ok done) did = inl (ap (λ journal. journal.passed) did.0 ∙ sym (ap (λ journal. journal.notes) did.0))
  all_passed (Err why) did = inr (subst (λ journal. refused after (length journal.passed)) (sym did.0) did.2)

  -- there is as much room as there are places, or the sink refused
  pub free_behind : (answer : Result (Unit {0}) Refused) → PassesOn has refused old before answer new after → (least : ℕ) → least ≤ places_of old → (least ≤ free_notes new) ⊎ refused after (length new.passed)
  free_behind (Ok done) did least low = inl (let free : free_notes new ≡ places_of old = ap free_notes did.0 ∙ omega arith in omega (arith, free, low))
  free_behind (Err why) did least low = inr (subst (λ journal. refused after (length journal.passed)) (sym did.0) did.2)

  -- so a journal with free notes has no fewer
  pub still_free : (answer : Result (Unit {0}) Refused) → PassesOn has refused old before answer new after → (count : ℕ) → length old.notes + count ≤ old.room → count ≤ places_of old → length new.notes + count ≤ new.room
  still_free (Ok done) did count free low =
      let notes : length new.notes ≡ length old.notes = ap (λ journal. length journal.notes) did.0 in
      let room : new.room ≡ length old.notes + places_of old = ap (λ journal. journal.room) did.0 in
      omega (arith, notes, room, low)
  still_free (Err why) did count free low =
      let notes : length new.notes ≡ length old.notes = ap (λ journal. length journal.notes) did.0 in
      let room : new.room ≡ old.room = ap (λ journal. journal.room) did.0 in
      omega (arith, notes, room, free)
