-- Gates that are shut one after another, and the room that is left behind.
use Rattle.run_worker.proofs.Names.{ActsAsItMay, ActsByCommand, ap, arith, Bool, cases_eq, closes, ClosesItself, cond, core_mode, EachNote, eq-eqb, false, final_count, final_of, given_count, HasSpare, in_at, inl, inr, Inward, is_some}
use Rattle.run_worker.proofs.Names.{IsEnding, IsInOf, IsLinked, IsShort, IsShutWithin, IsSome, Journal, JournalView, KeepsTaken, last_through, least_free, LeavesReturning, LeavesShut, LeavesUnless, length, length-map, LinkedView, MayAct, Meaning, Mode}
use Rattle.run_worker.proofs.Names.{name_of, ne_eqb, None, NotesNoPoll, Option, or_else, outcome_note, RecordedView, refl, seat_along, ShutsFirst, ShutsGate, Some, SoundIn, stays_along, stays_same, StaysLinked, subst, suc, sum_upto, sym}
use Rattle.run_worker.proofs.Names.{true, unwrap_or, WritesReturn, WritesShut, ℕ, ⊎_elim, ◌*◌, ◌+◌, ◌<◌, ◌∙◌, ◌∷◌, ◌≡◌, ◌≢◌, ◌≤◌}
use Rattle.base_words.specs.declared.note.Note.TheVariants.{Shut}
use Rattle.base_words.specs.declared.order.Mode.TheVariants.{Finish, Return}
use Rattle.run_worker.proofs.Acting.{acts_at, command_acts}
use Rattle.run_worker.proofs.Asking.{return_notes_none, shut_notes_none}
use Rattle.run_worker.proofs.Spare.{sums_within, places_more}

-- a core that `Return` doesn't change is in that mode
pub was_returning : (mode : Option Mode) → closes mode Return ≡ false → mode ≡ Some Return
was_returning None changes = cc
was_returning (Some Finish) changes = cc
was_returning (Some Return) changes = refl

module _ {T : Type 0} where
  -- a note that shuts one gate shuts no other
  other_gate : (sender other count : ℕ) (before : Journal T) → other ≢ sender → final_count other (Shut sender count ∷ before) ≡ final_count other before
  other_gate sender other count before away = ap (λ test. or_else (cond test (Some count) None) (final_count other before)) (ne_eqb other sender away)

  -- the gate of another sender is as it was
  gate_elsewhere : (sender other : ℕ) (old new : JournalView T) → WritesShut sender old new → other ≢ sender → final_count other new.notes ≡ final_count other old.notes
  gate_elsewhere sender other old new (inl same) away = ap (λ journal. final_count other journal.notes) same
  gate_elsewhere sender other old new (inr wrote) away = ap (λ journal. final_count other journal.notes) wrote.1 ∙ other_gate sender other wrote.0 old.notes away

  -- no outcome is given by it
  given_same : (sender other : ℕ) (old new : JournalView T) → WritesShut sender old new → given_count new.notes other ≡ given_count old.notes other
  given_same sender other old new (inl same) = ap (λ journal. given_count journal.notes other) same
  given_same sender other old new (inr wrote) = ap (λ journal. given_count journal.notes other) wrote.1

  mode_same : (sender : ℕ) (old new : JournalView T) → WritesShut sender old new → core_mode new.notes ≡ core_mode old.notes
  mode_same sender old new (inl same) = ap (λ journal. core_mode journal.notes) same
  mode_same sender old new (inr wrote) = ap (λ journal. core_mode journal.notes) wrote.1

  one_longer : (sender : ℕ) (old new : JournalView T) → WritesShut sender old new → length new.notes ≤ length old.notes + 1
  one_longer sender old new (inl same) = let now : length new.notes ≡ length old.notes = ap (λ journal. length journal.notes) same in omega (arith, now)
  one_longer sender old new (inr wrote) = let now : length new.notes ≡ suc (length old.notes) = ap (λ journal. length journal.notes) wrote.1 in omega (arith, now)

  shut_acts : (sender least room : ℕ) (old new : JournalView T) → WritesShut sender old new → EachNote (MayAct least room) old.notes → EachNote (MayAct least room) new.notes
  shut_acts sender least room old new (inl same) each = subst (λ journal. EachNote (MayAct least room) journal.notes) (sym same) each
  shut_acts sender least room old new (inr wrote) each = subst (λ journal. EachNote (MayAct least room) journal.notes) (sym wrote.1) (tt, each)

module _ {J T : Type 0} where
  -- what an end with a shut gate tells: as many orders came through as have an outcome, and a link holds more
  pub shut_within : (sender : ℕ) (view : RecordedView J T) (inward : Inward J T) → IsInOf sender view inward → SoundIn inward → IsSome (final_count sender view.journal.notes) → IsShutWithin sender view
  shut_within sender view inward is sound some = record {
    gate = some;
    within =
        let now : last_through view.journal.notes sender ≡ unwrap_or (final_of inward inward.shut) 0 = ap (λ count. unwrap_or count 0) is.gate in
        let low : unwrap_or (final_of inward inward.shut) 0 ≤ length inward.seen = by_final inward.shut in
        let given : given_count view.journal.notes sender ≡ length inward.given = ap length is.given ∙ length-map inward.given (λ outcome. (name_of sender view.core.core outcome.0, outcome_note outcome.1)) in
        omega (arith, now, low, given, sound.room, is.capacity);
  }
    where
      by_final : (shut : Bool) → unwrap_or (final_of inward shut) 0 ≤ length inward.seen
      by_final true = omega (arith, is.base)
      by_final false = omega arith

  -- none is shut yet
  pub shuts_none : (spared : ℕ) (old : LinkedView J T) → ShutsFirst spared 0 old old
  shuts_none spared old = record {
    shut = λ sender low spare. absurd (omega (arith, low));
    mode = refl;
    longer = omega arith;
    polls = refl;
    acts = λ least room each. each;
    stays = stays_same old;
    taken = λ sender. refl;
  }

  -- the next one is shut
  pub shuts_more : (spared count : ℕ) (old middle new : LinkedView J T) → ShutsFirst spared count old middle → LeavesUnless spared count middle new → ShutsFirst spared (count + 1) old new
  shuts_more spared count old middle new first (inl none) = subst (ShutsFirst spared (count + 1) old) (sym none.1) (record {
    shut = λ sender low spare. let away : sender ≢ count = λ is. spare (is ∙ none.0) in first.shut sender (omega (arith, low, away)) spare;
    mode = first.mode;
    longer = omega (arith, first.longer);
    polls = first.polls;
    acts = first.acts;
    stays = first.stays;
    taken = first.taken;
  })
  shuts_more spared count old middle new first (inr (spares, next)) = record {
    shut = λ sender low spare. ⊎_elim
        (λ (is : sender ≡ count). subst (λ one. IsShutWithin one new.recorded) (sym is) next.shut)
        (λ (away : sender ≢ count).
        let before = first.shut sender (omega (arith, low, away)) spare in
        let gate : final_count sender new.recorded.journal.notes ≡ final_count sender middle.recorded.journal.notes = gate_elsewhere count sender middle.recorded.journal new.recorded.journal next.wrote away in
        let through : last_through new.recorded.journal.notes sender ≡ last_through middle.recorded.journal.notes sender = ap (λ count. unwrap_or count 0) gate in
        let given = given_same count sender middle.recorded.journal new.recorded.journal next.wrote in
        record {
          gate = subst (λ count. IsSome count) (sym gate) before.gate;
          within = omega (arith, through, given, before.within, next.stays.seat.cap);
        })
        (cases_eq sender count);
    mode = mode_same count middle.recorded.journal new.recorded.journal next.wrote ∙ first.mode;
    longer = omega (arith, first.longer, one_longer count middle.recorded.journal new.recorded.journal next.wrote);
    polls = shut_notes_none count middle.recorded.journal new.recorded.journal next.wrote ∙ first.polls;
    acts = λ least room each. shut_acts count least room middle.recorded.journal new.recorded.journal next.wrote (first.acts least room each);
    stays = stays_along old middle new first.stays next.stays;
    taken = λ sender. next.taken sender ∙ first.taken sender;
  }

  module _ {meaning : Meaning J T} (old middle new : LinkedView J T) (linked : IsLinked meaning old) (spare : HasSpare old.recorded)
      (returns : LeavesReturning old middle) {spared : ℕ} (beyond : middle.recorded.core.cores < spared) (shuts : ShutsFirst spared (middle.recorded.core.cores + 1) middle new) where
    returns_longer : (old new : JournalView T) → WritesReturn old new → length new.notes ≤ length old.notes + 1
    returns_longer old new (inl same) = let now : length new.notes ≡ length old.notes = ap (λ journal. length journal.notes) same in omega (arith, now)
    returns_longer old new (inr wrote) = let now : length new.notes ≡ suc (length old.notes) = ap (λ journal. length journal.notes) wrote in omega (arith, now)

    pub returned_room : length middle.recorded.journal.notes ≤ length old.recorded.journal.notes + 1
    returned_room = returns_longer old.recorded.journal middle.recorded.journal returns.wrote

    all_within : sum_upto (last_through new.recorded.journal.notes) new.recorded.core.cores
        ≤ sum_upto (given_count new.recorded.journal.notes) new.recorded.core.cores + (new.recorded.core.cores + 1) * new.recorded.cap
    all_within =
        sums_within (last_through new.recorded.journal.notes) (given_count new.recorded.journal.notes) new.recorded.cap new.recorded.core.cores
        (λ sender known. (shuts.shut sender (omega (arith, known, shuts.stays.seat.cores)) (λ is. omega (arith, is, known, beyond, shuts.stays.seat.cores))).within)

    -- what is left has its room
    pub ending_now : IsEnding new.recorded
    ending_now = record {
      returning = shuts.mode ∙ returns.returning;
      gates = λ sender known. (shuts.shut sender (omega (arith, known, shuts.stays.seat.cores)) (λ is. omega (arith, is, known, beyond, shuts.stays.seat.cores))).gate;
      room =
          let cores : new.recorded.core.cores ≡ old.recorded.core.cores = shuts.stays.seat.cores ∙ returns.stays.seat.cores in
          let cap : new.recorded.cap ≡ old.recorded.cap = shuts.stays.seat.cap ∙ returns.stays.seat.cap in
          let room : new.recorded.journal.room ≡ old.recorded.journal.room = shuts.stays.seat.room ∙ returns.stays.seat.room in
          let places = places_more old.recorded.core.cores old.recorded.cap in
          let same_places : (new.recorded.core.cores + 1) * new.recorded.cap ≡ (old.recorded.core.cores + 1) * old.recorded.cap = ap (λ cores. (cores + 1) * new.recorded.cap) cores ∙ ap (λ cap. (old.recorded.core.cores + 1) * cap) cap in
          omega (arith, all_within, same_places, places, spare, returned_room, shuts.longer, returns.stays.seat.cores, cores, room, linked.recorded.kept.is_core);
    }

    -- it closed by itself just now, since its journal is short
    pub ending_acts : IsShort old.recorded → ActsByCommand old.recorded.journal.notes → ActsAsItMay true new.recorded
    ending_acts short each =
        acts_at old.recorded new.recorded (seat_along old.recorded middle.recorded new.recorded returns.stays.seat shuts.stays.seat)
        (shuts.acts (least_free old.recorded.core.cores old.recorded.cap old.recorded.core.bursts.burst) old.recorded.journal.room
        (by_return middle.recorded.journal returns.wrote (command_acts _ _ old.recorded.journal.notes each)))
      where
        by_return : (now : JournalView T) → WritesReturn old.recorded.journal now → EachNote (MayAct (least_free old.recorded.core.cores old.recorded.cap old.recorded.core.bursts.burst) old.recorded.journal.room) old.recorded.journal.notes →
            EachNote (MayAct (least_free old.recorded.core.cores old.recorded.cap old.recorded.core.bursts.burst) old.recorded.journal.room) now.notes
        by_return now (inl same) may = subst (λ journal. EachNote (MayAct (least_free old.recorded.core.cores old.recorded.cap old.recorded.core.bursts.burst) old.recorded.journal.room) journal.notes) (sym same) may
        by_return now (inr wrote) may = rw wrote (inr (refl, omega (arith, spare), short), may)

  -- a core that closes by itself and shuts its gates notes no poll
  pub ending_notes_none : (old middle new : LinkedView J T) (spared count : ℕ) → LeavesReturning old middle → ShutsFirst spared count middle new → NotesNoPoll old.recorded.journal.notes new.recorded.journal.notes
  ending_notes_none old middle new spared count returns shuts = shuts.polls ∙ return_notes_none old.recorded.journal middle.recorded.journal returns.wrote

  -- a core that closed by itself noted that it closed in that mode, or it was in it before
  pub returned_leaves : (old new : LinkedView J T) (did : Bool) → ClosesItself old.recorded Return did new.recorded → StaysLinked old new → LeavesReturning old new
  returned_leaves old new true closes stays = record { wrote = inr closes.1; returning = ap (λ journal. core_mode journal.notes) closes.1; stays = stays }
  returned_leaves old new false closes stays = record {
    wrote = inl (ap (λ view. view.journal) closes.1);
    returning = ap (λ view. core_mode view.journal.notes) closes.1 ∙ was_returning (core_mode old.recorded.journal.notes) closes.0;
    stays = stays;
  }

  -- a gate that was shut just now
  pub shut_now : (sender : ℕ) (old new : LinkedView J T) → ShutsGate sender old new → WritesShut sender old.recorded.journal new.recorded.journal × IsSome (final_count sender new.recorded.journal.notes)
  shut_now sender old new did = (
    inr (did.count, did.tells.journal),
    ap (λ journal. is_some (final_count sender journal.notes)) did.tells.journal
        ∙ ap (λ test. is_some (or_else (cond test (Some did.count) None) (final_count sender old.recorded.journal.notes))) (eq-eqb sender sender refl),
  )

  -- no order is delivered by it
  taken_same : (sender : ℕ) (old new : LinkedView J T) → ShutsGate sender old new → KeepsTaken old new
  taken_same sender old new did other =
      ⊎_elim
      (λ (is : other ≡ sender). rw is (ap (λ inward. inward.taken) did.shuts.0))
      (λ (away : other ≢ sender). ap (λ end. end.inward.taken) (did.others other away))
      (cases_eq other sender)

  -- the gate is shut, whether it was so before or not
  pub leaves_shut : {meaning : Meaning J T} (sender : ℕ) (old new : LinkedView J T) → WritesShut sender old.recorded.journal new.recorded.journal → StaysLinked old new → KeepsTaken old new →
      IsSome (final_count sender new.recorded.journal.notes) → sender ≤ old.recorded.core.cores → IsLinked meaning new → SoundIn (in_at sender new.ends).inward → LeavesShut sender old new
  leaves_shut sender old new wrote stays taken some known linked sound = record {
    wrote = wrote;
    shut = shut_within sender new.recorded (in_at sender new.ends).inward (linked.beside.ins sender (omega (arith, known, stays.seat.cores))) sound some;
    stays = stays;
    taken = taken;
  }

  module _ {meaning : Meaning J T} (sender : ℕ) (old new : LinkedView J T) (known : sender ≤ old.recorded.core.cores) (sound : SoundIn (in_at sender new.ends).inward) where
    -- it was shut just now
    pub leaves_then : (did : LinkedView J T) → new ≡ did → IsLinked meaning did → ShutsGate sender old did → LeavesShut sender old new
    leaves_then did is linked does =
        let shuts = subst (ShutsGate sender old) (sym is) does in
        let now = shut_now sender old new shuts in
        leaves_shut sender old new now.0 shuts.stays (taken_same sender old new shuts) now.1 known (subst (IsLinked meaning) (sym is) linked) sound

    -- it was shut before
    pub leaves_else : new ≡ old → IsLinked meaning old → IsSome (final_count sender old.recorded.journal.notes) → LeavesShut sender old new
    leaves_else is linked some =
        leaves_shut sender old new (inl (ap (λ view. view.recorded.journal) is)) (subst (StaysLinked old) (sym is) (stays_same old)) (λ other. ap (λ (view : LinkedView J T). (in_at other view.ends).inward.taken) is)
        (subst (λ (view : LinkedView J T). IsSome (final_count sender view.recorded.journal.notes)) (sym is) some) known (subst (IsLinked meaning) (sym is) linked) sound
