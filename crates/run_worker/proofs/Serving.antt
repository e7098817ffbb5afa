-- Each step of a worker leaves it room for the next.
use Rattle.run_worker.proofs.Names.{ActsAsItMay, ap, arith, Bool, CollectsOf, core_mode, Delivers, DeliversFrom, delivery_short, EachNote, false, final_count, given_count, given_outcomes, HandsBack, has_reason, HasSpare, in_at, inr}
use Rattle.run_worker.proofs.Names.{IsBetweenTurns, IsEnding, IsLinked, IsProvided, IsReady, IsSameSeat, IsServed, IsSome, JobId, last_through, length, length-append, LinkedView, MakesTurn, MayAct, MayStand, Meaning, most_of_turn}
use Rattle.run_worker.proofs.Names.{number_if, Receives, RecordedView, ShutsFirst, Some, subst, suc, sum_upto, sum_upto-one_more, sum_upto-same, sym, terms_at, true, turn_view, Turned, unwrap_or, ℕ, ◌*◌, ◌++◌, ◌+◌, ◌-◌, ◌==◌, ◌∙◌, ◌∷◌, ◌≡◌}
use Rattle.run_worker.proofs.Names.{◌≤◌}
use Rattle.base_words.specs.declared.note.Note.TheVariants as writes
use Rattle.base_words.specs.declared.order.Mode.TheVariants.{Return}
use Rattle.actor_core.specs.declared.whole.Turned.TheVariants as came
use Rattle.run_worker.proofs.Acting.{acts_here, collects_act}
use Rattle.run_worker.proofs.Between.{between_same}
use Rattle.run_worker.proofs.Noted.{more_from, delivery_acts, delivery_gives}
use Rattle.run_worker.proofs.Spare.{ends_once, stays_returning, places_some, places_more, places_few, posts_few}
use Rattle.run_worker.proofs.TurnNotes.{turn_acts}
use Rattle.run_worker.proofs.TurnRoom.{turn_counts}

module _ {J T : Type 0} where
  -- who is ready for a step is provided
  pub ready_provided : (ending : Bool) (view : RecordedView J T) → IsReady ending view → IsProvided ending view
  ready_provided false view ready = omega (arith, ready, places_some view.core.cores view.cap)
  ready_provided true view ready = ready

  -- a step with at most so many notes leaves room for the end
  pub spare_after : (old new : RecordedView J T) (count : ℕ) → IsSameSeat old new → IsReady false old →
      length new.journal.notes ≤ length old.journal.notes + count → count ≤ 4 * ((old.core.cores + 1) * (old.cap + 1)) + 2 * (old.core.bursts.burst - 1) → HasSpare new
  spare_after old new count seat ready longer few =
      let same_places : (new.core.cores + 1) * (new.cap + 1) ≡ (old.core.cores + 1) * (old.cap + 1) = ap (λ cores. (cores + 1) * (new.cap + 1)) seat.cores ∙ ap (λ cap. (old.core.cores + 1) * (cap + 1)) seat.cap in
      omega (arith, ready, longer, few, same_places, seat.room)

  -- at its end a worker writes at most two notes for an outcome
  record AnswersOne (old new : RecordedView J T) : Type 0 where
    seat : IsSameSeat old new
    from : ℕ
    known : from ≤ old.core.cores
    longer : length new.journal.notes ≤ length old.journal.notes + 2
    gates : (sender : ℕ) → final_count sender new.journal.notes ≡ final_count sender old.journal.notes
    gives : (sender : ℕ) → given_count new.journal.notes sender ≡ given_count old.journal.notes sender + number_if (from == sender)
    returning : core_mode new.journal.notes ≡ Some Return

  ending_after : (old new : RecordedView J T) → AnswersOne old new → IsEnding old → IsEnding new
  ending_after old new did ending = record {
    returning = did.returning;
    gates = λ sender known. subst (λ count. IsSome count) (sym (did.gates sender)) (ending.gates sender (omega (arith, known, did.seat.cores)));
    room =
        let given : sum_upto (given_count new.journal.notes) old.core.cores ≡ sum_upto (given_count old.journal.notes) old.core.cores + 1 =
        sum_upto-one_more (given_count old.journal.notes) (given_count new.journal.notes) did.from did.gives old.core.cores did.known in
        let through : sum_upto (last_through new.journal.notes) old.core.cores ≡ sum_upto (last_through old.journal.notes) old.core.cores =
        sum_upto-same (last_through new.journal.notes) (last_through old.journal.notes) old.core.cores (λ sender. ap (λ count. unwrap_or count 0) (did.gates sender)) in
        let given_here : sum_upto (given_count new.journal.notes) new.core.cores ≡ sum_upto (given_count new.journal.notes) old.core.cores = ap (sum_upto (given_count new.journal.notes)) did.seat.cores in
        let through_here : sum_upto (last_through new.journal.notes) new.core.cores ≡ sum_upto (last_through new.journal.notes) old.core.cores = ap (sum_upto (last_through new.journal.notes)) did.seat.cores in
        omega (arith, given, through, given_here, through_here, did.longer, did.seat.room, ending.room);
  }

  module _ {meaning : Meaning J T} where
    -- the same core is as well served as before
    pub unmoved : (ending : Bool) (old new : LinkedView J T) → IsLinked meaning new → IsBetweenTurns old.recorded → IsReady ending old.recorded → new.recorded ≡ old.recorded →
        ActsAsItMay ending old.recorded → IsServed meaning (record { linked = new; ending = ending })
    unmoved ending old new linked between ready is acts = record {
      linked = linked;
      between = between_same old.recorded new.recorded is between;
      provided = subst (IsProvided ending) (sym is) (ready_provided ending old.recorded ready);
      acts = subst (ActsAsItMay ending) (sym is) acts;
    }

    module _ (sender : ℕ) (old new : LinkedView J T) (was : IsLinked meaning old) (now : IsLinked meaning new) (known : sender ≤ old.recorded.core.cores) (seat : IsSameSeat old.recorded new.recorded)
        (does : Delivers old.recorded (in_at sender old.ends).inward new.recorded (in_at sender new.ends).inward true) where
      abbrev received : Receives old.recorded does.0 new.recorded
      received = does.2

      notes_now : new.recorded.journal.notes ≡ received.notes ++ old.recorded.journal.notes
      notes_now = ap (λ journal. journal.notes) received.journal

      delivered_longer : length new.recorded.journal.notes ≤ length old.recorded.journal.notes + 2
      delivered_longer =
          let short = delivery_short does.0.name old.recorded.journal.notes does.0.order received.notes received.delivery in
          let longer : length new.recorded.journal.notes ≡ length received.notes + length old.recorded.journal.notes = ap length notes_now ∙ length-append received.notes old.recorded.journal.notes in
          omega (arith, short, longer)

      delivered_one : core_mode old.recorded.journal.notes ≡ Some Return → AnswersOne old.recorded new.recorded
      delivered_one returning = record {
        seat = seat;
        from = does.0.name.from;
        known =
            let from : does.0.name.from ≡ sender = ap (λ name. name.from) does.1.2.2 ∙ (was.beside.ins sender known).from in
            omega (arith, known, from);
        longer = delivered_longer;
        gates = received.lists.gates;
        gives = λ other. ap (λ notes. given_count notes other) notes_now ∙ delivery_gives does.0.name old.recorded.journal.notes does.0.order received.notes received.delivery returning other;
        returning =
            ap core_mode notes_now
            ∙ stays_returning (terms_at new.recorded) received.notes old.recorded.journal.notes (subst (EachNote (MayStand (terms_at new.recorded))) notes_now now.recorded.kept.notes) returning;
      }

      delivered_provided : (ending : Bool) → IsReady ending old.recorded → IsProvided ending new.recorded
      delivered_provided false ready = spare_after old.recorded new.recorded 2 seat ready delivered_longer (omega (arith, places_some old.recorded.core.cores old.recorded.cap))
      delivered_provided true ready = ending_after old.recorded new.recorded (delivered_one ready.returning) ready

      pub delivered_served : (ending : Bool) → IsBetweenTurns new.recorded → IsReady ending old.recorded → ActsAsItMay ending old.recorded →
          IsServed meaning (record { linked = new; ending = ending })
      delivered_served ending between ready acts = record {
        linked = now;
        between = between;
        provided = delivered_provided ending ready;
        acts = acts_here ending old.recorded new.recorded seat
            (λ least room each. subst (EachNote (MayAct least room)) (sym notes_now) (delivery_acts does.0.name old.recorded.journal.notes least room does.0.order received.notes received.delivery each)) acts;
      }

    -- whether an order was delivered or not
    pub delivers_served : (sender : ℕ) (found ending : Bool) (old new : LinkedView J T) → IsLinked meaning old → IsLinked meaning new → IsBetweenTurns old.recorded → IsBetweenTurns new.recorded → sender ≤ old.recorded.core.cores →
        DeliversFrom sender old found new → IsReady ending old.recorded → ActsAsItMay ending old.recorded →
        IsServed meaning (record { linked = new; ending = ending })
    delivers_served sender true ending old new was now before between known does ready acts = delivered_served sender old new was now known does.stays.seat does.delivers ending between ready acts
    delivers_served sender false ending old new was now before between known does ready acts = unmoved ending old new now before ready does.delivers.1 acts

    -- gates that are shut in a core that was closed by an order
    pub shuts_served : {spared : ℕ} (old new : LinkedView J T) → IsLinked meaning new → IsBetweenTurns new.recorded → ShutsFirst spared (old.recorded.core.cores + 1) old new → IsReady false old.recorded →
        ActsAsItMay false old.recorded → IsServed meaning (record { linked = new; ending = false })
    shuts_served old new now between shuts ready acts = record {
      linked = now;
      between = between;
      provided = spare_after old.recorded new.recorded (old.recorded.core.cores + 1) shuts.stays.seat ready shuts.longer (omega (arith, places_more old.recorded.core.cores old.recorded.cap));
      acts = acts_here false old.recorded new.recorded shuts.stays.seat shuts.acts acts;
    }

    -- outcomes that were collected
    pub collects_served : (core count : ℕ) (old new : LinkedView J T) → IsLinked meaning new → IsBetweenTurns new.recorded → CollectsOf core old count new → IsReady false old.recorded →
        ActsAsItMay false old.recorded → IsServed meaning (record { linked = new; ending = false })
    collects_served core count old new now between did ready acts =
        let notes_now : new.recorded.journal.notes ≡ did.collects.0 ++ old.recorded.journal.notes = ap (λ journal. journal.notes) did.collects.3 in
        let longer : length new.recorded.journal.notes ≡ length did.collects.0 + length old.recorded.journal.notes = ap length notes_now ∙ length-append did.collects.0 old.recorded.journal.notes in
        record {
          linked = now;
          between = between;
          provided = spare_after old.recorded new.recorded old.recorded.cap did.stays.seat ready (omega (arith, longer, did.collects.2, did.few)) (omega (arith, places_few old.recorded.core.cores old.recorded.cap));
          acts = acts_here false old.recorded new.recorded did.stays.seat
              (λ least room each. subst (EachNote (MayAct least room)) (sym notes_now) (collects_act least room core did.collects.0 old.recorded.journal.notes did.collects.1 each)) acts;
        }

    module _ (old new : LinkedView J T) (was : IsLinked meaning old) (now : IsLinked meaning new) (before : IsBetweenTurns old.recorded) (between : IsBetweenTurns new.recorded) (seat : IsSameSeat old.recorded new.recorded) where
      -- a job that is handed back
      module _ (did : HandsBack meaning old.recorded new.recorded) where
        returned_notes : new.recorded.journal.notes ≡ writes.Returned did.name did.reason ∷ writes.Pick did.did.queue did.did.runtime ∷ old.recorded.journal.notes
        returned_notes = ap (λ journal. journal.notes) did.did.journal

        returned_longer : length new.recorded.journal.notes ≤ length old.recorded.journal.notes + 2
        returned_longer = let now : length new.recorded.journal.notes ≡ suc (suc (length old.recorded.journal.notes)) = ap length returned_notes in omega (arith, now)

        returned_provided : (ending : Bool) → IsReady ending old.recorded → IsProvided ending new.recorded
        returned_provided false ready = spare_after old.recorded new.recorded 2 seat ready returned_longer (omega (arith, places_some old.recorded.core.cores old.recorded.cap))
        returned_provided true ready =
            ending_after old.recorded new.recorded
            (record {
              seat = seat;
              from = did.name.from;
              known = (was.recorded.taken did.name _ did.did.task).sender;
              longer = returned_longer;
              gates = λ sender. ap (final_count sender) returned_notes;
              gives = λ sender. ap (λ notes. given_count notes sender) returned_notes ∙ more_from (given_outcomes sender old.recorded.journal.notes) sender did.name _;
              returning = ap core_mode returned_notes ∙ ready.returning;
            })
            ready

        returned_served : (ending : Bool) → IsReady ending old.recorded → ActsAsItMay ending old.recorded → IsServed meaning (record { linked = new; ending = ending })
        returned_served ending ready acts = record {
          linked = now;
          between = between;
          provided = returned_provided ending ready;
          acts = acts_here ending old.recorded new.recorded seat (λ least room each. subst (EachNote (MayAct least room)) (sym returned_notes) (tt, (tt, each))) acts;
        }

      module _ {M G : Type 0} (tells : M → ℕ → M → Type 0) (asked : G → ℕ → JobId → G → Type 0) (meter later : M) (gate after : G) where
        -- polls
        module _ (did : MakesTurn meaning tells asked (turn_view old meter gate) came.Polled (turn_view new later after)) where
          polled_provided : (ending : Bool) → IsReady ending old.recorded → IsProvided ending new.recorded
          polled_provided false ready =
              spare_after old.recorded new.recorded (most_of_turn old.recorded.core.cores old.recorded.cap old.recorded.core.bursts.burst) seat ready
              (turn_counts meaning tells asked (turn_view old meter gate) (turn_view new later after) did) (omega (arith, posts_few old.recorded.core.cores old.recorded.cap, ends_once old.recorded.core.bursts.burst))
          polled_provided true ready = absurd (has_reason did.2.polls.queue old.recorded.journal.notes (inr ready.returning) did.2.polls.picks.kept)

          polled_served : (ending : Bool) → IsReady ending old.recorded → ActsAsItMay ending old.recorded → IsServed meaning (record { linked = new; ending = ending })
          polled_served ending ready acts = record {
            linked = now;
            between = between;
            provided = polled_provided ending ready;
            acts = acts_here ending old.recorded new.recorded seat (λ least room each. turn_acts meaning tells asked (turn_view old meter gate) (turn_view new later after) least room did each) acts;
          }

        -- whatever a turn came to
        pub turned_served : (came_to : Turned) (ending : Bool) → MakesTurn meaning tells asked (turn_view old meter gate) came_to (turn_view new later after) → IsReady ending old.recorded →
            ActsAsItMay ending old.recorded → IsServed meaning (record { linked = new; ending = ending })
        turned_served came.Polled ending did ready acts = polled_served did ending ready acts
        turned_served came.Returned ending did ready acts = returned_served did.0 ending ready acts
        turned_served came.Idle ending did ready acts = unmoved ending old new now before ready did.1 acts
        turned_served came.Spent ending did ready acts = unmoved ending old new now before ready did.2 acts
