-- Calls one behind another: a look is such calls, and what none of them changes.
use Rattle.std.proofs.Common.{◌≡◌, ◌↔◌, ℕ, zero, suc, ◌<◌, Bool, true, false, [], length, map, refl, sym, ◌∙◌, ap, subst, arith, inl, inr, ⊎_elim, Result, Ok, Err}
use Rattle.std.proofs.lemmas.Bool.{cases_lt, iff_false}
use Rattle.base_words.specs.declared.names.JobId.{JobId}
use Rattle.base_words.specs.declared.names.TicketError.{TicketError}
use Rattle.base_words.specs.declared.order.Mode.{Mode}
use Rattle.base_words.specs.declared.order.Order.{Order}
use Rattle.base_words.specs.declared.order.Order.TheVariants.{CloseCore}
use Rattle.base_words.specs.declared.order.Outcome.{Outcome}
use Rattle.base_words.specs.declared.order.SendError.{SendError}
use Rattle.base_jobs.specs.Meanings.{Meaning}
use Rattle.base_jobs.specs.Ready.{HasReadyJob}
use Rattle.link_ends.specs.Fits.{Fits}
use Rattle.actor_caller.specs.declared.error.SubmitError.{SubmitError}
use Rattle.actor_caller.specs.declared.error.SubmitError.TheVariants.{JournalFull, Send}
use Rattle.actor_caller.specs.Passing.{AsksOnce, passed_on, refused_of}
use Rattle.actor_caller.specs.Sends.{MakesRoom, Sends, SubmitsTo}
use Rattle.actor_caller.specs.State.{RuntimeView, StaysRunning}
use Rattle.actor_caller.specs.Teams.{IsBeside, TeamView}
use Rattle.actor_caller.specs.Tickets.{Collects, DetachesHere, RedeemsHere}
use Rattle.actor_caller.specs.Waiting.{CollectsBelow, CollectsEach, InARow}
use Rattle.actor_caller.specs.Callers.{CallsMake, DetachesSome, IsCall, LooksFor, MayCollect, RedeemsSome, SubmitsSome}
use Rattle.actor_caller.proofs.Idle.{nothing_same, stays_then}

module _ {J : Type 0} where
  stays_same : (old new : RuntimeView J ℕ) → new ≡ old → StaysRunning old new
  stays_same old new same = (nothing_same old new same).stays

  -- what the sink has, and whether it refused, is nothing of it
  stays_passed : (old new : RuntimeView J ℕ) → AsksOnce old (passed_on old) new → StaysRunning old new
  stays_passed old new asks =
      subst (λ (view : RuntimeView J ℕ). StaysRunning old view) (sym asks.1)
      (record { desk = refl; places = omega arith; grows = ([], refl); workers = refl; room = refl; bells = refl; names = refl; watched = refl; marks = refl; tries = refl })

  stays_refused : (old new : RuntimeView J ℕ) → AsksOnce old (refused_of old) new → StaysRunning old new
  stays_refused old new asks =
      subst (λ (view : RuntimeView J ℕ). StaysRunning old view) (sym asks.1)
      (record { desk = refl; places = refl; grows = ([], refl); workers = refl; room = refl; bells = refl; names = refl; watched = refl; marks = refl; tries = refl })

  stays_roomy : (each : ℕ) (old mid : RuntimeView J ℕ) → MakesRoom each old mid → StaysRunning old mid
  stays_roomy each old mid makes = ⊎_elim (λ room. stays_same old mid room.1) (λ few. stays_passed old mid few.1) makes

  stays_sent : (core : ℕ) (order : Order J) (old : RuntimeView J ℕ) (answer : Result JobId (SendError J)) (new : RuntimeView J ℕ) → Sends core order old answer new → StaysRunning old new
  stays_sent core order old answer new sends = ⊎_elim (λ (low : core < old.desk.cores). (sends.there low).stays) (λ high. stays_same old new (sends.missing high).1) (cases_lt core old.desk.cores)

  stays_submitted : (each core : ℕ) (order : Order J) (old : RuntimeView J ℕ) (answer : Result JobId (SubmitError J)) (new : RuntimeView J ℕ) → SubmitsTo each core order old answer new → StaysRunning old new
  stays_submitted each core order old (Err (JournalFull back)) new submits = stays_refused old new submits.2
  stays_submitted each core order old (Err (Send error)) new submits =
      stays_then old submits.0 new (stays_roomy each old submits.0 submits.1) (stays_sent core order submits.0 (Err error) new submits.2)
  stays_submitted each core order old (Ok name) new submits = stays_then old submits.0 new (stays_roomy each old submits.0 submits.1) (stays_sent core order submits.0 (Ok name) new submits.2)

  stays_collected : (core count : ℕ) (old new : RuntimeView J ℕ) → Collects core old count new → StaysRunning old new
  stays_collected core count old new collects =
      ⊎_elim (λ (low : core < old.desk.cores). (collects.there low).nothing.stays) (λ high. stays_same old new (collects.missing high).1) (cases_lt core old.desk.cores)

  -- workers that a caller sees beside it stand beside it later, too
  beside_later : (team : TeamView J ℕ) (old new : RuntimeView J ℕ) → IsBeside team old → StaysRunning old new → IsBeside team new
  beside_later team old new beside stays = record {
    workers = beside.workers ∙ sym stays.workers;
    bells = beside.bells ∙ sym stays.bells;
    boards = beside.boards ∙ ap (λ watched. map (λ watcher. watcher.board) watched) (sym stays.watched);
    marks = (beside.marks.0, stays.marks ∙ beside.marks.1);
    tries = beside.tries ∙ sym stays.tries;
  }

  -- a look that says that there was nothing found nothing
  pub looks_for : (old new : RuntimeView J ℕ) (found some : Bool) → CollectsEach old new → ((found ≡ true) ↔ (length old.desk.journal.notes < length new.desk.journal.notes)) → (some ≡ false → found ≡ false) → LooksFor some old new
  looks_for old new found some each tells only = record {
    collects = each;
    quiet = λ silent. ⊎_elim (λ more. absurd (iff_false tells (only silent) more)) (λ few. few) (cases_lt (length old.desk.journal.notes) (length new.desk.journal.notes));
  }

  module _ (meaning : Meaning J ℕ) where
    -- no call yet
    pub no_call : (view : RuntimeView J ℕ) → CallsMake meaning view view
    no_call view = record { calls = 0; row = refl }

    -- one call more
    pub one_call : (begun old new : RuntimeView J ℕ) → CallsMake meaning begun old → IsCall meaning old new → CallsMake meaning begun new
    one_call begun old new made call = record { calls = suc made.calls; row = (old, made.row, call) }

    pub submit_call : (begun old new : RuntimeView J ℕ) (core : ℕ) (order : Order J) (answer : Result JobId (SubmitError J)) → CallsMake meaning begun old → HasReadyJob meaning order → SubmitsTo 3 core order old answer new → CallsMake meaning begun new
    submit_call begun old new core order answer made ready submits =
        one_call begun old new made (inl (record { each = 3; core = core; order = order; leaves = inl refl; ready = ready; answer = answer; submits = submits }))

    pub close_call : (begun old new : RuntimeView J ℕ) (core : ℕ) (mode : Mode) (answer : Result JobId (SubmitError J)) → CallsMake meaning begun old → SubmitsTo 0 core (CloseCore mode) old answer new → CallsMake meaning begun new
    close_call begun old new core mode answer made submits =
        one_call begun old new made (inl (record { each = 0; core = core; order = CloseCore mode; leaves = inr (refl, refl); ready = tt; answer = answer; submits = submits }))

    pub redeem_call : (begun old new : RuntimeView J ℕ) (name : JobId) (answer : Result (Outcome J ℕ) TicketError) → CallsMake meaning begun old → RedeemsHere (Fits meaning) name old answer new → CallsMake meaning begun new
    redeem_call begun old new name answer made redeems = one_call begun old new made (inr (inl (record { name = name; answer = answer; redeems = redeems })))

    pub detach_call : (begun old new : RuntimeView J ℕ) (name : JobId) (answer : Result (Unit {0}) TicketError) → CallsMake meaning begun old → DetachesHere name old answer new → CallsMake meaning begun new
    detach_call begun old new name answer made detaches = one_call begun old new made (inr (inr (inl (record { name = name; answer = answer; detaches = detaches }))))

    pub collect_call : (begun old new : RuntimeView J ℕ) (core count : ℕ) → CallsMake meaning begun old → Collects core old count new → CallsMake meaning begun new
    collect_call begun old new core count made collects = one_call begun old new made (inr (inr (inr (core, record { count = count; collects = collects }))))

    below_calls : (begun : RuntimeView J ℕ) (cores : ℕ) (old new : RuntimeView J ℕ) → CallsMake meaning begun old → CollectsBelow cores old new → CallsMake meaning begun new
    below_calls begun zero old new made same = subst (λ (view : RuntimeView J ℕ). CallsMake meaning begun view) (sym same) made
    below_calls begun (suc core) old new made row = one_call begun row.0 new (below_calls begun core old row.0 made row.1) (inr (inr (inr (core, row.2))))

    -- a look at all links is a call for each
    pub look_call : (begun old new : RuntimeView J ℕ) → CallsMake meaning begun old → CollectsEach old new → CallsMake meaning begun new
    look_call begun old new made each = below_calls begun old.desk.cores old new made each

    pub may_call : (begun old new : RuntimeView J ℕ) → CallsMake meaning begun old → MayCollect old new → CallsMake meaning begun new
    may_call begun old new made may =
        ⊎_elim (λ same. subst (λ (view : RuntimeView J ℕ). CallsMake meaning begun view) (sym same) made) (λ each. look_call begun old new made each) may

    stays_called : (old new : RuntimeView J ℕ) → IsCall meaning old new → StaysRunning old new
    stays_called old new call =
        ⊎_elim (λ (did : SubmitsSome meaning old new). stays_submitted did.each did.core did.order old did.answer new did.submits)
        (λ other. ⊎_elim (λ (did : RedeemsSome meaning old new). did.redeems.nothing.stays)
        (λ other. ⊎_elim (λ (did : DetachesSome meaning old new). did.detaches.nothing.stays) (λ did. stays_collected did.0 did.1.count old new did.1.collects) other) other) call

    stays_row : (calls : ℕ) (begun now : RuntimeView J ℕ) → InARow (IsCall meaning) calls begun now → StaysRunning begun now
    stays_row zero begun now same = stays_same begun now same
    stays_row (suc calls) begun now row = stays_then begun row.0 now (stays_row calls begun row.0 row.1) (stays_called row.0 now row.2)

    -- no call changes the workers, nor forgets a note
    pub stays_made : (begun now : RuntimeView J ℕ) → CallsMake meaning begun now → StaysRunning begun now
    stays_made begun now made = stays_row made.calls begun now made.row

    -- so the workers beside it are the same
    pub beside_made : (team : TeamView J ℕ) (begun now : RuntimeView J ℕ) → IsBeside team begun → CallsMake meaning begun now → IsBeside team now
    beside_made team begun now beside made = beside_later team begun now beside (stays_made begun now made)
