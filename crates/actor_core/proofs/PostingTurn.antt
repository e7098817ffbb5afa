-- A poll in place with posts, beside its journal: the notes of its beginning are written behind the old ones, then what is posted, then the note of the settling.
use Rattle.actor_core.proofs.Names.{◌≡◌, refl, ℕ, ◌+◌, Bool, List, length, reverse, sym, ◌∙◌, ap, subst, arith, JobId, Note, Envelope, Step, Meaning, CoreView, settle_notes, Outward, DeskView, IsWritten, terms_of_desk, desk_with, RecordedView}
use Rattle.actor_core.proofs.Names.{IsRecorded, desk_of, LeavesOwed, AreOutsOf, option_map, ◌*◌, ◌≤◌, same_Some, outcome_note, Call, Doing, Makes, IsMeaning, JobOut, settled_of, IsSameSeat, told_under, OwesSettled, is_wake_kept, stays_in_line}
use Rattle.actor_core.proofs.Names.{outcome_settled, PostView, HasPosted, lends, Does, IsPolled, Settles, post_of, Fits, IsPostingTurn, MayAnswer, TurnsNoted, posted_rest, settle_note, unwrap_or, ◌∷◌, ◌++◌, length-append, AfterPoll, sum_by}
use Rattle.core_core.specs.Settling.{SettlesOut}
use Rattle.actor_desk.specs.Spending.{left_of}
use Rattle.core_queues.specs.Fronts.{IsPolled as IsPolledIn}
use Rattle.actor_core.specs.Whole.{Begins, LeavesTurn}
use Rattle.actor_core.proofs.Beginnings.{IsBeginning, StandsInTurn, leaves_turn}
use Rattle.actor_core.proofs.QuietSteps.{nobody, everyone, HasDone, view_of, quiet_invariant, quiet_now, given_settled, HasStepped, quiet_noted}
use Rattle.actor_core.specs.Carried.{MayNote}
use Rattle.actor_core.proofs.SentNotes.{HasSaid, SaysNoMore, all_posted, has_said}
use Rattle.actor_core.proofs.SettledPolls.{settled_did}
use Rattle.actor_core.proofs.SettledEnds.{owes_settled, its_answer}
pub use Rattle.actor_core.proofs.NotedTurns.{outs_kept}
use Rattle.actor_core.proofs.NotedTurns.{noted_settled}

module _ {J T E : Type 0} {meaning : Meaning J T} (laws : IsMeaning meaning) (begins : Begins J T) {out : E → Outward J T} {untouched : E → List ℕ}
    (core : CoreView J) (took : List (Envelope J)) (said : DeskView J T)
    (invariant : IsRecorded meaning (view_of core took said) × (said ≡ desk_of (view_of core took said)))
    (queue polls : ℕ) (name : JobId) (started : Bool) (spent : ℕ) (calls : List (Call J T)) (step : Step T) (time : ℕ) (woken : Bool) (core_now : CoreView J)
    (mid : CoreView J) (ran : AfterPoll J T) (polled_so : IsPolledIn meaning calls ran) (settles : SettlesOut mid ran spent (settled_of step woken) core_now (settle_notes name time step woken))
    {most : ℕ} {first_told : List (Note T)} (did : HasDone meaning (view_of core took said) mid everyone nobody most (λ old new. begins old name queue started ran.before new) first_told)
    (beginning : (picked : RecordedView J T) → begins (view_of core took said) name queue started ran.before picked → IsBeginning (view_of core took said) name queue started ran.before picked)
    (its_turn : (picked : RecordedView J T) → begins (view_of core took said) name queue started ran.before picked → StandsInTurn queue polls picked.journal.notes)
    (slice : List (Note T)) (slice_is : slice ≡ first_told) (noted : DeskView J T) (wrote : noted ≡ desk_with (reverse slice) said)
    (left : DeskView J T) (ends later : List E)
    (posted : HasPosted out untouched (record { desk = noted; ends = ends }) (record { desk = left; ends = later })) (written : IsWritten (terms_of_desk left) left.journal.notes) where
  abbrev old : RecordedView J T
  old = view_of core took said

  abbrev picked : RecordedView J T
  picked = view_of mid took noted

  abbrev polled_view : RecordedView J T
  polled_view = view_of mid took left

  abbrev told : List (Note T)
  told = settle_notes name time step woken

  at_pick : IsRecorded meaning picked × (noted ≡ desk_of picked)
  at_pick = quiet_invariant core took said invariant slice_is did wrote

  picks_it : HasStepped meaning everyone nobody (λ old new. begins old name queue started ran.before new) old picked
  picks_it = quiet_now core took said invariant slice_is did wrote refl

  begun : IsBeginning old name queue started ran.before picked
  begun = beginning picked picks_it.does_so

  rest : left ≡ record noted { journal = record noted.journal { notes = left.journal.notes }; lanes = left.lanes }
  rest = posted_rest noted left ends later posted

  said_left : HasSaid meaning left picked polled_view
  said_left = has_said mid took noted at_pick refl rest written (subst (SaysNoMore noted.journal.notes) (sym (ap (λ desk. desk.journal.notes) posted.desk)) (all_posted posted.notes noted.journal.notes posted.posts))

  at_poll : IsRecorded meaning polled_view × (left ≡ desk_of polled_view)
  at_poll = (said_left.sound, said_left.is_its)

  polled : IsPolled meaning ran
  polled = record { answered = polled_so.answered; same_task = polled_so.task; later = polled_so.later }

  abbrev its_out : JobOut J
  its_out = record { name = name; queue = queue; woken = is_wake_kept name said.journal.notes; job = ran.before }

  it_is : settles.0 ≡ its_out
  it_is = same_Some _ _ (sym settles.1 ∙ begun.out)

  last_step : HasDone meaning polled_view core_now everyone (given_settled settles.0.name (settled_of step woken)) 1 (λ old new. Settles meaning old ran spent (settled_of step woken) new) told
  last_step = settled_did laws polled_view at_poll.0 settles.0 settles.1 core_now ran (ap (λ job. job.job) it_is) polled spent (settled_of step woken) told settles.2

  -- the desk and its ends are those of the core between pick and settling
  posts_of : (P : PostView J T E → PostView J T E → Type 0) → P (record { desk = noted; ends = ends }) (record { desk = left; ends = later }) → P (post_of picked ends) (post_of polled_view later)
  posts_of P holds =
      subst (λ desk. P (record { desk = desk; ends = ends }) (post_of polled_view later)) at_pick.1
      (subst (λ desk. P (record { desk = noted; ends = ends }) (record { desk = desk; ends = later })) at_poll.1 holds)

  module _ (last : List (Note T)) (last_is : last ≡ told) where
    pub may_settle : length left.journal.notes + 1 ≤ left.journal.room → MayNote left last
    may_settle = quiet_noted mid took left at_poll last_is last_step refl

    module _ (said_now : DeskView J T) (wrote_it : said_now ≡ desk_with (reverse last) left) where
      abbrev new : RecordedView J T
      new = view_of core_now took said_now

      pub turned_invariant : IsRecorded meaning new × (said_now ≡ desk_of new)
      turned_invariant = quiet_invariant mid took left at_poll last_is last_step wrote_it

      has_settled : HasStepped meaning everyone (given_settled settles.0.name (settled_of step woken)) (λ old new. Settles meaning old ran spent (settled_of step woken) new) polled_view new
      has_settled = quiet_now mid took left at_poll last_is last_step wrote_it refl

      settles_it : Settles meaning polled_view ran spent (settled_of step woken) new
      settles_it = has_settled.does_so

      owes_it : OwesSettled polled_view (settled_of step woken) new
      owes_it = owes_settled polled_view _ settles.0 settles.1 (settled_of step woken) (λ sender. has_settled.ins sender tt)

      turned : {does : Doing (PostView J T E) J T} {tells : ℕ → Type 0} → tells spent → Makes does calls (record { desk = noted; ends = ends }) (record { desk = left; ends = later }) →
          IsPostingTurn meaning begins does out untouched tells old ends name queue started (settled_of step woken) new later
      turned {does} told_it makes = record {
        picked = picked;
        left = polled_view;
        ran = ran;
        spent = spent;
        told = told_it;
        picks = picks_it.does_so;
        sound = at_pick.0;
        stays = assumption picks_it;
        keeps = λ sender. picks_it.ins sender tt;
        owed = record { calls = calls; owed = polled_so.owed; makes = posts_of (Makes does calls) makes };
        posted = posts_of (HasPosted out untouched) posted;
        rest = λ i. record { cap = ap (λ desk. desk.cap) rest i; core = mid; journal = left.journal; took = took; lanes = left.lanes };
        silent = said_left.ins;
        polled = polled;
        settles = settles_it;
        stays_settled = assumption has_settled;
        owes = owes_it;
      }

      -- each note of the poll leaves fewer that can be made
      spends_it : (own : ℕ) → length noted.journal.notes + 1 ≡ length said.journal.notes + own → length said_now.journal.notes + sum_by left_of said_now.lanes ≤ length said.journal.notes + sum_by left_of said.lanes + own
      spends_it own noted_own = omega (
        arith,
        posted.few,
        noted_own,
        ap (λ desk. length desk.journal.notes) posted.desk,
        length-append posted.notes noted.journal.notes,
        ap (λ desk. sum_by left_of desk.lanes) wrote,
        ap (λ desk. sum_by left_of desk.lanes) wrote_it,
        noted_settled left said_now last wrote_it name time step woken last_is,
      )

      seat : IsSameSeat old new
      seat =
          let one = picks_it.seat in
          let other = has_settled.seat in
          assumption (
            other.number ∙ one.number,
            other.cores ∙ one.cores,
            other.cap ∙ (ap (λ desk. desk.cap) rest ∙ one.cap),
            other.burst ∙ one.burst,
            other.room ∙ (ap (λ desk. desk.journal.room) rest ∙ one.room),
            other.passed ∙ (ap (λ desk. desk.journal.passed) rest ∙ one.passed),
          )

      in_turn : LeavesTurn core_now.bursts.burst queue polls new.journal.notes
      in_turn =
          subst (LeavesTurn core_now.bursts.burst queue polls) (sym notes_are)
          (leaves_turn core_now.bursts.burst queue polls settles_it.out.name (unwrap_or ran.told spent) (settled_of step woken) posted.notes posted.posts
          noted.journal.notes (its_turn picked picks_it.does_so))
        where
          notes_are : new.journal.notes ≡ settle_note settles_it.out.name (unwrap_or ran.told spent) (settled_of step woken) ∷ posted.notes ++ noted.journal.notes
          notes_are = ap (λ journal. journal.notes) settles_it.journal ∙ ap (λ desk. settle_note settles_it.out.name (unwrap_or ran.told spent) (settled_of step woken) ∷ desk.journal.notes) posted.desk

      pub turned_noted : {credited : E → ℕ} {tells : ℕ → Type 0} → tells spent → Makes (Does (Fits meaning) out credited untouched) calls (lends noted ends) (lends left later) →
          AreOutsOf (Fits meaning) out credited left later → (own : ℕ) → length noted.journal.notes + 1 ≡ length said.journal.notes + own → sum_by left_of said.lanes ≤ core.cores * (3 * said.cap) →
          TurnsNoted meaning begins out credited untouched tells own polls old ends name queue started (settled_of step woken) new later
      turned_noted {credited = credited} {tells = tells} told_it makes outs own noted_own few_left =
          let owes = λ (sender : ℕ). subst (λ name. LeavesOwed sender (told_under name (option_map outcome_note (outcome_settled {J = J} (settled_of step woken))) sender) old new) (ap (λ job. job.name) it_is)
          (record { each = λ inward is. (owes_it settles.0 settles.1 sender).each inward ((said_left.ins sender).each inward ((picks_it.ins sender tt).each inward is)) }) in
          let may_answer = subst (λ name. MayAnswer meaning took name (settled_of step woken)) (ap (λ job. job.name) (same_Some settles_it.out its_out (sym settles_it.was_out ∙ begun.out)))
          (its_answer meaning took settles_it.out.name settles_it.out.queue settles_it.sent settles_it.task ran.step (settled_of step woken) (stays_in_line settles_it.out.name left.journal.notes) settles_it.tells settles_it.answered) in
          let spends = spends_it own noted_own in
          let few : length said_now.journal.notes ≤ length said.journal.notes + core.cores * (3 * said.cap) + own = omega (arith, spends, few_left) in
          assumption (
            turned {tells = tells} told_it makes,
            outs_kept polled_view new (assumption has_settled) later (subst (λ desk. AreOutsOf (Fits meaning) out credited desk later) at_poll.1 outs),
            in_turn,
            settles_it.out_now,
            seat,
            turned_invariant.0,
          )
