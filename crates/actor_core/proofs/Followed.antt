-- A core beside its journal takes a further job of the open turn out, and ends the turn; or nothing follows.
use Rattle.actor_core.proofs.Names.{◌≡◌, ℕ, Bool, true, false, List, [], ◌∷◌, refl, sym, ◌∙◌, ap, subst, arith, None, JobId, Note, Meaning, Turn, Start, Resume, Idle, CoreView, IsJobOut, RecordedView, IsRecorded, terms_at, ◌+◌, ◌≤◌, ◌++◌, length}
use Rattle.actor_core.proofs.Names.{add-zero, Some, same_Some, Journal, held_count, inside_count, polls_made, poll_note, HasTask, sum_upto, given_count, QueuesView, HaveTasks, Marks, none-some, JobOut, names_of}
use Rattle.core_core.specs.declared.turn.Turn.TheVariants.{Back}
use Rattle.actor_core.proofs.Sums.{sum_upto-same}
use Rattle.actor_core.proofs.AgreementNames.{FollowsOut, IsOpenTurn, OpenTurn, may_go_on}
use Rattle.actor_core.proofs.Received.{tasks_stay}
use Rattle.actor_core.proofs.QuietSteps.{nobody, stepped, IsQuietStep, everyone, HasDone, nothing_did, done_so, quiet-followed, quiet-turned}
use Rattle.base_words.specs.Bursts.{queue_in_turn}
use Rattle.std.specs.Prelude.{IfSome, IsSome, Option, is_some}
use Rattle.base_words.specs.declared.note.Note.TheVariants as writes
use Rattle.core_core.specs.Bursts.{GoesOn, IsOver}
use Rattle.core_core.specs.Bursts as core_says
use Rattle.core_core.specs.Further as core_does
use Rattle.actor_core.specs.Further.{EndsTurn, Follows, IsFurther, NothingFollows}
use Rattle.actor_core.proofs.FrontLeft.{KnowsFront, LeavesFront, knows_front}
use Rattle.actor_core.proofs.FrontTasks.{its_task, one_fewer, still_tasks}
use Rattle.actor_core.proofs.KeptTurns.{ended_view, ends_turn, followed_view, goes_nowhere, kept-ended, kept-followed, may_go_on-agrees, turn_goes_on}

-- the note of a further poll settles none
no_polls : {T : Type 0} (which name : JobId) (was_started : Bool) (journal : Journal T) → polls_made which (poll_note name was_started ∷ journal) ≡ polls_made which journal
no_polls which name was_started journal = grind arith

-- one that may go on doesn't go on not
false_of_not : (test : Bool) → (test ≡ true → ⊥) → test ≡ false
false_of_not true never = absurd (never refl)
false_of_not false never = refl

module _ {J T : Type 0} {meaning : Meaning J T} (old : RecordedView J T) (recorded : IsRecorded meaning old) where
  abbrev notes : Journal T
  notes = old.journal.notes

  -- where no job goes out in the core, nothing follows in the journal
  pub nothing_told : IsOver old.core → NothingFollows old
  nothing_told over queue in_turn nobody_out = by_turn old.core.bursts.open refl recorded.kept.agrees.turn old.core.out refl recorded.kept.agrees.out
    where
      by_turn : (turn : Option OpenTurn) → old.core.bursts.open ≡ turn → IsOpenTurn old.core.bursts.burst turn notes → (out : Option (JobOut J)) → old.core.out ≡ out → IsJobOut out notes →
          may_go_on old.core.bursts.burst queue notes ≡ false
      by_turn None at none out was_out is_out = absurd (none-some queue (sym none ∙ in_turn))
      by_turn (Some turn) at is (Some job) was_out is_out = absurd (let some : ◌≡◌ {A = List JobId} [] (job.name ∷ []) = sym nobody_out ∙ is_out.0 in cc)
      by_turn (Some turn) at is None was_out is_out =
          let same : turn.queue ≡ queue = same_Some turn.queue queue (sym is.0 ∙ in_turn) in
          ap (λ at. may_go_on old.core.bursts.burst at notes) (sym same)
          ∙ (sym (may_go_on-agrees (terms_at old) old.core notes recorded.kept turn at was_out)
          ∙ false_of_not (core_says.may_go_on old.core turn) (λ may. over turn (record { going = at; free = was_out; may = may })))

  -- a turn that may not go on in the journal may not in the core
  pub over_told : NothingFollows old → old.core.out ≡ None → (turn : OpenTurn) → old.core.bursts.open ≡ Some turn → core_says.may_go_on old.core turn ≡ false
  over_told nothing free turn at =
      may_go_on-agrees (terms_at old) old.core notes recorded.kept turn at free
      ∙ nothing turn.queue (subst (λ turn. IsOpenTurn old.core.bursts.burst turn notes) at recorded.kept.agrees.turn).0 (subst (λ out. IsJobOut out notes) free recorded.kept.agrees.out)

  -- a turn is open in the core where one is in the journal
  pub turn_told : is_some old.core.bursts.open ≡ is_some (queue_in_turn old.core.bursts.burst notes)
  turn_told = by_turn old.core.bursts.open recorded.kept.agrees.turn
    where
      by_turn : (turn : Option OpenTurn) → IsOpenTurn old.core.bursts.burst turn notes → is_some turn ≡ is_some (queue_in_turn old.core.bursts.burst notes)
      by_turn None none = ap is_some (sym none)
      by_turn (Some turn) is = ap is_some (sym is.0)

  -- what the core asks as its turn ends
  pub asks_end : NothingFollows old → old.core.out ≡ None → IsSome (queue_in_turn old.core.bursts.burst notes) → IfSome old.core.bursts.open (λ turn. core_says.may_go_on old.core turn ≡ false) × (IsSome old.core.bursts.open × (old.core.out ≡ None))
  asks_end nothing free some = (by_turn old.core.bursts.open refl, (turn_told ∙ some, free))
    where
      by_turn : (turn : Option OpenTurn) → old.core.bursts.open ≡ turn → IfSome turn (λ turn. core_says.may_go_on old.core turn ≡ false)
      by_turn None at = tt
      by_turn (Some turn) at = over_told nothing free turn at

  -- a further job goes out
  module _ (name : JobId) (queue : ℕ) (marks : Marks) (job : J) (queues : QueuesView J) (front : LeavesFront old.core name queue marks job queues)
      (turn : OpenTurn) (goes : GoesOn old.core turn) (its_turn : queue ≡ turn.queue) where
    abbrev is : KnowsFront (terms_at old) old.core name queue marks job queues front.others notes
    is = knows_front (terms_at old) old.core name queue marks job queues notes recorded.kept front

    abbrev written : List (Note T)
    written = poll_note name marks.started ∷ []

    abbrev its_view : CoreView J
    its_view = followed_view (terms_at old) old.core name queue marks job queues notes recorded.kept front turn goes its_turn

    followed : IsQuietStep old its_view written meaning everyone nobody
    followed =
        let unpolled = λ (which : JobId). no_polls which name marks.started notes in
        let task = its_task old recorded name queue marks job queues front written unpolled in
        let quiet = quiet-followed notes name marks.started in
        let given = sum_upto-same (given_count (written ++ notes)) (given_count notes) old.core.cores (λ sender. ap length (quiet.given sender)) in
        let fewer : held_count queues + 1 + sum_upto (given_count (written ++ notes)) old.core.cores ≤ inside_count old.core + sum_upto (given_count notes) old.core.cores =
        omega (arith, one_fewer old name queue marks job queues front, given) in
        assumption (
          kept-followed (terms_at old) old.core name queue marks job queues notes recorded.kept front turn goes its_turn,
          front.line.same_room,
          still_tasks old recorded name queue marks job queues front written unpolled its_view refl,
          λ (out : JobOut J) (at : Some (record { name = name; queue = queue; woken = marks.woken; job = job }) ≡ Some out). subst (λ out. HasTask meaning old.took (written ++ notes) out.queue out.name out.job) (same_Some _ out at) task,
        )

    further_is : IsFurther old name queue marks.started job (stepped old its_view written)
    further_is = record {
      nobody_out = front.free;
      goes_on = turn_goes_on (terms_at old) old.core name queue marks job queues notes recorded.kept front turn goes its_turn;
      others = names_of front.others;
      first = is.first_in_line;
      kept = goes_nowhere (terms_at old) old.core name queue marks job queues notes recorded.kept front turn goes its_turn;
      started = is.start_told;
      journal = refl;
      out = λ i. Some (record { name = name; queue = queue; woken = is.wake_is i; job = job });
      took = refl;
    }

  module _ (core : CoreView J) where
    abbrev marks_of : Bool → Bool → Marks
    marks_of started woken = record { started = started; woken = woken }

    abbrev Did : Option (Turn J) → List (Note T) → CoreView J → Type 0
    Did answer told core = HasDone meaning old core everyone nobody 1 (λ old new. Follows old answer new) told

    taken : {name : JobId} {queue : ℕ} {was_started : Bool} {job : J} (follows : FollowsOut old.core name queue was_started job core) → LeavesFront old.core name queue (marks_of was_started follows.was_woken) job core.queues
    taken follows = record { free = follows.goes.free; others = follows.others; first = follows.first; line = follows.line }

    -- whatever is answered
    pub followed_did : (answer : Option (Turn J)) (told : List (Note T)) → core_does.Follows old.core answer core told → Did answer told core
    followed_did (Some (Start name queue job)) told does = subst (Did (Some (Start name queue job)) told) (sym does.0.rest)
        (done_so does.1 (followed name queue (marks_of false does.0.was_woken) job core.queues (taken does.0) does.0.turn does.0.goes does.0.its_queue) (omega arith)
        (further_is name queue (marks_of false does.0.was_woken) job core.queues (taken does.0) does.0.turn does.0.goes does.0.its_queue))
    followed_did (Some (Resume name queue job)) told does = subst (Did (Some (Resume name queue job)) told) (sym does.0.rest)
        (done_so does.1 (followed name queue (marks_of true does.0.was_woken) job core.queues (taken does.0) does.0.turn does.0.goes does.0.its_queue) (omega arith)
        (further_is name queue (marks_of true does.0.was_woken) job core.queues (taken does.0) does.0.turn does.0.goes does.0.its_queue))
    followed_did (Some (Back name order reason)) told does = absurd does
    followed_did (Some Idle) told does = absurd does
    followed_did None told does = nothing_did recorded does.1 does.2 (nothing_told does.0, refl)

  -- the turn ends
  module _ (time : ℕ) (core : CoreView J) (told : List (Note T)) (ends : core_does.EndsTurn old.core time core told) where
    abbrev after : CoreView J
    after = ended_view (terms_at old) old.core notes recorded.kept ends.turn ends.was_open ends.free time ends.over ends.its_time

    abbrev noted : List (Note T)
    noted = writes.Turned ends.turn.queue time ∷ []

    ended : IsQuietStep old after noted meaning everyone nobody
    ended =
        let unpolled = λ (which : JobId). add-zero (polls_made which notes) in
        let quiet = quiet-turned notes ends.turn.queue time in
        let given = sum_upto-same (given_count (noted ++ notes)) (given_count notes) old.core.cores (λ sender. ap length (quiet.given sender)) in
        let fewer : inside_count old.core + sum_upto (given_count (noted ++ notes)) old.core.cores ≤ inside_count old.core + sum_upto (given_count notes) old.core.cores = omega (arith, given) in
        let stay = tasks_stay old recorded noted unpolled in
        let tasks : HaveTasks meaning (stepped old after noted) = record { waiting = stay.waiting; parked = stay.parked } in
        let out : (job : JobOut J) → old.core.out ≡ Some job → HasTask meaning old.took (noted ++ notes) job.queue job.name job.job = λ job at. absurd (none-some job (sym ends.free ∙ at)) in
        assumption (kept-ended (terms_at old) old.core notes recorded.kept ends.turn ends.was_open ends.free time ends.over ends.its_time)

    pub ended_did : HasDone meaning old core everyone nobody 1 (λ old new. EndsTurn old time new) told
    ended_did = subst (λ core. HasDone meaning old core everyone nobody 1 (λ old new. EndsTurn old time new) told) (sym ends.rest)
        (done_so ends.noted ended (omega arith) (record { queue = ends.turn.queue; ends = ends_turn (terms_at old) old.core notes recorded.kept ends.turn ends.was_open ends.free time ends.over ends.its_time; journal = refl; out = ends.free; took = refl }))
