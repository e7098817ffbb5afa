-- Each poll of a turn leaves each poll owed, and so does the end of the turn.
use Rattle.model_laws.proofs.Words.{◌≡◌, inl, inr, ⊎_elim, ℕ, ◌+◌, ◌<◌, List, [], ◌∷◌, ◌++◌, length, refl, sym, ◌∙◌, ap, subst, arith, unwrap_or}
use Rattle.model_laws.proofs.Words.{JobId, Note, Journal, Meaning, WorldView, journal_at, noted, order_under, terms_at, Step, is_told}
use Rattle.model_laws.proofs.Words.{HasAllLists}
use Rattle.model_laws.proofs.Words.{Ends, Further, IsPoll, MakesPolls, poll_notes, settle_note, settled_note, name_started, Settled, settled_of, stays_in_line, Bool, true, false}
use Rattle.model_laws.proofs.Words.{Some}
use Rattle.base_words.specs.declared.note.Note.TheVariants as writes
use Rattle.std.proofs.Common.{add-zero, ◌⊎◌}
use Rattle.base_words.specs.Bursts.{has_bursts, queue_just_picked}
use Rattle.base_words.specs.Lawful.{GoesOn}
use Rattle.base_jobs.specs.declared.job.Step.TheVariants as steps
use Rattle.actor_core.specs.RightAnswers.{posted_notes, AreRightAnswers}
use Rattle.actor_core.specs.OwedPolls.{IsPollOf, IsOwedPoll, PollIsOwed, PollsAreOwed}
use Rattle.actor_core.proofs.OwedNotes.{SettleNothing, posted_settle_nothing, rights_stay}
use Rattle.actor_core.proofs.OwedTurns.{counts_told}
use Rattle.model_world.specs.Turns.{polls_made}
use Rattle.model_laws.proofs.OwedWorlds.{Adds, AreCounted, adds_noted, all_owed, each_journal, own_journal, owed_now, same_terms, sees_no_less}
use Rattle.model_laws.proofs.OwedCalls.{IsThere, made}
use Rattle.model_laws.proofs.StillNotes.{AreStill, begun_still, none_still, pick_still, turned_still}
use Rattle.model_laws.proofs.StillNotes.{settled_shuts_nothing, settled_sends_nothing}
use Rattle.model_laws.specs.OwedRuns.{seen_of, HasAllPollsOwed}

-- what is so of a world at any time of a run
pub record IsOwing {J : Type 0} (meaning : Meaning J ℕ) (world : WorldView J ℕ) : Type 0 where
  pub lists : HasAllLists world
  pub counted : AreCounted world
  pub owed : HasAllPollsOwed meaning world

-- these notes stand right before the note that begins a poll: the pick of its queue, or none where the turn of its queue is open
pub record AreBefore {T : Type 0} (burst queue : ℕ) (name : JobId) (begun : List (Note T)) (before : Journal T) : Type 0 where
  pub still : AreStill begun
  pub due : (queue_just_picked (begun ++ before) ≡ Some queue) ⊎ GoesOn burst queue (begun ++ before)
  pub unpolled : polls_made name (begun ++ before) ≡ polls_made name before

module _ {J : Type 0} (meaning : Meaning J ℕ) (core spent : ℕ) (old new : WorldView J ℕ) (known : core < old.cores) (is : IsOwing meaning old)
    {queue : ℕ} {name : JobId} {begun : List (Note ℕ)} (begins : AreBefore old.burst queue name begun (journal_at core old)) (poll : IsPoll meaning core spent queue name begun old new) where
  abbrev start : List (Note ℕ)
  start = poll_notes name begun (journal_at core old)

  abbrev picked : WorldView J ℕ
  picked = noted core start old

  abbrev time : ℕ
  time = unwrap_or poll.told spent

  -- what became of the job, and the note of it
  abbrev came : Settled ℕ
  came = settled_of poll.step (stays_in_line name (journal_at core poll.posted))

  abbrev ending : Note ℕ
  ending = settled_note name time poll.step (journal_at core poll.posted)

  there : IsThere core old
  there = record { lists = is.lists; known = omega (arith, known) }

  within : core < length old.journals
  within = omega (arith, known, is.lists.journals_are)

  still : AreStill start
  still = begun_still ℕ name (is_told name_started name (journal_at core old)) begun begins.still

  at_pick : Adds core start old picked
  at_pick = adds_noted core start old picked still.shut still.send refl

  called : Adds core (posted_notes poll.calls) picked poll.posted × AreRightAnswers (terms_at core picked) (seen_of core poll.posted) poll.calls (journal_at core picked)
  called = made meaning core poll.calls picked poll.posted (record { lists = at_pick.lists is.lists; known = omega (arith, known) }) (at_pick.counted is.counted) poll.posts

  at_end : Adds core (ending ∷ []) poll.posted new
  at_end = adds_noted core (ending ∷ []) poll.posted new (settled_shuts_nothing ℕ name time came) (settled_sends_nothing ℕ name time came) poll.notes

  owed_posted : HasAllPollsOwed meaning poll.posted
  owed_posted =
      all_owed meaning core (posted_notes poll.calls) picked poll.posted called.0 (posted_settle_nothing poll.calls)
      (all_owed meaning core start old picked at_pick still.settle is.owed)

  picked_journal : journal_at core picked ≡ start ++ journal_at core old
  picked_journal = own_journal core start old picked at_pick within

  posted_journal : journal_at core poll.posted ≡ posted_notes poll.calls ++ (start ++ journal_at core old)
  posted_journal =
      own_journal core (posted_notes poll.calls) picked poll.posted called.0 (omega (arith, known, (at_pick.lists is.lists).journals_are))
      ∙ ap (λ notes. posted_notes poll.calls ++ notes) picked_journal

  terms_now : terms_at core picked ≡ terms_at core new
  terms_now = sym (same_terms core (posted_notes poll.calls) picked poll.posted called.0 core) ∙ sym (same_terms core (ending ∷ []) poll.posted new at_end core)

  its_poll : IsPollOf meaning (terms_at core new) (seen_of core new) queue poll.job name time poll.step (journal_at core poll.posted)
  its_poll = record {
    calls = poll.calls;
    told = poll.told;
    was_started = is_told name_started name (journal_at core old);
    earlier = begun ++ journal_at core old;
    due = ⊎_elim inl (λ goes. inr (subst (λ burst. GoesOn burst queue (begun ++ journal_at core old)) (ap (λ terms. terms.burst) terms_now) goes)) begins.due;
    stands = posted_journal;
    right = subst (λ terms. AreRightAnswers terms (seen_of core new) poll.calls (start ++ journal_at core old)) terms_now
        (rights_stay (terms_at core picked) (seen_of core poll.posted) (seen_of core new)
        (sees_no_less core (ending ∷ []) poll.posted new at_end core) poll.calls (start ++ journal_at core old)
        (subst (AreRightAnswers (terms_at core picked) (seen_of core poll.posted) poll.calls) picked_journal called.1));
    owed = subst (λ made. meaning.polls poll.job (meaning.made poll.job + made) poll.calls poll.step poll.told) (sym begins.unpolled) poll.owed;
    answered = poll.answered;
    timed = counts_told poll.told spent;
  }

  abbrev Owed : Step ℕ → Type 0
  Owed step = IsOwedPoll meaning (terms_at core new) (seen_of core new) (λ name. order_under name new) name time step (journal_at core poll.posted)

  settling : (step : Step ℕ) (stays : Bool) → Owed step →
      PollIsOwed meaning (terms_at core new) (seen_of core new) (λ name. order_under name new) (settle_note name time (settled_of step stays)) (journal_at core poll.posted)
  settling (steps.Done out) stays owed = owed
  settling steps.Yield stays owed = owed
  settling steps.Park true owed = owed
  settling steps.Park false owed = owed

  abbrev OwedAt : ℕ → Journal ℕ → Type 0
  OwedAt other journal = PollsAreOwed meaning (terms_at other new) (seen_of other new) (λ name. order_under name new) journal

  its_owed : OwedAt core (ending ∷ journal_at core poll.posted)
  its_owed = (
    settling poll.step (stays_in_line name (journal_at core poll.posted)) (record {
      queue = queue;
      sent = poll.job;
      task = at_end.orders name _ (called.0.orders name _ (at_pick.orders name _ poll.task));
      poll = its_poll;
    }),
    owed_now core (ending ∷ []) poll.posted new at_end meaning core (journal_at core poll.posted) (owed_posted core),
  )

  -- a poll leaves as many cores
  pub poll_cores : new.cores ≡ old.cores
  poll_cores = at_end.cores ∙ (called.0.cores ∙ at_pick.cores)

  -- a poll leaves each poll owed
  pub poll_owes : IsOwing meaning new
  poll_owes = record {
    lists = at_end.lists (called.0.lists (at_pick.lists is.lists));
    counted = at_end.counted (called.0.counted (at_pick.counted is.counted));
    owed = λ other. ⊎_elim
        (λ here. subst (OwedAt other) (sym here.1) (subst (λ at. OwedAt at (ending ∷ journal_at core poll.posted)) (sym here.0) its_owed))
        (λ same. subst (OwedAt other) (sym same) (owed_now core (ending ∷ []) poll.posted new at_end meaning other (journal_at other poll.posted) (owed_posted other)))
        (each_journal core (ending ∷ []) poll.posted new at_end other);
  }

module _ {J : Type 0} (meaning : Meaning J ℕ) (old new : WorldView J ℕ) (is : IsOwing meaning old) where
  -- a step that adds notes which settle no poll
  pub added : (actor : ℕ) (notes : List (Note ℕ)) → SettleNothing notes → Adds actor notes old new → IsOwing meaning new
  added actor notes none adds = record { lists = adds.lists is.lists; counted = adds.counted is.counted; owed = all_owed meaning actor notes old new adds none is.owed }

  pub still_owes : (actor : ℕ) (notes : List (Note ℕ)) → AreStill notes → new ≡ noted actor notes old → IsOwing meaning new
  still_owes actor notes still noted = added actor notes still.settle (adds_noted actor notes old new still.shut still.send noted)

  pub same_owes : new ≡ old → IsOwing meaning new
  same_owes same = subst (IsOwing meaning) (sym same) is

  ends_owe : (form : Bool) (core : ℕ) → Ends form core old new → IsOwing meaning new
  ends_owe true core did = still_owes core (writes.Turned did.queue did.time ∷ []) (turned_still ℕ did.queue did.time) did.notes
  ends_owe false core same = same_owes same

module _ {J : Type 0} (meaning : Meaning J ℕ) (core spent : ℕ) where
  -- further polls and the end of their turn leave each poll owed
  further_owes : (later : List JobId) (old new : WorldView J ℕ) → IsOwing meaning old → core < old.cores → Further meaning core spent later old new → IsOwing meaning new
  further_owes [] old new is known did = ends_owe meaning old new is (has_bursts old.burst) core did
  further_owes (name ∷ later) old new is known did =
      let poll = did.1 in
      let begins : AreBefore old.burst poll.queue name [] (journal_at core old) = record { still = none_still ℕ; due = inr poll.goes_on; unpolled = refl } in
      further_owes later did.0 new (poll_owes meaning core spent old did.0 known is begins poll.poll)
      (omega (arith, known, poll_cores meaning core spent old did.0 known is begins poll.poll)) did.2

  -- so does a whole turn of polls
  pub polls_owe : (old new : WorldView J ℕ) → IsOwing meaning old → core < old.cores → MakesPolls meaning core spent old new → IsOwing meaning new
  polls_owe old new is known did =
      let first = did.first in
      let begins : AreBefore old.burst first.queue first.name (writes.Pick first.queue first.runtime ∷ []) (journal_at core old) =
      record { still = pick_still ℕ first.queue first.runtime; due = inl refl; unpolled = add-zero (polls_made first.name (journal_at core old)) } in
      further_owes did.later did.mid new (poll_owes meaning core spent old did.mid known is begins first.poll)
      (omega (arith, known, poll_cores meaning core spent old did.mid known is begins first.poll)) did.further
