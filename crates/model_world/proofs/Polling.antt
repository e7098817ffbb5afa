-- A poll of a core in its world: its job goes out, is polled with its post, and the poll is settled.
use Rattle.model_world.proofs.Words.{◌≡◌, ℕ, ◌+◌, ◌-◌, ◌^◌, ◌<◌, ◌≤◌, List, [], ◌∷◌, refl, sym, ◌∙◌, ap, subst, arith, set, get_or-set_same}
use Rattle.model_world.proofs.Words.{unwrap_or, set-set, set-get_or, Some, slice_get, JobId, Order, Journal, IsRightPick, Meaning, Whole, RecordedView, row_of}
use Rattle.model_world.proofs.Words.{link_at, Parts, core_at, world_of, IsWorld, journal_at, noted, Job, return_reason, name_started, is_told, line}
use Rattle.model_world.proofs.Words.{turns, Makes, polls_made, poll_note, order_taken, opened_beside, with_notes, post_of, CallsAt, order_under}
use Rattle.model_world.proofs.Words.{Note, poll_notes, IsPoll, true, Fits, out_of, kept_by_sender}
use Rattle.std.proofs.lemmas.Bool.{lt-ltb}
use Rattle.base_words.specs.Bursts.{polls_in_turn}
use Rattle.base_words.specs.Commands.{stays_in_line}
use Rattle.base_words.specs.Lawful.{GoesOn, may_go_on}
use Rattle.base_words.proofs.WorkOfLines.{work_of_line}
use Rattle.core_core.specs.Whole.{settled_of}
use Rattle.actor_core.specs.Polls.{settle_note}
use Rattle.actor_core.specs.Recorded.{terms_at}
use Rattle.actor_core.specs.Turns.{IsFurther, IsPick}
use Rattle.actor_core.specs.Owed.{outcome_settled}
use Rattle.actor_core.specs.Whole.{Begins, IsPostingTurn}
use Rattle.actor_desk.specs.Calls.{Does}
use Rattle.actor_core.specs.TurnPolls.{GivesOn, PollsOne}
use Rattle.model_world.specs.Reached.{links_reach}
use Rattle.model_world.specs.Turns.{IsFirstPoll, IsFurtherPoll, settled_note}
use Rattle.model_world.proofs.CoreSteps.{cores_are, number_is, parts_now, receives, journal_is, core_noted}
use Rattle.model_world.proofs.Desks.{sent_at-world}
use Rattle.model_world.proofs.LinkSteps.{received-same, no_change}
use Rattle.model_world.proofs.Polled.{GoesBehind, further_behind, out_is, picked_behind, poll_owed, poll_task}
use Rattle.model_world.proofs.Posting.{Post, parts_at, IsAt, calls_now}
use Rattle.model_world.proofs.Turning.{IsQuiet, in_world, quiet, quiet_noted, quiet_rests}

module _ {J : Type 0} {meaning : Meaning J ℕ} {old : Parts J ℕ}
    (world : IsWorld meaning old) (number : ℕ) (there : number < old.cores) where
  abbrev view : RecordedView J ℕ
  view = core_at number old

  here : journal_at number (world_of old) ≡ view.journal.notes
  here = journal_is world number there

  -- the order that was delivered under a name was sent under it
  task_sent : (name : JobId) (order : Order J) → order_taken view.took name ≡ Some order → order_under name (world_of old) ≡ Some order
  task_sent name order at =
      let sender : name.from ≤ old.cores = subst (λ cores. name.from ≤ cores) (cores_are world number there) ((world.recorded number there).taken name order at).sender in
      let found = (world.beside.ins name.from number sender there).orders name order refl at in
      let to_is : name.to ≡ number = ap (λ id. id.to) found.1 ∙ number_is world number there in
      let place : name.number - 1 ≡ found.0 = omega (arith, ap (λ id. id.number) found.1) in
      ap (λ orders. slice_get orders (name.number - 1)) (sent_at-world old name.from name.to ∙ ap (λ to. (link_at name.from to old.links).sent) to_is)
      ∙ (ap (slice_get (link_at name.from number old.links).sent) place ∙ found.2)

  module _ (spent : ℕ) (new : RecordedView J ℕ) (after : List (List (Whole J ℕ))) where
    abbrev pub turned : Parts J ℕ
    turned = parts_now world number there new after

    -- a poll whose outcome is given, of which the meter told this time
    module _ {begins : Begins J ℕ} {tells : ℕ → Type 0} {notes polls : ℕ} {name : JobId} (did : PollsOne meaning links_reach number begins tells notes polls name view new old.links after)
        (told : did.posts.noted.turns.spent ≡ spent)
        {begun : List (Note ℕ)} (goes : GoesBehind begun view name did.queue did.started did.posts.noted.turns.ran.before did.posts.noted.turns.picked) where
      abbrev turn : IsPostingTurn meaning begins (Does (Fits meaning) out_of (λ link. link.credited) kept_by_sender) out_of kept_by_sender tells view (row_of number old.links) name did.queue did.started
          did.settled new did.posts.row
      turn = did.posts.noted.turns

      abbrev first : Post J
      first = post_of turn.picked (row_of number old.links)

      abbrev last : Post J
      last = post_of turn.left did.posts.row

      -- the world after the job went out
      picked_world : IsWorld meaning (parts_now world number there turn.picked old.links)
      picked_world = receives world number there turn.picked old.links (record {
        recorded = turn.sound;
        seat = turn.stays.seat;
        outs = turn.stays.outs;
        lanes = turn.stays.lanes;
        sender = number;
        link = link_at number number old.links;
        changes = no_change old.links number number;
        received = received-same (link_at number number old.links);
        ins = λ sender known. (turn.keeps sender).each _ (world.beside.ins sender number known there);
      })

      first_is : parts_at old number turn.picked first ≡ parts_now world number there turn.picked old.links
      first_is = λ i. record old { inside = set old.inside number turn.picked; links = set-get_or old.links number [] i }

      called : IsAt meaning old number turn.picked last
          × Makes (CallsAt meaning number) turn.owed.calls (world_of (parts_at old number turn.picked first)) (world_of (parts_at old number turn.picked last))
      called = calls_now meaning old number there turn.picked turn.owed.calls first last (record { world = subst (IsWorld meaning) (sym first_is) picked_world; desk = refl }) turn.owed.makes

      -- the world after the poll
      abbrev mid : Parts J ℕ
      mid = record old { inside = set old.inside number turn.left; links = set old.links number did.posts.row }

      last_is : parts_at old number turn.picked last ≡ mid
      last_is = λ i. record old { inside = set old.inside number (sym turn.rest i); links = set old.links number did.posts.row }

      mid_world : IsWorld meaning mid
      mid_world = subst (IsWorld meaning) last_is called.0.world

      mid_core : core_at number mid ≡ turn.left
      mid_core = get_or-set_same old.inside number turn.left (opened_beside 0 0 0 0 0) (omega (arith, there, world.all_there.cores_are))

      stays : IsQuiet meaning number (core_at number mid) new mid.links after
      stays = subst (λ at. IsQuiet meaning number at new mid.links after) (sym mid_core) (record {
        stays = turn.stays_settled;
        rests = record { recorded = did.posts.noted.sound; free = did.posts.noted.at_rest; beside = did.around };
        from = name.from;
        number = name.number;
        outcome = outcome_settled did.settled;
        known = did.posts.known;
        gives = subst (λ between. GivesOn links_reach number name.from name.number (outcome_settled did.settled) between after) did.posts.rest did.gives;
      })

      settled_is : quiet mid_world number there new after stays ≡ turned
      settled_is = λ i. record old { inside = set-set old.inside number turn.left new i; links = after }

      polled_rests : IsWorld meaning turned
      polled_rests = subst (IsWorld meaning) settled_is (quiet_rests mid_world number there new after stays)

      abbrev before : Journal ℕ
      before = journal_at number (world_of old)

      picked_noted : world_of (parts_at old number turn.picked first) ≡ noted number (poll_notes name begun before) (world_of old)
      picked_noted =
          ap world_of first_is
          ∙ (core_noted world number there turn.picked old.links (poll_note name did.started ∷ begun) goes.journal refl
          ∙ ap (λ started. noted number (poll_note name started ∷ begun) (world_of old)) (goes.started ∙ ap (is_told name_started name) (sym here)))

      mid_notes : journal_at number (world_of mid) ≡ turn.left.journal.notes
      mid_notes = journal_is mid_world number there ∙ ap (λ view. view.journal.notes) mid_core

      -- what became of the job is what the journal says behind the calls of its poll
      came : did.settled ≡ settled_of turn.ran.step (stays_in_line name (journal_at number (world_of mid)))
      came =
          turn.settles.tells
          ∙ (ap (λ out. settled_of turn.ran.step (stays_in_line out.name turn.left.journal.notes)) (out_is turn goes)
          ∙ ap (λ notes. settled_of turn.ran.step (stays_in_line name notes)) (sym mid_notes))

      settled_noted : world_of turned ≡ noted number (settled_note name (unwrap_or turn.ran.told spent) turn.ran.step (journal_at number (world_of mid)) ∷ []) (world_of mid)
      settled_noted =
          ap world_of (sym settled_is)
          ∙ (quiet_noted mid_world number there new after stays (settle_note turn.settles.out.name (unwrap_or turn.ran.told spent) did.settled ∷ [])
          (turn.settles.journal
          ∙ λ i. with_notes (settle_note turn.settles.out.name (unwrap_or turn.ran.told (told i)) did.settled ∷ []) (sym mid_core i).journal)
          ∙ (ap (λ out. noted number (settle_note out.name (unwrap_or turn.ran.told spent) did.settled ∷ []) (world_of mid)) (out_is turn goes)
          ∙ ap (λ settled. noted number (settle_note name (unwrap_or turn.ran.told spent) settled ∷ []) (world_of mid)) came))

      polled : IsPoll meaning number spent did.queue name begun (world_of old) (world_of turned)
      polled = record {
        others = goes.others;
        first = ap (line did.queue) here ∙ goes.first;
        kept = ap (return_reason did.queue) here ∙ goes.kept;
        job = turn.settles.sent;
        task = task_sent name (Job did.queue turn.settles.sent) (poll_task turn goes);
        calls = turn.owed.calls;
        step = turn.ran.step;
        told = turn.ran.told;
        owed = subst (λ journal. meaning.polls turn.settles.sent (meaning.made turn.settles.sent + polls_made name journal) turn.owed.calls turn.ran.step turn.ran.told) (sym here) (poll_owed turn goes);
        answered = turn.settles.answered;
        posted = world_of mid;
        posts = subst (λ start. Makes (CallsAt meaning number) turn.owed.calls start (world_of mid)) picked_noted
            (subst (λ parts. Makes (CallsAt meaning number) turn.owed.calls (world_of (parts_at old number turn.picked first)) (world_of parts)) last_is called.1);
        notes = settled_noted;
      }

    -- the first poll of a turn
    module _ {tells : ℕ → Type 0} (knows : (time : ℕ) → tells time → time ≡ spent) {notes polls : ℕ} {name : JobId} where
      pub first_polled : PollsOne meaning links_reach number IsPick tells notes polls name view new old.links after → IsWorld meaning turned × IsFirstPoll meaning number spent (world_of old) (world_of turned)
      first_polled did =
          let picks = did.posts.noted.turns.picks in
          let told = knows did.posts.noted.turns.spent did.posts.noted.turns.told in (
            polled_rests did told (picked_behind picks),
            record {
              turn_left = subst (λ journal. turns journal < 2 ^ 64 - 1) (sym here) picks.turn_left;
              queue = did.queue;
              runtime = picks.runtime;
              right = in_world world number there (λ burst journal. IsRightPick burst did.queue picks.runtime journal) picks.right;
              name = name;
              poll = polled did told (picked_behind picks);
            },
          )

      -- a further one
      pub further_polled : PollsOne meaning links_reach number IsFurther tells notes polls name view new old.links after → IsWorld meaning turned × IsFurtherPoll meaning number spent name (world_of old) (world_of turned)
      further_polled did =
          let goes = did.posts.noted.turns.picks in
          let told = knows did.posts.noted.turns.spent did.posts.noted.turns.told in
          let recorded = world.recorded number there in (
            polled_rests did told (further_behind goes),
            record {
              queue = did.queue;
              goes_on = in_world world number there (λ burst journal. GoesOn burst did.queue journal) goes.goes_on;
              may = in_world world number there (λ burst journal. may_go_on burst did.queue journal ≡ true) (rw (
                lt-ltb (polls_in_turn view.journal.notes) view.core.bursts.burst goes.goes_on.poll_left,
                work_of_line (terms_at view) did.queue view.journal.notes recorded.kept.notes _ goes.others goes.first,
                goes.kept,
              ) refl);
              poll = polled did told (further_behind goes);
            },
          )
