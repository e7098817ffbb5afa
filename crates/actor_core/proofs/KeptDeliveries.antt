-- What a core tells of itself stays what its journal says, as a submission is delivered: a job enters or goes back, a command is answered, creates, weighs or closes; and as a gate is shut.
use Rattle.actor_core.proofs.AgreementNames.{Marks, get_or-set_other, is_wake_kept, keeps_wakes, length-set, le-leb, lt-leb, marks_told, names_parked, nat_le, slice_index_or, slice_set, CountsAlone, Creates, Weighs, counted, CoreView, JobOut}
use Rattle.actor_core.proofs.AgreementNames.{entry_runtime, is_working, no_tally, runtime_of, tally_of, Tally, known_of, not_old, line-took, line-took_elsewhere, floor-stays, shares-created, shares-created_elsewhere, shares-set}
use Rattle.actor_core.proofs.AgreementNames.{shares-set_elsewhere, virtual_runtime-took_busy, virtual_runtime-took_elsewhere, virtual_runtime-took_idle, started_of, final_count, IsAnswer, created_count, has_effect, queue_created, refusal}
use Rattle.actor_core.proofs.AgreementNames.{delivered_names, if_from, name_started, list_told, or_else, IsNextDelivered, shares, virtual_runtime, has_work, queue_of, Answer, Reason, Agrees, IsJobOut, IsKept, names_of, EachNote, JobId, Journal}
use Rattle.actor_core.proofs.AgreementNames.{List, MayStand, None, Note, Option, Order, Some, Terms, [], ap, arith, cond, effect_awaited, false, false_from_ne_true, get_or, get_or-set_same, inr, is_some, is_told, length, length-append, map-append}
use Rattle.actor_core.proofs.AgreementNames.{queue_just_picked, refl, same_as_itself, same_name, set, subst, sym, true, true≢false, with_last, ℕ, ◌++◌, ◌+◌, ◌<◌, ◌==◌, ◌∙◌, ◌∷◌, ◌≡◌, ◌≤◌, InRange, ChangesLine, QueuesView, line, queue_count}
use Rattle.actor_core.proofs.AgreementNames.{shares_of, waiting_of}
use Rattle.base_words.specs.declared.note.Note.TheVariants as writes
use Rattle.base_words.specs.declared.order.Order.TheVariants as orders
use Rattle.base_words.specs.declared.order.Answer.TheVariants as answers
use Rattle.actor_core.proofs.Figures.{figures-same, figures-stays}
use Rattle.actor_core.proofs.Kept.{IsCalm, IsOpenNote, agrees_steady, agrees_unmoved, closing-stays, kept_after, stands_behind, turns-stays, working}
use Rattle.actor_core.proofs.KeptParks.{entering}
use Rattle.actor_core.proofs.Marks.{marks_longer, unmarked}
use Rattle.actor_core.proofs.Turning.{open-stays}

-- the next name from its sender is counted
module _ {J T : Type 0} {burst : ℕ} (terms : Terms) (old : CoreView J) (name : JobId) (journal : Journal T) (known : name.from ≤ old.cores) (next : IsNextDelivered terms name journal) (agrees : Agrees burst old journal) where
  senders_counted : length (counted name old) ≡ old.cores + 1
  senders_counted = length-set old.delivered name.from name.number ∙ agrees.senders

  -- the count of each sender is that of the names delivered from it
  delivered_counted : (sender : ℕ) → sender ≤ old.cores → slice_index_or (counted name old) sender 0 ≡ length (with_last (delivered_names sender journal) (if_from sender name name))
  delivered_counted sender there =
      grind (arith, get_or-set_same old.delivered name.from name.number 0, get_or-set_other old.delivered name.from sender name.number 0, agrees.delivered sender, length-append (delivered_names sender journal) (name ∷ []))

module _ {T : Type 0} (terms : Terms) (journal : Journal T) (notes : EachNote (MayStand terms) journal) where
  -- who is delivered now has not entered and not started
  pub not_entered : (name other : JobId) → IsNextDelivered terms name journal → is_some (queue_of other journal) ≡ true → same_name other name ≡ false
  not_entered name other next entered = not_old terms other name journal next ((known_of terms journal notes).entered_old other entered)

  pub not_started : (name : JobId) → IsNextDelivered terms name journal → is_told name_started name journal ≡ false
  not_started name next = false_from_ne_true _
      (λ started. true≢false (sym (same_as_itself name) ∙ not_entered name name next ((started_of terms journal notes).started_entered name started)))

  -- nor was it woken
  pub new_marks : (name : JobId) → IsNextDelivered terms name journal → unmarked ≡ marks_told name journal
  new_marks name next =
      let unkept : is_wake_kept name journal ≡ false = false_from_ne_true _ (λ kept. true≢false (sym (same_as_itself name) ∙ not_entered name name next ((keeps_wakes terms journal notes).entered name kept))) in
      λ i. record { started = sym (not_started name next) i; woken = sym unkept i }

-- a job that isn't refused enters its queue
module _ {J T : Type 0} (terms : Terms) (old : CoreView J) (name : JobId) (queue : ℕ) (job : J) (journal : Journal T) (kept : IsKept terms old journal) (next : IsNextDelivered terms name journal) (sender : name.from ≤ old.cores)
    (accepted : refusal queue journal ≡ None) (exists : queue < queue_count old.queues) (queues : QueuesView J) (changes : ChangesLine old.queues queues queue (waiting_of queue old.queues ++ (name, unmarked, job) ∷ [])) where
  abbrev its_tally : Tally
  its_tally = record (tally_of queue old) { runtime = entry_runtime queue old }

  abbrev entered : CoreView J
  entered = record old { queues = queues; tallies = set old.tallies queue its_tally; delivered = counted name old }

  took_lines : (other : ℕ) → names_of (waiting_of other queues) ≡ line other (writes.Took name queue ∷ journal)
  took_lines other =
      grind (arith, line-took queue name journal, line-took_elsewhere other queue name journal, changes.others other, kept.agrees.lines other, map-append (λ (entry : JobId × Marks × J). entry.0) (waiting_of queue old.queues) ((name, unmarked, job) ∷ []))

  there : queue < length old.tallies
  there = omega (arith, exists, kept.agrees.tallied)

  entry_is : entry_runtime queue old ≡ virtual_runtime terms.burst queue (writes.Took name queue ∷ journal)
  entry_is =
      entering (is_working queue old) (has_work queue journal) _ _ _ _ _ (working old journal terms queue kept.notes kept.agrees) (kept.agrees.runtimes queue) kept.agrees.the_floor
      (virtual_runtime-took_busy terms.burst queue journal name) (virtual_runtime-took_idle terms.burst queue journal name)

  took_runtimes : (other : ℕ) → runtime_of other entered ≡ virtual_runtime terms.burst other (writes.Took name queue ∷ journal)
  took_runtimes other =
      grind (arith, get_or-set_same old.tallies queue, get_or-set_other old.tallies queue other, kept.agrees.runtimes other, virtual_runtime-took_elsewhere terms.burst other journal name queue, entry_is, there)

  took_out : (out : Option (JobOut J)) → IsJobOut out journal → IsJobOut out (writes.Took name queue ∷ journal)
  took_out None nobody = nobody
  took_out (Some job) alone = (alone.0, rw (not_entered terms journal kept.notes name job.name next (rw alone.1 refl)) alone.1, alone.2)

  pub kept-took : {new : CoreView J} → new ≡ entered → IsKept terms new (writes.Took name queue ∷ journal)
  kept-took is =
      let tallied = length-set old.tallies queue its_tally ∙ (kept.agrees.tallied ∙ sym changes.same_count) in
      let last = changes.same_count ∙ kept.agrees.last in
      let weights = λ (other : ℕ) (there : other < queue_count queues). changes.same_shares other ∙ kept.agrees.weights other (subst (λ count. other < count) changes.same_count there) in
      let floor_now = kept.agrees.the_floor ∙ sym (floor-stays (writes.Took name queue) journal refl) in
      let turns_now = kept.agrees.turns ∙ sym (turns-stays (writes.Took name queue) journal refl) in
      let out_exists : (out : JobOut J) → old.out ≡ Some out → out.queue < queue_count queues = λ out at. rw changes.same_count (kept.agrees.out_exists out at) in
      let figures = λ (other : ℕ). figures-same old entered queue its_tally there refl refl other ∙ (kept.agrees.figures other ∙ sym (figures-stays terms.burst other (writes.Took name queue) journal refl)) in
      let modes = λ (other : ℕ). changes.same_modes other ∙ kept.agrees.closing.modes other in
      let turn = open-stays journal terms.burst (writes.Took name queue) refl refl refl old.bursts.open kept.agrees.turn in
      let agrees : Agrees terms.burst entered (writes.Took name queue ∷ journal) = assumption (
        senders_counted terms old name journal sender next kept.agrees,
        took_lines,
        (λ (other : ℕ). ap names_parked (changes.same_parks other) ∙ kept.agrees.parks other),
        marks_longer journal name unmarked job (new_marks terms journal kept.notes name next) changes kept.agrees.marks,
        took_runtimes,
        took_out old.out kept.agrees.out,
        delivered_counted terms old name journal sender next kept.agrees,
      ) in
      subst (λ core. IsKept terms core (writes.Took name queue ∷ journal)) (sym is) (kept_after terms (writes.Took name queue) kept agrees kept.is_core (next, accepted) refl tt refl refl)

-- a delivery that changes nothing but its count
module _ {J T : Type 0} (terms : Terms) (old new : CoreView J) (name : JobId) (journal : Journal T) (kept : IsKept terms old journal)
    (next : IsNextDelivered terms name journal) (sender : name.from ≤ old.cores) (counts : CountsAlone old name new) where
  -- a calm note by which the next name is delivered, and nothing is created, weighed or closed
  agrees-counted : (note : Note T) → IsCalm note journal → created_count (note ∷ journal) ≡ created_count journal → ((queue : ℕ) → shares queue (note ∷ journal) ≡ shares queue journal) → IsOpenNote note →
      ((sender : ℕ) → delivered_names sender (note ∷ journal) ≡ with_last (delivered_names sender journal) (if_from sender name name)) → Agrees terms.burst new (note ∷ journal)
  agrees-counted note calm creates weighs opens delivers =
      subst (λ core. Agrees terms.burst core (note ∷ journal)) (sym counts)
      (agrees_unmoved old journal note kept.agrees calm creates weighs (counted name old)
      (senders_counted terms old name journal sender next kept.agrees)
      (λ from known. delivered_counted terms old name journal sender next kept.agrees from known ∙ ap length (sym (delivers from))) old.gates old.mode
      (closing-stays old (record old { delivered = counted name old }) note journal (λ queue. refl) refl refl refl opens kept.agrees.closing))

  pub agrees-answered : (answer : Answer) → Agrees terms.burst new (writes.Answered name answer ∷ journal)
  agrees-answered answer = agrees-counted (writes.Answered name answer) (assumption) refl (λ queue. refl) (assumption) (λ sender. refl)

  -- a job that is refused goes back
  pub kept-back : (queue : ℕ) (reason : Reason) → refusal queue journal ≡ Some reason → IsKept terms new (writes.Back name reason ∷ journal)
  kept-back queue reason refused =
      let agrees = agrees-counted (writes.Back name reason) (assumption) refl (λ queue. refl) (assumption) (λ sender. refl) in
      kept_after terms (writes.Back name reason) kept agrees kept.is_core (next, (queue, refused)) refl tt refl refl

  -- a command is answered, and the note of its effect follows
  pub kept-effect : (order : Order (Unit {0})) (answer : Answer) → IsAnswer name.to order answer journal → (note : Note T) {core : CoreView J} → Agrees terms.burst core (note ∷ writes.Answered name answer ∷ journal) →
      MayStand terms note (writes.Answered name answer ∷ journal) → queue_just_picked (note ∷ writes.Answered name answer ∷ journal) ≡ None → effect_awaited (note ∷ writes.Answered name answer ∷ journal) ≡ None →
      IsKept terms core (note ∷ writes.Answered name answer ∷ journal)
  kept-effect order answer right note agrees stands no_pick no_answer =
      assumption (stands_behind terms (writes.Answered name answer) kept kept.is_core (next, (order, right)) refl tt)

  pub kept-answered : (order : Order (Unit {0})) (answer : Answer) → IsAnswer name.to order answer journal → has_effect answer ≡ false →
      IsKept terms new (writes.Answered name answer ∷ journal)
  kept-answered order answer right plain =
      kept_after terms (writes.Answered name answer) kept (agrees-answered answer) kept.is_core (next, (order, right)) refl tt refl (ap (λ awaited. cond awaited (Some answer) None) plain)

-- one more at the end, that is what is read past the end, is not seen
get_or-append_default : {A : Type 0} (items : List A) (default : A) (place : ℕ) → get_or (items ++ default ∷ []) place default ≡ get_or items place default
get_or-append_default [] default place = grind arith
get_or-append_default (item ∷ items) default place = grind (arith, get_or-append_default items default)

module _ {J T : Type 0} {burst : ℕ} (old new : CoreView J) (queue weight : ℕ) (journal : Journal T) (agrees : Agrees burst old journal) where
  -- a queue is created
  pub agrees-created : queue ≡ queue_count old.queues → Creates old weight new → new.delivered ≡ old.delivered → Agrees burst new (writes.Created queue weight ∷ journal)
  agrees-created next creates same =
      agrees_steady old new journal (writes.Created queue weight) agrees (assumption) new.queues (old.tallies ++ no_tally ∷ [])
      (creates.rest ∙ ap (λ delivered. record old { queues = new.queues; tallies = old.tallies ++ no_tally ∷ []; delivered = delivered }) same)
      creates.added.same_lines creates.added.same_parks (get_or-append_default old.tallies no_tally) (length-append old.tallies (no_tally ∷ []) ∙ (ap (λ count. count + 1) agrees.tallied ∙ sym creates.added.count))
      (creates.added.count ∙ ap (λ count. count + 1) (agrees.last ∙ sym (length-append (list_told queue_created journal) (queue ∷ [])))) (omega (arith, creates.added.count)) weights (λ sender. refl)
      (assumption (λ (other : ℕ). creates.added.same_modes other ∙ agrees.closing.modes other))
    where
      weights : (other : ℕ) → other < queue_count new.queues → shares_of other new.queues ≡ shares other (writes.Created queue weight ∷ journal)
      weights other there =
          grind (arith, shares-created queue journal weight, shares-created_elsewhere other journal queue weight, creates.added.others other, creates.added.given, agrees.weights other, creates.added.count)

  -- a queue gets shares
  pub agrees-weighed : Weighs old queue weight new → new.delivered ≡ old.delivered → Agrees burst new (writes.SharesSet queue weight ∷ journal)
  agrees-weighed weighs same =
      agrees_steady old new journal (writes.SharesSet queue weight) agrees (assumption) new.queues old.tallies (weighs.rest ∙ ap (λ delivered. record old { queues = new.queues; delivered = delivered }) same)
      weighs.shares.same_lines weighs.shares.same_parks (λ other. refl) (agrees.tallied ∙ sym weighs.shares.same_count) (weighs.shares.same_count ∙ agrees.last) (omega (arith, weighs.shares.same_count)) weights (λ sender. refl)
      (assumption (λ (other : ℕ). weighs.shares.same_modes other ∙ agrees.closing.modes other))
    where
      weights : (other : ℕ) → other < queue_count new.queues → shares_of other new.queues ≡ shares other (writes.SharesSet queue weight ∷ journal)
      weights other there =
          grind (arith, shares-set queue journal weight, shares-set_elsewhere other journal queue weight, weighs.shares.others other, weighs.shares.changed, agrees.weights other, weighs.shares.same_count)

-- the commands that have an effect, with the note of the answer and that of the effect
module _ {J T : Type 0} (terms : Terms) (old new : CoreView J) (name : JobId) (queue weight : ℕ) (journal : Journal T) (kept : IsKept terms old journal)
    (next : IsNextDelivered terms name journal) (sender : name.from ≤ old.cores) (in_range : InRange weight) (now : new.delivered ≡ counted name old) where
  abbrev middle : CoreView J
  middle = record old { delivered = counted name old }

  -- a creation finds a core that isn't closed, and room for one more queue
  pub kept-created : queue ≡ queue_count old.queues → Creates old weight new →
      IsAnswer name.to (orders.Create weight) (answers.Created queue) journal
      × IsKept terms new (writes.Created queue weight ∷ writes.Answered name (answers.Created queue) ∷ journal)
  kept-created number creates =
      let few : nat_le 255 (created_count journal) ≡ false = lt-leb 255 (created_count journal) (omega (arith, creates.few, kept.agrees.last)) in
      let right : IsAnswer name.to (orders.Create weight) (answers.Created queue) journal = rw (sym kept.agrees.closing.mode ∙ creates.is_open, few) (inr (ap answers.Created (number ∙ kept.agrees.last))) in (
        right,
        kept-effect terms old middle name journal kept next sender refl (orders.Create weight) (answers.Created queue) right (writes.Created queue weight)
            (agrees-created middle new queue weight _ (agrees-answered terms old middle name journal kept next sender refl (answers.Created queue)) number
            (record { is_open = creates.is_open; few = creates.few; added = creates.added; rest = creates.rest }) now)
            (record { may_follow = record { next = number ∙ kept.agrees.last; in_range = rw number creates.few; shares = in_range }; turn = refl; effect = refl; writer = kept.is_core }) refl refl,
      )

  pub kept-weighed : Weighs old queue weight new →
      IsAnswer name.to (orders.SetShares queue weight) answers.SharesSet journal
      × IsKept terms new (writes.SharesSet queue weight ∷ writes.Answered name answers.SharesSet ∷ journal)
  kept-weighed weighs =
      let exists : queue ≤ created_count journal = omega (arith, weighs.exists, kept.agrees.last) in
      let right : IsAnswer name.to (orders.SetShares queue weight) answers.SharesSet journal = rw (le-leb queue (created_count journal) exists) refl in (
        right,
        kept-effect terms old middle name journal kept next sender refl (orders.SetShares queue weight) answers.SharesSet right (writes.SharesSet queue weight)
            (agrees-weighed middle new queue weight _ (agrees-answered terms old middle name journal kept next sender refl answers.SharesSet)
            (record { exists = weighs.exists; shares = weighs.shares; rest = weighs.rest }) now)
            (record { may_follow = (exists, in_range); turn = refl; effect = refl; writer = kept.is_core }) refl refl,
      )

module _ {J T : Type 0} {burst : ℕ} (old new : CoreView J) (journal : Journal T) (agrees : Agrees burst old journal) where
  -- a gate is shut
  pub agrees-shut : (from count : ℕ) → from ≤ old.cores → new ≡ record old { gates = slice_set old.gates from (Some count) } → Agrees burst new (writes.Shut from count ∷ journal)
  agrees-shut from count known is =
      let places = length-set old.gates from (Some count) ∙ agrees.closing.gate_places in
      let gates : (sender : ℕ) → get_or (slice_set old.gates from (Some count)) sender None ≡ or_else (cond (sender == from) (Some count) None) (final_count sender journal) =
      λ sender. grind (arith, get_or-set_same old.gates from (Some count) None, get_or-set_other old.gates from sender (Some count) None, agrees.closing.gates sender) in
      subst (λ core. Agrees burst core (writes.Shut from count ∷ journal)) (sym is)
      (agrees_unmoved old journal (writes.Shut from count) agrees (assumption) refl (λ queue. refl) old.delivered agrees.senders agrees.delivered
      (slice_set old.gates from (Some count)) old.mode (assumption (places, gates)))
