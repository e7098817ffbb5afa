-- A core that agrees with a journal in which each note may stand: what follows for a note that changes nothing of the core, and for modes and gates.
use Rattle.actor_core.proofs.AgreementNames.{Line, add-zero, brings_work, is_wake_kept, marks_told, name_parked, name_parking, names_parked, nat_lt, parked, parked-stays, parked_of, slice_index_or, still_parked, unparked, unwrap_or, is_name}
use Rattle.actor_core.proofs.AgreementNames.{is_some, reason_if_returning, return_reason, return_reason_of, stays, stays_in_line, wake_told, CoreView, JobOut, is_any, is_working, tally_of, Tally, queue_out-alone, queue_out-nobody, line-stays}
use Rattle.actor_core.proofs.AgreementNames.{floor-stays, virtual_runtime-stays, has_work-line, core_mode, core_mode_told, count_told, final_count, mode_told, queue_mode, IsOpening, created_count, refusal, delivered_names, name_started, or_else}
use Rattle.actor_core.proofs.AgreementNames.{name_joining, name_leaving, name_polled, name_settled, queue_out, is_number, pick_count, turns, charge_noted, runtime_picked, shares, has_work, number_if, queue_entered, Created, Mode, Agrees}
use Rattle.actor_core.proofs.AgreementNames.{AgreesOnClosing, AreMarked, IsJobOut, IsKept, names_of, figures_in, figures_noted, no_figures, Bool, EachNote, IsEffectDue, JobId, Journal, List, MayFollow, MayStand, MayWrite, None, Note, Option, Some}
use Rattle.actor_core.proofs.AgreementNames.{Terms, [], ap, arith, effect_awaited, false, is_told, length, queue_just_picked, refl, subst, sym, takes_turn, ℕ, ◌+◌, ◌<◌, ◌||◌, ◌∙◌, ◌∷◌, ◌≡◌, ◌≤◌, QueuesView, mode_of, queue_count, parts_turns}
use Rattle.actor_core.proofs.AgreementNames.{shares_of, waiting_of}
use Rattle.base_words.specs.declared.order.Reason.TheVariants as why
use Rattle.core_core.specs.State as state
use Rattle.core_core.specs.Closing as core_says
use Rattle.actor_core.proofs.Marks.{marks-stay}
use Rattle.actor_core.proofs.Figures.{figures-stays}
use Rattle.actor_core.proofs.Turning.{open-stays}

module _ {J : Type 0} where
  -- something is there where a job waits or is out
  nat_lt-line : (waiting : Line J) (out : Bool) → nat_lt 0 (length (names_of waiting) + number_if out) ≡ (is_any waiting || out)
  nat_lt-line waiting out = grind arith

module _ {J T : Type 0} (core : CoreView J) (journal : Journal T) where
  -- the queue of the job that is out
  pub queue_out-agrees : IsJobOut core.out journal → state.queue_out core.out ≡ queue_out journal
  queue_out-agrees out = grind (arith, queue_out-nobody journal, queue_out-alone)

  -- a queue works in the core where it has work in the journal
  pub working : {burst : ℕ} (terms : Terms) (queue : ℕ) → EachNote (MayStand terms) journal → Agrees burst core journal → is_working queue core ≡ has_work queue journal
  working terms queue notes agrees =
      rw (has_work-line terms queue journal notes, ← queue_out-agrees agrees.out, ← agrees.lines queue)
      (sym (nat_lt-line (waiting_of queue core.queues) (is_number queue (state.queue_out core.out))))

-- a note by which no job comes, goes, is polled, settled, started, parked or woken, and nothing is charged, picked or counted, as that of a gate that is shut
pub record IsCalm {T : Type 0} (note : Note T) (before : Journal T) : Type 0 where
  pub joins : (queue : ℕ) → name_joining queue note before ≡ None
  pub leaves : name_leaving note ≡ None
  pub polls : name_polled note ≡ None
  pub settles : name_settled note ≡ None
  pub starts : name_started note ≡ None
  pub brings : (queue : ℕ) → brings_work queue note before ≡ false
  pub takes : (name : JobId) → queue_entered name note ≡ None
  pub costs : (burst queue : ℕ) → charge_noted burst queue note before ≡ 0
  pub picks : runtime_picked note ≡ 0
  pub turns_made : pick_count note ≡ 0
  pub goes_on : parts_turns note ≡ false
  pub counts : (burst queue : ℕ) → figures_noted burst queue note before ≡ no_figures
  pub ends : (queue : ℕ) → unparked queue note (parked queue before) ≡ []
  pub still : (queue : ℕ) → still_parked queue note (parked queue before) ≡ parked queue before
  pub parks : name_parked note ≡ None
  pub parks_here : (queue : ℕ) → name_parking queue note before ≡ None
  pub wakes : (name : JobId) → wake_told name note before ≡ None

-- what is no pick makes no turn
pub turns-stays : {T : Type 0} (note : Note T) (before : Journal T) → pick_count note ≡ 0 → turns (note ∷ before) ≡ turns before
turns-stays note before none = ap (λ count. turns before + count) none ∙ add-zero (turns before)

-- by a calm note the marks of each job stay
marks-calm : {T : Type 0} (note : Note T) (before : Journal T) → IsCalm note before → (name : JobId) → marks_told name (note ∷ before) ≡ marks_told name before
marks-calm note before calm name = λ i. record { started = is_name name (calm.starts i) || is_told name_started name before; woken = unwrap_or (calm.wakes name i) (is_wake_kept name before) }

module _ {J T : Type 0} (note : Note T) (before : Journal T) (calm : IsCalm note before) where
  out-calm : (out : Option (JobOut J)) → IsJobOut out before → IsJobOut out (note ∷ before)
  out-calm None nobody = rw (calm.settles, calm.polls) nobody
  out-calm (Some job) alone = (rw (calm.settles, calm.polls) alone.0, rw (calm.takes job.name) alone.1, alone.2 ∙ sym (ap (λ told. unwrap_or told (is_wake_kept job.name before)) (calm.wakes job.name)))

module _ {J T : Type 0} {burst : ℕ} (note : Note T) (before : Journal T) (calm : IsCalm note before) where
  -- a core whose queues hold the same jobs and count the same of them agrees with a calm note
  agrees_calm : (old : CoreView J) → Agrees burst old before → (queues : QueuesView J) (tallies : List Tally) (delivered : List ℕ) (gates : List (Option ℕ)) (mode : Option Mode) →
      ((queue : ℕ) → waiting_of queue queues ≡ waiting_of queue old.queues) → ((queue : ℕ) → parked_of queue queues ≡ parked_of queue old.queues) →
      ((queue : ℕ) → tally_of queue (record old { tallies = tallies }) ≡ tally_of queue old) → length tallies ≡ queue_count queues → queue_count queues ≡ created_count (note ∷ before) + 1 → queue_count old.queues ≤ queue_count queues →
      ((queue : ℕ) → queue < queue_count queues → shares_of queue queues ≡ shares queue (note ∷ before)) → length delivered ≡ old.cores + 1 →
      ((sender : ℕ) → sender ≤ old.cores → slice_index_or delivered sender 0 ≡ length (delivered_names sender (note ∷ before))) →
      AgreesOnClosing (record old { queues = queues; tallies = tallies; delivered = delivered; gates = gates; mode = mode }) (note ∷ before) →
      Agrees burst (record old { queues = queues; tallies = tallies; delivered = delivered; gates = gates; mode = mode }) (note ∷ before)
  agrees_calm old agrees queues tallies delivered gates mode same_lines same_parks same tallied last more weights senders counted closing =
      let lines = λ (queue : ℕ). ap names_of (same_lines queue) ∙ (agrees.lines queue ∙ sym (line-stays queue note before calm.leaves (calm.joins queue) (calm.ends queue))) in
      let parks = λ (queue : ℕ). ap names_parked (same_parks queue) ∙ (agrees.parks queue ∙ sym (parked-stays queue note before (calm.still queue) calm.parks (calm.parks_here queue))) in
      let marks = λ (queue : ℕ). subst (AreMarked (note ∷ before)) (sym (same_lines queue)) (marks-stay note before (marks-calm note before calm) (waiting_of queue old.queues) (agrees.marks queue)) in
      let runtimes = λ (queue : ℕ). ap (λ tally. tally.runtime) (same queue) ∙ (agrees.runtimes queue ∙ sym (virtual_runtime-stays burst queue before note (calm.brings queue) (calm.costs burst queue))) in
      let floor_now = agrees.the_floor ∙ sym (floor-stays note before calm.picks) in
      let turns_now = agrees.turns ∙ sym (turns-stays note before calm.turns_made) in
      let figures = λ (queue : ℕ). ap figures_in (same queue) ∙ (agrees.figures queue ∙ sym (figures-stays burst queue note before (calm.counts burst queue))) in
      let out_exists : (job : JobOut J) → old.out ≡ Some job → job.queue < queue_count queues = λ job at. omega (arith, more, agrees.out_exists job at) in
      let turn = open-stays before burst note calm.goes_on calm.polls calm.settles old.bursts.open agrees.turn in
      assumption (out-calm note before calm old.out agrees.out, agrees.burst_is)

-- so does one that has only counted a delivery, shut a gate or closed, with a note that creates nothing and sets no shares
pub agrees_unmoved : {J T : Type 0} {burst : ℕ} (old : CoreView J) (journal : Journal T) (note : Note T) → Agrees burst old journal → IsCalm note journal →
    created_count (note ∷ journal) ≡ created_count journal → ((queue : ℕ) → shares queue (note ∷ journal) ≡ shares queue journal) →
    (delivered : List ℕ) → length delivered ≡ old.cores + 1 → ((sender : ℕ) → sender ≤ old.cores → slice_index_or delivered sender 0 ≡ length (delivered_names sender (note ∷ journal))) →
    (gates : List (Option ℕ)) (mode : Option Mode) → AgreesOnClosing (record old { delivered = delivered; gates = gates; mode = mode }) (note ∷ journal) →
    Agrees burst (record old { delivered = delivered; gates = gates; mode = mode }) (note ∷ journal)
agrees_unmoved old journal note agrees calm creates weighs delivered senders counted gates mode closing =
    agrees_calm note journal calm old agrees old.queues old.tallies delivered gates mode (λ queue. refl) (λ queue. refl) (λ queue. refl) agrees.tallied (agrees.last ∙ ap (λ count. count + 1) (sym creates)) (omega arith)
    (λ queue there. agrees.weights queue there ∙ sym (weighs queue)) senders counted closing

-- and one that has delivered nothing
pub agrees_steady : {J T : Type 0} {burst : ℕ} (old new : CoreView J) (journal : Journal T) (note : Note T) → Agrees burst old journal → IsCalm note journal → (queues : QueuesView J) (tallies : List Tally) →
    new ≡ record old { queues = queues; tallies = tallies } → ((queue : ℕ) → waiting_of queue queues ≡ waiting_of queue old.queues) →
    ((queue : ℕ) → parked_of queue queues ≡ parked_of queue old.queues) → ((queue : ℕ) → tally_of queue (record old { tallies = tallies }) ≡ tally_of queue old) → length tallies ≡ queue_count queues →
    queue_count queues ≡ created_count (note ∷ journal) + 1 → queue_count old.queues ≤ queue_count queues →
    ((queue : ℕ) → queue < queue_count queues → shares_of queue queues ≡ shares queue (note ∷ journal)) → ((sender : ℕ) → delivered_names sender (note ∷ journal) ≡ delivered_names sender journal) →
    AgreesOnClosing (record old { queues = queues; tallies = tallies }) (note ∷ journal) → Agrees burst new (note ∷ journal)
agrees_steady {burst = burst} old new journal note agrees calm queues tallies is lines parks same tallied last more weights delivers closing =
    subst (λ core. Agrees burst core (note ∷ journal)) (sym is)
    (agrees_calm note journal calm old agrees queues tallies old.delivered old.gates old.mode lines parks same tallied last more weights agrees.senders
    (λ sender known. agrees.delivered sender known ∙ ap length (sym (delivers sender))) closing)

-- a note that takes no turn and is no effect may stand behind those of a kept core
pub stands_behind : {J T : Type 0} (terms : Terms) (note : Note T) {core : CoreView J} {before : Journal T} → IsKept terms core before → MayWrite terms note → MayFollow terms note before →
    takes_turn terms.burst note before ≡ false → IsEffectDue None note before → MayStand terms note before
stands_behind terms note kept writer law plain free = record { may_follow = law; turn = rw (kept.no_pick, plain); effect = rw kept.no_answer free; writer = writer }

-- so it follows, and the core agrees with it
pub kept_after : {J T : Type 0} (terms : Terms) (note : Note T) {old new : CoreView J} {before : Journal T} → IsKept terms old before → Agrees terms.burst new (note ∷ before) → MayWrite terms note →
    MayFollow terms note before → takes_turn terms.burst note before ≡ false → IsEffectDue None note before → queue_just_picked (note ∷ before) ≡ None → effect_awaited (note ∷ before) ≡ None →
    IsKept terms new (note ∷ before)
kept_after terms note kept agrees writer law plain free no_pick no_answer =
    assumption (stands_behind terms note kept writer law plain free)

-- a note that closes no queue and no core, and shuts no gate
pub record IsOpenNote {T : Type 0} (note : Note T) : Type 0 where
  pub queues : (queue : ℕ) → mode_told queue note ≡ None
  pub core : core_mode_told note ≡ None
  pub gates : (sender : ℕ) → count_told sender note ≡ None

-- so a step that changes no mode and no gate stays as the journal says
module _ {J T : Type 0} (old new : CoreView J) (note : Note T) (before : Journal T) where
  pub closing-stays : ((queue : ℕ) → mode_of queue new.queues ≡ mode_of queue old.queues) → new.mode ≡ old.mode → new.gates ≡ old.gates → new.cores ≡ old.cores →
      IsOpenNote note → AgreesOnClosing old before → AgreesOnClosing new (note ∷ before)
  closing-stays modes mode gates cores plain agrees = record {
    modes = λ queue. modes queue ∙ (agrees.modes queue ∙ sym (ap (λ told. or_else told (queue_mode queue before)) (plain.queues queue)));
    mode = mode ∙ (agrees.mode ∙ sym (ap (λ told. or_else told (core_mode before)) plain.core));
    gate_places = ap length gates ∙ (agrees.gate_places ∙ ap (λ cores. cores + 1) (sym cores));
    gates = λ sender.
        ap (λ gates. slice_index_or gates sender None) gates
        ∙ (agrees.gates sender ∙ sym (ap (λ told. or_else told (final_count sender before)) (plain.gates sender)));
  }

-- a note that makes no turn, and by which nothing is created, weighed, delivered or closed
pub record IsPlain {T : Type 0} (note : Note T) (before : Journal T) : Type 0 where
  pub picks : runtime_picked note ≡ 0
  pub turns_made : pick_count note ≡ 0
  pub created : created_count (note ∷ before) ≡ created_count before
  pub weighs : (queue : ℕ) → shares queue (note ∷ before) ≡ shares queue before
  pub delivered : (sender : ℕ) → delivered_names sender (note ∷ before) ≡ delivered_names sender before
  pub opens : IsOpenNote note

module _ {J T : Type 0} (view : CoreView J) (journal : Journal T) (agrees : AgreesOnClosing view journal) where
  -- a job is refused for the reason that the journal gives
  pub refusal-agrees : queue_count view.queues ≡ created_count journal + 1 → (queue : ℕ) → core_says.refusal queue view ≡ refusal queue journal
  refusal-agrees last queue = grind (arith, agrees.modes queue)

  -- and goes back for that reason
  pub return_reason-agrees : (queue : ℕ) → core_says.return_reason queue view ≡ return_reason queue journal
  return_reason-agrees queue = λ i. or_else (reason_if_returning (agrees.modes queue i) why.QueueReturned) (reason_if_returning (agrees.mode i) why.CoreReturned)

-- the job that is out stays in its line where the journal says so, if it asks to be parked
pub stays-agrees : {J T : Type 0} {burst : ℕ} (core : CoreView J) (journal : Journal T) → Agrees burst core journal → (job : JobOut J) → core.out ≡ Some job → stays job core ≡ stays_in_line job.name journal
stays-agrees core journal agrees job at =
    let is = subst (λ out. IsJobOut out journal) at agrees.out in
    ap (λ kept. kept || is_some (core_says.return_reason job.queue core)) is.2
    ∙ ap (λ reason. is_wake_kept job.name journal || is_some reason)
    (return_reason-agrees core journal agrees.closing job.queue ∙ ap (λ queue. return_reason_of queue journal) (sym is.1))

-- a core that opens is open
module _ {T : Type 0} where
  pub opening_is_open : (journal : Journal T) → IsOpening journal → core_mode journal ≡ None
  opening_is_open [] opening = refl
  opening_is_open (Created queue weight ∷ before) opening = opening_is_open before opening
  opening_is_open (_ ∷ before) opening = absurd opening
