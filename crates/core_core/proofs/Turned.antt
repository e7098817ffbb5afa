-- A whole turn is that of the job that was told ahead.
use Rattle.core_core.proofs.Names.{AfterPoll, ap, arith, Bool, Call, CoreView, false, first_key, goes_out, inl, inr, IsAhead, IsListed, IsNext, IsRising, JobId, JobOut, Key, KeyAtMost, List, Marks, Meaning, None, Ok, pick_notes, Picks, refl, return_reason}
use Rattle.core_core.proofs.Names.{runtime_of, settle_notes, settled_of, SettlesOut, SettlesStep, Some, stays, Step, subst, sym, TakesOut, true, TurnsFirst, TurnsWhole, unwrap_or, waiting_of, ℕ, [], ◌∙◌, ◌∷◌, ◌≡◌}
use Rattle.base_words.specs.declared.note.Note.TheVariants as notes
use Rattle.base_jobs.specs.declared.job.Step.TheVariants as steps
use Rattle.core_core.proofs.Closings.{out_taken, stays_taken}
use Rattle.core_core.proofs.Entries.{some_from_is_any}
use Rattle.core_core.proofs.Held.{held_none}
use Rattle.core_core.proofs.Picking.{first_is_next, first_runtime, first_waits, some_keys}
use Rattle.core_core.proofs.PollsSettled.{settles_yield, settles_stay, settles_park, settles_done}

-- the first of a list of keys
pub first_of : (keys : List Key) (key : Key) → Some key ≡ first_key keys → (later : List Key) × (keys ≡ key ∷ later)
first_of [] key is = cc
first_of (first ∷ later) key is =
    let same : first ≡ key = cc in
    (later, ap (λ (one : Key). one ∷ later) same)

pub some_front : {X : Type 0} (line : List X) (first : X) (others : List X) → line ≡ first ∷ others → line ≡ [] → ⊥
some_front line first others is none = cc

pub head_same : {X : Type 0} {one other : X} {first last : List X} → one ∷ first ≡ other ∷ last → one ≡ other
head_same same = cc

least_same : (one_runtime one other_runtime other : ℕ) → KeyAtMost one_runtime one other_runtime other → KeyAtMost other_runtime other one_runtime one → one ≡ other
least_same one_runtime one other_runtime other (inl below) (inl above) = absurd (omega (arith, below, above))
least_same one_runtime one other_runtime other (inl below) (inr same) = absurd (omega (arith, below, same.0))
least_same one_runtime one other_runtime other (inr same) (inl above) = absurd (omega (arith, same.0, above))
least_same one_runtime one other_runtime other (inr below) (inr above) = omega (arith, below.1, above.1)

module _ {J : Type 0} where
  -- only one queue is next
  next_same : (view : CoreView J) (one other : ℕ) → IsNext view one → IsNext view other → (waiting_of one view.queues ≡ [] → ⊥) → (waiting_of other view.queues ≡ [] → ⊥) → one ≡ other
  next_same view one other first second some any = least_same (runtime_of one view) one (runtime_of other view) other (first.least other any) (second.least one some)

  -- its key is the first one
  next_is_first : (view : CoreView J) (keys : List Key) (queue vr : ℕ) → IsListed view keys → IsRising keys → IsNext view queue → (waiting_of queue view.queues ≡ [] → ⊥) → vr ≡ runtime_of queue view →
      (later : List Key) × (keys ≡ (record { vr = vr; queue = queue }) ∷ later)
  next_is_first view [] queue vr listed rising next some stands = absurd (some_keys view [] (held_none view next.free next.no_turn) listed (queue, some) refl)
  next_is_first view (key ∷ later) queue vr listed rising next some stands =
      let first = first_is_next view (key ∷ later) key later refl listed next.free next.no_turn rising in
      let waits = some_from_is_any (waiting_of key.queue view.queues) (first_waits view (key ∷ later) key later refl listed (held_none view next.free next.no_turn)) in
      let at : key.queue ≡ queue = next_same view key.queue queue first next waits some in
      let runtime : key.vr ≡ vr = sym (first_runtime view (key ∷ later) key later refl listed) ∙ ap (λ (one : ℕ). runtime_of one view) at ∙ sym stands in
      (later, λ i. (record { vr = runtime i; queue = at i }) ∷ later)

  pub ahead_is_first : (view : CoreView J) (keys : List Key) (queue vr : ℕ) (name : JobId) (started woken : Bool) → IsListed view keys → IsRising keys → IsAhead view queue vr name started woken →
      (later : List Key) × (keys ≡ (record { vr = vr; queue = queue }) ∷ later)
  ahead_is_first view keys queue vr name started woken listed rising is_ahead =
      let front = is_ahead.front in
      let some = some_front (waiting_of queue view.queues) (name, record { started = started; woken = woken }, front.0) front.1 front.2 in
      next_is_first view keys queue vr listed rising is_ahead.next some is_ahead.stands

-- the job that was told ahead goes out with these notes
module _ {J : Type 0} (T : Type 0) where
  pub picks_ahead : (old mid : CoreView J) (queue vr : ℕ) (name : JobId) (started : Bool) (job : J) → TakesOut old name queue started job mid → return_reason queue old ≡ None → vr ≡ runtime_of queue old →
      Picks {T = T} old (Ok (goes_out name queue started job)) mid (pick_notes queue vr name started)
  picks_ahead old mid queue vr name false job takes kept stands = (takes, kept, ap (λ at. notes.Pick queue at ∷ notes.Start name ∷ []) stands)
  picks_ahead old mid queue vr name true job takes kept stands = (takes, kept, ap (λ at. notes.Pick queue at ∷ notes.Resume name ∷ []) stands)

module _ {J T : Type 0} where
  -- its poll is settled in the words of the contract: a park leaves the job in its line exactly where a wake was kept
  pub settles_taken : (mid new : CoreView J) (ran : AfterPoll J T) (spent : ℕ) (name : JobId) (time : ℕ) → time ≡ unwrap_or ran.told spent → (step : Step T) (woken : Bool) →
      ((one : JobOut J) → mid.out ≡ Some one → (one.woken ≡ woken) × (stays one mid ≡ woken)) → ran.step ≡ step → SettlesStep step woken mid name ran.job time new →
      SettlesOut mid ran spent (settled_of step woken) new (settle_notes name time step woken)
  settles_taken mid new ran spent name time counts steps.Yield woken known is settles =
      settles_yield mid ran spent name time new (settle_notes name time steps.Yield woken) counts woken ran.job is refl settles (sym (known settles.out settles.was_out).0) refl
  settles_taken mid new ran spent name time counts steps.Park true known is settles =
      settles_stay mid ran spent name time new (settle_notes name time steps.Park true) counts ran.job is refl settles (known settles.out settles.was_out).1 refl
  settles_taken mid new ran spent name time counts steps.Park false known is settles =
      settles_park mid ran spent name time new (settle_notes name time steps.Park false) counts ran.job is refl settles (known settles.out settles.was_out).1 refl
  settles_taken mid new ran spent name time counts (steps.Done answer) woken known is settles =
      settles_done mid ran spent name time new (settle_notes name time (steps.Done answer) woken) counts answer is settles refl

module _ {J T : Type 0} (meaning : Meaning J T) where
  pub TurnsWhole-first : (old new : CoreView J) (spent : ℕ) (calls : List (Call J T)) (step : Step T) (time queue vr : ℕ) (name : JobId) (started woken : Bool) → IsAhead old queue vr name started woken →
      TurnsFirst meaning old spent calls step time new →
      TurnsWhole meaning old spent calls name queue started (pick_notes queue vr name started) (settled_of step woken) (settle_notes name time step woken) new
  TurnsWhole-first old new spent calls step time queue vr name started woken is_ahead turns =
      let front = is_ahead.front in
      let was : Marks = record { started = turns.started; woken = turns.takes.was_woken } in
      let told : Marks = record { started = started; woken = woken } in
      let there = some_front (waiting_of turns.queue old.queues) (turns.name, was, turns.ran.before) turns.takes.others turns.takes.first in
      let here = some_front (waiting_of queue old.queues) (name, told, front.0) front.1 front.2 in
      let at : turns.queue ≡ queue = next_same old turns.queue queue turns.takes.next is_ahead.next there here in
      let both : (turns.name, was, turns.ran.before) ∷ turns.takes.others ≡ (name, told, front.0) ∷ front.1 = sym turns.takes.first ∙ ap (λ (q : ℕ). waiting_of q old.queues) at ∙ front.2 in
      let head = head_same both in
      let named : turns.name ≡ name = ap (λ (one : JobId × Marks × J). one.0) head in
      let marked : turns.started ≡ started = ap (λ (one : JobId × Marks × J). one.1.started) head in
      let kept : turns.takes.was_woken ≡ woken = ap (λ (one : JobId × Marks × J). one.1.woken) head in
      let takes : TakesOut old name queue started turns.ran.before turns.mid =
      subst (λ (one : JobId). TakesOut old one queue started turns.ran.before turns.mid) named
      (subst (λ (one : ℕ). TakesOut old turns.name one started turns.ran.before turns.mid) at
      (subst (λ (one : Bool). TakesOut old turns.name turns.queue one turns.ran.before turns.mid) marked turns.takes)) in
      let unreturned : return_reason turns.queue old ≡ None = ap (λ (q : ℕ). return_reason q old) at ∙ is_ahead.kept in
      let known : (one : JobOut J) → turns.mid.out ≡ Some one → (one.woken ≡ woken) × (stays one turns.mid ≡ woken) = λ one is. (
        ap (λ (out : JobOut J). out.woken) (out_taken old turns.mid turns.name turns.queue turns.started turns.ran.before turns.takes one is) ∙ kept,
        stays_taken old turns.mid turns.name turns.queue turns.started turns.ran.before turns.takes one is unreturned ∙ kept,
      ) in
      let settles : SettlesStep step woken turns.mid name turns.ran.job time new =
      subst (λ (one : Bool). SettlesStep step one turns.mid name turns.ran.job time new) kept (subst (λ (one : JobId). SettlesStep step turns.takes.was_woken turns.mid one turns.ran.job time new) named turns.settles) in
      record {
        mid = turns.mid;
        ran = turns.ran;
        picks = picks_ahead T old turns.mid queue vr name started turns.ran.before takes is_ahead.kept is_ahead.stands;
        polled = turns.polled;
        settles = settles_taken turns.mid new turns.ran spent name time turns.counts step woken known turns.stepped settles;
      }
