-- What holds inside a core as a job is taken out.
use Rattle.core_core.proofs.Names.{All, All-set, All-weaker, ap, arith, Bool, cases_lt, cond, CoreView, false, FitsTurns, get_or_past, inl, inr, is_any, is_number, is_some, IsListed, IsNext, IsRising, IsWithinTurns, Key, KeyAtMost}
use Rattle.core_core.proofs.Names.{LacksQueue, List, max, may_run, no_queue, None, not, number_if, Option, queue_count, queue_held, QueuesView, refl, runtime_listed, runtime_of, slice_set, Some, subst, sym, Tally, true, true≢false}
use Rattle.core_core.proofs.Names.{unsettled_count, waiting_of, ℕ, [], ◌&&◌, ◌*◌, ◌+◌, ◌<◌, ◌^◌, ◌∙◌, ◌∷◌, ◌≡◌, ◌≢◌, ◌≤◌}
use Rattle.core_core.proofs.Listed.{listed-least, least_of_listed}
use Rattle.core_core.proofs.Entries.{entry_of, entry_of-same, entry_of-none, entry_of-some, runtime_of-set_other, IsListed-taken, is_any-from_some, some_from_is_any, none_from_is_any}
use Rattle.core_core.proofs.Settling.{may_run-free, may_run-other, held_entry_at}
use Rattle.core_core.proofs.Held.{held_none}
use Rattle.core_core.proofs.Fits.{other_fits}

-- what an entry says
entry_says : (test : Bool) (runtime value : ℕ) → cond test (Some runtime) None ≡ Some value → (test ≡ true) × (runtime ≡ value)
entry_says true runtime value is = (refl, cc)
entry_says false runtime value is = cc

none_says : (test : Bool) (runtime : ℕ) → cond test (Some runtime) None ≡ None → test ≡ false
none_says true runtime is = cc
none_says false runtime is = refl

-- a queue in which a job waits exists
pub exists_if_waiting : {J : Type 0} (queues : QueuesView J) (queue : ℕ) → is_any (waiting_of queue queues) ≡ true → queue < queue_count queues
exists_if_waiting queues queue any = elim (cases_lt queue (queue_count queues)) [
  | inl there ↦ there
  | inr past ↦ absurd (true≢false (sym any ∙ ap (λ found. is_any found.waiting) (get_or_past queues.queues queue no_queue past)))
]

module _ {J : Type 0} where
  -- what the first key says of its queue
  module _ (view : CoreView J) (keys : List Key) (key : Key) (later : List Key) (are : keys ≡ key ∷ later) (listed : IsListed view keys) where
    first_entry : entry_of view key.queue ≡ Some key.vr
    first_entry = sym (listed.at key.queue) ∙ ap (λ all. runtime_listed key.queue all) are ∙ listed-least key later

    pub first_runtime : runtime_of key.queue view ≡ key.vr
    first_runtime = (entry_says (may_run key.queue view) (runtime_of key.queue view) key.vr first_entry).1

    pub first_waits : queue_held view ≡ None → is_any (waiting_of key.queue view.queues) ≡ true
    first_waits free =
        sym (may_run-free view key.queue (is_any (waiting_of key.queue view.queues)) free refl) ∙ (entry_says (may_run key.queue view) (runtime_of key.queue view) key.vr first_entry).0

    -- its queue is next
    pub first_is_next : view.out ≡ None → view.bursts.open ≡ None → IsRising keys → IsNext view key.queue
    first_is_next free no_turn rising = record {
      free = free;
      no_turn = no_turn;
      least = λ other some.
          let is : runtime_listed other keys ≡ Some (runtime_of other view) =
          listed.at other ∙ entry_of-some view other (may_run-free view other true (held_none view free no_turn) (is_any-from_some (waiting_of other view.queues) some)) in
          let all : runtime_listed other (key ∷ later) ≡ Some (runtime_of other view) = subst (λ ks. runtime_listed other ks ≡ Some (runtime_of other view)) are is in
          subst (λ runtime. KeyAtMost runtime key.queue (runtime_of other view) other) (sym first_runtime) (least_of_listed key later other (runtime_of other view) (subst IsRising are rising) all);
    }

  -- no key is left: no job waits
  pub idle_if_no_key : (view : CoreView J) (keys : List Key) → keys ≡ [] → queue_held view ≡ None → IsListed view keys →
      (queue : ℕ) → waiting_of queue view.queues ≡ []
  idle_if_no_key view keys none free listed queue =
      let nothing : entry_of view queue ≡ None = sym (listed.at queue) ∙ ap (λ all. runtime_listed queue all) none in
      none_from_is_any (waiting_of queue view.queues)
      (sym (may_run-free view queue (is_any (waiting_of queue view.queues)) free refl) ∙ none_says (may_run queue view) (runtime_of queue view) nothing)

  -- the first job of the first queue is out
  pub IsListed-picks : (old new : CoreView J) (keys : List Key) (key : Key) (later : List Key) (tally : Tally) → keys ≡ key ∷ later → LacksQueue key.queue later →
      queue_held old ≡ None → queue_held new ≡ Some key.queue →
      ((other : ℕ) → other ≢ key.queue → waiting_of other new.queues ≡ waiting_of other old.queues) →
      new.tallies ≡ slice_set old.tallies key.queue tally → IsListed old keys → IsListed new later
  IsListed-picks old new keys key later tally are gone free is_held lines tallies listed =
      IsListed-taken old new key later gone (held_entry_at new key.queue is_held) others (subst (IsListed old) are listed)
    where
      others : (other : ℕ) → other ≢ key.queue → entry_of new other ≡ entry_of old other
      others other apart =
          entry_of-same old new other (may_run-other new old key.queue other is_held free apart (lines other apart)) (runtime_of-set_other old new key.queue other tally tallies apart)

  pub IsWithinTurns-picks : (old new : CoreView J) (held queue runtime : ℕ) (tally : Tally) → queue_held old ≡ None → queue_held new ≡ Some held → new.turns ≡ old.turns + 1 →
      new.floor ≡ max old.floor runtime → runtime ≤ old.turns * 2 ^ 50 → new.tallies ≡ slice_set old.tallies queue tally → FitsTurns (old.turns + 1) 1 tally →
      IsWithinTurns old → IsWithinTurns new
  IsWithinTurns-picks old new held queue runtime tally free is_held turns floor low tallies fits within =
      let none : unsettled_count old ≡ 0 = ap (λ (one : Option ℕ). number_if (is_some one)) free in
      let polls : unsettled_count new ≡ 1 = ap (λ (one : Option ℕ). number_if (is_some one)) is_held in
      let before : All (FitsTurns old.turns 0) old.tallies = subst (λ count. All (FitsTurns old.turns count) old.tallies) none within.tallies in
      let after : All (FitsTurns (old.turns + 1) 1) (slice_set old.tallies queue tally) =
      All-set (FitsTurns (old.turns + 1) 1) old.tallies queue tally fits (All-weaker (FitsTurns old.turns 0) (FitsTurns (old.turns + 1) 1) (other_fits old.turns) old.tallies before) in
      record {
        tallies = rw (turns, polls, tallies) after;
        floor = rw (turns, polls, floor) (omega (arith, within.floor));
      }

  -- a key is left: a job waits
  pub work_if_key : (view : CoreView J) (keys : List Key) → (keys ≡ [] → ⊥) → queue_held view ≡ None → IsListed view keys →
      (queue : ℕ) × (waiting_of queue view.queues ≡ [] → ⊥)
  work_if_key view [] some free listed = absurd (some refl)
  work_if_key view (key ∷ later) some free listed =
      (key.queue, some_from_is_any (waiting_of key.queue view.queues) (first_waits view (key ∷ later) key later refl listed free))

  -- the first job of a line is left out, and the line has one
  pub some_keys : (view : CoreView J) (keys : List Key) → queue_held view ≡ None → IsListed view keys → (queue : ℕ) × (waiting_of queue view.queues ≡ [] → ⊥) → keys ≡ [] → ⊥
  some_keys view keys free listed (queue, some) none = some (idle_if_no_key view keys none free listed queue)

-- a queue that doesn't exist isn't listed
pub nothing_past : {J : Type 0} (view : CoreView J) → entry_of view (queue_count view.queues) ≡ None
nothing_past view =
    let empty : waiting_of (queue_count view.queues) view.queues ≡ [] = ap (λ found. found.waiting) (get_or_past view.queues.queues (queue_count view.queues) no_queue (omega arith)) in
    entry_of-none view (queue_count view.queues) (ap (λ line. is_any line && not (is_number (queue_count view.queues) (queue_held view))) empty)
