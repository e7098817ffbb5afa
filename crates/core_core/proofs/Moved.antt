-- What holds inside a core as parked jobs come to the line of their queue, and as a wake is kept.
use Rattle.core_core.proofs.Names.{All, All-append, All-cons, All-head, All-map, All-set, All-tail, ap, arith, awake, Bool, cases_eq, ChangesLine, CoreView, false, FitsTurns, held_count, IfSome, inl, inr, is_any, is_number, is_some}
use Rattle.core_core.proofs.Names.{is_working, IsCore, IsPollable, IsReady, IsWithinLimits, JobId, JobOut, Key, keys_after, length, length-append, length-set, Line, List, map, Marks, may_run, Meaning, Moves, not, number_if, Option}
use Rattle.core_core.proofs.Names.{parked_of, Parks, queue_count, queue_held, queue_open, queue_out, QueuesView, refl, slice_set, slips_after, Some, subst, sym, Tally, true, unsettled_count, waiting_of, ℕ, [], ◌&&◌, ◌++◌, ◌<◌, ◌∙◌, ◌∷◌}
use Rattle.core_core.proofs.Names.{◌≡◌, ◌⊎◌}
use Rattle.core_core.proofs.Counting.{KeepsCounts-held, IsListed-same}
use Rattle.core_core.proofs.Entries.{may_run-same, entry_of-same, none_from_is_any, runtime_of-set_other, IsListed-kept, IsListed-held}
use Rattle.core_core.proofs.Held.{not_held, held_out}
use Rattle.core_core.proofs.Listed.{LacksQueue-from_none}
use Rattle.core_core.proofs.Parts.{both_false, idle_entry, IsListed-joins, IsListed-activates, IsPollable-moved, IsPollable-changed}
use Rattle.core_core.proofs.SlipsKept.{KeepsSlips-same, KeepsSlips-inserted}
use Rattle.core_core.proofs.Turning.{KeepsTurn-same, held_in_turn}

-- one in the midst of a list
pub is_any-middle : {A : Type 0} (before : List A) (one : A) (behind : List A) → is_any (before ++ one ∷ behind) ≡ true
is_any-middle [] one behind = refl
is_any-middle (first ∷ before) one behind = refl

pub All-middle : {A : Type 0} (P : A → Type 0) (before : List A) (one : A) (behind : List A) → All P (before ++ one ∷ behind) → P one × All P (before ++ behind)
All-middle P [] one behind all = (All-head P one behind all, All-tail P one behind all)
All-middle P (first ∷ before) one behind all =
    let later = All-middle P before one behind (All-tail P first (before ++ one ∷ behind) all) in
    (later.0, All-cons P first (before ++ behind) (All-head P first (before ++ one ∷ behind) all) later.1)

pub All-replaced : {A : Type 0} (P : A → Type 0) (before : List A) (one other : A) (behind : List A) → P other → All P (before ++ one ∷ behind) → All P (before ++ other ∷ behind)
All-replaced P [] one other behind is all = All-cons P other behind is (All-tail P one behind all)
All-replaced P (first ∷ before) one other behind is all =
    All-cons P first (before ++ other ∷ behind) (All-head P first (before ++ one ∷ behind) all) (All-replaced P before one other behind is (All-tail P first (before ++ one ∷ behind) all))

-- a line may be polled, and so may it with the parked jobs behind it
pub ready_unparked : {J T : Type 0} (meaning : Meaning J T) (view : CoreView J) (queue : ℕ) → IsPollable meaning view →
    All (λ waiting. IsReady meaning waiting.2) (waiting_of queue view.queues ++ map awake (parked_of queue view.queues))
ready_unparked meaning view queue pollable =
    All-append (λ waiting. IsReady meaning waiting.2) (waiting_of queue view.queues) (map awake (parked_of queue view.queues)) (pollable.at queue)
    (All-map (λ waiting. IsReady meaning waiting.2) awake (parked_of queue view.queues) (pollable.parked queue))

module _ {J T : Type 0} (meaning : Meaning J T) (old : CoreView J) (queues : QueuesView J) (slips : List Bool) (keys : List Key) (inside room places : ℕ) (core : IsCore meaning old slips keys inside room places) where
  -- parked jobs come to the line of a queue that has work
  pub IsCore-joined : (queue : ℕ) (line : Line J) (parks : Parks J) → Moves old.queues queues queue line parks → IsWithinLimits queues → All (λ waiting. IsReady meaning waiting.2) line → All (λ parked. IsReady meaning parked.1) parks →
      (is_any (waiting_of queue old.queues) ≡ true → is_any line ≡ true) → is_working queue old ≡ true → IsCore meaning (record old { queues = queues }) slips keys inside room places
  IsCore-joined queue line parks moves limits waits rests grows work =
      let new : CoreView J = record old { queues = queues } in
      record {
        counted = KeepsCounts-held old new inside room places moves.same_held moves.same_count moves.same_room limits refl refl core.counted.out refl refl core.counted;
        listed = IsListed-joins old new keys queue moves.others (λ some. ap is_any moves.waits ∙ grows some) refl refl work core.listed;
        slipped = KeepsSlips-same (queue_count old.queues) (queue_count queues) slips slips keys moves.same_count refl core.slipped;
        pollable = IsPollable-moved meaning old new queue line parks moves waits rests core.pollable;
        turns = record { tallies = core.turns.tallies; floor = core.turns.floor };
        turning = KeepsTurn-same old new refl refl (omega (arith, moves.same_count)) core.turning;
      }

  -- they come to one without work, which is placed: it is listed, unless its turn is open
  pub IsCore-activated : (key : Key) (tally : Tally) (line : Line J) (parks : Parks J) → Moves old.queues queues key.queue line parks → IsWithinLimits queues → All (λ waiting. IsReady meaning waiting.2) line → All (λ parked. IsReady meaning parked.1) parks →
      is_any line ≡ true → is_working key.queue old ≡ false → key.queue < queue_count old.queues → tally.runtime ≡ key.vr → FitsTurns old.turns (unsettled_count old) tally → (in_turn : Bool) → is_number key.queue (queue_open old.bursts.open) ≡ in_turn →
      IsCore meaning (record old { queues = queues; tallies = slice_set old.tallies key.queue tally }) (slips_after (not in_turn) key.queue slips) (keys_after (not in_turn) key.vr key.queue keys) inside room places
  IsCore-activated key tally line parks moves limits waits rests some idle exists runtime fits in_turn is = by_turn in_turn is
    where
      new : CoreView J
      new = record old { queues = queues; tallies = slice_set old.tallies key.queue tally }

      within : key.queue < length old.tallies
      within = omega (arith, core.counted.tallies, exists)

      parts : (is_any (waiting_of key.queue old.queues) ≡ false) × (is_number key.queue (queue_out old.out) ≡ false)
      parts = both_false (is_any (waiting_of key.queue old.queues)) (is_number key.queue (queue_out old.out)) idle

      by_turn : (in_turn : Bool) → is_number key.queue (queue_open old.bursts.open) ≡ in_turn → IsCore meaning new (slips_after (not in_turn) key.queue slips) (keys_after (not in_turn) key.vr key.queue keys) inside room places
      by_turn true here = record {
        counted = KeepsCounts-held old new inside room places moves.same_held moves.same_count moves.same_room limits refl refl core.counted.out (length-set old.tallies key.queue tally) refl core.counted;
        listed = IsListed-held old new keys key.queue (held_in_turn old key.queue core.turning parts.1 here) refl moves.others (λ other apart. runtime_of-set_other old new key.queue other tally refl apart) core.listed;
        slipped = KeepsSlips-same (queue_count old.queues) (queue_count queues) slips slips keys moves.same_count refl core.slipped;
        pollable = IsPollable-moved meaning old new key.queue line parks moves waits rests core.pollable;
        turns = record { tallies = All-set (FitsTurns old.turns (unsettled_count old)) old.tallies key.queue tally fits core.turns.tallies; floor = core.turns.floor };
        turning = KeepsTurn-same old new refl refl (omega (arith, moves.same_count)) core.turning;
      }
      by_turn false apart =
          let lacks = LacksQueue-from_none key.queue keys (core.listed.at key.queue ∙ idle_entry old key.queue idle) in
          record {
            counted = KeepsCounts-held old new inside room places moves.same_held moves.same_count moves.same_room limits refl refl core.counted.out (length-set old.tallies key.queue tally) refl core.counted;
            listed = IsListed-activates old new keys key tally moves.others (ap is_any moves.waits ∙ some) refl refl within runtime idle (not_held key.queue old.out old.bursts.open parts.1 apart) core.listed;
            slipped = KeepsSlips-inserted (queue_count queues) slips keys key (omega (arith, exists, moves.same_count)) lacks (KeepsSlips-same (queue_count old.queues) (queue_count queues) slips slips keys moves.same_count refl core.slipped);
            pollable = IsPollable-moved meaning old new key.queue line parks moves waits rests core.pollable;
            turns = record { tallies = All-set (FitsTurns old.turns (unsettled_count old)) old.tallies key.queue tally fits core.turns.tallies; floor = core.turns.floor };
            turning = KeepsTurn-same old new refl refl (omega (arith, moves.same_count)) core.turning;
          }

  -- none was there
  pub IsCore-still : (queue : ℕ) (line : Line J) (parks : Parks J) → Moves old.queues queues queue line parks → IsWithinLimits queues → All (λ waiting. IsReady meaning waiting.2) line → All (λ parked. IsReady meaning parked.1) parks →
      waiting_of queue queues ≡ [] → is_working queue old ≡ false → IsCore meaning (record old { queues = queues }) slips keys inside room places
  IsCore-still queue line parks moves limits waits rests none idle =
      let new : CoreView J = record old { queues = queues } in
      record {
        counted = KeepsCounts-held old new inside room places moves.same_held moves.same_count moves.same_room limits refl refl core.counted.out refl refl core.counted;
        listed = IsListed-same old new keys (λ other. same other (cases_eq other queue)) refl (λ other. refl) core.listed;
        slipped = KeepsSlips-same (queue_count old.queues) (queue_count queues) slips slips keys moves.same_count refl core.slipped;
        pollable = IsPollable-moved meaning old new queue line parks moves waits rests core.pollable;
        turns = record { tallies = core.turns.tallies; floor = core.turns.floor };
        turning = KeepsTurn-same old new refl refl (omega (arith, moves.same_count)) core.turning;
      }
    where
      same : (other : ℕ) → (other ≡ queue) ⊎ (other ≡ queue → ⊥) → waiting_of other queues ≡ waiting_of other old.queues
      same other (inl is) =
          let before = none_from_is_any (waiting_of queue old.queues) (both_false (is_any (waiting_of queue old.queues)) (is_number queue (queue_out old.out)) idle).0 in
          ap (λ number. waiting_of number queues) is ∙ none ∙ sym before ∙ ap (λ number. waiting_of number old.queues) (sym is)
      same other (inr apart) = moves.others other apart

  -- the wake of a job that waits is kept
  pub IsCore-kept : (queue : ℕ) (name : JobId) (marks : Marks) (job : J) (before behind : Line J) → waiting_of queue old.queues ≡ before ++ (name, marks, job) ∷ behind →
      ChangesLine old.queues queues queue (before ++ (name, record marks { woken = true }, job) ∷ behind) → IsWithinLimits queues → IsCore meaning (record old { queues = queues }) slips keys inside room places
  IsCore-kept queue name marks job before behind was changes limits =
      let new : CoreView J = record old { queues = queues } in
      let one : JobId × Marks × J = (name, marks, job) in
      let other : JobId × Marks × J = (name, record marks { woken = true }, job) in
      let all : All (λ waiting. IsReady meaning waiting.2) (before ++ one ∷ behind) = subst (λ (line : Line J). All (λ waiting. IsReady meaning waiting.2) line) was (core.pollable.at queue) in
      let ready = All-replaced (λ waiting. IsReady meaning waiting.2) before one other behind (All-middle (λ waiting. IsReady meaning waiting.2) before one behind all).0 all in
      let held : held_count queues ≡ held_count old.queues = omega (arith, changes.held, ap length was, length-append before (one ∷ behind), length-append before (other ∷ behind)) in
      record {
        counted = KeepsCounts-held old new inside room places held changes.same_count changes.same_room limits refl refl core.counted.out refl refl core.counted;
        listed = IsListed-kept old new keys (λ at. entry_of-same old new at (same at (cases_eq at queue)) refl) core.listed;
        slipped = KeepsSlips-same (queue_count old.queues) (queue_count queues) slips slips keys changes.same_count refl core.slipped;
        pollable = IsPollable-changed meaning old new queue (before ++ other ∷ behind) changes ready core.pollable;
        turns = record { tallies = core.turns.tallies; floor = core.turns.floor };
        turning = KeepsTurn-same old new refl refl (omega (arith, changes.same_count)) core.turning;
      }
    where
      same : (at : ℕ) → (at ≡ queue) ⊎ (at ≡ queue → ⊥) → may_run at (record old { queues = queues }) ≡ may_run at old
      same at (inr apart) = may_run-same old (record old { queues = queues }) at (changes.others at apart) refl
      same at (inl is) =
          let after : is_any (waiting_of queue queues) ≡ true = ap is_any changes.changed ∙ is_any-middle before (name, record marks { woken = true }, job) behind in
          let first : is_any (waiting_of queue old.queues) ≡ true = ap is_any was ∙ is_any-middle before (name, marks, job) behind in
          ap (λ number. is_any (waiting_of number queues) && not (is_number number (queue_held old))) is ∙ ap (λ test. test && not (is_number queue (queue_held old))) (after ∙ sym first)
          ∙ ap (λ number. is_any (waiting_of number old.queues) && not (is_number number (queue_held old))) (sym is)

module _ {J T : Type 0} (meaning : Meaning J T) where
  -- the wake of the job that is out is kept
  pub IsCore-out_woken : (old : CoreView J) (out : JobOut J) (slips : List Bool) (keys : List Key) (inside room places : ℕ) → IsCore meaning old slips keys inside room places → old.out ≡ Some out →
      IsCore meaning (record old { out = Some (record out { woken = true }) }) slips keys inside room places
  IsCore-out_woken old out slips keys inside room places core is =
      let new : CoreView J = record old { out = Some (record out { woken = true }) } in
      let held : queue_held old ≡ Some out.queue = held_out old out is in
      let polls : unsettled_count old ≡ 1 = ap (λ (one : Option ℕ). number_if (is_some one)) held in
      record {
        counted = KeepsCounts-held old new inside room places refl refl refl core.counted.limits refl (sym (ap (λ (held : Option (JobOut J)). is_some held) is))
            (subst (λ (held : Option (JobOut J)). IfSome held (λ job. job.queue < queue_count old.queues)) is core.counted.out) refl refl core.counted;
        listed = IsListed-kept old new keys
            (λ queue. entry_of-same old new queue (ap (λ (one : Option ℕ). is_any (waiting_of queue old.queues) && not (is_number queue one)) (sym held)) refl) core.listed;
        slipped = core.slipped;
        pollable = record { at = core.pollable.at; parked = core.pollable.parked };
        turns = record {
          tallies = subst (λ count. All (FitsTurns old.turns count) old.tallies) polls core.turns.tallies;
          floor = omega (arith, core.turns.floor, polls);
        };
        turning = record {
          single = core.turning.single;
          polled = λ has. subst (λ (one : Option (JobOut J)). IfSome one (λ job. queue_open old.bursts.open ≡ Some job.queue)) is (core.turning.polled has);
          exists = core.turning.exists;
        };
      }
