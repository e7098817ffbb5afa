-- Rounds of a worker, one after another, as its states show them.
use Rattle.run_worker.proofs.Names.{ap, BellView, Bool, CountsIdle, GoesOn, HandsOnWhere, IsBellOf, IsDue, IsDueAtRest, JobId, KeepsTries, LinkedView, List, LooksAtAll, MakesRound, Meaning, nat_lt, not, refl, Rests, round_of, served_of, ShownView, subst, Timers}
use Rattle.run_worker.proofs.Names.{sym, WorkerView, ℕ, ◌∙◌, ◌≡◌}
use Rattle.std.proofs.Common.{Option, true, false}
use Rattle.note_journal.specs.declared.sink.Sink as taking
use Rattle.std.specs.Prelude.{if◌then◌else◌}

not_not : (told : Bool) → not (not told) ≡ told
not_not true = refl
not_not false = refl

-- a worker, put together
abbrev pub worker_of : {J T C G S : Type 0} → LinkedView J T → Bool → Timers → C → G → Option ℕ → ℕ → ℕ → ℕ → ℕ → List ℕ → S → ShownView T → ℕ → WorkerView J T C G S
worker_of linked ending timers clock gate last taken turns tries idle bells sink shown since =
    record { linked = linked; ending = ending; timers = timers; clock = clock; gate = gate; last = last; taken = taken; turns = turns; tries = tries; idle = idle; bells = bells; sink = sink; shown = shown; since = since }

module _ {J C G S : Type 0} (meaning : Meaning J ℕ) (sleeps : J → Option ℕ) (reads : C → ℕ → C → Type 0) (asked : G → ℕ → JobId → G → Type 0) (takes : taking.Ghosts S) (old ready inside new : WorkerView J ℕ C G S) (seen : inside ≡ ready) where
  -- notes are passed on, then a round is made, and it is counted
  pub goes : (some again : Bool) → HandsOnWhere takes (IsDue (served_of old)) old ready → MakesRound meaning sleeps reads asked (nat_lt 0 inside.idle) (round_of inside) some (round_of new) →
      CountsIdle inside.tries some inside.idle again new.idle → KeepsTries inside new → GoesOn meaning sleeps reads asked takes old again new
  goes some again hands makes counts keeps = record {
    ready = inside;
    hands = subst (HandsOnWhere takes (IsDue (served_of old)) old) (sym seen) hands;
    some = some;
    makes = makes;
    counts = counts;
    keeps = keeps;
  }

  -- notes are passed on, and then there is a look
  pub rests : (found none : Bool) → none ≡ not found → HandsOnWhere takes (IsDueAtRest (served_of old)) old ready → LooksAtAll meaning sleeps reads asked (round_of inside) (not none) (round_of new) →
      new.idle ≡ (if found then 0 else inside.idle) → KeepsTries inside new → Rests meaning sleeps reads asked takes old found new
  rests found none is hands looks counts keeps = record {
    ready = inside;
    hands = subst (HandsOnWhere takes (IsDueAtRest (served_of old)) old) (sym seen) hands;
    looks = subst (λ found. LooksAtAll meaning sleeps reads asked (round_of inside) found (round_of new)) (ap not is ∙ not_not found) looks;
    counts = counts;
    keeps = keeps;
  }

-- the bell of a worker stays its own
pub bell_still : (core later : ℕ) (names after : List ℕ) (bell : BellView) → later ≡ core → after ≡ names → IsBellOf core names bell → IsBellOf later after bell
bell_still core later names after bell same_core same_names is =
    subst (λ core. IsBellOf core after bell) (sym same_core) (subst (λ names. IsBellOf core names bell) (sym same_names) is)
