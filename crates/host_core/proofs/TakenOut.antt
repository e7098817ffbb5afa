-- Which job the host runs behind a turn, and that its run can be settled.
use Rattle.std.proofs.Common.{◌≡◌, ℕ, ◌+◌, ◌≤◌, inl, inr, length, refl, sym, ◌∙◌, ap, subst, arith}
use Rattle.std.specs.Prelude.{Bool, false, Option, Some, None, is_some, Result, Ok, Err, OnErr}
use Rattle.base_words.specs.declared.names.JobId.{JobId}
use Rattle.base_words.specs.Journal.{Journal}
use Rattle.base_words.specs.Work.{number_if}
use Rattle.core_core.specs.declared.turn.Settled.{Settled}
use Rattle.core_core.specs.declared.turn.Turn.TheVariants.{Start, Resume, Back, Idle}
use Rattle.core_core.specs.declared.turn.PickError.TheVariants.{Busy, Spent}
use Rattle.actor_seat.specs.declared.seat.Taken.TheVariants as taken
use Rattle.host_core.specs.declared.answers.Picked.{Picked}
use Rattle.host_core.specs.declared.answers.Refusal.{Refusal}
use Rattle.core_core.specs.Answers.{IsReadyTurn}
use Rattle.base_jobs.specs.Steps.{AfterPoll}
use Rattle.note_journal.specs.Journals.{JournalView}
use Rattle.actor_core.specs.Recorded.{RecordedView}
use Rattle.actor_core.specs.Turns.{Settles}
use Rattle.actor_seat.specs.Linked.{StaysLinked}
use Rattle.actor_seat.specs.Seats.{IsSeated, taken_of}
use Rattle.host_core.specs.declared.job.HostJob.{HostJob}
use Rattle.host_core.specs.Hosted.{HasRoom, HostedView, IsHosted, IsRunOf}
use Rattle.host_core.specs.Jobs.{host_meaning}
use Rattle.host_core.specs.Takings.{Taking, run_of, told_taking}
use Rattle.host_core.specs.Turns.{EndsIfOpen, TakesOut, Turned, TurnsTo}
use Rattle.host_core.proofs.Turned.{few_turn}

abbrev View : Type 0
View = RecordedView HostJob ℕ

-- what is out once no turn is open is what was out
over_rest : (old over : View) → EndsIfOpen old over → old.core.out ≡ None → over.core.out ≡ None
over_rest old over (inl none) rest = ap (λ (view : View). view.core.out) none.1 ∙ rest
over_rest old over (inr ends) rest = ends.1.out

-- the job that went out is the one that the host runs
left_runs : (new : View) (name : JobId) (queue : ℕ) (woken : Bool) (job : HostJob) → new.core.out ≡ Some (record { name = name; queue = queue; woken = woken; job = job }) → job.ended ≡ false → IsRunOf new.core.out (Some (record { name = name; job = job }))
left_runs new name queue woken job out unended = subst (λ out. IsRunOf out (Some (record { name = name; job = job }))) (sym out) (refl, refl, unended)

-- nobody is out behind a turn that hands a job back, or finds none
none_runs : (new : View) → new.core.out ≡ None → IsRunOf new.core.out None
none_runs new none = subst (λ out. IsRunOf out None) (sym none) tt

same_runs : (old over new : View) → EndsIfOpen old over → old.core.out ≡ None → new ≡ over → IsRunOf new.core.out None
same_runs old over new ended rest same = none_runs new (ap (λ (view : View). view.core.out) same ∙ over_rest old over ended rest)

runs_behind : (old new : View) (turned : Turned) → TurnsTo old turned new → IsReadyTurn host_meaning turned → old.core.out ≡ None → IsRunOf new.core.out (run_of (taken_of turned))
runs_behind old new (Ok (Start name queue job)) (inl goes) ready rest = left_runs new name queue _ job goes.out ready.0
runs_behind old new (Ok (Start name queue job)) (inr picks) ready rest = left_runs new name queue _ job picks.2.out ready.0
runs_behind old new (Ok (Resume name queue job)) (inl goes) ready rest = left_runs new name queue _ job goes.out ready.0
runs_behind old new (Ok (Resume name queue job)) (inr picks) ready rest = left_runs new name queue _ job picks.2.out ready.0
runs_behind old new (Ok (Back name order reason)) (inl goes) ready rest = absurd goes
runs_behind old new (Ok (Back name order reason)) (inr picks) ready rest = none_runs new picks.2.out
runs_behind old new (Ok Idle) (inl goes) ready rest = absurd goes
runs_behind old new (Ok Idle) (inr picks) ready rest = same_runs old picks.0 new picks.1 rest picks.2.1
runs_behind old new (Err Busy) (inl goes) ready rest = absurd goes
runs_behind old new (Err Busy) (inr picks) ready rest = same_runs old picks.0 new picks.1 rest picks.2.1
runs_behind old new (Err Spent) (inl goes) ready rest = absurd goes
runs_behind old new (Err Spent) (inr picks) ready rest = same_runs old picks.0 new picks.1 rest picks.2.2

-- there is room for the settling of a job that is out
one_at_most : {A : Type 0} (out : Option A) → number_if (is_some out) ≤ 1
one_at_most None = omega arith
one_at_most (Some out) = omega arith

module _ {old new : HostedView} {out : Taking} (took : TakesOut old out new) where
  pub turn_runs : old.recorded.core.out ≡ None → IsRunOf new.recorded.core.out (run_of out)
  turn_runs rest = subst (λ out. IsRunOf new.recorded.core.out (run_of out)) (sym took.out_is) (runs_behind old.recorded new.recorded took.turned took.turns took.ready rest)

  pub turn_hosted : length old.recorded.journal.notes + 4 ≤ old.recorded.journal.room → IsHosted new
  turn_hosted room = record {
    recorded = took.seated.recorded;
    beside = took.seated.beside;
    room = let few = few_turn old.recorded new.recorded took.turned took.turns in let one = one_at_most new.recorded.core.out in omega (arith, few, one, room, took.stays.seat.room);
  }

-- nobody is out behind a settled run, so its room is free again
module _ {old new : HostedView} {ran : AfterPoll HostJob ℕ} {spent : ℕ} {settled : Settled ℕ} (settles : Settles host_meaning old.recorded ran spent settled new.recorded) (stays : StaysLinked old new) (seated : IsSeated host_meaning new) where
  settled_room : HasRoom 0 old.recorded → HasRoom 0 new.recorded
  settled_room room =
      let longer : length new.recorded.journal.notes ≡ length old.recorded.journal.notes + 1 = ap (λ (journal : JournalView ℕ). length journal.notes) settles.journal ∙ omega arith in
      let one : number_if (is_some old.recorded.core.out) ≡ 1 = ap (λ out. number_if (is_some out)) settles.was_out in
      let none : number_if (is_some new.recorded.core.out) ≡ 0 = ap (λ out. number_if (is_some out)) settles.out_now in
      omega (arith, longer, one, none, room, stays.seat.room)

  pub settled_hosted : IsHosted old → IsHosted new
  settled_hosted hosted = record { recorded = seated.recorded; beside = seated.beside; room = settled_room hosted.room }

  -- with it the count of cores, and what was passed on
  pub settled_holds : {cores : ℕ} {passed : Journal ℕ} → IsHosted old → cores ≡ old.recorded.core.cores → passed ≡ old.recorded.journal.passed →
      IsHosted new × IsRunOf new.recorded.core.out None × (cores ≡ new.recorded.core.cores) × (passed ≡ new.recorded.journal.passed)
  settled_holds hosted counts had = (settled_hosted hosted, none_runs new.recorded settles.out_now, counts ∙ sym stays.seat.cores, had ∙ sym stays.seat.passed)

-- what is so where no turn is left, is so where the host is told of none
refusal_left : (P : Type 0) (out : Taking) → OnErr out P → OnErr (told_taking out) P
refusal_left P (Ok (taken.Start name queue job)) holds = tt
refusal_left P (Ok (taken.Resume name queue job)) holds = tt
refusal_left P (Ok (taken.Back name reason)) holds = tt
refusal_left P (Ok taken.Idle) holds = tt
refusal_left P (Err Busy) holds = holds
refusal_left P (Err Spent) holds = holds

pub refusal_told : (P : Type 0) (out : Taking) (told : Result Picked Refusal) → told ≡ told_taking out → OnErr out P → OnErr told P
refusal_told P out told is holds = subst (λ told. OnErr told P) (sym is) (refusal_left P out holds)
