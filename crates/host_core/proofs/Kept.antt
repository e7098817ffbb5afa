-- What a call leaves of the job that the host runs, and of the room for settling it.
use Rattle.std.proofs.Common.{◌≡◌, ℕ, ◌+◌, ◌≤◌, length, refl, sym, ◌∙◌, ap, subst, arith}
use Rattle.std.specs.Prelude.{Bool, true, false, Option, Some, None, is_some, Result, Ok, Err}
use Rattle.base_words.specs.declared.names.JobId.{JobId}
use Rattle.base_words.specs.Work.{number_if}
use Rattle.base_words.specs.declared.order.Mode.{Mode}
use Rattle.base_words.specs.Journal.{Journal}
use Rattle.core_core.specs.State.{JobOut}
use Rattle.core_queues.specs.declared.queues.CreateError.{CreateError}
use Rattle.core_queues.specs.declared.queues.CreateError.TheVariants.{Memory, TooMany}
use Rattle.link_ends.specs.declared.ends.Inward.{Inward}
use Rattle.note_journal.specs.Journals.{JournalView}
use Rattle.actor_core.specs.Ends.{IsSameSeat}
use Rattle.actor_core.specs.Recorded.{IsRecorded, RecordedView}
use Rattle.actor_core.specs.Steps.{ClosesItself, CreatesQueue, Delivers, out_told}
use Rattle.actor_seat.specs.Seats.{IsSeated}
use Rattle.host_core.specs.declared.job.HostJob.{HostJob}
use Rattle.host_core.specs.declared.turns.Run.{Run}
use Rattle.host_core.specs.Hosted.{HasRoom, HostedView, IsHosted, IsRunOf}
use Rattle.host_core.specs.Jobs.{host_meaning}

abbrev View : Type 0
View = RecordedView HostJob ℕ

abbrev Out : Type 0
Out = Option (JobOut HostJob)

-- the job that the host runs is the same one, and is out as before
pub record KeepsRun (old new : Out) : Type 0 where
  pub runs : (run : Option Run) → IsRunOf old run → IsRunOf new run
  pub out : is_some new ≡ is_some old

pub same_run : (old new : Out) → new ≡ old → KeepsRun old new
same_run old new same = record { runs = λ run is. subst (λ out. IsRunOf out run) (sym same) is; out = ap (λ out. is_some out) same }

told_runs : (notes : Journal ℕ) (out : Out) (run : Option Run) → IsRunOf out run → IsRunOf (out_told notes out) run
told_runs notes None None is = tt
told_runs notes None (Some run) is = absurd is
told_runs notes (Some out) None is = absurd is
told_runs notes (Some out) (Some run) is = is

told_out : (notes : Journal ℕ) (out : Out) → is_some (out_told notes out) ≡ is_some out
told_out notes None = refl
told_out notes (Some out) = refl

pub delivered_run : (old new : View) (before after : Inward HostJob ℕ) (found : Bool) → Delivers old before new after found → KeepsRun old.core.out new.core.out
delivered_run old new before after true does = record {
  runs = λ run is. subst (λ out. IsRunOf out run) (sym does.2.out) (told_runs new.journal.notes old.core.out run is);
  out = ap (λ out. is_some out) does.2.out ∙ told_out new.journal.notes old.core.out;
}
delivered_run old new before after false does = same_run old.core.out new.core.out (ap (λ (view : View). view.core.out) does.1)

pub closed_run : (old new : View) (mode : Mode) (closed : Bool) → ClosesItself old mode closed new → KeepsRun old.core.out new.core.out
closed_run old new mode true does = same_run old.core.out new.core.out does.2
closed_run old new mode false does = same_run old.core.out new.core.out (ap (λ (view : View). view.core.out) does.1)

pub created_run : (weight : ℕ) (old new : View) (made : Result ℕ CreateError) → CreatesQueue weight old made new → KeepsRun old.core.out new.core.out
created_run weight old new (Ok queue) does = same_run old.core.out new.core.out does.3
created_run weight old new (Err TooMany) does = same_run old.core.out new.core.out (ap (λ (view : View). view.core.out) does.1)
created_run weight old new (Err Memory) does = same_run old.core.out new.core.out (ap (λ (view : View). view.core.out) does.1)

pub created_few : (weight : ℕ) (old new : View) (made : Result ℕ CreateError) → CreatesQueue weight old made new → length new.journal.notes ≤ length old.journal.notes + 1
created_few weight old new (Ok queue) does = let longer = ap (λ (journal : JournalView ℕ). length journal.notes) does.2 in omega (arith, longer)
created_few weight old new (Err TooMany) does = let same = ap (λ (view : View). length view.journal.notes) does.1 in omega (arith, same)
created_few weight old new (Err Memory) does = let same = ap (λ (view : View). length view.journal.notes) does.1 in omega (arith, same)

pub rest_run : (old new : View) → new ≡ record old { journal = new.journal; lanes = new.lanes } → KeepsRun old.core.out new.core.out
rest_run old new rest = same_run old.core.out new.core.out (ap (λ (view : View). view.core.out) rest)

-- behind a call that took no more notes than there was room for, there is room for the settling
room_after : (count : ℕ) (old new : View) → HasRoom count old → length new.journal.notes ≤ length old.journal.notes + count → KeepsRun old.core.out new.core.out → IsSameSeat old new → HasRoom 0 new
room_after count old new room few keeps seat =
    let kept : number_if (is_some new.core.out) ≡ number_if (is_some old.core.out) = ap (λ out. number_if out) keeps.out in
    omega (arith, room, few, kept, seat.room)

-- what a call that took so many notes at most left of a core and its ends
pub record Leaves (count : ℕ) (old new : HostedView) : Type 0 where
  pub seated : IsSeated host_meaning new
  pub room : HasRoom count old.recorded
  pub few : length new.recorded.journal.notes ≤ length old.recorded.journal.notes + count
  pub keeps : KeepsRun old.recorded.core.out new.recorded.core.out
  pub seat : IsSameSeat old.recorded new.recorded

module _ {count : ℕ} {old new : HostedView} (leaves : Leaves count old new) where
  pub hosted_after : IsHosted new
  hosted_after = record { recorded = leaves.seated.recorded; beside = leaves.seated.beside; room = room_after count old.recorded new.recorded leaves.room leaves.few leaves.keeps leaves.seat }

  -- with them the job that the host runs, the count of cores, and what was passed on
  pub holds_after : (run : Option Run) {cores : ℕ} {passed : Journal ℕ} → IsRunOf old.recorded.core.out run → cores ≡ old.recorded.core.cores → passed ≡ old.recorded.journal.passed →
      IsHosted new × IsRunOf new.recorded.core.out run × (cores ≡ new.recorded.core.cores) × (passed ≡ new.recorded.journal.passed)
  holds_after run runs counts had = (hosted_after, leaves.keeps.runs run runs, counts ∙ sym leaves.seat.cores, had ∙ sym leaves.seat.passed)

-- the sender of the job that the host runs is there
pub run_known : (view : View) (run : Option Run) (one : Run) → IsRecorded host_meaning view → IsRunOf view.core.out run → run ≡ Some one → one.name.from ≤ view.core.cores
run_known view run one sound is same = by_out view.core.out refl (subst (λ run. IsRunOf view.core.out run) same is)
  where
    by_out : (out : Out) → view.core.out ≡ out → IsRunOf out (Some one) → one.name.from ≤ view.core.cores
    by_out None here is = absurd is
    by_out (Some out) here is = subst (λ (name : JobId). name.from ≤ view.core.cores) is.0 (let task = sound.out out here in (sound.taken out.name _ task.task).sender)
