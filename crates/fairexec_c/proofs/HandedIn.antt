-- What a delivery leaves of a core as it was, beside the count of its sender.
use Rattle.std.proofs.Common.{◌≡◌, ◌∙◌, ℕ, ◌+◌, List, Option, ap, subst}
use Rattle.std.specs.Prelude.{◌==◌, true, false, Some, slice_set}
use Rattle.base_words.specs.declared.names.JobId.{JobId}
use Rattle.base_words.specs.declared.note.Note.{Note}
use Rattle.base_words.specs.declared.order.Answer.{Answer}
use Rattle.base_words.specs.declared.order.Answer.TheVariants as answers
use Rattle.base_words.specs.declared.order.Mode.{Mode}
use Rattle.base_words.specs.declared.order.Order.{Order}
use Rattle.base_words.specs.declared.order.Order.TheVariants.{Job, Create, SetShares, Close, CloseCore, Wake}
use Rattle.base_words.specs.Commands.{job_at}
use Rattle.base_words.specs.Parks.{is_return}
use Rattle.core_core.specs.State.{CoreView}
use Rattle.core_core.specs.Closing.{HasClosed, ClosesQueue, EndsParksIf}
use Rattle.core_core.specs.Deliveries.{Delivers, Enters, Creates, Weighs, counted}
use Rattle.core_core.specs.declared.delivery.Delivered.{Delivered}
use Rattle.core_core.specs.declared.delivery.Delivered.TheVariants.{Took, Back, Answered}
use Rattle.host_core.specs.declared.job.HostJob.{HostJob}
use Rattle.host_core.specs.declared.turns.Run.{Run}
use Rattle.fairexec_c.specs.Hosting.{IsHosted}
use Rattle.fairexec_c.proofs.Kept.{KeepsHost, kept, keeps_same, keeps_then, keeps_ends, keeps_wakes}

-- a queue is closed
keeps_closed : {old new : CoreView HostJob} (queue : ℕ) (mode : Mode) → HasClosed old queue mode new → KeepsHost old new
keeps_closed queue mode done =
    kept (ap (λ (view : CoreView HostJob). view.cores) done.rest) (ap (λ (view : CoreView HostJob). view.delivered) done.rest) done.closed.same_room
    (ap (λ (view : CoreView HostJob). view.out) done.rest) (ap (λ (view : CoreView HostJob). view.bursts) done.rest)

-- an order to close a queue, by its answer
keeps_closing : (old new : CoreView HostJob) (queue : ℕ) (mode : Mode) (answer : Answer) (written : List (Note ℕ)) → ClosesQueue old queue mode answer new written → KeepsHost old new
keeps_closing old new queue mode answers.NoQueue written is = keeps_same is.1
keeps_closing old new queue mode answers.AlreadyClosed written is = keeps_same is.2
keeps_closing old new queue mode answers.Closed written is =
    keeps_then {between = is.1.0} (keeps_closed queue mode is.1.1) (keeps_ends is.1.0 new (λ other. queue == other) (is_return mode) is.1.2)
keeps_closing old new queue mode other written is = absurd is

-- the core once an order is counted
abbrev pub over : CoreView HostJob → JobId → CoreView HostJob
over old name = record old { delivered = counted name old }

module _ (old : CoreView HostJob) (name : JobId) (new : CoreView HostJob) where
  keeps_entered : (queue : ℕ) (job : HostJob) → Enters old name queue job new → KeepsHost (over old name) new
  keeps_entered queue job done =
      kept (ap (λ (view : CoreView HostJob). view.cores) done.rest) (ap (λ (view : CoreView HostJob). view.delivered) done.rest) done.line.same_room
      (ap (λ (view : CoreView HostJob). view.out) done.rest) (ap (λ (view : CoreView HostJob). view.bursts) done.rest)

  keeps_made : (weight : ℕ) → Creates old weight new → new.delivered ≡ counted name old → KeepsHost (over old name) new
  keeps_made weight done delivered =
      kept (ap (λ (view : CoreView HostJob). view.cores) done.rest) delivered done.added.same_room (ap (λ (view : CoreView HostJob). view.out) done.rest) (ap (λ (view : CoreView HostJob). view.bursts) done.rest)

  keeps_weighed : (queue weight : ℕ) → Weighs old queue weight new → new.delivered ≡ counted name old → KeepsHost (over old name) new
  keeps_weighed queue weight done delivered =
      kept (ap (λ (view : CoreView HostJob). view.cores) done.rest) delivered done.shares.same_room (ap (λ (view : CoreView HostJob). view.out) done.rest) (ap (λ (view : CoreView HostJob). view.bursts) done.rest)

  keeps_closed_core : (mode : Mode) → EndsParksIf (is_return mode) (record (over old name) { mode = Some mode }) (λ queue. true) new → KeepsHost (over old name) new
  keeps_closed_core mode ends =
      let ended : KeepsHost (record (over old name) { mode = Some mode }) new = keeps_ends (record (over old name) { mode = Some mode }) new (λ queue. true) (is_return mode) ends in
      record { cores = ended.cores; delivered = ended.delivered; room = ended.room; bursts = ended.bursts; run = ended.run }

  -- the core is as it was with the order counted, except in what the order changes inside
  pub keeps_delivery : (order : Order HostJob) (delivered : Delivered HostJob) (written : List (Note ℕ)) → Delivers old name order delivered new written → KeepsHost (over old name) new
  keeps_delivery (Job queue job) Took written is = keeps_entered queue job is.1
  keeps_delivery (Job queue job) (Back reason order) written is = keeps_same is.2
  keeps_delivery (Create weight) (Answered (answers.Created queue)) written is = keeps_made weight is.1 is.2
  keeps_delivery (Create weight) (Answered answers.CoreClosing) written is = keeps_same is.1
  keeps_delivery (Create weight) (Answered answers.TooMany) written is = keeps_same is.2
  keeps_delivery (Create weight) (Answered answers.NoMemory) written is = keeps_same is.2
  keeps_delivery (SetShares queue weight) (Answered answers.SharesSet) written is = keeps_weighed queue weight is.0 is.1
  keeps_delivery (SetShares queue weight) (Answered answers.NoQueue) written is = keeps_same is.1
  keeps_delivery (Close queue mode) (Answered answer) written is = keeps_closing (over old name) new queue mode answer is.0 is.1
  keeps_delivery (CloseCore mode) (Answered answers.Closed) written is = keeps_closed_core mode is.1.1
  keeps_delivery (CloseCore mode) (Answered answers.AlreadyClosed) written is = keeps_same is.1.1
  keeps_delivery (Wake actor number) (Answered answers.Woken) written is = keeps_wakes (over old name) new (job_at old.core actor number) true is.0
  keeps_delivery (Wake actor number) (Answered answers.NoJob) written is = keeps_wakes (over old name) new (job_at old.core actor number) false is.0
  keeps_delivery order delivered written is = absurd is

-- the host has handed in one order more
pub hosted_then : {old new : CoreView HostJob} {sent room : ℕ} {run : Option Run} → IsHosted old sent room run
    → KeepsHost (record old { delivered = slice_set old.delivered 1 (sent + 1) }) new → IsHosted new (sent + 1) room run
hosted_then {old} {new} {sent} {room} {run} hosted keeps = record {
  cores = keeps.cores ∙ hosted.cores;
  delivered = subst (λ (counts : List ℕ). new.delivered ≡ slice_set counts 1 (sent + 1)) hosted.delivered keeps.delivered;
  roomy = keeps.room ∙ hosted.roomy;
  runs = keeps.run run hosted.runs;
  single = keeps.bursts ∙ hosted.single;
}
