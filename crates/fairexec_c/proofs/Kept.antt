-- What a wake and the end of parks leave of a core as it was: how many cores there are, what was delivered, the room, the job that the host runs, and the open turn.
use Rattle.std.proofs.Common.{◌≡◌, ◌∙◌, inl, inr, ℕ, Bool, true, false, Option, Some, None, sym, ap, subst}
use Rattle.base_words.specs.declared.names.JobId.{JobId}
use Rattle.core_core.specs.State.{CoreView, JobOut}
use Rattle.core_core.specs.Closing.{EndsParksIf}
use Rattle.core_core.specs.Waking.{KeepsOutWake, KeepsLineWake, EndsPark, WakesJob, Wakes}
use Rattle.host_core.specs.declared.job.HostJob.{HostJob}
use Rattle.host_core.specs.Hosted.{IsRunOf}
use Rattle.host_core.specs.declared.turns.Run.{Run}

pub record KeepsHost (old new : CoreView HostJob) : Type 0 where
  pub cores : new.cores ≡ old.cores
  pub delivered : new.delivered ≡ old.delivered
  pub room : new.queues.room ≡ old.queues.room
  pub bursts : new.bursts ≡ old.bursts
  pub run : (run : Option Run) → IsRunOf old.out run → IsRunOf new.out run

pub kept : {old new : CoreView HostJob} → new.cores ≡ old.cores → new.delivered ≡ old.delivered → new.queues.room ≡ old.queues.room → new.out ≡ old.out → new.bursts ≡ old.bursts → KeepsHost old new
kept cores delivered room out bursts =
    record { cores = cores; delivered = delivered; room = room; bursts = bursts; run = λ run is. subst (λ (it : Option (JobOut HostJob)). IsRunOf it run) (sym out) is }

-- nothing changed
pub keeps_same : {old new : CoreView HostJob} → new ≡ old → KeepsHost old new
keeps_same same =
    kept (ap (λ (view : CoreView HostJob). view.cores) same) (ap (λ (view : CoreView HostJob). view.delivered) same) (ap (λ (view : CoreView HostJob). view.queues.room) same)
    (ap (λ (view : CoreView HostJob). view.out) same) (ap (λ (view : CoreView HostJob). view.bursts) same)

-- one change after another
pub keeps_then : {old between new : CoreView HostJob} → KeepsHost old between → KeepsHost between new → KeepsHost old new
keeps_then first later = record {
  cores = later.cores ∙ first.cores;
  delivered = later.delivered ∙ first.delivered;
  room = later.room ∙ first.room;
  bursts = later.bursts ∙ first.bursts;
  run = λ run is. later.run run (first.run run is);
}

-- the parks of some queues end, or none
pub keeps_ends : (old new : CoreView HostJob) (ends : ℕ → Bool) (returns : Bool) → EndsParksIf returns old ends new → KeepsHost old new
keeps_ends old new ends true done =
    kept (ap (λ (view : CoreView HostJob). view.cores) done.rest) (ap (λ (view : CoreView HostJob). view.delivered) done.rest) done.same_room
    (ap (λ (view : CoreView HostJob). view.out) done.rest) (ap (λ (view : CoreView HostJob). view.bursts) done.rest)
keeps_ends old new ends false same = keeps_same same

-- a job that is out stays so, whatever its mark
run_marked : (job : JobOut HostJob) (woken : Bool) (run : Option Run) → IsRunOf (Some job) run → IsRunOf (Some (record job { woken = woken })) run
run_marked job woken None is = absurd is
run_marked job woken (Some it) is = is

keeps_out_wake : {old new : CoreView HostJob} (name : JobId) → KeepsOutWake old name new → KeepsHost old new
keeps_out_wake name keeps = record {
  cores = ap (λ (view : CoreView HostJob). view.cores) keeps.rest;
  delivered = ap (λ (view : CoreView HostJob). view.delivered) keeps.rest;
  room = ap (λ (view : CoreView HostJob). view.queues.room) keeps.rest;
  bursts = ap (λ (view : CoreView HostJob). view.bursts) keeps.rest;
  run = λ run is.
      subst (λ (it : Option (JobOut HostJob)). IsRunOf it run) (sym (ap (λ (view : CoreView HostJob). view.out) keeps.rest))
      (run_marked keeps.out true run (subst (λ (it : Option (JobOut HostJob)). IsRunOf it run) keeps.was_out is));
}

keeps_line_wake : {old new : CoreView HostJob} (name : JobId) → KeepsLineWake old name new → KeepsHost old new
keeps_line_wake name keeps =
    kept (ap (λ (view : CoreView HostJob). view.cores) keeps.rest) (ap (λ (view : CoreView HostJob). view.delivered) keeps.rest) keeps.keeps.line.same_room
    (ap (λ (view : CoreView HostJob). view.out) keeps.rest) (ap (λ (view : CoreView HostJob). view.bursts) keeps.rest)

keeps_park_end : {old new : CoreView HostJob} (name : JobId) → EndsPark old name new → KeepsHost old new
keeps_park_end name ends =
    kept (ap (λ (view : CoreView HostJob). view.cores) ends.rest) (ap (λ (view : CoreView HostJob). view.delivered) ends.rest) ends.wakes.moves.same_room
    (ap (λ (view : CoreView HostJob). view.out) ends.rest) (ap (λ (view : CoreView HostJob). view.bursts) ends.rest)

keeps_woken : {old new : CoreView HostJob} (name : JobId) → WakesJob old name new → KeepsHost old new
keeps_woken name (inl out) = keeps_out_wake name out
keeps_woken name (inr (elsewhere, inl line)) = keeps_line_wake name line
keeps_woken name (inr (elsewhere, inr park)) = keeps_park_end name park

-- a job is woken, or there is none
pub keeps_wakes : (old new : CoreView HostJob) (name : JobId) (found : Bool) → Wakes old name found new → KeepsHost old new
keeps_wakes old new name true wakes = keeps_woken name wakes
keeps_wakes old new name false absent = keeps_same absent.1
