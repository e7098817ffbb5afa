-- A core that was just opened, over fresh ends.
use Rattle.std.proofs.Common.{◌≡◌, ℕ, sym, ◌∙◌, ap, subst, arith}
use Rattle.std.specs.Prelude.{None, []}
use Rattle.actor_core.specs.Recorded.{RecordedView, IsRecorded}
use Rattle.actor_core.specs.Steps.{opened_beside}
use Rattle.link_ring.specs.Ends.{EndsView}
use Rattle.actor_seat.specs.Opening.{AreEndsOf, CreatesSince, IsOpenedOver}
use Rattle.actor_seat.specs.Seats.{IsSeated}
use Rattle.actor_seat.proofs.Opened.{created_none, opened_linked, opened_over}
use Rattle.host_core.specs.declared.job.HostJob.{HostJob}
use Rattle.host_core.specs.Hosted.{HasRoom, IsHosted, IsRunOf}
use Rattle.host_core.specs.Jobs.{host_meaning}

abbrev View : Type 0
View = RecordedView HostJob ℕ

-- the core as it was opened, beside its ends
pub record Begins (core cores cap burst room : ℕ) (recorded : View) (ends : EndsView HostJob ℕ) : Type 0 where
  pub is : recorded ≡ opened_beside core cores cap room burst
  pub sound : IsRecorded host_meaning recorded
  pub are : AreEndsOf cores cap ends
  pub number : ends.number ≡ core

-- the same core, whose memory was written to since
pub begins_again : {core cores cap burst room : ℕ} {recorded now : View} {ends : EndsView HostJob ℕ} → recorded ≡ opened_beside core cores cap room burst → IsRecorded host_meaning recorded → AreEndsOf cores cap ends → ends.number ≡ core → now ≡ recorded →
    Begins core cores cap burst room now ends
begins_again is sound are number same = record { is = same ∙ is; sound = subst (IsRecorded host_meaning) (sym same) sound; are = are; number = number }

module _ {core cores cap burst room : ℕ} {recorded : View} {ends : EndsView HostJob ℕ} (begins : Begins core cores cap burst room recorded ends) where
  created : CreatesSince host_meaning 0 (opened_beside core cores cap room burst) recorded
  created =
      subst (CreatesSince host_meaning 0 (opened_beside core cores cap room burst)) (sym begins.is)
      (created_none (opened_beside core cores cap room burst) 0 tt (subst (IsRecorded host_meaning) begins.is begins.sound))

  pub begun_seated : IsSeated host_meaning (record { recorded = recorded; ends = ends })
  begun_seated = record { recorded = begins.sound; beside = (opened_linked core cores cap burst room 0 recorded ends created begins.are begins.number).beside }

  pub begun_hosted : IsHosted (record { recorded = recorded; ends = ends })
  begun_hosted = record { recorded = begun_seated.recorded; beside = begun_seated.beside; room = subst (HasRoom 0) (sym begins.is) (omega arith) }

  pub begun_runs : IsRunOf recorded.core.out None
  begun_runs = subst (λ (view : View). IsRunOf view.core.out None) (sym begins.is) tt

  pub begun_cores : cores ≡ recorded.core.cores
  begun_cores = ap (λ (view : View). view.core.cores) (sym begins.is)

  pub begun_passed : [] ≡ recorded.journal.passed
  begun_passed = ap (λ (view : View). view.journal.passed) (sym begins.is)

  pub begun_over : IsOpenedOver cores cap burst room ends (record { recorded = recorded; ends = ends })
  begun_over = opened_over core cores cap burst room 0 recorded ends created begins.are begins.number
