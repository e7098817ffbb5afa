-- What no call on a core, on its links and on the text of a house tells or leaves, each refused by the definition that judges it.
use Rattle.std.specs.Prelude.{◌≡◌, ℕ, List, [], ◌∷◌, Option, Some, None, Ok, Err, is_some}
use Rattle.std.proofs.Common.{ap, inl, inr, arith}
use Rattle.base_words.specs.declared.order.Order.{Order}
use Rattle.base_words.specs.declared.order.Order.TheVariants.{Create, Wake}
use Rattle.base_words.specs.Work.{number_if}
use Rattle.core_core.specs.declared.bursts.OpenTurn.{OpenTurn}
use Rattle.core_core.specs.State.{CoreView, JobOut, opened}
use Rattle.note_journal.specs.Journals.{JournalView}
use Rattle.actor_desk.specs.Submissions.{DeskView}
use Rattle.host_core.specs.declared.job.HostJob.{HostJob}
use Rattle.host_core.specs.Hosted.{HostedView, IsHosted}
use Rattle.host_house.specs.Outside.{CallerView, StaysOutside}
use Rattle.host_text.specs.declared.part.PassError.TheVariants.{Memory}
use Rattle.host_text.specs.Ended.{EndedView}
use Rattle.host_text.specs.Parts.{CopiesPart}
use Rattle.host_calls.specs.declared.code.Code.TheVariants as code
use Rattle.host_calls.specs.declared.member.Member.{Member}
use Rattle.host_calls.specs.declared.member.Member.TheVariants as member
use Rattle.host_calls.specs.declared.names.Name.{Name}
use Rattle.host_calls.specs.declared.verdicts.VerdictTold.{VerdictTold}
use Rattle.host_calls.specs.Links.{ClosesTold, DeliversTold, ShutsTold}
use Rattle.host_calls.specs.Orders.{IsCreateOrder, IsWakeOrder}
use Rattle.host_calls.specs.Submissions.{SendsTold, ShowsTold}
use Rattle.host_calls.specs.Verdicts.{AuditsTold, ReadsTold}
use Rattle.fairexec_c.specs.Running.{Nexts}
use Rattle.fairexec_c.specs.Waking.{TellsNumber}

-- a queue has no shares, and a wake is of an actor that no number of eight bits names
pub queue_without_shares : IsCreateOrder 0 (Ok (Create 0)) → ⊥
queue_without_shares is = absurd (omega (arith, is.0.some))

pub wake_from_afar : IsWakeOrder (record { number = 1; from = 256; to = 0 }) (Ok (Wake 256 1)) → ⊥
wake_from_afar is = absurd (omega (arith, is.0))

-- a sender, or a mode, that there isn't is told as well done
module _ (old new : HostedView) where
  pub nobody_delivers : DeliversTold 256 old code.Ok new → ⊥
  nobody_delivers (inl told) = cc told.1
  nobody_delivers (inr told) = absurd (omega (arith, told.0))

  pub nobody_is_shut : ShutsTold 256 old code.Ok new → ⊥
  nobody_is_shut (inl told) = cc told.1
  nobody_is_shut (inr told) = absurd (omega (arith, told.0))

  pub no_mode_closes : ClosesTold None old code.Ok new → ⊥
  no_mode_closes told = cc told.0

  -- a core has no room for the note that settles the job which is out
  pub no_room_to_settle : (out : JobOut HostJob) → old.recorded.core.out ≡ Some out → old.recorded.journal.room ≡ 0 → IsHosted old → ⊥
  no_room_to_settle out here none hosted = absurd (omega (arith, none, hosted.room, ap (λ (job : Option (JobOut HostJob)). number_if (is_some job)) here))

-- a house that has ended sends and shows, and a core is audited and read
module _ (ended : EndedView) (new : Member) where
  pub ended_house_sends : (order : Order ℕ) (before after : Name) → SendsTold (member.Ended ended) 0 (Ok order) before code.Ok after new → ⊥
  ended_house_sends order before after (inl told) = cc told.1
  ended_house_sends order before after (inr told) = told.0

  pub ended_house_shows : ShowsTold (member.Ended ended) code.Ok new → ⊥
  ended_house_shows (inl told) = cc told.1
  ended_house_shows (inr told) = told.0

module _ (core : HostedView) (new : Member) where
  pub core_is_audited : (before after : VerdictTold) → AuditsTold (member.Core core) before code.Ok after new → ⊥
  core_is_audited before after told = cc told.0

  pub core_is_read : (before after : List ℕ) → ReadsTold (member.Core core) 0 before 0 code.Ok new after 0 → ⊥
  core_is_read before after told = cc told.0

-- bytes are copied for which there was no memory, and a journal has another actor behind a call
pub copied_without_memory : (journal : JournalView ℕ) → CopiesPart 0 journal [] (Err Memory) (7 ∷ []) → ⊥
copied_without_memory journal copies = cc copies

pub another_actor : (old new : CallerView) → old.desk.actor ≡ 1 → new.desk.actor ≡ 2 → StaysOutside old new → ⊥
another_actor old new one two stays = absurd (omega (arith, one, two, ap (λ (desk : DeskView HostJob ℕ). desk.actor) stays.seat))

-- a run is picked within an open turn, and a number is told of no job
pub picked_in_a_turn : (turn : OpenTurn) (new : CoreView HostJob) → Nexts (record (opened 0 1 4 0 2) { bursts = record { burst = 2; «open» = Some turn } }) 0 code.Idle 0 new → ⊥
picked_in_a_turn turn new nexts = let no_turn : ◌≡◌ {A = Option OpenTurn} (Some turn) None = nexts.no_turn in cc

pub number_of_no_job : (old : CoreView HostJob) → TellsNumber old 0 code.Full 1 → ⊥
number_of_no_job old tells = absurd (omega (arith, tells))
