use Rattle.std.proofs.Common.{◌≡◌, ℕ, ◌∙◌, ap, sym, subst}
use Rattle.base_words.specs.Closing.{final_count}
use Rattle.actor_core.specs.Recorded.{RecordedView}
use Rattle.host_core.specs.declared.job.HostJob.{HostJob}
use Rattle.host_core.specs.Hosted.{HasRoom, HostedView}
use Rattle.host_core.specs.Waking.{WakesItself}
use Rattle.host_core.proofs.hosted.Hosted.wake_own.Goals as goal
use Rattle.host_core.proofs.hosted.Hosted.wake_own.Goals.{in-Some, in-None}

pub returns-clause-wakes : goal.returns-clause-wakes
returns-clause-wakes c =
    let at = c.self.inside.seat.recorded in
    let wakes = c.if-wake_own.ensures.wakes in
    let same : c.recorded.result.now ≡ at = c.recorded.ensures.same ∙ wakes.tells.rest in
    let gate : c.gate.result ≡ final_count at.core.core at.journal.notes =
    c.gate.ensures ∙ (ap (λ core. final_count core c.recorded.result.now.journal.notes) c.actor-own.ensures ∙ ap (λ (view : RecordedView HostJob ℕ). final_count at.core.core view.journal.notes) same) in
    let room : HasRoom 2 at = subst (λ (view : HostedView). HasRoom 2 view.recorded) (sym c.self.view_is) (c.has_room.ensures.0 c.if-not-has_room.false) in
    subst (λ (old : HostedView). WakesItself c.args.job old c.match-gate.result c.wake_own.new.self) c.self.view_is (
    elim c.match-gate.branch [
      | in-Some w ↦ subst (λ told. WakesItself c.args.job c.self.inside.seat told c.wake_own.new.self) (sym w.result-is) (room, sym gate ∙ w.in-Some.is, wakes)
      | in-None w ↦ subst (λ told. WakesItself c.args.job c.self.inside.seat told c.wake_own.new.self) (sym w.result-is) (room, sym gate ∙ w.in-None.is, wakes)
    ]
    )
