use Rattle.std.proofs.Common.{◌≡◌, ◌+◌, ℕ, ap, length, subst, sym, ◌∙◌}
use Rattle.actor_core.specs.Recorded.{RecordedView}
use Rattle.host_text.specs.Pieces.{ForgetsKept}
use Rattle.host_core.specs.declared.job.HostJob.{HostJob}
use Rattle.host_core.specs.Hosted.{HasRoom, HostedView}
use Rattle.host_core.specs.Passing.{Forgets, KeepsButJournal}
use Rattle.host_core.proofs.Passed.{forgotten_room, kept_holds, kept_hosted, with_journal}
use Rattle.host_core.proofs.hosted.Hosted.forget.Goals as goal
use Rattle.host_core.proofs.hosted.Hosted.forget.Goals.{After-forget}

-- what the journal forgot
forgot : (c : goal.After-forget) → ForgetsKept c.self.inside.seat.recorded.journal c.kept_count-count.result c.forget.new.seat.recorded.journal
forgot c = record {
  count_is =
      subst (λ journal. length journal.passed + c.kept_count-count.result ≡ length journal.notes)
      (c.journal.ensures ∙ ap (λ (view : RecordedView HostJob ℕ). view.journal) c.recorded.ensures.same) c.kept_count-count.ensures.value;
  journal = ap (λ (view : HostedView). view.recorded.journal) c.forget.ensures.rest;
}

keeps : (c : goal.After-forget) → KeepsButJournal c.self.inside.seat c.forget.new.seat
keeps c =
    subst (λ journal. c.forget.new.seat ≡ record c.self.inside.seat { recorded = record c.self.inside.seat.recorded { journal = journal } })
    (sym (forgot c).journal) c.forget.ensures.rest

-- there is room for the settling
room : (c : goal.After-forget) → HasRoom 0 (with_journal c.self.inside.seat.recorded c.forget.new.seat.recorded.journal)
room c = forgotten_room c.kept_count-count.result c.self.inside.seat.recorded c.forget.new.seat.recorded.journal (forgot c) c.self.invariant.0.room

pub invariant_of-self : goal.invariant_of-self
invariant_of-self c =
    let after = (goal.at.invariant_of-self c).After-forget in
    kept_holds c.self.inside.seat c.forget.new.seat (keeps after) c.forget.ensures.seated (room after) c.self.inside.run c.self.invariant.1 c.self.invariant.2 c.forget.ensures.has

pub returns-clause-hosted : goal.returns-clause-hosted
returns-clause-hosted c = let after = (goal.at.returns-clause-hosted c).After-forget in kept_hosted c.self.inside.seat c.forget.new.seat (keeps after) c.forget.ensures.seated (room after)

pub returns-clause-forgets : goal.returns-clause-forgets
returns-clause-forgets c =
    let after = (goal.at.returns-clause-forgets c).After-forget in
    subst (λ (old : HostedView). Forgets old c.kept_count-count.result c.forget.new.seat) c.self.view_is (forgot after, keeps after)
