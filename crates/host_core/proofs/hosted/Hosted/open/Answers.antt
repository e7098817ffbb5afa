use Rattle.std.proofs.Common.{◌≡◌, sym, ◌∙◌, ap, subst}
use Rattle.std.specs.Prelude.{None}
use Rattle.actor_seat.specs.Opening.{IsOpenedOver}
use Rattle.host_core.specs.Hosted.{HostedView, IsHosted, IsRunOf}
use Rattle.host_core.proofs.Begun.{Begins, begins_again, begun_cores, begun_hosted, begun_over, begun_passed, begun_runs, begun_seated}
use Rattle.host_core.proofs.hosted.Hosted.open.Goals as goal
use Rattle.host_core.proofs.hosted.Hosted.open.Goals.{After-prefault}

-- the core as it was opened
begun : (c : goal.After-prefault) → Begins c.number.inside.0 c.args.cores c.args.cap c.args.burst c.args.room c.prefault.new.self c.args.ends
begun c =
    let number = ap (λ ends. ends.number) (sym c.ends.view_is) ∙ sym c.number.view_is in
    begins_again c.in_ok-recorded.ensures.opened c.in_ok-recorded.ensures.sound c.requires number c.prefault.ensures

pub of-requires : goal.of-requires
of-requires c = record { seated = begun_seated (begun (goal.at.of-requires c).After-prefault) }

pub invariant_of-result : goal.invariant_of-result
invariant_of-result c =
    let begins = begun (goal.at.invariant_of-result c).After-prefault in
    subst (λ (view : HostedView). IsHosted view × IsRunOf view.recorded.core.out None × (c.args.cores ≡ view.recorded.core.cores) × (c.new.result ≡ view.recorded.journal.passed)) (sym c.of.ensures)
    (begun_hosted begins, begun_runs begins, begun_cores begins, c.new.ensures ∙ begun_passed begins)

pub returns : goal.returns
returns c = subst (λ (view : HostedView). IsOpenedOver c.args.cores c.args.cap c.args.burst c.args.room c.args.ends view) (sym c.of.ensures) (begun_over (begun (goal.at.returns c).After-prefault))
