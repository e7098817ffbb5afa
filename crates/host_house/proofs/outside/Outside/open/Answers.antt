use Rattle.std.proofs.Common.{subst, sym, ap, ◌∙◌}
use Rattle.actor_desk.specs.Submissions.{IsWritten, terms_of_desk}
use Rattle.link_ends.specs.Fits.{Fits}
use Rattle.actor_seat.proofs.OutsideSeats.{seated_fresh}
use Rattle.host_core.specs.Jobs.{host_meaning}
use Rattle.host_house.proofs.outside.Outside.open.Goals as goal

pub of-requires : goal.of-requires
of-requires c =
    let written = subst (λ desk. IsWritten (terms_of_desk desk) desk.journal.notes) (sym c.prefault.ensures) c.in_ok-desk.ensures.written in
    seated_fresh _ _ _ _ c.prefault.new.self c.args.ends (c.prefault.ensures ∙ c.in_ok-desk.ensures.opened) written c.requires.outs c.requires.fresh (Fits host_meaning)

pub invariant_of-result : goal.invariant_of-result
invariant_of-result c =
    let opened = ap (λ seat. seat.desk) c.of.ensures.is ∙ (c.prefault.ensures ∙ c.in_ok-desk.ensures.opened) in (
      ap (λ desk. desk.cores) (sym opened),
      c.new.ensures ∙ ap (λ desk. desk.journal.passed) (sym opened),
    )
