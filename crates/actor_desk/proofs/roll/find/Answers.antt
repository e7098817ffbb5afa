use Rattle.std.proofs.Common.{◌≡◌, None, ap, sym, subst, ◌∙◌}
use Rattle.std.specs.Prelude.{IfNone}
use Rattle.std.proofs.lemmas.Option.{slice_get_within, get_or_from_slice_get}
use Rattle.actor_desk.specs.Held.{at}
use Rattle.actor_desk.specs.Rolls.{held}
use Rattle.actor_desk.proofs.Rolls.{none-held, held-line, none-line}
use Rattle.actor_desk.proofs.roll.find.Goals as goal

pub returns-in_err-place-clause-absent : goal.returns-in_err-place-clause-absent
returns-in_err-place-clause-absent g c =
    subst (λ r. IfNone r (at (held c.args.lines.now) c.args.number ≡ None)) (sym c.from_residual.ensures) (none-held c.args.lines.now c.args.number c.in_err-place.ensures.absent)

pub bounds-lines-place : goal.bounds-lines-place
bounds-lines-place g c = let at = c.in_ok-place.ensures.found in slice_get_within c.args.lines.now c.in_ok-place.place at.0 at.1

pub bounds-lines-place-in_ok-place : goal.bounds-lines-place-in_ok-place
bounds-lines-place-in_ok-place g c = let at = c.in_ok-place.ensures.found in slice_get_within c.args.lines.now c.in_ok-place.place at.0 at.1

pub returns-in_err-value-clause-absent : goal.returns-in_err-value-clause-absent
returns-in_err-value-clause-absent g c =
    let there = c.in_ok-place.ensures.found in
    subst (λ r. IfNone r (at (held c.args.lines.now) c.args.number ≡ None)) (sym c.from_residual-in_err-value.ensures)
    (none-line c.args.lines.now c.requires c.in_ok-place.place there.0 c.args.number there.1 there.2
    (ap (λ l. l.value) (sym (get_or_from_slice_get c.args.lines.now c.in_ok-place.place there.0 c.index-lines-place.result there.1)) ∙ c.in_err-value.was))

pub returns-clause-found : goal.returns-clause-found
returns-clause-found g c =
    let there = c.in_ok-place.ensures.found in
    held-line c.args.lines.now c.in_ok-place.place there.0 c.args.number c.in_ok-value.value there.1 there.2
    (ap (λ l. l.value) (sym (get_or_from_slice_get c.args.lines.now c.in_ok-place.place there.0 c.index-lines-place.result there.1)) ∙ c.in_ok-value.was)
