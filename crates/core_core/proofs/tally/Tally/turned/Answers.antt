use Rattle.core_core.proofs.Names.{ap, arith, Tally, ◌+◌}
use Rattle.core_core.proofs.tally.Tally.turned.Goals as goal

pub charged-tally-requires : goal.charged-tally-requires
charged-tally-requires c =
    let left = c.requires.fits.1 in
    let fits = c.requires.fits.2 in
    record { runtime = omega (arith, left, fits.runtime); time = omega (arith, left, fits.time) }

pub overflow_add-tally : goal.overflow_add-tally
overflow_add-tally c =
    let fits = c.requires.fits.2 in
    omega (arith, c.requires.fits.1, fits.selected, ap (λ (tally : Tally). tally.selected) c.charged-tally.ensures.value)

pub returns-clause-value : goal.returns-clause-value
returns-clause-value c = ap (λ (tally : Tally). record tally { selected = tally.selected + 1 }) c.charged-tally.ensures.value

pub returns-clause-fits : goal.returns-clause-fits
returns-clause-fits c turns before =
    let value = c.charged-tally.ensures.value in
    record {
      runtime = omega (arith, before.runtime, c.charged-tally.ensures.charge);
      selected = omega (arith, before.selected, ap (λ (tally : Tally). tally.selected) value);
      time = omega (arith, before.time, c.charged-tally.ensures.clamped);
      finished = omega (arith, ap (λ (tally : Tally). tally.finished) value);
      returned = omega (arith, before.returned, ap (λ (tally : Tally). tally.returned) value);
    }
