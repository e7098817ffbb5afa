-- The tally that a charge leaves, in the words of the contract.
use Rattle.core_core.proofs.Names.{ap, arith, Bursts, charge, clamped, FitsTurns, get_or_read, lasted, length, List, min, no_tally, None, OpenTurn, Option, settled_tally, slice_index_or, slice_set, sym, Tally, ℕ, ◌+◌, ◌-◌, ◌<◌, ◌^◌, ◌∙◌}
use Rattle.core_core.proofs.Names.{◌≡◌}
use Rattle.core_core.proofs.Fits.{charged_fits}

-- a tally after a poll
abbrev pub after_poll : Tally → ℕ → ℕ → ℕ → Tally
after_poll tally time weight done = record tally {
  runtime = tally.runtime + charge time weight;
  time = tally.time + clamped time;
  finished = min (tally.finished + done) (2 ^ 64 - 1);
}

-- what was read of the tallies
pub tally_read : (tallies : List Tally) (place queue : ℕ) (was : Tally) → place ≡ queue → place < length tallies → was ≡ slice_index_or tallies place was →
    was ≡ slice_index_or tallies queue no_tally
tally_read tallies place queue was same within read =
    get_or_read tallies place was within read no_tally ∙ ap (λ at. slice_index_or tallies at no_tally) same

-- where each settled poll ends its turn, that is what is counted
pub charged_single : (turn : Option OpenTurn) (time weight done : ℕ) (tally : Tally) → turn ≡ None → after_poll tally time weight done ≡ settled_tally turn time weight done tally
charged_single turn time weight done tally none = ap (λ (found : Option OpenTurn). settled_tally found time weight done tally) (sym none)

-- so it is written
pub charge_written : (tallies : List Tally) (read written queue : ℕ) (was charged : Tally) (turn : Option OpenTurn) (time shares weight done : ℕ) → read ≡ queue → written ≡ queue → read < length tallies →
    was ≡ slice_index_or tallies read was → charged ≡ after_poll was time shares done → shares ≡ weight → turn ≡ None →
    slice_set tallies written charged ≡ slice_set tallies queue (settled_tally turn time weight done (slice_index_or tallies queue no_tally))
charge_written tallies read written queue was charged turn time shares weight done at at_too within is value same none =
    ap (λ place. slice_set tallies place charged) at_too
    ∙ ap (slice_set tallies queue) (value ∙ ap (λ tally. after_poll tally time shares done) (tally_read tallies read queue was at within is)
    ∙ ap (λ number. after_poll (slice_index_or tallies queue no_tally) time number done) same ∙ charged_single turn time weight done (slice_index_or tallies queue no_tally) none)

pub charge_fits : (turns : ℕ) (was charged : Tally) (time shares done : ℕ) → FitsTurns turns 1 was → charged ≡ after_poll was time shares done →
    charged.runtime < was.runtime + 2 ^ 50 → charged.time < was.time + 2 ^ 40 → FitsTurns turns 0 charged
charge_fits turns was charged time shares done fits value charge_below time_below =
    let finished : charged.finished ≡ min (was.finished + done) (2 ^ 64 - 1) = ap (λ (tally : Tally). tally.finished) value in
    charged_fits turns was charged fits (omega arith) (ap (λ (tally : Tally). tally.selected) value) (omega arith) (omega arith) (ap (λ (tally : Tally). tally.returned) value)

-- and no turn is open then
pub lasted_single : (bursts : Bursts) (time : ℕ) → bursts.open ≡ None → bursts ≡ record bursts { «open» = lasted time bursts.open }
lasted_single bursts time none = λ i. record bursts { «open» = (none ∙ sym (ap (lasted time) none)) i }
