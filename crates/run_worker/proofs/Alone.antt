-- What is told of a core that closed by itself stays told.
use Rattle.run_worker.proofs.Names.{ap, Bool, closed_by_itself, ClosesItself, effect_awaited, false≢true, Grows, is_some, Journal, KnowsSeat, LinkedView, None, not, RecordedView, stays-told, StaysLinked, sym, TellsAlone, ℕ, ◌||◌, ◌∙◌, ◌≡◌}
use Rattle.std.proofs.Common.{true, false}
use Rattle.base_words.specs.declared.order.Mode.TheVariants.{Return}
use Rattle.run_worker.proofs.Spare.{least_along}

-- nobody tells of it yet
pub alone_none : (notes : Journal ℕ) → TellsAlone false notes
alone_none notes told = absurd (false≢true told)

-- it stays so where notes are added
pub alone_grows : (alone : Bool) (old new : Journal ℕ) → Grows old new → TellsAlone alone old → TellsAlone alone new
alone_grows alone old new grows tells told = stays-told old new grows (tells told)

-- a close that no command awaits is one by itself
pub alone_now : {J : Type 0} (old new : RecordedView J ℕ) (closed : Bool) → effect_awaited old.journal.notes ≡ None → ClosesItself old Return closed new → TellsAlone closed new.journal.notes
alone_now old new true none closes told =
    ap (λ journal. closed_by_itself journal.notes) closes.1 ∙ ap (λ awaited. not (is_some awaited) || closed_by_itself old.journal.notes) none
alone_now old new false none closes told = absurd (false≢true told)

-- what a worker knows of its seat it knows behind a step too
pub knows_along : {J : Type 0} (cores least : ℕ) (alone : Bool) (old new : LinkedView J ℕ) → StaysLinked old new → KnowsSeat cores least alone old → KnowsSeat cores least alone new
knows_along cores least alone old new stays knows = record {
  cores_are = knows.cores_are ∙ sym stays.seat.cores;
  least_is = knows.least_is ∙ sym (least_along old.recorded new.recorded stays.seat);
  tells = alone_grows alone old.recorded.journal.notes new.recorded.journal.notes stays.grows knows.tells;
}
