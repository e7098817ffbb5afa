-- Where what a clause asks of other journals is told, it holds in the front if it holds in the whole.
use Rattle.judge_fronts.proofs.Names.{accepted_orders, arith, Assembly, ClosesTold, Continues, inl, inr, HasOrder, IsAcceptedInside, IsAcceptedJob, IsSpelled, IsSpelledNote, JobId, Journal, journal_of, length, Note}
use Rattle.judge_fronts.proofs.Names.{ap, order_sent, RespectsCloses, StartsRight, StartsTold, sym, terms_of, ℕ, ◌∙◌}
use Rattle.base_words.specs.declared.note.Note.TheVariants.{Took, Created, Start, Resume, Shut}
use Rattle.judge_fronts.proofs.Later.{length-told}
use Rattle.judge_fronts.proofs.Whole.{same_order}

module _ (front whole : Assembly ℕ) (continues : Continues front whole) (spelled : IsSpelled front) (before : Journal ℕ) where
  accepted : (name : JobId) → HasOrder name front → IsAcceptedJob name whole → IsAcceptedJob name front
  accepted name told was = (was.0, sym (same_order front whole continues spelled name told) ∙ was.1)

  accepted_inside : (name : JobId) → HasOrder name front → IsAcceptedInside whole name before → IsAcceptedInside front name before
  accepted_inside name told inside = record {
    is_accepted = accepted name told inside.is_accepted;
    has_entered = inside.has_entered;
    has_not_ended = inside.has_not_ended;
  }

  pub starts_back : (note : Note ℕ) → StartsTold front note before → StartsRight whole note before → StartsRight front note before
  starts_back (Start name) (inl told) right = (accepted_inside name told right.0, right.1)
  starts_back (Start name) (inr wrong) right = absurd (wrong whole right)
  starts_back (Resume name) (inl told) right = (accepted_inside name told right.0, right.1)
  starts_back (Resume name) (inr wrong) right = absurd (wrong whole right)
  starts_back _ told right = tt

  pub closes_back : (core : ℕ) (note : Note ℕ) → IsSpelledNote (terms_of core front) note → ClosesTold front core note before → RespectsCloses whole core note before →
      RespectsCloses front core note before
  closes_back core (Took name queue) known told right = right
  closes_back core (Created queue weight) known told right = right
  closes_back core (Shut sender count) known (inr wrong) right = absurd (wrong whole right)
  closes_back core (Shut sender count) known (inl told) right =
      let more = continues.goes_on sender known.1 in
      let grown = length-told (order_sent core) more.0 (journal_of sender front) in
      let same = ap (λ journal. length (accepted_orders core journal)) more.1 in
      (right.0, right.1, omega (arith, right.2, grown, same, told))
  closes_back core _ known told right = tt
