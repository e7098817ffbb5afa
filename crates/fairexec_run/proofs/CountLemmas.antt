-- Notes counted with their submissions, less the outcomes collected; those that submissions and collected outcomes don't pay; and delivered orders.
use Rattle.std.proofs.Common.{◌≡◌, ◌≤◌, ℕ, ◌+◌, ◌*◌, ap, List, [], ◌∷◌, ◌++◌, length, Option, Some, None, refl, arith, length-append, zero, suc, set, take, get_or}
use Rattle.base_words.specs.declared.names.JobId.{JobId}
use Rattle.base_words.specs.declared.note.Note.{Note}
use Rattle.base_words.specs.declared.note.Note.TheVariants as written
use Rattle.base_words.specs.Filters.{Outcomes}
use Rattle.model_world.specs.Collections.{collected_notes}
use Rattle.fairexec_run.specs.Counts.{name_sent, one_if, sent_count, collected_count, one_if_delivered, delivered_count, delivered_in}

sent_more : (notes before : List (Note ℕ)) → sent_count (notes ++ before) ≡ sent_count notes + sent_count before
sent_more [] before = omega arith
sent_more (note ∷ notes) before = let more = sent_more notes before in omega arith

collected_more : (notes before : List (Note ℕ)) → collected_count (notes ++ before) ≡ collected_count notes + collected_count before
collected_more [] before = omega arith
collected_more (note ∷ notes) before = let more = collected_more notes before in omega arith

one_at_most : (name : Option JobId) → one_if name ≤ 1
one_at_most None = omega arith
one_at_most (Some name) = omega arith

pub sent_at_most : (notes : List (Note ℕ)) → sent_count notes ≤ length notes
sent_at_most [] = omega arith
sent_at_most (note ∷ notes) = let one = one_at_most (name_sent note) in let others = sent_at_most notes in omega arith

delivered_more : (notes before : List (Note ℕ)) → delivered_count (notes ++ before) ≡ delivered_count notes + delivered_count before
delivered_more [] before = omega arith
delivered_more (note ∷ notes) before = let more = delivered_more notes before in omega arith

one_delivered : (note : Note ℕ) → one_if_delivered note ≤ 1
one_delivered (written.Took name queue) = omega arith
one_delivered (written.Back name reason) = omega arith
one_delivered (written.Answered name answer) = omega arith
one_delivered _ = omega arith

pub delivered_at_most : (notes : List (Note ℕ)) → delivered_count notes ≤ length notes
delivered_at_most [] = omega arith
delivered_at_most (note ∷ notes) = let one = one_delivered note in let others = delivered_at_most notes in omega arith

-- notes that add at most so many to the count, of which so many aren't paid, and that tell at most so many delivered orders
pub record AreLight (most unpaid orders : ℕ) (notes : List (Note ℕ)) : Type 0 where
  pub counted : length notes + sent_count notes ≤ collected_count notes + most
  pub paid : length notes ≤ sent_count notes + collected_count notes + unpaid
  pub delivered : delivered_count notes ≤ orders

-- journals one of which has more notes
pub delivered_on : (journals : List (List (Note ℕ))) (actor : ℕ) (notes : List (Note ℕ)) → delivered_in (set journals actor (notes ++ get_or journals actor [])) ≤ delivered_in journals + delivered_count notes
delivered_on [] actor notes = omega arith
delivered_on (journal ∷ journals) zero notes = let more = delivered_more notes journal in omega arith
delivered_on (journal ∷ journals) (suc actor) notes = let more = delivered_on journals actor notes in omega arith

-- the first journals tell no more than all of them, and each next one its own
pub delivered_first : (journals : List (List (Note ℕ))) (count : ℕ) → delivered_in (take count journals) ≤ delivered_in journals
delivered_first journals zero = omega arith
delivered_first [] (suc count) = omega arith
delivered_first (journal ∷ journals) (suc count) = let few = delivered_first journals count in omega arith

pub delivered_next : (journals : List (List (Note ℕ))) (count : ℕ) → delivered_in (take (suc count) journals) ≡ delivered_in (take count journals) + delivered_count (get_or journals count [])
delivered_next [] zero = refl
delivered_next [] (suc count) = refl
delivered_next (journal ∷ journals) zero = omega arith
delivered_next (journal ∷ journals) (suc count) = let next = delivered_next journals count in omega arith

-- notes of which at most one tells a delivered order
pub few_light : (notes : List (Note ℕ)) → length notes ≤ 3 → delivered_count notes ≤ 1 → AreLight 6 3 1 notes
few_light notes few one = let sent = sent_at_most notes in record { counted = omega arith; paid = omega arith; delivered = one }

-- collected outcomes add nothing
collected_light_more : (outcomes : Outcomes ℕ) → (sent_count (collected_notes outcomes) ≡ 0) × (length (collected_notes outcomes) ≡ collected_count (collected_notes outcomes))
collected_light_more [] = (refl, refl)
collected_light_more (outcome ∷ later) =
    let more = collected_light_more later in
    let last = written.Collected outcome.0 outcome.1 ∷ [] in
    let sent = sent_more (collected_notes later) last in
    let collected = collected_more (collected_notes later) last in
    let count = length-append (collected_notes later) last in
    (omega (arith, more.0), omega (arith, more.1))

none_delivered : (outcomes : Outcomes ℕ) → delivered_count (collected_notes outcomes) ≡ 0
none_delivered [] = refl
none_delivered (outcome ∷ later) =
    let more = none_delivered later in
    let both = delivered_more (collected_notes later) (written.Collected outcome.0 outcome.1 ∷ []) in
    omega (arith, more)

pub collected_light : (outcomes : Outcomes ℕ) → AreLight 6 3 1 (collected_notes outcomes)
collected_light outcomes =
    let all = collected_light_more outcomes in
    let none = none_delivered outcomes in
    record { counted = omega (arith, all.0, all.1); paid = omega (arith, all.0, all.1); delivered = omega arith }

-- a journal after another: so much longer, counted so, and with so many notes unpaid
pub record IsLonger (most unpaid : ℕ) (before after : List (Note ℕ)) : Type 0 where
  pub counted : length after + sent_count after + collected_count before ≤ length before + sent_count before + collected_count after + most
  pub paid : length after + sent_count before + collected_count before ≤ length before + sent_count after + collected_count after + unpaid

-- a journal behind light notes
pub light_more : (most unpaid orders : ℕ) (notes before : List (Note ℕ)) → AreLight most unpaid orders notes → IsLonger most unpaid before (notes ++ before)
light_more most unpaid orders notes before light =
    let counted = light.counted in
    let paid = light.paid in
    let sent = sent_more notes before in
    let collected = collected_more notes before in
    let count = length-append notes before in
    record { counted = omega arith; paid = omega arith }

-- the same journal
pub longer_same : (most unpaid : ℕ) (before after : List (Note ℕ)) → after ≡ before → IsLonger most unpaid before after
longer_same most unpaid before after same =
    let count = ap length same in
    let sent = ap sent_count same in
    let collected = ap collected_count same in
    record { counted = omega arith; paid = omega arith }

-- longer, and then longer again
pub longer_then : (most unpaid more_most more_unpaid : ℕ) (before between after : List (Note ℕ)) → IsLonger most unpaid before between → IsLonger more_most more_unpaid between after →
    IsLonger (most + more_most) (unpaid + more_unpaid) before after
longer_then most unpaid more_most more_unpaid before between after one other =
    let one_counted = one.counted in
    let one_paid = one.paid in
    let other_counted = other.counted in
    let other_paid = other.paid in
    record { counted = omega arith; paid = omega arith }

-- what adds less adds no more
pub longer_within : (most unpaid more_most more_unpaid : ℕ) (before after : List (Note ℕ)) → most ≤ more_most → unpaid ≤ more_unpaid → IsLonger most unpaid before after →
    IsLonger more_most more_unpaid before after
longer_within most unpaid more_most more_unpaid before after few_most few_unpaid is =
    let counted = is.counted in
    let paid = is.paid in
    record { counted = omega arith; paid = omega arith }
