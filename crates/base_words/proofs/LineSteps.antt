-- What each kind of note does to the lines of a lawful journal.
use Rattle.base_words.proofs.Words.{Bool, EachNote, eq-eqb, false, false_from_ne_true, JobId, jobs_out, Journal, line, List, MayFollow, MayStand, Mode, name_joining, name_leaving, name_parked, name_parking, names_but, ne_eqb, None, Note}
use Rattle.base_words.proofs.Words.{parked, queue_of, Reason, refl, same_Some, Some, still_parked, sym, Terms, true, unparked, ℕ, [], ◌&&◌, ◌++◌, ◌==◌, ◌∙◌, ◌∷◌, ◌≡◌}
use Rattle.base_words.specs.declared.note.Note.TheVariants.{Took, QueueClosed, CoreClosed, Woken, Pick, Start, Resume, Yield, Park, Stayed, Done, Returned}
use Rattle.base_words.specs.declared.order.Mode.TheVariants.{Finish, Return}
use Rattle.base_words.proofs.JobsOut.{alone_out}
use Rattle.base_words.proofs.Known.{known_of, parked-kept}
use Rattle.base_words.proofs.LineDistinct.{names_but-first, names_but-other, names_like-one, names_like-none, apart_of}
use Rattle.base_words.proofs.NameLemmas.{among, same_as_itself}
use Rattle.base_words.proofs.Told.{with_all-append}

-- a note that brings nobody, takes nobody and ends no park leaves a line as it was
pub line-stays : {T : Type 0} (queue : ℕ) (note : Note T) (before : Journal T) → name_leaving note ≡ None → name_joining queue note before ≡ None →
    unparked queue note (parked queue before) ≡ [] → line queue (note ∷ before) ≡ line queue before
line-stays queue note before stays nobody asleep = rw (stays, nobody, asleep)

-- a note that parks nobody and ends no park leaves the parked jobs as they were
pub parked-stays : {T : Type 0} (queue : ℕ) (note : Note T) (before : Journal T) → still_parked queue note (parked queue before) ≡ parked queue before →
    name_parked note ≡ None → name_parking queue note before ≡ None → parked queue (note ∷ before) ≡ parked queue before
parked-stays queue note before still nobody nobody_here = rw (still, nobody, nobody_here)

-- what a closing in mode `Return` leaves of a queue: all that were parked come to the tail of its line
pub record ClosingWakes {T : Type 0} (queue : ℕ) (closed before : Journal T) : Type 0 where
  pub line : line queue closed ≡ line queue before ++ parked queue before
  pub parked : parked queue closed ≡ []

-- a closing of the queue
pub queue_closing_wakes : {T : Type 0} (queue : ℕ) (before : Journal T) → ClosingWakes queue (QueueClosed queue Return ∷ before) before
queue_closing_wakes queue before = record {
  line = rw (eq-eqb queue queue refl) (with_all-append (line queue before) (parked queue before));
  parked = rw (eq-eqb queue queue refl);
}

-- and one of the core
pub core_closing_wakes : {T : Type 0} (queue : ℕ) (before : Journal T) → ClosingWakes queue (CoreClosed Return ∷ before) before
core_closing_wakes queue before = record { line = with_all-append (line queue before) (parked queue before); parked = refl }

-- what a note leaves of a queue as it was
pub record Sleeps {T : Type 0} (queue : ℕ) (after before : Journal T) : Type 0 where
  pub line : line queue after ≡ line queue before
  pub parked : parked queue after ≡ parked queue before

-- a closing in mode `Finish` wakes nobody
pub queue_finishing_wakes_nobody : {T : Type 0} (queue other : ℕ) (before : Journal T) → Sleeps queue (QueueClosed other Finish ∷ before) before
queue_finishing_wakes_nobody queue other before = record { line = rw never; parked = rw never }
  where
    never : (queue == other && false) ≡ false
    never = by_test (queue == other)
      where
        by_test : (test : Bool) → (test && false) ≡ false
        by_test true = refl
        by_test false = refl

-- nor does one of another queue
pub closing_elsewhere_wakes_nobody : {T : Type 0} (queue other : ℕ) (mode : Mode) (before : Journal T) → (queue ≡ other → ⊥) → Sleeps queue (QueueClosed other mode ∷ before) before
closing_elsewhere_wakes_nobody queue other mode before apart = record { line = rw (ne_eqb queue other apart); parked = rw (ne_eqb queue other apart) }

-- a job that enters comes to the tail of its queue, and of no other
pub line-took : {T : Type 0} (queue : ℕ) (name : JobId) (before : Journal T) → line queue (Took name queue ∷ before) ≡ line queue before ++ name ∷ []
line-took queue name before = rw (eq-eqb queue queue refl)

-- the other lines stay
pub line-took_elsewhere : {T : Type 0} (queue into : ℕ) (name : JobId) (before : Journal T) → (queue ≡ into → ⊥) →
    line queue (Took name into ∷ before) ≡ line queue before
line-took_elsewhere queue into name before other = rw (ne_eqb queue into other)

-- a job that yields comes to the tail of its queue, and of no other
pub line-yield : {T : Type 0} (queue time : ℕ) (name : JobId) (before : Journal T) → queue_of name before ≡ Some queue →
    line queue (Yield name time ∷ before) ≡ line queue before ++ name ∷ []
line-yield queue time name before its = rw (its, eq-eqb queue queue refl)

-- the other lines stay
pub line-yield_elsewhere : {T : Type 0} (queue into time : ℕ) (name : JobId) (before : Journal T) → queue_of name before ≡ Some into → (queue ≡ into → ⊥) →
    line queue (Yield name time ∷ before) ≡ line queue before
line-yield_elsewhere queue into time name before its other = rw (its, ne_eqb queue into other)

-- so does one that asked for a park and stays
pub line-stayed : {T : Type 0} (queue time : ℕ) (name : JobId) (before : Journal T) → queue_of name before ≡ Some queue →
    line queue (Stayed name time ∷ before) ≡ line queue before ++ name ∷ []
line-stayed queue time name before its = rw (its, eq-eqb queue queue refl)

-- the other lines stay
pub line-stayed_elsewhere : {T : Type 0} (queue into time : ℕ) (name : JobId) (before : Journal T) → queue_of name before ≡ Some into → (queue ≡ into → ⊥) →
    line queue (Stayed name time ∷ before) ≡ line queue before
line-stayed_elsewhere queue into time name before its other = rw (its, ne_eqb queue into other)

-- what a turn of the picked queue leaves of a line, whichever note takes it
pub record TurnLeaves {T : Type 0} (queue picked runtime : ℕ) (name : JobId) (left : List JobId) (before : Journal T) : Type 0 where
  pub started : line queue (Start name ∷ Pick picked runtime ∷ before) ≡ left
  pub resumed : line queue (Resume name ∷ Pick picked runtime ∷ before) ≡ left
  pub returned : (reason : Reason) → line queue (Returned name reason ∷ Pick picked runtime ∷ before) ≡ left

module _ {T : Type 0} (terms : Terms) (before : Journal T) (notes : EachNote (MayStand terms) before) where
  -- a job that is done was out, and stood in no line
  pub line-done : (queue time : ℕ) (value : T) (name : JobId) → jobs_out before ≡ name ∷ [] → line queue (Done name time value ∷ before) ≡ line queue before
  line-done queue time value name alone =
      names_but-other name (line queue before)
      (false_from_ne_true _ (λ there. (known_of terms before notes).not_waiting queue name (alone_out name before alone) there))

  -- a job that is parked comes behind those that are
  pub parked-park : (queue time : ℕ) (name : JobId) → MayFollow terms (Park name time) before → queue_of name before ≡ Some queue →
      parked queue (Park name time ∷ before) ≡ parked queue before ++ name ∷ []
  parked-park queue time name law its = rw (parked-kept terms queue (Park name time) before law (known_of terms before notes), its, eq-eqb queue queue refl)

  -- those of the other queues stay
  pub parked-park_elsewhere : (queue into time : ℕ) (name : JobId) → MayFollow terms (Park name time) before → queue_of name before ≡ Some into → (queue ≡ into → ⊥) →
      parked queue (Park name time ∷ before) ≡ parked queue before
  parked-park_elsewhere queue into time name law its other = rw (parked-kept terms queue (Park name time) before law (known_of terms before notes), its, ne_eqb queue into other)

  -- a parked job that is woken comes to the tail of its queue, and is parked no longer
  pub line-woken : (queue : ℕ) (name : JobId) → among name (parked queue before) ≡ true → line queue (Woken name ∷ before) ≡ line queue before ++ name ∷ []
  line-woken queue name there = rw (names_like-one name (parked queue before) ((apart_of terms before notes).parked_distinct queue) there)

  -- a queue in which it isn't parked stays as it is
  pub woken_elsewhere : (queue : ℕ) (name : JobId) → among name (parked queue before) ≡ false → Sleeps queue (Woken name ∷ before) before
  woken_elsewhere queue name apart = record {
    line = rw (names_like-none name (parked queue before) apart);
    parked = names_but-other name (parked queue before) apart;
  }

  -- the first of a line goes, and the others stay as they were
  pub names_but-turn : (queue : ℕ) (name : JobId) (others : List JobId) → line queue before ≡ name ∷ others → names_but name (line queue before) ≡ others
  names_but-turn queue name others first =
      let distinct = rw first at ((apart_of terms before notes).distinct queue) in
      rw first (names_but-first name others distinct)

  -- the first of a line stands in no other line
  pub names_but-turn_elsewhere : (queue picked : ℕ) (name : JobId) (others : List JobId) → line picked before ≡ name ∷ others → (queue ≡ picked → ⊥) →
      names_but name (line queue before) ≡ line queue before
  names_but-turn_elsewhere queue picked name others first other = names_but-other name (line queue before) (false_from_ne_true _ not_there)
    where
      there_too : among name (line picked before) ≡ true
      there_too = rw (first, same_as_itself name)

      not_there : among name (line queue before) ≡ true → ⊥
      not_there there =
          let here = (known_of terms before notes).line_queue queue name there in
          let at_pick = (known_of terms before notes).line_queue picked name there_too in
          other (same_Some queue picked (sym here ∙ at_pick))

  -- the turn takes the first of the line of the picked queue, and leaves the other lines
  pub line-turn : (queue runtime : ℕ) (name : JobId) (others : List JobId) → line queue before ≡ name ∷ others → TurnLeaves queue queue runtime name others before
  line-turn queue runtime name others first =
      let left = names_but-turn queue name others first in
      record { started = left; resumed = left; returned = λ reason. left }

  -- the other lines stay
  pub line-turn_elsewhere : (queue picked runtime : ℕ) (name : JobId) (others : List JobId) → line picked before ≡ name ∷ others → (queue ≡ picked → ⊥) →
      TurnLeaves queue picked runtime name (line queue before) before
  line-turn_elsewhere queue picked runtime name others first other =
      let left = names_but-turn_elsewhere queue picked name others first other in
      record { started = left; resumed = left; returned = λ reason. left }
