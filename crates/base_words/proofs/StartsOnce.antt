-- In a lawful journal each job that starts has entered, has not ended, and starts once.
use Rattle.base_words.proofs.Words.{ap, Assembly, Bool, cond, EachNote, false, is_some, IsAcceptedInside, IsAcceptedJob, IsTurnOf, JobId, Journal, MayFollow, MayStand, None, Note, Option, or_else, order_of, queue_entered, queue_of, refl}
use Rattle.base_words.proofs.Words.{same_name, Some, StandsInOrder, StartsRight, subst, sym, Terms, true, ℕ, [], ◌∙◌, ◌∷◌, ◌≡◌}
use Rattle.base_words.specs.declared.note.Note.TheVariants.{Took, Start, Resume}
use Rattle.base_words.specs.declared.order.Order.TheVariants.{Job}
use Rattle.base_words.proofs.Known.{IsInside, known_of, first_in_line}
use Rattle.base_words.proofs.NameLemmas.{one_name}

-- a job that entered was sent to the queue that it entered
pub sent_there : {T : Type 0} (assembly : Assembly T) (name : JobId) (queue : ℕ) (journal : Journal T) → EachNote (StandsInOrder assembly) journal →
    queue_of name journal ≡ Some queue → order_of name assembly ≡ Some (Job queue tt)
sent_there assembly name queue [] order here = cc
sent_there {T} assembly name queue (note ∷ before) order here = by_note note order.0 (sent_there assembly name queue before order.1) here
  where
    by_note : (note : Note T) → StandsInOrder assembly note before → (queue_of name before ≡ Some queue → order_of name assembly ≡ Some (Job queue tt)) →
        or_else (queue_entered name note) (queue_of name before) ≡ Some queue → order_of name assembly ≡ Some (Job queue tt)
    by_note (Took other into) sent rest here = by_test (same_name name other) refl here
      where
        by_test : (test : Bool) → same_name name other ≡ test → or_else (cond test (Some into) None) (queue_of name before) ≡ Some queue →
            order_of name assembly ≡ Some (Job queue tt)
        by_test false same here = rest here
        by_test true same here =
            let one : into ≡ queue = cc in
            subst (λ n. order_of n assembly ≡ Some (Job queue tt)) (sym (one_name name other same)) (sent ∙ ap (λ q. Some (Job q tt)) one)
    by_note _ sent rest here = rest here

-- what is there is a number
pub is_some-some : (o : Option ℕ) → is_some o ≡ true → (n : ℕ) × (o ≡ Some n)
is_some-some None some = cc
is_some-some (Some n) some = (n, refl)

-- a job that is inside was accepted
pub accepted_inside : {T : Type 0} (assembly : Assembly T) (name : JobId) (before : Journal T) → EachNote (StandsInOrder assembly) before →
    IsInside name before → IsAcceptedJob name assembly
accepted_inside assembly name before order inside =
    let its = is_some-some (queue_of name before) inside.entered in
    (its.0, sent_there assembly name its.0 before order its.1)

-- Clause 1 of soundness: each start and each resume is of an accepted job that is inside, and no job starts twice.
pub starts_right : {T : Type 0} (terms : Terms) (assembly : Assembly T) (journal : Journal T) → EachNote (MayStand terms) journal →
    EachNote (StandsInOrder assembly) journal → EachNote (StartsRight assembly) journal
starts_right terms assembly [] notes order = tt
starts_right {T} terms assembly (note ∷ before) notes order =
    (by_note note notes.0.may_follow, starts_right terms assembly before notes.1 order.1)
  where
    polled_inside : (name : JobId) → IsInside name before → IsAcceptedInside assembly name before
    polled_inside name inside = record {
      is_accepted = accepted_inside assembly name before order.1 inside;
      has_entered = inside.entered;
      has_not_ended = inside.going_on;
    }

    in_turn : (name : JobId) (queue : ℕ) → IsTurnOf terms.burst name queue before → IsInside name before
    in_turn name queue turn =
        (known_of terms before notes.1).line_inside queue name (first_in_line terms name queue before turn)

    by_note : (note : Note T) → MayFollow terms note before → StartsRight assembly note before
    by_note (Start name) law = (polled_inside name (in_turn name law.0 law.1), law.3)
    by_note (Resume name) law = (polled_inside name (in_turn name law.0 law.1), law.3)
    by_note _ law = tt
