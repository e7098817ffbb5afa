-- Small journals of a core with one job that asked to be parked: whether a turn is to be made.
use Rattle.run_worker.proofs.Names.{arith, has_work, HasNoTurn, if◌then◌else◌, inl, inr, JobId, Journal, length, nat_lt, None, number_if, refl, Some, sym, turns, with_last, ℕ, [], ◌+◌, ◌∙◌, ◌∷◌, ◌≡◌}
use Rattle.std.proofs.Common.{◌==◌, Bool, true, false}
use Rattle.std.proofs.lemmas.Bool.{true≢false}
use Rattle.base_words.specs.declared.note.Note.TheVariants as notes
use Rattle.base_words.specs.declared.order.Answer.TheVariants as answers
use Rattle.base_words.specs.declared.order.Mode.TheVariants.{Finish, Return}

-- a job from the outside actor to core 0, and the command that wakes it
abbrev job : JobId
job = record { from = 1; to = 0; number = 1 }

abbrev wake : JobId
wake = record { from = 1; to = 0; number = 2 }

-- the job is polled for the first time
abbrev polled : Journal ℕ
polled = notes.Start job ∷ notes.Pick 0 0 ∷ notes.Took job 0 ∷ []

-- it is parked
abbrev asleep : Journal ℕ
asleep = notes.Park job 10 ∷ polled

-- a core with one turn behind it has another where its first queue has work
has_turn : (journal : Journal ℕ) → has_work 0 journal ≡ true → turns journal ≡ 1 → HasNoTurn journal → ⊥
has_turn journal works one (inl none) = true≢false (sym works ∙ none 0)
has_turn journal works one (inr used) = absurd (omega (arith, one, used))

-- a worker whose only job is parked rests: no queue has work, be it the job's own or another
asleep_rests : HasNoTurn asleep
asleep_rests = inl (λ queue. none (queue == 0))
  where
    none : (own : Bool) → nat_lt (0 + length (with_last [] (if own then Some job else None))) ((((0 + number_if own) + 0) + 0) + 0) ≡ false
    none true = refl
    none false = refl

-- so it does where its core is closed in mode `Finish`
closed_asleep_rests : HasNoTurn (notes.CoreClosed Finish ∷ asleep)
closed_asleep_rests = inl (λ queue. none (queue == 0))
  where
    none : (own : Bool) → nat_lt (0 + length (with_last [] (if own then Some job else None))) (((((0 + number_if own) + 0) + 0) + 0) + 0) ≡ false
    none true = refl
    none false = refl

-- a job that stayed wants another poll, as one that yielded
stayed_goes_on : HasNoTurn (notes.Stayed job 10 ∷ polled) → ⊥
stayed_goes_on = has_turn (notes.Stayed job 10 ∷ polled) refl refl

-- so does one that was woken
woken_goes_on : HasNoTurn (notes.Woken job ∷ notes.Answered wake answers.Woken ∷ asleep) → ⊥
woken_goes_on = has_turn (notes.Woken job ∷ notes.Answered wake answers.Woken ∷ asleep) refl refl

-- and a parked job is to be handed back where the core closes in mode `Return`
returned_goes_on : HasNoTurn (notes.CoreClosed Return ∷ asleep) → ⊥
returned_goes_on = has_turn (notes.CoreClosed Return ∷ asleep) refl refl
