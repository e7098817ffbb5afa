-- What one more note tells under a name.
use Rattle.judge_fronts.proofs.Names.{ap, accepted_orders, first_under-with_last, is_some, false, JobId, Journal, None, Note, Option, or_else, order_in, order_sent, order_told, refl, Some, true≢false, under-order, value_under, ℕ, ◌∙◌, ◌∷◌, ◌≡◌}

-- where no order was sent under a name, one is after a note that sends it
pub order_next : (name : JobId) (note : Note ℕ) (before : Journal ℕ) → order_in name before ≡ None →
    order_in name (note ∷ before) ≡ value_under name (order_told note)
order_next name note before none =
    first_under-with_last name (accepted_orders name.to before) (order_sent name.to note) ∙
    (ap (λ found. or_else found (value_under name (order_sent name.to note))) none ∙ under-order name note)

-- what isn't there is none
pub none_there : {A : Type 0} (found : Option A) → is_some found ≡ false → found ≡ None
none_there None is = refl
none_there (Some item) is = absurd (true≢false is)
