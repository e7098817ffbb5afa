-- A world without its lists is refused.
use Rattle.model_laws.proofs.Words.{◌≡◌, [], length, ◌⊎◌, ⊎_elim, ap, arith, WorldView, HasAllLists}
use Rattle.model_laws.specs.Hollow.{HollowIsRefused}

no_lists : {J T : Type 0} (world : WorldView J T) → (world.journals ≡ []) ⊎ (world.sent ≡ []) → HasAllLists world → ⊥
no_lists world hollow lists =
    ⊎_elim (λ none. omega (arith, ap length none, lists.journals_are)) (λ none. omega (arith, ap length none, lists.senders_are)) hollow

pub hollow_refused : (J T : Type 0) → HollowIsRefused J T
hollow_refused J T cores cap burst room world hollow = ((λ fresh. no_lists world hollow fresh.lists), (λ unbegun. no_lists world hollow unbegun.lists))
