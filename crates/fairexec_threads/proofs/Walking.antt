-- The place that a walk over the orders of a script has reached.
use Rattle.std.proofs.Common.{◌≡◌, ℕ, suc, ◌+◌, ◌<◌, ◌++◌, List, ◌∷◌, length, take, drop, sym, ap, subst, ◌∙◌, arith, get_or}
use Rattle.std.proofs.Math.Seq.{drop-cons}
use Rattle.std.proofs.lemmas.List.{map-id, take-append-drop}
use Rattle.std.specs.Prelude.{map}
use Rattle.base_words.specs.declared.order.Mode.TheVariants.{Finish}
use Rattle.base_words.specs.declared.order.Order.TheVariants.{CloseCore}
use Rattle.base_jobs.specs.Scripts.{Script}
use Rattle.run_runtime.specs.State.{RuntimeView}
use Rattle.fairexec_script.specs.Orders.{Told}
use Rattle.fairexec_threads.specs.Offers.{Offers, OffersAll, closings}
use Rattle.fairexec_threads.proofs.Sending.{offers_more}

-- the orders that were sent, this one, and the others
pub parts : (all done : List Told) (told : Told) → map (λ one. one) done ≡ take (length done) all → length done < length all → told ≡ get_or all (length done) told →
    all ≡ done ++ told ∷ drop (suc (length done)) all
parts all done told so_far within at =
    sym (ap (λ front. front ++ drop (length done) all) (sym (map-id done) ∙ so_far) ∙ take-append-drop (length done) all)
    ∙ ap (λ rear. done ++ rear) (drop-cons all (length done) told within ∙ ap (λ one. one ∷ drop (suc (length done)) all) (sym at))

next : (number : ℕ) → suc number ≡ number + 1
next number = omega arith

-- one core more is closed
pub closings_more : (core : ℕ) (old between new : RuntimeView Script ℕ) → OffersAll (closings core) old between → Offers (core, CloseCore Finish) between new → OffersAll (closings (core + 1)) old new
closings_more core old between new so_far one =
    subst (λ count. OffersAll (closings count) old new) (next core) (offers_more (closings core) (core, CloseCore Finish) old between new so_far one)
