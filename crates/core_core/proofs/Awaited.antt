-- Which senders are awaited.
use Rattle.core_core.proofs.Names.{ap, AreThrough, arith, awaited_count, Bool, eqb-true, false, get_or, is_awaited, is_number, length, length-map, List, map, map-set, None, not, number_if, Option, refl, replicate, Sender, senders_view}
use Rattle.core_core.proofs.Names.{SendersView, set, set-get_or, slice_set, Some, suc, sum_by-cons, sym, true, zero, ℕ, [], ◌<◌, ◌==◌, ◌∙◌, ◌∷◌, ◌≡◌, ◌≤◌}
use Rattle.core_core.proofs.Listed.{eqb-self}

-- a sender is awaited unless its gate is shut at what was delivered
through_if_not : (gate : Option ℕ) (delivered : ℕ) → number_if (not (is_number delivered gate)) ≡ 0 → gate ≡ Some delivered
through_if_not None delivered none = absurd (omega (arith, none))
through_if_not (Some count) delivered none = by_test (delivered == count) refl none
  where
    by_test : (test : Bool) → (delivered == count) ≡ test → number_if (not test) ≡ 0 → Some count ≡ Some delivered
    by_test true same none = ap Some (sym (eqb-true delivered count same))
    by_test false apart none = absurd (omega (arith, none))

not_if_through : (gate : Option ℕ) (delivered : ℕ) → gate ≡ Some delivered → number_if (not (is_number delivered gate)) ≡ 0
not_if_through gate delivered same =
    ap (λ (count : Option ℕ). number_if (not (is_number delivered count))) same ∙ ap (λ test. number_if (not test)) (eqb-self delivered)

pub through_if_none : (senders : List Sender) → awaited_count senders ≡ 0 → AreThrough (map (λ s. s.delivered) senders) (map (λ s. s.gate) senders)
through_if_none [] none sender within = absurd (omega (arith, within))
through_if_none (first ∷ rest) none zero within = through_if_not first.gate first.delivered (omega (arith, none, sum_by-cons is_awaited first rest))
through_if_none (first ∷ rest) none (suc sender) within =
    through_if_none rest (omega (arith, none, sum_by-cons is_awaited first rest)) sender (omega (arith, within))

pub none_if_through : (senders : List Sender) → AreThrough (map (λ s. s.delivered) senders) (map (λ s. s.gate) senders) → awaited_count senders ≡ 0
none_if_through [] through = refl
none_if_through (first ∷ rest) through =
    let here = not_if_through first.gate first.delivered (through 0 (omega arith)) in
    let later = none_if_through rest (λ sender within. through (suc sender) (omega (arith, within))) in
    omega (arith, here, later, sum_by-cons is_awaited first rest)

-- what is written as it was read changes nothing
pub kept-set : {X : Type 0} (f : Sender → X) (senders : List Sender) (place : ℕ) (was : Sender) → was ≡ get_or senders place was →
    slice_set (map f senders) place (f was) ≡ map f senders
kept-set f senders place was read =
    sym (map-set f senders place was) ∙ ap (λ one. map f (set senders place one)) read ∙ ap (map f) (set-get_or senders place was)

is_awaited-few : (sender : Sender) → is_awaited sender ≤ 1
is_awaited-few sender = by_test (not (is_number sender.delivered sender.gate))
  where
    by_test : (test : Bool) → number_if test ≤ 1
    by_test true = omega arith
    by_test false = omega arith

-- no more senders are awaited than there are
pub awaited-few : (senders : List Sender) → awaited_count senders ≤ length senders
awaited-few [] = omega arith
awaited-few (first ∷ rest) = omega (arith, awaited-few rest, is_awaited-few first, sum_by-cons is_awaited first rest)

-- a sender that callers see is there
pub within-view : (senders : List Sender) (sender : ℕ) {view : SendersView} → senders_view senders ≡ view → sender < length view.delivered → sender < length senders
within-view senders sender {view} is within =
    let same : length view.delivered ≡ length senders = ap (λ (v : SendersView). length v.delivered) (sym is) ∙ length-map senders (λ (s : Sender). s.delivered) in
    omega arith

-- senders of whom nothing is known
pub map-replicate : {X : Type 0} (f : Sender → X) (count : ℕ) (one : Sender) → map f (replicate count one) ≡ replicate count (f one)
map-replicate f zero one = refl
map-replicate f (suc count) one = ap (λ rest. f one ∷ rest) (map-replicate f count one)
