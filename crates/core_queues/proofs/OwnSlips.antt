-- The slips of queues, each at the place of its own queue.
use Rattle.core_queues.proofs.Words.{ap, arith, cases_eq, cases_lt, get_or, get_or-map, get_or-set_other, get_or-set_same, get_or_append_left, get_or_past, get_or_push, get_or_read, HasOwnSlips, IfSome, inl, inr, is_some, length}
use Rattle.core_queues.proofs.Words.{length_push, linked_view, List, map, map-set, None, Option, Queue, refl, set, Slab, Some, suc, sym, Waiting, zero, ℕ, [], ◌++◌, ◌+◌, ◌<◌, ◌∙◌, ◌∷◌, ◌≡◌, ◌≤◌}
use Rattle.std.specs.Prelude.{◌⊎◌, Bool, true, false}
use Rattle.std.proofs.lemmas.List.{length-set}

-- the slip of the first queue
pub HasOwnSlips-one : (places : ℕ) → 256 ≤ places → HasOwnSlips 1 places (Some 0 ∷ [])
HasOwnSlips-one places room = record { own = own; counted = refl; reserved = room }
  where
    own : (queue slip : ℕ) → get_or (Some 0 ∷ []) queue None ≡ Some slip → slip ≡ queue
    own zero slip is = cc
    own (suc queue) slip is = cc

-- the slip of one more queue
pub HasOwnSlips-push : (count places : ℕ) (slips : List (Option ℕ)) → HasOwnSlips count places slips → HasOwnSlips (count + 1) places (slips ++ Some count ∷ [])
HasOwnSlips-push count places slips has = record {
  own = λ queue slip is. own queue slip is (cases_eq queue (length slips));
  counted = length_push slips (Some count) ∙ ap (λ n. n + 1) has.counted;
  reserved = has.reserved;
}
  where
    later : (queue slip : ℕ) → get_or (slips ++ Some count ∷ []) queue None ≡ Some slip → (queue < length slips) ⊎ (length slips ≤ queue) → (queue ≡ length slips → ⊥) → slip ≡ queue
    later queue slip is (inl before) apart = has.own queue slip (sym (get_or_append_left slips (Some count ∷ []) None queue before) ∙ is)
    later queue slip is (inr past) apart =
        let none : get_or (slips ++ Some count ∷ []) queue None ≡ None = get_or_past (slips ++ Some count ∷ []) queue None (omega (arith, length_push slips (Some count))) in
        cc

    own : (queue slip : ℕ) → get_or (slips ++ Some count ∷ []) queue None ≡ Some slip → (queue ≡ length slips) ⊎ (queue ≡ length slips → ⊥) → slip ≡ queue
    own queue slip is (inl last) =
        let here : get_or (slips ++ Some count ∷ []) queue None ≡ Some count = get_or_push slips (Some count) None queue (sym last) in
        let same : count ≡ slip = cc in
        omega (arith, has.counted)
    own queue slip is (inr apart) = later queue slip is (cases_lt queue (length slips)) apart

-- a slip goes, or comes back to the place of its queue
pub HasOwnSlips-set : (count places queue : ℕ) (entry : Option ℕ) (slips : List (Option ℕ)) → queue < count → IfSome entry (λ slip. slip ≡ queue) → HasOwnSlips count places slips → HasOwnSlips count places (set slips queue entry)
HasOwnSlips-set count places queue entry slips within fits has = record {
  own = λ other slip is. own other slip is (cases_eq other queue);
  counted = length-set slips queue entry ∙ has.counted;
  reserved = has.reserved;
}
  where
    of_entry : (one : Option ℕ) (slip : ℕ) → IfSome one (λ slip. slip ≡ queue) → one ≡ Some slip → slip ≡ queue
    of_entry None slip fits is = cc
    of_entry (Some found) slip fits is = let same : found ≡ slip = cc in sym same ∙ fits

    own : (other slip : ℕ) → get_or (set slips queue entry) other None ≡ Some slip → (other ≡ queue) ⊎ (other ≡ queue → ⊥) → slip ≡ other
    own other slip is (inl same) =
        let here : get_or (set slips queue entry) other None ≡ entry = ap (λ n. get_or (set slips queue entry) n None) same ∙ get_or-set_same slips queue entry None (omega (arith, has.counted)) in
        of_entry entry slip fits (sym here ∙ is) ∙ sym same
    own other slip is (inr apart) = has.own other slip (sym (get_or-set_other slips queue other entry None apart) ∙ is)

pub map_is_some-push : (slips : List (Option ℕ)) (slip : ℕ) → map is_some (slips ++ Some slip ∷ []) ≡ map is_some slips ++ true ∷ []
map_is_some-push [] slip = refl
map_is_some-push (one ∷ slips) slip = ap (λ rest. is_some one ∷ rest) (map_is_some-push slips slip)

-- what a place holds, as a caller sees it
pub has_slip-at : (slips : List (Option ℕ)) (place queue : ℕ) (entry : Option ℕ) → place < length slips → entry ≡ get_or slips place entry → place ≡ queue → get_or (map is_some slips) queue false ≡ is_some entry
has_slip-at slips place queue entry within here same =
    ap (λ n. get_or (map is_some slips) n false) (sym same) ∙ get_or-map is_some slips place None false within ∙ ap is_some (sym (get_or_read slips place entry within here None))

-- a slip that is with a queue is its own
pub own-at : (count places : ℕ) (slips : List (Option ℕ)) (place queue : ℕ) (entry : Option ℕ) → HasOwnSlips count places slips → place < length slips → entry ≡ get_or slips place entry → place ≡ queue → IfSome entry (λ slip. slip ≡ queue)
own-at count places slips place queue None has within here same = tt
own-at count places slips place queue (Some slip) has within here same =
    has.own place slip (sym (get_or_read slips place (Some slip) within here None)) ∙ same

-- a caller sees that a slip goes or comes back
pub linked_view-set : {J : Type 0} (room : ℕ) (jobs : Slab (Waiting J)) (lines : List Queue) (slips : List (Option ℕ)) (place queue : ℕ) (entry : Option ℕ) → place ≡ queue →
    linked_view room jobs lines (set slips place entry) ≡ record (linked_view room jobs lines slips) { slips = set (map is_some slips) queue (is_some entry) }
linked_view-set room jobs lines slips place queue entry same =
    ap (λ (there : List Bool). record (linked_view room jobs lines slips) { slips = there }) (map-set is_some slips place entry ∙ ap (λ n. set (map is_some slips) n (is_some entry)) same)

-- a slip that was given out isn't there
pub out-set : (slips : List Bool) (queue : ℕ) → get_or (set slips queue false) queue false ≡ false
out-set [] queue = refl
out-set (one ∷ slips) zero = refl
out-set (one ∷ slips) (suc queue) = out-set slips queue
