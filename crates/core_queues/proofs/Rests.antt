-- Parked jobs stay marked as started and with no wake, as lines change.
use Rattle.core_queues.proofs.Words.{ap, AreAtRest, awake, chain, drop, false, get, inl, inr, IsAtRest, JobId, List, map, Marks, Queue, refl, shown_parked, Slab, Spot, subst, suc, sym, true, Waiting, zero, [], ◌++◌, ◌∙◌, ◌∷◌, ◌≡◌, ◌⊎◌}
use Rattle.core_queues.specs.View.{Line}
use Rattle.core_queues.proofs.Spots.{parks, cases_spot}
use Rattle.core_queues.proofs.Changes.{Writes}
use Rattle.core_queues.proofs.Views.{line_says}

pub false_true : false ≡ true → ⊥
false_true is = cc

module _ {J : Type 0} where
  head_of : (one : JobId × Marks × J) (others : Line J) → IsAtRest (one ∷ others) → awake (shown_parked one) ≡ one
  head_of one others rest = cc

  pub IsAtRest-append : (front behind : Line J) → IsAtRest front → IsAtRest behind → IsAtRest (front ++ behind)
  IsAtRest-append [] behind rest too = too
  IsAtRest-append (one ∷ front) behind rest too =
      ap (λ first. first ∷ map awake (map shown_parked (front ++ behind))) (head_of one front rest) ∙ ap (λ line. one ∷ line) (IsAtRest-append front behind (ap (drop 1) rest) too)

  pub IsAtRest-front : (front behind : Line J) → IsAtRest (front ++ behind) → IsAtRest front
  IsAtRest-front [] behind rest = refl
  IsAtRest-front (one ∷ front) behind rest =
      ap (λ first. first ∷ map awake (map shown_parked front)) (head_of one (front ++ behind) rest) ∙ ap (λ line. one ∷ line) (IsAtRest-front front behind (ap (drop 1) rest))

  pub IsAtRest-behind : (front behind : Line J) → IsAtRest (front ++ behind) → IsAtRest behind
  IsAtRest-behind [] behind rest = rest
  IsAtRest-behind (one ∷ front) behind rest = IsAtRest-behind front behind (ap (drop 1) rest)

  -- where the line at a spot is written
  pub AreAtRest-writes : (old new : Slab (Waiting J)) (before after : List Queue) (spot : Spot) (shows : Line J) → AreAtRest old before → Writes old new before after spot shows → (spot.is_parked ≡ true → IsAtRest shows) → AreAtRest new after
  AreAtRest-writes old new before after spot shows rests writes rest queue = by_spot (cases_spot (parks queue) spot)
    where
      by_spot : (parks queue ≡ spot) ⊎ (parks queue ≡ spot → ⊥) → IsAtRest (line_says new after (parks queue))
      by_spot (inl same) =
          let said : line_says new after (parks queue) ≡ shows = ap (line_says new after) same ∙ writes.shown in
          subst (λ (says : Line J). IsAtRest says) (sym said) (rest (ap (λ (s : Spot). s.is_parked) (sym same)))
      by_spot (inr apart) = subst (λ (says : Line J). IsAtRest says) (sym (writes.others (parks queue) apart)) (rests queue)

  -- where each line shows what it showed
  pub AreAtRest-same : (old new : Slab (Waiting J)) (before after : List Queue) → ((spot : Spot) → line_says new after spot ≡ line_says old before spot) → AreAtRest old before → AreAtRest new after
  AreAtRest-same old new before after same rests queue = subst (λ (says : Line J). IsAtRest says) (sym (same (parks queue))) (rests queue)

  -- one queue in which no job is parked
  pub AreAtRest-opened : (jobs : Slab (Waiting J)) (first : Queue) → first.parked.count ≡ 0 → AreAtRest jobs (first ∷ [])
  AreAtRest-opened jobs first none zero = subst (λ count. IsAtRest (chain (get jobs) first.parked.head count)) (sym none) refl
  AreAtRest-opened jobs first none (suc queue) = refl
