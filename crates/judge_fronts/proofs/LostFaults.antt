-- No later notes make a certain fault good.
use Rattle.judge_fronts.proofs.Names.{arith, Assembly, Journal, journal_of, Note, at_place, ClosesFault, ClosesTold, each_before, EachNote, fault_breaks, inl, inr, IsCutOff, IsFault, IsFirstFault, IsLost, IsPickFault, IsSpelled, IsSpelledNote, IsTold}
use Rattle.judge_fronts.proofs.Names.{Journal, journal_of, length, None, Note, OrderOff, OrderTold, pick_breaks, PicksFault, PicksRight, queue_just_picked, RespectsCloses, StandsInOrder, StartsFault, StartsRight}
use Rattle.judge_fronts.proofs.Names.{StartsTold, subst, sym, terms_of, ℕ, [], ◌+◌, ◌-◌, ◌<◌, ◌∙◌, ◌∷◌, ◌≡◌, ◌≤◌, ◌⊎◌}
use Rattle.judge_fronts.proofs.Clauses.{starts_back, closes_back}
use Rattle.judge_fronts.proofs.Links.{links_kept, order_back}
use Rattle.judge_fronts.proofs.LostOutcomes.{outcomes_lost}
use Rattle.judge_fronts.proofs.Whole.{at_line, each_front, spelled_at}

-- a fault of the fifth rule, if it isn't only that nothing follows the last pick
pick_lost : (burst : ℕ) (journal : Journal ℕ) (line : ℕ) → (line < length journal) ⊎ (queue_just_picked journal ≡ None) → IsPickFault burst journal line →
    EachNote (PicksRight burst) journal → ⊥
pick_lost burst journal line (inr nothing) fault each = pick_breaks burst journal line fault each nothing
pick_lost burst journal line (inl within) (inr wrong) each = fault_breaks (PicksRight burst) journal line wrong.fault each
pick_lost burst journal line (inl within) (inl pick) each = by_end pick.unfollowed
  where
    by_end : (line ≡ length journal) ⊎ IsCutOff burst journal line → ⊥
    by_end (inl end) = absurd (omega (arith, end, within))
    by_end (inr off) =
        let right = subst (λ (read : Journal ℕ). EachNote (PicksRight burst) read) off.there (each_before (PicksRight burst) (line + 1) journal each) in
        off.broken (record { turn = right.0.turn; followed = right.0.followed })

pub picks_lost : (front : Assembly ℕ) → IsSpelled front → (core line : ℕ) → core < front.cores → PicksFault front core line →
    (line < length (journal_of core front)) ⊎ (queue_just_picked (journal_of core front) ≡ None) → IsLost front
picks_lost front spelled core line within fault certain = λ whole continues known sound.
    let each = each_front front whole continues (PicksRight whole.burst) core (omega (arith, within)) (sound.picks.notes core (omega (arith, within, continues.cores))) in
    pick_lost front.burst (journal_of core front) line certain fault
    (subst (λ (burst : ℕ). EachNote (PicksRight burst) (journal_of core front)) continues.burst each)

-- what holds of the newest note
abbrev pub OfNewest : (Note ℕ → Journal ℕ → Type 0) → Journal ℕ → Type 0
OfNewest P [] = Unit {0}
OfNewest P (note ∷ before) = P note before

module _ (front : Assembly ℕ) (spelled : IsSpelled front) (actor line : ℕ) (note : Note ℕ)
    (there : at_place line (journal_of actor front) ≡ note ∷ at_place (line - 1) (journal_of actor front)) where
  -- the notes before this one
  abbrev before : Journal ℕ
  before = at_place (line - 1) (journal_of actor front)

  -- a fault at this line is one of this note
  broken : (P : Note ℕ → Journal ℕ → Type 0) → IsFirstFault P (journal_of actor front) line → P note before → ⊥
  broken P fault right = fault.broken (subst (OfNewest P) (sym there ∙ fault.there) right)

  known : actor ≤ front.cores → IsSpelledNote (terms_of actor front) note
  known within = spelled_at front spelled actor line within note before there

  starts_lost : actor ≤ front.cores → StartsFault front actor line → StartsTold front note before → IsLost front
  starts_lost within fault told = λ whole continues spelled_whole sound.
      let right = at_line front whole continues (StartsRight whole) actor line within note before there
      (sound.starts.notes actor (omega (arith, within, continues.cores))) in
      broken (StartsRight front) fault (starts_back front whole continues spelled before note told right)

  order_lost : actor ≤ front.cores → OrderOff front actor line → OrderTold front actor line note → IsLost front
  order_lost within (inr off) told = λ whole continues spelled_whole sound. links_kept front whole continues sound actor line note there within (known within) told off
  order_lost within (inl fault) told = λ whole continues spelled_whole sound.
      let right = at_line front whole continues (StandsInOrder whole) actor line within note before there
      (sound.order.notes actor (omega (arith, within, continues.cores))) in
      broken (StandsInOrder front) fault (order_back front whole continues sound actor line spelled note there (known within) before told right)

  closes_lost : actor < front.cores → ClosesFault front actor line → ClosesTold front actor note before → IsLost front
  closes_lost within fault told = λ whole continues spelled_whole sound.
      let right = at_line front whole continues (RespectsCloses whole actor) actor line (omega (arith, within)) note before there
      (sound.closes.notes actor (omega (arith, within, continues.cores))) in
      broken (RespectsCloses front actor) fault (closes_back front whole continues spelled before actor note (known (omega (arith, within))) told right)

  -- a fault of the first three rules, where all that the rule asks at its line is told
  pub told_lost : (rule : ℕ) → IsFault front actor line rule → IsTold front actor line rule note before → IsLost front
  told_lost rule fault (inl told) = let at = fault.place.starts told.0 in starts_lost (omega (arith, at.within)) at.here told.1
  told_lost rule fault (inr (inl told)) = let at = fault.place.order told.0 in order_lost (omega (arith, at.within)) at.here.0 told.1
  told_lost rule fault (inr (inr told)) = let at = fault.place.closes told.0 in closes_lost at.within at.here told.1

-- each fault of the fourth rule
pub fourth_lost : (front : Assembly ℕ) → IsSpelled front → (actor line rule : ℕ) → rule ≡ 4 → IsFault front actor line rule → IsLost front
fourth_lost front spelled actor line rule is fault =
    let at = fault.place.outcomes is in
    outcomes_lost front spelled (fault.before.starts (omega (arith, is))) (fault.before.order (omega (arith, is))) actor line (omega (arith, at.within)) at.here
