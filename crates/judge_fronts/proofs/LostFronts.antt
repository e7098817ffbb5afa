-- Fronts that no later notes make sound.
use Rattle.base_words.proofs.NameLemmas.{first_number}
use Rattle.base_words.specs.BadCloses.{shut_at_wrong_count}
use Rattle.base_words.specs.BadJournals.{submission, one_job, one_command, done}
use Rattle.base_words.specs.BadOrder.{delivered_out_of_turn, delivered_twice}
use Rattle.base_words.specs.BadOutcomes.{collected_another}
use Rattle.base_words.specs.BadStarts.{started_twice, started_command}
use Rattle.judge_fronts.proofs.Names.{accepted_orders, ap, arith, first_under, given_outcomes, Journal, length, order_sent, outcome_given, OutcomesRight, PicksRight, refl, RespectsCloses, StartsRight, ℕ, [], ◌∙◌, ◌∷◌, ◌≡◌}
use Rattle.judge_fronts.proofs.Later.{length-told, same_first}
use Rattle.judge_fronts.proofs.LinkPlaces.{collection_few, delivery_begins, delivery_number}
use Rattle.judge_fronts.proofs.Whole.{each_front}
use Rattle.judge_fronts.specs.BadFronts.{collected_twice, FrontsAreLost, idle_picked_last}

pub fronts_lost : FrontsAreLost
fronts_lost = record {
  twice = λ whole goes known sound.
      let right = each_front started_twice whole goes (StartsRight whole) 0 (omega arith) (sound.starts.notes 0 (omega arith)) in
      let new = right.0.1 in
      cc;
  command = λ whole goes known sound.
      let right = each_front started_command whole goes (StartsRight whole) 0 (omega arith) (sound.starts.notes 0 (omega arith)) in
      let more = goes.goes_on 1 (omega arith) in
      let same =
      ap (λ journal. first_under (submission 1) (accepted_orders 0 journal)) more.1 ∙ same_first (order_sent 0) (submission 1) more.0 one_command refl in
      let sent = right.0.0.is_accepted.1 in
      cc (same, sent);
  delivered = λ whole goes known sound.
      let begins = delivery_begins delivered_out_of_turn whole goes sound 0 2 (omega arith) 1 (omega arith) (omega arith) in
      let first : 1 ≡ 2 = ap first_number begins.1 in
      cc;
  delivered_again = λ whole goes known sound.
      let number = delivery_number delivered_twice whole goes sound 0 2 (omega arith) 1 (omega arith) (submission 1) (submission 1 ∷ []) refl in
      absurd (omega (arith, number));
  collected_again = λ whole goes known sound.
      let few = collection_few collected_twice whole goes sound 1 3 (omega arith) 0 (omega arith) (submission 1) (submission 1 ∷ []) refl refl in
      absurd (omega (arith, few));
  count = λ whole goes known sound.
      let right = each_front shut_at_wrong_count whole goes (RespectsCloses whole 0) 0 (omega arith) (sound.closes.notes 0 (omega arith)) in
      let more = goes.goes_on 1 (omega arith) in
      let same = ap (λ (journal : Journal ℕ). length (accepted_orders 0 journal)) more.1 in
      let grown = length-told (order_sent 0) more.0 one_job in
      let counted = right.0.2 in
      absurd (omega (arith, same, grown, counted));
  another = λ whole goes known sound.
      let right = each_front collected_another whole goes (OutcomesRight whole) 1 (omega arith) (sound.outcomes.notes 1 (omega arith)) in
      let more = goes.goes_on 0 (omega arith) in
      let same = ap (λ journal. first_under (submission 1) (given_outcomes 1 journal)) more.1 ∙ same_first (outcome_given 1) (submission 1) more.0 done refl in
      let collected = right.0 in
      cc (same, collected);
  idle = λ whole goes known sound.
      let right = each_front idle_picked_last whole goes (PicksRight whole.burst) 0 (omega arith) (sound.picks.notes 0 (omega arith)) in
      let work = right.0.right.eligible.work in
      cc;
}
