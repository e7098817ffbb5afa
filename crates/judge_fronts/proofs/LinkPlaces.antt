-- What a front tells of a link up to a line, where the whole is sound.
use Rattle.judge_fronts.proofs.Names.{accepted_orders, ap, append_assoc, arith, Assembly, at_place, cases_lt, collected_outcomes, Continues, delivered_names, first_under, given_outcomes, inl, inr}
use Rattle.judge_fronts.proofs.Names.{is_some, IsPrefix, IsPrefix-along, IsSound, JobId, journal_of, length, length-append, length-map, List, name_delivered, names_of, names_of-prefix, Order, order_sent, OutcomeNote}
use Rattle.judge_fronts.proofs.Names.{outcome_collected, outcome_given, subst, sym, true, ℕ, [], ◌++◌, ◌+◌, ◌<◌, ◌∙◌, ◌∷◌, ◌≡◌, ◌≤◌, ◌⊎◌}
use Rattle.judge_audit.proofs.ToldNames.{names_given}
use Rattle.judge_fronts.proofs.Beginnings.{IsPrefix-shorter, told_to_line}
use Rattle.judge_fronts.proofs.Entries.{among_front, found_among}
use Rattle.judge_fronts.proofs.GivenOnce.{AreApart, apart_at, given_apart}
use Rattle.judge_fronts.proofs.Numbers.{AreNumbered, numbered_at, sent_numbered}
use Rattle.judge_fronts.proofs.Whole.{told_grows}

module _ (front whole : Assembly ℕ) (continues : Continues front whole) (sound : IsSound whole) (actor line : ℕ) where
  module _ (here : actor < front.cores) (sender : ℕ) (known : sender ≤ front.cores) where
    abbrev delivered : List JobId
    delivered = delivered_names sender (at_place line (journal_of actor front))

    abbrev sent_front : List JobId
    sent_front = names_of (accepted_orders actor (journal_of sender front))

    abbrev sent_whole : List JobId
    sent_whole = names_of (accepted_orders actor (journal_of sender whole))

    delivered_in_whole : IsPrefix delivered sent_whole
    delivered_in_whole =
        let one = told_to_line (name_delivered sender) line (journal_of actor front) in
        let two = told_grows front whole continues (name_delivered sender) actor (omega (arith, here)) in
        let three = sound.order.deliveries sender actor (omega (arith, known, continues.cores)) (omega (arith, here, continues.cores)) in
        IsPrefix-along _ _ _ one (IsPrefix-along _ _ _ two three)

    sent_in_whole : IsPrefix sent_front sent_whole
    sent_in_whole = names_of-prefix _ _ (told_grows front whole continues (order_sent actor) sender known)

    many_sent : length sent_front ≡ length (accepted_orders actor (journal_of sender front))
    many_sent = length-map (accepted_orders actor (journal_of sender front)) (λ (entry : JobId × Order (Unit {0})). entry.0)

    -- what a core was delivered up to the line was sent before it, if as much was sent
    pub delivery_begins : length delivered ≤ length (accepted_orders actor (journal_of sender front)) → IsPrefix delivered sent_front
    delivery_begins few = IsPrefix-shorter _ _ _ delivered_in_whole sent_in_whole (omega (arith, few, many_sent))

    -- the last name that was delivered has the number of its place
    pub delivery_number : (name : JobId) (before : List JobId) → delivered ≡ before ++ name ∷ [] → name.number ≡ length delivered
    delivery_number name before last =
        let numbered = sent_numbered whole actor (journal_of sender whole) (sound.order.notes sender (omega (arith, known, continues.cores))) in
        let rest = delivered_in_whole.0 in
        let split : sent_whole ≡ before ++ name ∷ rest =
        delivered_in_whole.1 ∙ (ap (λ names. names ++ rest) last ∙ append_assoc before (name ∷ []) rest) in
        let at = numbered_at 0 before name rest (subst (AreNumbered 0) split numbered) in
        let long = ap (λ (names : List JobId). length names) last ∙ length-append before (name ∷ []) in
        omega (arith, at, long)

  module _ (known : actor ≤ front.cores) (core : ℕ) (here : core < front.cores) where
    abbrev collected : List JobId
    collected = names_of (collected_outcomes core (at_place line (journal_of actor front)))

    abbrev given_front : List JobId
    given_front = names_of (given_outcomes actor (journal_of core front))

    abbrev given_whole : List JobId
    given_whole = names_of (given_outcomes actor (journal_of core whole))

    collected_in_whole : IsPrefix collected given_whole
    collected_in_whole =
        let one = names_of-prefix _ _ (told_to_line (outcome_collected core) line (journal_of actor front)) in
        let two = names_of-prefix _ _ (told_grows front whole continues (outcome_collected core) actor known) in
        let three = sound.order.collections actor core (omega (arith, known, continues.cores)) (omega (arith, here, continues.cores)) in
        IsPrefix-along _ _ _ one (IsPrefix-along _ _ _ two three)

    given_in_whole : IsPrefix given_front given_whole
    given_in_whole = names_of-prefix _ _ (told_grows front whole continues (outcome_given actor) core (omega (arith, here)))

    many_given : length given_front ≡ length (given_outcomes actor (journal_of core front))
    many_given = length-map (given_outcomes actor (journal_of core front)) (λ (entry : JobId × OutcomeNote ℕ). entry.0)

    many_collected : length collected ≡ length (collected_outcomes core (at_place line (journal_of actor front)))
    many_collected = length-map (collected_outcomes core (at_place line (journal_of actor front))) (λ (entry : JobId × OutcomeNote ℕ). entry.0)

    -- what an actor collected up to the line was given before it, if as much was given
    pub collection_begins : length (collected_outcomes core (at_place line (journal_of actor front))) ≤ length (given_outcomes actor (journal_of core front)) →
        IsPrefix collected given_front
    collection_begins few = IsPrefix-shorter _ _ _ collected_in_whole given_in_whole (omega (arith, few, many_given, many_collected))

    -- as much was given, if the last outcome that was collected was given
    pub collection_few : (name : JobId) (before : List JobId) → collected ≡ before ++ name ∷ [] →
        is_some (first_under name (given_outcomes actor (journal_of core front))) ≡ true →
        length (collected_outcomes core (at_place line (journal_of actor front))) ≤ length (given_outcomes actor (journal_of core front))
    collection_few name before last has = by_order (cases_lt (length before) (length given_front))
      where
        long : length collected ≡ length before + 1
        long = ap (λ (names : List JobId). length names) last ∙ length-append before (name ∷ [])

        split : given_whole ≡ before ++ name ∷ collected_in_whole.0
        split =
            collected_in_whole.1 ∙ (ap (λ names. names ++ collected_in_whole.0) last ∙ append_assoc before (name ∷ []) collected_in_whole.0)

        apart : AreApart given_whole
        apart =
            subst AreApart (sym (names_given actor (journal_of core whole)))
            (given_apart whole actor (journal_of core whole) (sound.outcomes.notes core (omega (arith, here, continues.cores))))

        by_order : (length before < length given_front) ⊎ (length given_front ≤ length before) →
            length (collected_outcomes core (at_place line (journal_of actor front))) ≤ length (given_outcomes actor (journal_of core front))
        by_order (inl fewer) = omega (arith, fewer, long, many_given, many_collected)
        by_order (inr more) =
            let earlier = IsPrefix-shorter given_front before given_whole given_in_whole (name ∷ collected_in_whole.0, split) more in
            absurd
            (
            apart_at before name collected_in_whole.0 (subst AreApart split apart)
            (among_front name given_front before earlier (found_among name (given_outcomes actor (journal_of core front)) has))
            )
