-- A fault of the second rule is certain if the link's list is told as far as its line.
use Rattle.judge_fronts.proofs.Names.{accepted_orders, append_assoc, arith, Assembly, at_place, Bool, collected_outcomes, CollectionTold, cond, Continues, delivered_names, DeliveryTold, eq-eqb, eqb-true, false, first_under, given_outcomes}
use Rattle.judge_fronts.proofs.Names.{HasOrder, inl, inr, is_some, IsPrefix, IsSound, IsSpelled, IsSpelledNote, JobId, Journal, journal_of, length, LinksOff, List, list_told, map-append, OutcomeNote, name_delivered, names_of, None, Note}
use Rattle.judge_fronts.proofs.Names.{ap, Option, OrderTold, outcome_collected, refl, same_as_itself, same_name, Some, StandsInOrder, subst, sym, terms_of, true, TurnsOff, with_last, ℕ, [], ◌++◌, ◌-◌, ◌<◌, ◌==◌, ◌∙◌, ◌∷◌, ◌≡◌, ◌≤◌}
use Rattle.base_words.specs.declared.note.Note.TheVariants.{Sent, Took, Back, Answered, Start, Collected}
use Rattle.judge_fronts.proofs.LinkPlaces.{collection_begins, collection_few, delivery_begins, delivery_number}
use Rattle.judge_fronts.proofs.Whole.{same_order}

-- what has an entry is found
found_under : {A : Type 0} (name : JobId) (entries : List (JobId × A)) (front rest : List JobId) → names_of entries ≡ front ++ name ∷ rest →
    is_some (first_under name entries) ≡ true
found_under name [] [] rest there = cc
found_under name [] (other ∷ front) rest there = cc
found_under name (entry ∷ entries) [] rest there =
    let one : entry.0 ≡ name = cc in
    ap (λ test. is_some (cond test (Some entry.1) (first_under name entries))) (ap (same_name name) one ∙ same_as_itself name)
found_under name (entry ∷ entries) (other ∷ front) rest there =
    let fewer : names_of entries ≡ front ++ name ∷ rest = cc in
    by_test (same_name name entry.0) (found_under name entries front rest fewer)
  where
    by_test : (test : Bool) → is_some (first_under name entries) ≡ true → is_some (cond test (Some entry.1) (first_under name entries)) ≡ true
    by_test true later = refl
    by_test false later = later

-- a list that grows by no name isn't off
unmoved : (told : Journal ℕ → List JobId) (journal : Journal ℕ) (whole : List JobId) (line : ℕ) → TurnsOff told journal whole line →
    told (at_place line journal) ≡ told (at_place (line - 1) journal) → ⊥
unmoved told journal whole line off same =
    let before : line - 1 ≡ off.place = omega (arith, off.counted) in
    off.broken (subst (λ names. IsPrefix names whole) (sym (same ∙ ap (λ place. told (at_place place journal)) before)) off.kept)

module _ (front whole : Assembly ℕ) (continues : Continues front whole) (sound : IsSound whole) (actor line : ℕ) (note : Note ℕ)
    (there : at_place line (journal_of actor front) ≡ note ∷ at_place (line - 1) (journal_of actor front)) where
  -- a note that tells nothing of a list leaves it as it was
  still : {A : Type 0} (says : Note ℕ → Option A) → says note ≡ None →
      list_told says (at_place line (journal_of actor front)) ≡ list_told says (at_place (line - 1) (journal_of actor front))
  still says nothing = ap (list_told says) there ∙ ap (with_last (list_told says (at_place (line - 1) (journal_of actor front)))) nothing

  module _ (here : actor < front.cores) (sender : ℕ) (known : sender ≤ front.cores) where
    -- the name that a note delivers is the last one
    last_delivered : (name : JobId) → name_delivered sender note ≡ Some name →
        delivered_names sender (at_place line (journal_of actor front)) ≡ delivered_names sender (at_place (line - 1) (journal_of actor front)) ++ name ∷ []
    last_delivered name says =
        ap (delivered_names sender) there ∙ ap (with_last (delivered_names sender (at_place (line - 1) (journal_of actor front)))) says

    -- it stands where it was sent, if its place is told
    delivered_there : (name : JobId) → name_delivered sender note ≡ Some name → name.from ≡ sender → DeliveryTold front actor line name →
        IsPrefix (delivered_names sender (at_place line (journal_of actor front))) (names_of (accepted_orders actor (journal_of sender front)))
    delivered_there name says from (inr few) =
        delivery_begins front whole continues sound actor line here sender known
        (
        subst (λ (from : ℕ). length (delivered_names from (at_place line (journal_of actor front))) ≤ length (accepted_orders actor (journal_of from front)))
        from few
        )
    delivered_there name says from (inl other) =
        let number = delivery_number front whole continues sound actor line here sender known name _ (last_delivered name says) in
        absurd (subst (λ (from : ℕ). name.number ≡ length (delivered_names from (at_place line (journal_of actor front))) → ⊥) from other number)

    module _ (off : TurnsOff (delivered_names sender) (journal_of actor front) (names_of (accepted_orders actor (journal_of sender front))) line) where
      not_delivered : name_delivered sender note ≡ None → ⊥
      not_delivered nothing = unmoved (delivered_names sender) (journal_of actor front) _ line off (still (name_delivered sender) nothing)

      delivered_told : (name : JobId) → name_delivered sender note ≡ cond (name.from == sender) (Some name) None → DeliveryTold front actor line name → ⊥
      delivered_told name says told = by_test (name.from == sender) refl
        where
          by_test : (test : Bool) → (name.from == sender) ≡ test → ⊥
          by_test false apart = not_delivered (says ∙ ap (λ test. cond test (Some name) None) apart)
          by_test true same =
              off.broken (delivered_there name (says ∙ ap (λ test. cond test (Some name) None) same) (eqb-true name.from sender same) told)

  module _ (known : actor ≤ front.cores) (core : ℕ) (here : core < front.cores)
      (off : TurnsOff (λ (notes : Journal ℕ). names_of (collected_outcomes core notes)) (journal_of actor front)
      (names_of (given_outcomes actor (journal_of core front))) line) where
    not_collected : outcome_collected core note ≡ None → ⊥
    not_collected nothing =
        unmoved (λ (notes : Journal ℕ). names_of (collected_outcomes core notes)) (journal_of actor front) _ line off
        (ap names_of (still (outcome_collected core) nothing))

    -- the outcome that a note collects is the last one
    last_collected : (name : JobId) (outcome : OutcomeNote ℕ) → outcome_collected core note ≡ Some (name, outcome) →
        names_of (collected_outcomes core (at_place line (journal_of actor front))) ≡
        names_of (collected_outcomes core (at_place (line - 1) (journal_of actor front))) ++ name ∷ []
    last_collected name outcome says =
        let before = collected_outcomes core (at_place (line - 1) (journal_of actor front)) in
        let last = ap (collected_outcomes core) there ∙ ap (with_last before) says in
        ap names_of last ∙ map-append (λ (entry : JobId × OutcomeNote ℕ). entry.0) before ((name, outcome) ∷ [])

    collected_there : (name : JobId) (outcome : OutcomeNote ℕ) → outcome_collected core note ≡ Some (name, outcome) → name.from ≡ actor → name.to ≡ core →
        CollectionTold front actor line name → ⊥
    collected_there name outcome says sender to (inr few) =
        off.broken
        (
        collection_begins front whole continues sound actor line known core here
        (
        subst (λ (to : ℕ). length (collected_outcomes to (at_place line (journal_of actor front))) ≤ length (given_outcomes actor (journal_of to front)))
        to few
        )
        )
    collected_there name outcome says sender to (inl has) =
        let given = subst (λ (to : ℕ). is_some (first_under name (given_outcomes name.from (journal_of to front))) ≡ true) to has in
        off.broken
        (
        collection_begins front whole continues sound actor line known core here
        (
        collection_few front whole continues sound actor line known core here name _ (last_collected name outcome says)
        (subst (λ (from : ℕ). is_some (first_under name (given_outcomes from (journal_of core front))) ≡ true) sender given)
        )
        )

    collected_told : (name : JobId) (outcome : OutcomeNote ℕ) → name.from ≡ actor → outcome_collected core note ≡ cond (name.to == core) (Some (name, outcome)) None →
        CollectionTold front actor line name → ⊥
    collected_told name outcome sender says told = by_test (name.to == core) refl
      where
        by_test : (test : Bool) → (name.to == core) ≡ test → ⊥
        by_test false apart = not_collected (says ∙ ap (λ test. cond test (Some (name, outcome)) None) apart)
        by_test true same =
            collected_there name outcome (says ∙ ap (λ test. cond test (Some (name, outcome)) None) same) sender (eqb-true name.to core same) told

module _ (front whole : Assembly ℕ) (continues : Continues front whole) (sound : IsSound whole) (actor line : ℕ) where
  -- no link is off at a note whose place on its link is told
  module _ (here : actor < front.cores) (sender : ℕ) (known : sender ≤ front.cores)
      (off : TurnsOff (delivered_names sender) (journal_of actor front) (names_of (accepted_orders actor (journal_of sender front))) line) where
    deliveries_kept : (note : Note ℕ) → at_place line (journal_of actor front) ≡ note ∷ at_place (line - 1) (journal_of actor front) →
        IsSpelledNote (terms_of actor front) note → OrderTold front actor line note → ⊥
    deliveries_kept (Took name queue) there is told =
        delivered_told front whole continues sound actor line (Took name queue) there here sender known off name refl told
    deliveries_kept (Back name reason) there is told =
        delivered_told front whole continues sound actor line (Back name reason) there here sender known off name refl told
    deliveries_kept (Answered name answer) there is told =
        delivered_told front whole continues sound actor line (Answered name answer) there here sender known off name refl told
    deliveries_kept note there is told = not_delivered front whole continues sound actor line note there here sender known off refl

  module _ (known : actor ≤ front.cores) (core : ℕ) (here : core < front.cores)
      (off : TurnsOff (λ (notes : Journal ℕ). names_of (collected_outcomes core notes)) (journal_of actor front)
      (names_of (given_outcomes actor (journal_of core front))) line) where
    collections_kept : (note : Note ℕ) → at_place line (journal_of actor front) ≡ note ∷ at_place (line - 1) (journal_of actor front) →
        IsSpelledNote (terms_of actor front) note → OrderTold front actor line note → ⊥
    collections_kept (Collected name outcome) there is told =
        collected_told front whole continues sound actor line (Collected name outcome) there known core here off name outcome is.0.1 refl told
    collections_kept note there is told = not_collected front whole continues sound actor line note there known core here off refl

  pub links_kept : (note : Note ℕ) → at_place line (journal_of actor front) ≡ note ∷ at_place (line - 1) (journal_of actor front) →
      actor ≤ front.cores → IsSpelledNote (terms_of actor front) note → OrderTold front actor line note → LinksOff front actor line → ⊥
  links_kept note there known is told (inl (here, off)) = deliveries_kept here off.sender (omega (arith, off.few)) off.off note there is told
  links_kept note there known is told (inr off) = collections_kept known off.core off.few off.off note there is told

  -- the order of a job that enters is told with its place
  taken_told : (name : JobId) (queue : ℕ) → at_place line (journal_of actor front) ≡ Took name queue ∷ at_place (line - 1) (journal_of actor front) →
      actor < front.cores → name.from ≤ front.cores → name.to ≡ actor → DeliveryTold front actor line name → HasOrder name front
  taken_told name queue there here known receiver told =
      let sent = journal_of name.from front in
      let before = delivered_names name.from (at_place (line - 1) (journal_of actor front)) in
      let says = ap (λ test. cond test (Some name) None) (eq-eqb name.from name.from refl) in
      let begins = delivered_there front whole continues sound actor line (Took name queue) there here name.from known name says refl told in
      let last = last_delivered front whole continues sound actor line (Took name queue) there here name.from known name says in
      let split : names_of (accepted_orders actor sent) ≡ before ++ name ∷ begins.0 =
      begins.1 ∙ (ap (λ items. items ++ begins.0) last ∙ append_assoc before (name ∷ []) begins.0) in
      found_under name (accepted_orders name.to sent) before begins.0 (ap (λ (to : ℕ). names_of (accepted_orders to sent)) receiver ∙ split)

  -- a note that stands in order in the whole does in the front
  pub order_back : IsSpelled front → (note : Note ℕ) → at_place line (journal_of actor front) ≡ note ∷ at_place (line - 1) (journal_of actor front) →
      IsSpelledNote (terms_of actor front) note → (before : Journal ℕ) → OrderTold front actor line note → StandsInOrder whole note before →
      StandsInOrder front note before
  order_back spelled (Start name) there known before told right = right
  order_back spelled (Sent name order) there known before told right = right
  order_back spelled (Took name queue) there known before told right =
      let here : actor < front.cores = omega (arith, known.0.0.receiver, known.0.1) in
      sym (same_order front whole continues spelled name (taken_told name queue there here known.0.0.sender known.0.1 told)) ∙ right
  order_back spelled _ there known before told right = tt
