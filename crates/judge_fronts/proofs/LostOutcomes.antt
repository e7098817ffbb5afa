-- A fault of the fourth rule, behind rules that are kept, is never mended: what its note asks of other journals is told.
use Rattle.judge_fronts.proofs.Names.{among, among-comes, ap, arith, Assembly, at_place, collected_outcomes, cond, Continues, delivered_names, each_before, EachNote, eq-eqb, first_under-among, given_outcomes, HasOrder, HasOutcome, inl, inr}
use Rattle.judge_fronts.proofs.Names.{is_command, is_some, is_told, IsAcceptedJob, IsLost, IsPrefix, IsPrefix-along, IsSpelled, IsSpelledNote, JobId, Journal, journal_of, list_told, name_delivered, name_started, names_of, names_of-prefix}
use Rattle.judge_fronts.proofs.Names.{accepted_orders, Note, one_name, Option, or_cases, Order, OrderIsSound, OutcomesFault, outcome_collected, OutcomesRight, PicksRight, queue_of, refl, Some, StandsInOrder, StartsAreSound, StartsRight, subst, sym}
use Rattle.judge_fronts.proofs.Names.{IsTrue, None, is_name, map-append, OutcomeNote, terms_of, true, true≢false, with_last, ℕ, [], ◌<◌, ◌∙◌, ◌∷◌, ◌≡◌, ◌≤◌}
use Rattle.base_words.proofs.StartsOnce.{is_some-some, sent_there}
use Rattle.base_words.specs.declared.note.Note.TheVariants.{Back, Answered, Start, Done, Returned, Collected, Redeemed}
use Rattle.judge_fronts.proofs.Beginnings.{told_to_line}
use Rattle.judge_fronts.proofs.DrainedFronts.{drained_ended}
use Rattle.judge_fronts.proofs.Entries.{among_found, among_front}
use Rattle.judge_fronts.proofs.Whole.{at_line, same_order, same_outcome, spelled_at}

-- who started was accepted, where starts are right
started_accepted : (assembly : Assembly ℕ) (name : JobId) (journal : Journal ℕ) → EachNote (StartsRight assembly) journal → is_told name_started name journal ≡ true → IsAcceptedJob name assembly
started_accepted assembly name [] right told = absurd (true≢false (sym told))
started_accepted assembly name (note ∷ before) right told =
    elim (or_cases (is_name name (name_started note)) (is_told name_started name before) told)
    [ inl now ↦ by_note note right.0 now | inr was ↦ started_accepted assembly name before right.1 was ]
  where
    by_note : (note : Note ℕ) → StartsRight assembly note before → is_name name (name_started note) ≡ true → IsAcceptedJob name assembly
    by_note (Start other) law now = subst (λ one. IsAcceptedJob one assembly) (sym (one_name name other now)) law.0.is_accepted
    by_note _ law now = cc

module _ (front : Assembly ℕ) (starts : StartsAreSound front) (order : OrderIsSound front) (actor line : ℕ) (within : actor ≤ front.cores) (note : Note ℕ) (before : Journal ℕ)
    (there : at_place line (journal_of actor front) ≡ note ∷ before) where
  -- what holds of each note of the actor holds of those before this one
  each_earlier : (P : Note ℕ → Journal ℕ → Type 0) → EachNote P (journal_of actor front) → EachNote P before
  each_earlier P each = (subst (λ (at : Journal ℕ). EachNote P at) there (each_before P line (journal_of actor front) each)).1

  -- what was told up to it was told first
  part : {A : Type 0} (says : Note ℕ → Option A) → IsPrefix (list_told says (note ∷ before)) (list_told says (journal_of actor front))
  part says = subst (λ (at : Journal ℕ). IsPrefix (list_told says at) (list_told says (journal_of actor front))) there (told_to_line says line (journal_of actor front))

  -- the order of what it delivers is told
  delivered_sent : (name : JobId) → actor < front.cores → name.from ≤ front.cores → name.to ≡ actor → name_delivered name.from note ≡ Some name → HasOrder name front
  delivered_sent name here known receiver says =
      let last = ap (with_last (delivered_names name.from before)) says in
      let came = ap (among name) last ∙ among-comes name (delivered_names name.from before) in
      let begins = IsPrefix-along _ _ _ (part (name_delivered name.from)) (order.deliveries name.from actor known here) in
      let sent = among_front name _ _ begins came in
      among_found name (accepted_orders name.to (journal_of name.from front))
      (subst (λ (to : ℕ). among name (names_of (accepted_orders to (journal_of name.from front))) ≡ true) (sym receiver) sent)

  -- the outcome of what was collected up to it is told
  collected_given : (name : JobId) → name.to < front.cores → name.from ≡ actor → among name (names_of (collected_outcomes name.to (note ∷ before))) ≡ true → HasOutcome name front
  collected_given name here sender collected =
      let begins = IsPrefix-along _ _ _ (names_of-prefix _ _ (part (outcome_collected name.to))) (order.collections actor name.to within here) in
      let given = among_front name _ _ begins collected in
      among_found name (given_outcomes name.from (journal_of name.to front))
      (subst (λ (from : ℕ). among name (names_of (given_outcomes from (journal_of name.to front))) ≡ true) (sym sender) given)

module _ (front whole : Assembly ℕ) (continues : Continues front whole) (spelled : IsSpelled front) (starts : StartsAreSound front) (order : OrderIsSound front)
    (actor line : ℕ) (within : actor ≤ front.cores) (before : Journal ℕ) where
  accepted : (name : JobId) → HasOrder name front → IsAcceptedJob name whole → IsAcceptedJob name front
  accepted name told was = (was.0, sym (same_order front whole continues spelled name told) ∙ was.1)

  -- so it holds in the front, if it holds in the whole
  outcomes_kept : (note : Note ℕ) → at_place line (journal_of actor front) ≡ note ∷ before → IsSpelledNote (terms_of actor front) note →
      (actor < front.cores → PicksRight whole.burst note before) → OutcomesRight whole note before → OutcomesRight front note before
  outcomes_kept (Done name time value) there is picks right =
      let earlier = each_earlier front starts order actor line within (Done name time value) before there (StartsRight front) (starts.notes actor within) in
      (started_accepted front name before earlier right.2, right.1, right.2)
  outcomes_kept (Back name reason) there is picks right =
      let here : actor < front.cores = omega (arith, is.0.0.receiver, is.0.1) in
      let says = ap (λ test. cond test (Some name) None) (eq-eqb name.from name.from refl) in
      let has = delivered_sent front starts order actor line within (Back name reason) before there name here is.0.0.sender is.0.1 says in
      (accepted name has right.0, right.1)
  outcomes_kept (Answered name answer) there is picks right =
      let here : actor < front.cores = omega (arith, is.0.0.receiver, is.0.1) in
      let says = ap (λ test. cond test (Some name) None) (eq-eqb name.from name.from refl) in
      let has = delivered_sent front starts order actor line within (Answered name answer) before there name here is.0.0.sender is.0.1 says in
      (subst (λ (found : Option (Order (Unit {0}))). IsTrue (is_command found)) (same_order front whole continues spelled name has) right.0, right.1)
  outcomes_kept (Returned name reason) there is picks right =
      let picked = picks (omega (arith, is.0.0.receiver, is.0.1)) in
      let its = is_some-some (queue_of name before) (ap is_some (sym picked.followed) ∙ picked.turn) in
      let earlier = each_earlier front starts order actor line within (Returned name reason) before there (StandsInOrder front) (order.notes actor within) in
      ((its.0, sent_there front name its.0 before earlier its.1), right.1)
  outcomes_kept (Collected name outcome) there is picks right =
      let collected = collected_outcomes name.to before in
      let says = ap (λ test. cond test (Some (name, outcome)) None) (eq-eqb name.to name.to refl) in
      let last = ap names_of (ap (with_last collected) says) ∙ map-append (λ (entry : JobId × OutcomeNote ℕ). entry.0) collected ((name, outcome) ∷ []) in
      let came = ap (among name) last ∙ among-comes name (names_of collected) in
      let has = collected_given front starts order actor line within (Collected name outcome) before there name is.0.0.receiver is.0.1 came in
      sym (same_outcome front whole continues spelled name has) ∙ right
  outcomes_kept (Redeemed name outcome) there is picks right =
      let came = first_under-among name (collected_outcomes name.to before) outcome right.0 in
      let has = collected_given front starts order actor line within (Redeemed name outcome) before there name is.0.0.receiver is.0.1 came in
      (right.0, sym (same_outcome front whole continues spelled name has) ∙ right.1, right.2)
  outcomes_kept _ there is picks right = tt

-- each fault of the rule, also that of a drained core that has lost something
pub outcomes_lost : (front : Assembly ℕ) → IsSpelled front → StartsAreSound front → OrderIsSound front → (actor line : ℕ) → actor ≤ front.cores →
    OutcomesFault front actor line → IsLost front
outcomes_lost front spelled starts order actor line within (inl (none, loses)) =
    λ whole continues known sound. loses (λ here drained. drained_ended front whole continues spelled sound actor here drained)
outcomes_lost front spelled starts order actor line within (inr (keeps, fault)) = λ whole continues known sound.
    let right = at_line front whole continues (OutcomesRight whole) actor line within fault.note fault.before fault.there
    (sound.outcomes.notes actor (omega (arith, within, continues.cores))) in
    fault.broken
    (
    outcomes_kept front whole continues spelled starts order actor line within fault.before fault.note fault.there
    (spelled_at front spelled actor line within fault.note fault.before fault.there)
    (λ here. at_line front whole continues (PicksRight whole.burst) actor line within fault.note fault.before fault.there (sound.picks.notes actor (omega (arith, here, continues.cores))))
    right
    )
