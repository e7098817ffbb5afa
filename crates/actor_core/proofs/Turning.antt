-- The turn that is open, as a core and as its journal tell it: which notes leave it, and which begin it, add a poll or the time of one, or end it.
use Rattle.actor_core.proofs.AgreementNames.{Bool, Bursts, IsOpenTurn, JobId, Journal, None, Note, OpenTurn, Option, Reason, Some, add-zero, ap, arith, begun, cond, false, has_bursts, lasted, name_polled, name_settled, none-some, none_either}
use Rattle.actor_core.proofs.AgreementNames.{or_else, parts_turns, poll_count, poll_note, poll_settled, polled_again, polls_in_turn, queue_begun, queue_begun_last, queue_in_turn, queue_just_picked, refl, subst, sym, time_in_turn, time_of_poll}
use Rattle.actor_core.proofs.AgreementNames.{time_summed, true, min, ℕ, ◌+◌, ◌-◌, ◌^◌, ◌∙◌, ◌∷◌, ◌≡◌}
use Rattle.base_words.specs.declared.note.Note.TheVariants as writes

module _ {T : Type 0} (before : Journal T) where
  -- what begins no poll begins no turn
  begins_none : (note : Note T) → name_polled note ≡ None → (queue_begun note before ≡ None) × (poll_count note ≡ 0)
  begins_none (writes.Start name) none = absurd (none-some name (sym none))
  begins_none (writes.Resume name) none = absurd (none-some name (sym none))
  begins_none _ none = (refl, refl)

  -- what settles no poll adds no time
  settles_none : (note : Note T) → name_settled note ≡ None → poll_settled note ≡ None
  settles_none (writes.Yield name time) none = absurd (none-some name (sym none))
  settles_none (writes.Park name time) none = absurd (none-some name (sym none))
  settles_none (writes.Stayed name time) none = absurd (none-some name (sym none))
  settles_none (writes.Done name time value) none = absurd (none-some name (sym none))
  settles_none _ none = refl

  module _ (burst : ℕ) (note : Note T) (goes_on : parts_turns note ≡ false) (unpolled : name_polled note ≡ None) where
    queue_same : queue_in_turn burst (note ∷ before) ≡ queue_in_turn burst before
    queue_same = λ i. cond (has_bursts burst) (cond (goes_on i) None (or_else ((begins_none note unpolled).0 i) (queue_begun_last before))) None

    polls_same : polls_in_turn (note ∷ before) ≡ polls_in_turn before
    polls_same = (λ i. cond (goes_on i) 0 (polls_in_turn before + (begins_none note unpolled).1 i)) ∙ add-zero (polls_in_turn before)

    -- a note by which no poll begins or is settled leaves the open turn
    pub open-stays : name_settled note ≡ None → (turn : Option OpenTurn) → IsOpenTurn burst turn before → IsOpenTurn burst turn (note ∷ before)
    open-stays unsettled None none = queue_same ∙ none
    open-stays unsettled (Some turn) is = (queue_same ∙ is.0, is.1 ∙ sym polls_same, is.2 ∙ sym time_same)
      where
        time_same : time_in_turn (note ∷ before) ≡ time_in_turn before
        time_same = (λ i. min (cond (goes_on i) 0 (time_summed before + time_of_poll (settles_none note unsettled i))) (2 ^ 40 - 1)) ∙ ap (λ sum. min sum (2 ^ 40 - 1)) (add-zero (time_summed before))

    -- one that settles a poll of this time adds it
    pub open-lasted : (name : JobId) (time : ℕ) → poll_settled note ≡ Some (name, time) → (turn : Option OpenTurn) → IsOpenTurn burst turn before → IsOpenTurn burst (lasted time turn) (note ∷ before)
    open-lasted name time settles None none = queue_same ∙ none
    open-lasted name time settles (Some turn) is =
        let now : time_in_turn (note ∷ before) ≡ min (time_summed before + time_of_poll (Some (name, time))) (2 ^ 40 - 1) = λ i. min (cond (goes_on i) 0 (time_summed before + time_of_poll (settles i))) (2 ^ 40 - 1) in
        (queue_same ∙ is.0, is.1 ∙ sym polls_same, omega (arith, is.2, now))

  -- a further poll of the open turn
  pub open-followed : (burst : ℕ) (name : JobId) (started : Bool) (turn : OpenTurn) → queue_just_picked before ≡ None → IsOpenTurn burst (Some turn) before →
      IsOpenTurn burst (Some (polled_again turn)) (poll_note name started ∷ before)
  open-followed burst name false turn no_pick is = (
    (λ i. cond (has_bursts burst) (or_else (no_pick i) (queue_begun_last before)) None) ∙ is.0,
    ap (λ polls. polls + 1) is.1,
    is.2 ∙ ap (λ sum. min sum (2 ^ 40 - 1)) (sym (add-zero (time_summed before))),
  )
  open-followed burst name true turn no_pick is = (
    (λ i. cond (has_bursts burst) (or_else (no_pick i) (queue_begun_last before)) None) ∙ is.0,
    ap (λ polls. polls + 1) is.1,
    is.2 ∙ ap (λ sum. min sum (2 ^ 40 - 1)) (sym (add-zero (time_summed before))),
  )

  -- the turn of a pick opens with its first poll, where a note of its own ends it
  pub open-begun : (burst queue runtime : ℕ) (bursts : Bursts) → bursts.burst ≡ burst → bursts.open ≡ None → (name : JobId) (started : Bool) →
      IsOpenTurn burst (begun queue bursts).open (poll_note name started ∷ writes.Pick queue runtime ∷ before)
  open-begun burst queue runtime bursts same none name started = subst (λ burst. IsOpenTurn burst (begun queue bursts).open (poll_note name started ∷ writes.Pick queue runtime ∷ before)) same (by_form (has_bursts bursts.burst) refl started)
    where
      by_form : (form : Bool) → has_bursts bursts.burst ≡ form → (started : Bool) →
          IsOpenTurn bursts.burst (cond form (Some (record { queue = queue; polls = 1; time = 0 })) bursts.open) (poll_note name started ∷ writes.Pick queue runtime ∷ before)
      by_form true form false = (rw form refl, refl, omega arith)
      by_form true form true = (rw form refl, refl, omega arith)
      by_form false form started =
          subst (λ turn. IsOpenTurn bursts.burst turn (poll_note name started ∷ writes.Pick queue runtime ∷ before)) (sym none) (ap (λ form. cond form (queue_begun_last (poll_note name started ∷ writes.Pick queue runtime ∷ before)) None) form)

  -- no turn is open behind a pick that hands a job back, and behind the end of a turn
  pub open-returned : (burst queue runtime : ℕ) (name : JobId) (reason : Reason) → IsOpenTurn burst None (writes.Returned name reason ∷ writes.Pick queue runtime ∷ before)
  open-returned burst queue runtime name reason = none_either (has_bursts burst)

  pub open-ended : (burst queue time : ℕ) → IsOpenTurn burst None (writes.Turned queue time ∷ before)
  open-ended burst queue time = none_either (has_bursts burst)
