-- What one more note tells of a submission, and which notes of it may follow.
use Rattle.actor_desk.proofs.Names.{Bool, List, None, Option, Some, [], ap, cond, false, first_under, inl, inr, is_some, not, refl, same_as_itself, same_name, subst, sym, true, unwrap_or, with_last, ℕ, ◌&&◌, ◌++◌, ◌==◌, ◌||◌, ◌∙◌, ◌∷◌, ◌≡◌}
use Rattle.actor_desk.proofs.Names.{FitsOrder, JobId, Journal, Note, Order, OutcomeNote, Terms, accepted_orders, collected_outcomes, is_name, is_outstanding, is_told, name_collected, name_detached, name_redeemed}
use Rattle.actor_desk.proofs.Lanes.{option_cases}
use Rattle.actor_desk.proofs.NumberedOrders.{collected_told, other_name, uncollected}
use Rattle.base_words.specs.Journal.{or_else}
use Rattle.base_words.specs.declared.note.Note.TheVariants.{Sent, Collected, Redeemed, Detached}
use Rattle.judge_sink.specs.declared.table.Known.{Known}
use Rattle.judge_sink.specs.declared.table.Known.TheVariants as known
use Rattle.judge_sink.specs.Lanes.{Turns}
use Rattle.judge_sink.specs.Tables.{Facts, FollowsSent, Tells, facts, is_open, submission}
use Rattle.std.proofs.lemmas.Bool.{eqb-false}

or_none : {A : Type 0} (first : Option A) → or_else first None ≡ first
or_none None = refl
or_none (Some item) = refl

module _ {A : Type 0} (name : JobId) where
  -- what comes last stands there, if nothing else did
  first_under-append : (items : List (JobId × A)) (entry : JobId × A) → first_under name (items ++ entry ∷ []) ≡ or_else (first_under name items) (cond (same_name name entry.0) (Some entry.1) None)
  first_under-append [] entry = refl
  first_under-append (first ∷ items) entry = by_test (same_name name first.0) (first_under-append items entry)
    where
      by_test : (test : Bool) → first_under name (items ++ entry ∷ []) ≡ or_else (first_under name items) (cond (same_name name entry.0) (Some entry.1) None) →
          cond test (Some first.1) (first_under name (items ++ entry ∷ [])) ≡ or_else (cond test (Some first.1) (first_under name items)) (cond (same_name name entry.0) (Some entry.1) None)
      by_test true rest = refl
      by_test false rest = rest

  -- so it does if it comes only to the list of its core
  first_under-told : (items : List (JobId × A)) (other : JobId) (what : A) →
      first_under name (with_last items (cond (other.to == name.to) (Some (other, what)) None)) ≡ or_else (first_under name items) (cond (same_name name other) (Some what) None)
  first_under-told items other what = by_test (other.to == name.to) refl
    where
      by_test : (test : Bool) → (other.to == name.to) ≡ test → first_under name (with_last items (cond test (Some (other, what)) None)) ≡ or_else (first_under name items) (cond (same_name name other) (Some what) None)
      by_test true is = first_under-append items (other, what)
      by_test false is =
          sym (ap (λ test. or_else (first_under name items) (cond test (Some what) None)) (other_name name other (λ same. eqb-false other.to name.to is (sym (ap (λ id. id.to) same)))) ∙ or_none (first_under name items))

-- what a note adds
abbrev next : JobId → Note ℕ → Facts → Facts
next name (Sent other order) facts = record facts { order = or_else facts.order (cond (same_name name other) (Some order) None) }
next name (Collected other outcome) facts = record facts { outcome = or_else facts.outcome (cond (same_name name other) (Some outcome) None) }
next name (Redeemed other outcome) facts = record facts { redeemed = same_name name other || facts.redeemed }
next name (Detached other) facts = record facts { detached = same_name name other || facts.detached }
next name note facts = facts

pub facts_next : (name : JobId) (note : Note ℕ) (before : Journal ℕ) → facts name (note ∷ before) ≡ next name note (facts name before)
facts_next name (Sent other order) before = λ i. record (facts name before) { order = first_under-told name (accepted_orders name.to before) other order i }
facts_next name (Collected other outcome) before = λ i. record (facts name before) { outcome = first_under-told name (collected_outcomes name.to before) other outcome i }
facts_next name note before = refl

-- which is nothing of any other submission
next_same : (name : JobId) (note : Note ℕ) (facts : Facts) → is_name name (submission note) ≡ false → next name note facts ≡ facts
next_same name (Sent other order) facts apart = λ i. record facts { order = (ap (λ test. or_else facts.order (cond test (Some order) None)) apart ∙ or_none facts.order) i }
next_same name (Collected other outcome) facts apart = λ i. record facts { outcome = (ap (λ test. or_else facts.outcome (cond test (Some outcome) None)) apart ∙ or_none facts.outcome) i }
next_same name (Redeemed other outcome) facts apart = λ i. record facts { redeemed = apart i || facts.redeemed }
next_same name (Detached other) facts apart = λ i. record facts { detached = apart i || facts.detached }
next_same name note facts apart = refl

pub facts_same : (name : JobId) (note : Note ℕ) (before : Journal ℕ) → is_name name (submission note) ≡ false → facts name (note ∷ before) ≡ facts name before
facts_same name note before apart = facts_next name note before ∙ next_same name note (facts name before) apart

-- an entry is there if a submission was sent and is outstanding
pub open_entry : (entry : Option Known) (facts : Facts) → Tells entry facts → is_open facts ≡ is_some entry
open_entry None facts tells = tells
open_entry (Some (known.Pending order)) facts tells = ap is_open tells
open_entry (Some (known.Detached order)) facts tells = ap is_open tells
open_entry (Some (known.Collected outcome)) facts tells = ap is_open tells.1

-- what is collected stands there
got : (name : JobId) (before : Journal ℕ) → is_told name_collected name before ≡ is_some (first_under name (collected_outcomes name.to before))
got name before = elim (option_cases (first_under name (collected_outcomes name.to before))) [
  | inl none ↦ uncollected name before none ∙ sym (ap is_some none)
  | inr some ↦ collected_told name before some.1 ∙ sym (ap is_some some.1)
]

-- a submission that was sent is open as long as it is outstanding
pub outstanding_open : (name : JobId) (before : Journal ℕ) → is_some (first_under name (accepted_orders name.to before)) ≡ true → is_outstanding name before ≡ is_open (facts name before)
outstanding_open name before sent =
    (λ i. not (is_told name_redeemed name before || is_told name_detached name before && got name before i))
    ∙ (λ i. sym sent i && not (is_told name_redeemed name before || is_told name_detached name before && is_some (first_under name (collected_outcomes name.to before))))

-- a note may follow that turns an entry, which tells the same from then on
module _ (terms : Terms) (before : Journal ℕ) where
  abbrev Goes : Note ℕ → JobId → Option Known → Type 0
  Goes note name after = FollowsSent terms note before × Tells after (facts name (note ∷ before)) × (accepted_orders name.to (note ∷ before) ≡ accepted_orders name.to before)

  goes_collected : (name : JobId) (outcome : OutcomeNote ℕ) (order : Order (Unit {0})) (detached : Bool) (after : Option Known) → FitsOrder order outcome →
      facts name before ≡ record { order = Some order; outcome = None; redeemed = false; detached = detached } →
      (facts name (Collected name outcome ∷ before) ≡ record { order = Some order; outcome = Some outcome; redeemed = false; detached = detached } → Tells after (facts name (Collected name outcome ∷ before))) →
      Goes (Collected name outcome) name after
  goes_collected name outcome order detached after fits told tells = (
    record { order = order; accepted = ap (λ facts. facts.order) told; fits = fits; new = uncollected name before (ap (λ facts. facts.outcome) told) },
    tells (facts_next name (Collected name outcome) before ∙ (λ i. record (told i) { outcome = or_else (told i).outcome (cond (same_as_itself name i) (Some outcome) None) })),
    refl,
  )

  goes_detached : (name : JobId) (order : Order (Unit {0})) (outcome : Option (OutcomeNote ℕ)) (after : Option Known) → facts name before ≡ record { order = Some order; outcome = outcome; redeemed = false; detached = false } →
      (facts name (Detached name ∷ before) ≡ record { order = Some order; outcome = outcome; redeemed = false; detached = true } → Tells after (facts name (Detached name ∷ before))) → Goes (Detached name) name after
  goes_detached name order outcome after told tells = (
    record { order = order; accepted = ap (λ facts. facts.order) told; kept = ap (λ facts. facts.redeemed || facts.detached) told },
    tells (facts_next name (Detached name) before ∙ (λ i. record (told i) { detached = same_as_itself name i || (told i).detached })),
    refl,
  )

  -- of each note under its own name
  own_goes : (was : Known) (note : Note ℕ) (after : Option Known) (name : JobId) → Turns was note after → Tells (Some was) (facts (unwrap_or (submission note) name) before) → Goes note (unwrap_or (submission note) name) after
  own_goes (known.Pending order) (Collected name outcome) after _ (fits, now) told = goes_collected name outcome order false after fits told (λ told. subst (λ after. Tells after (facts name (Collected name outcome ∷ before))) (sym now) (order, told))
  own_goes (known.Detached order) (Collected name outcome) after _ (fits, now) told = goes_collected name outcome order true after fits told (λ told. subst (λ after. Tells after (facts name (Collected name outcome ∷ before))) (sym now) (ap is_open told))
  own_goes (known.Collected was) (Redeemed name outcome) after _ (same, now) told = (
    record { collected = ap (λ facts. facts.outcome) told.1 ∙ ap Some same; kept = ap (λ facts. facts.redeemed || facts.detached) told.1 },
    subst (λ after. Tells after (facts name (Redeemed name outcome ∷ before))) (sym now) (ap is_open (facts_next name (Redeemed name outcome) before) ∙ (λ i. is_open (record (told.1 i) { redeemed = same_as_itself name i || (told.1 i).redeemed }))),
    refl,
  )
  own_goes (known.Pending order) (Detached name) after _ now told = goes_detached name order None after told (λ told. subst (λ after. Tells after (facts name (Detached name ∷ before))) (sym now) told)
  own_goes (known.Collected was) (Detached name) after _ now told = goes_detached name told.0 (Some was) after told.1 (λ told. subst (λ after. Tells after (facts name (Detached name ∷ before))) (sym now) (ap is_open told))
  own_goes was note after _ turns told = absurd turns

  pub goes : (was : Known) (note : Note ℕ) (after : Option Known) (name : JobId) → submission note ≡ Some name → Turns was note after → Tells (Some was) (facts name before) → Goes note name after
  goes was note after name is turns = subst (λ name. Tells (Some was) (facts name before) → Goes note name after) (ap (λ told. unwrap_or told name) is) (own_goes was note after name turns)
