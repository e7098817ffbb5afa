-- Laws of lags.
use Rattle.std.proofs.Common.{◌≡◌, ℕ, ◌≤◌, Bool, true, false, List, [], ◌∷◌, ◌++◌, refl, sym, ap, subst, cond, arith}
use Rattle.std.specs.Prelude.{◌&&◌, nat_lt, Option, Some, None, All}
use Rattle.std.proofs.lemmas.List.Elements.{All-nil, All-push, All-weaker, Contains-push, Contains-append_left}
use Rattle.std.proofs.lemmas.Bool.{ltb-true, ltb-false}
use Rattle.base_words.specs.declared.note.Note.{Note}
use Rattle.base_words.specs.declared.note.Note.TheVariants.{Yield, Park, Stayed, Done, Turned}
use Rattle.base_words.specs.Bursts.{has_bursts}
use Rattle.base_words.specs.Journal.{Journal, EachNote, with_last}
use Rattle.base_words.specs.Lag.{KeepsWork, greatest_charge}
use Rattle.base_words.specs.Lawful.{MayStand}
use Rattle.base_words.specs.Terms.{Terms}
use Rattle.base_words.specs.Work.{has_work}
use Rattle.base_words.proofs.Lag.{lag_is_bounded}
use Rattle.fairview_marks.specs.Leads.{are_together}
use Rattle.fairview_lag.specs.Lags.{apart, lag, lag_of, lag_polled, lag_turned, lags, lag_told, further, greatest_lag, IsGreatest}
use Rattle.fairview_lag.specs.Laws.{IsWithinBound, IsStretch, BeginsHere}
use Rattle.fairview_lag.specs.Stretches.{later_notes, earlier_notes}
use Rattle.fairview_lag.specs.declared.stretch.Lag.{Lag}
use Rattle.fairview_lag.proofs.StretchSteps.{whole}

and_left : (one other : Bool) → one && other ≡ true → one ≡ true
and_left true other is = refl
and_left false other is = cc

and_right : (one other : Bool) → one && other ≡ true → other ≡ true
and_right true other is = is
and_right false other is = cc

-- a queue that has work whenever the test of a pair holds keeps it in the later notes
module _ (first second queue : ℕ) (works : (journal : Journal ℕ) → are_together first second journal ≡ true → has_work queue journal ≡ true) where
  keeps_by : (test : Bool) (note : Note ℕ) (later earlier before : Journal ℕ) → later ++ earlier ≡ before → (test ≡ true → KeepsWork queue later earlier) →
      has_work queue (note ∷ before) ≡ true → KeepsWork queue (cond test (note ∷ later) []) (cond test earlier (note ∷ before))
  keeps_by true note later earlier before is keeps here = (subst (λ (rest : Journal ℕ). has_work queue (note ∷ rest) ≡ true) (sym is) here, keeps refl)
  keeps_by false note later earlier before is keeps here = here

  pub keeps : (journal : Journal ℕ) → are_together first second journal ≡ true → KeepsWork queue (later_notes first second journal) (earlier_notes first second journal)
  keeps [] both = cc
  keeps (note ∷ before) both =
      keeps_by (are_together first second before) note (later_notes first second before) (earlier_notes first second before) before (whole first second before) (keeps before)
      (works (note ∷ before) both)

pub stretch : (first second : ℕ) (journal : Journal ℕ) → are_together first second journal ≡ true →
    IsStretch first second (later_notes first second journal) (earlier_notes first second journal) journal
stretch first second journal both = record {
  whole = whole first second journal;
  first_keeps = keeps first second first (λ journal both. and_left (has_work first journal) (has_work second journal) both) journal both;
  second_keeps = keeps first second second (λ journal both. and_right (has_work first journal) (has_work second journal) both) journal both;
}

begins_by : (first second : ℕ) (test : Bool) (note : Note ℕ) (earlier before : Journal ℕ) → are_together first second before ≡ test → BeginsHere first second earlier →
    BeginsHere first second (cond test earlier (note ∷ before))
begins_by first second true note earlier before is begins = begins
begins_by first second false note earlier before is begins = is

pub begins : (first second : ℕ) (journal : Journal ℕ) → BeginsHere first second (earlier_notes first second journal)
begins first second [] = tt
begins first second (note ∷ before) =
    begins_by first second (are_together first second before) note (earlier_notes first second before) before refl (begins first second before)

module _ (terms : Terms) (first second : ℕ) where
  lag_within : (journal : Journal ℕ) → EachNote (MayStand terms) journal → are_together first second journal ≡ true → IsWithinBound (lag terms.burst first second journal)
  lag_within journal notes both =
      let it = stretch first second journal both in
      let later = later_notes first second journal in
      let earlier = earlier_notes first second journal in
      let there : EachNote (MayStand terms) (later ++ earlier) = subst (λ (journal : Journal ℕ). EachNote (MayStand terms) journal) (sym it.whole) notes in
      let ahead = lag_is_bounded terms first second later earlier there it.first_keeps it.second_keeps in
      let behind = lag_is_bounded terms second first later earlier there it.second_keeps it.first_keeps in
      let one = ap (greatest_charge terms.burst first) it.whole in
      let other = ap (greatest_charge terms.burst second) it.whole in
      record { first = omega (arith, ahead, one, other); second = omega (arith, behind, one, other) }

  told_within : (lags : List Lag) (journal : Journal ℕ) (test : Bool) → EachNote (MayStand terms) journal → are_together first second journal ≡ test →
      All IsWithinBound lags → All IsWithinBound (with_last lags (cond test (Some (lag terms.burst first second journal)) None))
  told_within lags journal true notes both all = All-push IsWithinBound lags (lag terms.burst first second journal) all (lag_within journal notes both)
  told_within lags journal false notes both all = all

  -- a lag is told behind a settled poll in the one form, and behind a note of its own in the other
  polled_within : (lags : List Lag) (journal : Journal ℕ) → EachNote (MayStand terms) journal → All IsWithinBound lags →
      All IsWithinBound (with_last lags (lag_polled terms.burst first second journal))
  polled_within lags journal notes all = by_form (has_bursts terms.burst)
    where
      by_form : (form : Bool) → All IsWithinBound (with_last lags (cond form None (lag_of terms.burst first second journal)))
      by_form true = all
      by_form false = told_within lags journal (are_together first second journal) notes refl all

  turned_within : (lags : List Lag) (journal : Journal ℕ) → EachNote (MayStand terms) journal → All IsWithinBound lags →
      All IsWithinBound (with_last lags (lag_turned terms.burst first second journal))
  turned_within lags journal notes all = by_form (has_bursts terms.burst)
    where
      by_form : (form : Bool) → All IsWithinBound (with_last lags (cond form (lag_of terms.burst first second journal) None))
      by_form true = told_within lags journal (are_together first second journal) notes refl all
      by_form false = all

  pub lags_within : (journal : Journal ℕ) → EachNote (MayStand terms) journal → All IsWithinBound (lags terms.burst first second journal)
  lags_within [] notes = All-nil IsWithinBound
  lags_within (Yield name time ∷ before) notes = polled_within (lags terms.burst first second before) (Yield name time ∷ before) notes (lags_within before notes.1)
  lags_within (Park name time ∷ before) notes = polled_within (lags terms.burst first second before) (Park name time ∷ before) notes (lags_within before notes.1)
  lags_within (Stayed name time ∷ before) notes = polled_within (lags terms.burst first second before) (Stayed name time ∷ before) notes (lags_within before notes.1)
  lags_within (Done name time value ∷ before) notes =
      polled_within (lags terms.burst first second before) (Done name time value ∷ before) notes (lags_within before notes.1)
  lags_within (Turned queue time ∷ before) notes = turned_within (lags terms.burst first second before) (Turned queue time ∷ before) notes (lags_within before notes.1)
  lags_within (note ∷ before) notes = lags_within before notes.1

-- what is at most as far apart as one lag is at most as far apart as a greater one
all_nearer : (lags : List Lag) (old new : Lag) → apart old ≤ apart new → All (λ lag. apart lag ≤ apart old) lags → All (λ lag. apart lag ≤ apart new) lags
all_nearer lags old new nearer all = All-weaker (λ (lag : Lag). apart lag ≤ apart old) (λ (lag : Lag). apart lag ≤ apart new) (λ lag is. omega (arith, is, nearer)) lags all

one_more : (lags : List Lag) (old new : Lag) (test : Bool) → nat_lt (apart old) (apart new) ≡ test → IsGreatest lags (Some old) →
    IsGreatest (lags ++ new ∷ []) (cond test (Some new) (Some old))
one_more lags old new true less is =
    let nearer : apart old ≤ apart new = omega (arith, ltb-true (apart old) (apart new) less) in
    (All-push (λ (lag : Lag). apart lag ≤ apart new) lags new (all_nearer lags old new nearer is.0) (omega arith), Contains-push lags new)
one_more lags old new false less is =
    let nearer : apart new ≤ apart old = omega (arith, ltb-false (apart old) (apart new) less) in
    (All-push (λ (lag : Lag). apart lag ≤ apart old) lags new is.0 nearer, Contains-append_left lags (new ∷ []) old is.1)

greatest_after : (lags : List Lag) (old told : Option Lag) → IsGreatest lags old → IsGreatest (with_last lags told) (further old told)
greatest_after lags None None is = is
greatest_after lags (Some old) None is = is
greatest_after lags None (Some new) is =
    let only : lags ++ new ∷ [] ≡ new ∷ [] = ap (λ (lags : List Lag). lags ++ new ∷ []) is in
    subst (λ (lags : List Lag). IsGreatest lags (Some new)) (sym only) (All-push (λ (lag : Lag). apart lag ≤ apart new) [] new (All-nil _) (omega arith), Contains-push [] new)
greatest_after lags (Some old) (Some new) is = one_more lags old new (nat_lt (apart old) (apart new)) refl is

pub greatest_of_all : (burst first second : ℕ) (journal : Journal ℕ) → IsGreatest (lags burst first second journal) (greatest_lag burst first second journal)
greatest_of_all burst first second [] = refl
greatest_of_all burst first second (note ∷ before) =
    greatest_after (lags burst first second before) (greatest_lag burst first second before) (lag_told burst first second note before) (greatest_of_all burst first second before)
