-- What is known of each two queues of a core after one more note.
use Rattle.std.proofs.Common.{◌≡◌, ℕ, zero, suc, ◌+◌, ◌≤◌, ◌<◌, Bool, true, false, List, [], ◌∷◌, ◌++◌, length, map, get_or, refl, sym, ap, ◌∙◌, cond, append-nil, arith}
use Rattle.std.specs.Prelude.{◌==◌, ◌&&◌, Some, None, flat_map}
use Rattle.std.proofs.lemmas.Bool.{le-ltb, ne_eqb}
use Rattle.std.proofs.lemmas.Grind.{flat_map-append}
use Rattle.std.proofs.lemmas.List.{ext_get_or, get_or-map, length-map, map-append}
use Rattle.std.proofs.lemmas.List.Folds.{flat_map-map}
use Rattle.base_words.specs.declared.note.Note.{Note}
use Rattle.base_words.specs.declared.note.Note.TheVariants.{Took, Yield, Park, Stayed, Done, Turned}
use Rattle.base_words.specs.Bursts.{has_bursts}
use Rattle.base_words.specs.Journal.{Journal}
use Rattle.base_words.specs.Names.{is_number}
use Rattle.base_words.specs.Parks.{parked}
use Rattle.base_words.specs.Work.{entered_count, has_work, left_count, number_if, queue_joined}
use Rattle.judge_view.proofs.Tables.{AreChanged}
use Rattle.fairview_marks.specs.Leads.{are_together}
use Rattle.fairview_marks.specs.Lists.{lists_below, one_of}
use Rattle.fairview_lag.specs.Lags.{further, greatest_lag, lag, lag_of, lag_polled, lag_told, lag_turned}
use Rattle.fairview_lag.specs.Pairs.{core_pairs, pair_told, pairs_with, queue_count, queues_told}
use Rattle.fairview_lag.specs.PairWalks.{idle, idle_with, lags_of, names_below, names_with, pair_known, pairs_known}
use Rattle.fairview_lag.specs.Stretches.{begun, begun_of}
use Rattle.fairview_lag.specs.declared.pair_walk.PairWalk.{PairWalk}
use Rattle.fairview_lag.specs.declared.pairs.PairLag.{PairLag}

number_if-false : (test : Bool) → test ≡ false → number_if test ≡ 0
number_if-false true is = cc
number_if-false false is = refl

and_false : (one other : Bool) → other ≡ false → one && other ≡ false
and_false true other is = is
and_false false other is = refl

if_false : {A : Type 0} (test : Bool) (one other : A) → test ≡ false → cond test one other ≡ other
if_false true one other is = cc
if_false false one other is = refl

next : (count : ℕ) → suc count ≡ count + 1
next count = omega arith

module _ {T : Type 0} where
  not_noted : (note : Note T) (queue : ℕ) → queues_told note ≤ queue → number_if (is_number queue (queue_joined note)) ≡ 0
  not_noted (Took name other) queue past = number_if-false (queue == other) (ne_eqb queue other (λ same. omega (arith, same, past)))
  not_noted _ queue past = refl

  -- no job entered a queue above the last one
  not_entered : (queue : ℕ) (journal : Journal T) → queue_count journal ≤ queue → entered_count queue journal ≡ 0
  not_entered queue [] past = refl
  not_entered queue (note ∷ before) past = omega (arith, not_entered queue before (omega (arith, past)), not_noted note queue (omega (arith, past)))

  not_working : (queue : ℕ) (journal : Journal T) → queue_count journal ≤ queue → has_work queue journal ≡ false
  not_working queue journal past = le-ltb (left_count queue journal + length (parked queue journal)) (entered_count queue journal) (omega (arith, not_entered queue journal past))

  not_together : (first second : ℕ) (journal : Journal T) → queue_count journal ≤ second → are_together first second journal ≡ false
  not_together first second journal past = and_false (has_work first journal) (has_work second journal) (not_working second journal past)

  module _ (burst first second : ℕ) where
    no_lag : (journal : Journal T) → are_together first second journal ≡ false → lag_of burst first second journal ≡ None
    no_lag journal apart = if_false (are_together first second journal) (Some (lag burst first second journal)) None apart

    none_polled : (journal : Journal T) → are_together first second journal ≡ false → lag_polled burst first second journal ≡ None
    none_polled journal apart = by_form (has_bursts burst)
      where
        by_form : (form : Bool) → cond form None (lag_of burst first second journal) ≡ None
        by_form true = refl
        by_form false = no_lag journal apart

    none_turned : (journal : Journal T) → are_together first second journal ≡ false → lag_turned burst first second journal ≡ None
    none_turned journal apart = by_form (has_bursts burst)
      where
        by_form : (form : Bool) → cond form (lag_of burst first second journal) None ≡ None
        by_form true = no_lag journal apart
        by_form false = refl

    none_told : (note : Note T) (before : Journal T) → are_together first second (note ∷ before) ≡ false → lag_told burst first second note before ≡ None
    none_told (Yield name time) before apart = none_polled (Yield name time ∷ before) apart
    none_told (Park name time) before apart = none_polled (Park name time ∷ before) apart
    none_told (Stayed name time) before apart = none_polled (Stayed name time ∷ before) apart
    none_told (Done name time value) before apart = none_polled (Done name time value ∷ before) apart
    none_told (Turned queue time) before apart = none_turned (Turned queue time ∷ before) apart
    none_told _ before apart = refl

    none_greatest : (journal : Journal T) → queue_count journal ≤ second → greatest_lag burst first second journal ≡ None
    none_greatest [] past = refl
    none_greatest (note ∷ before) past =
        λ i. further (none_greatest before (omega (arith, past)) i) (none_told note before (not_together first second (note ∷ before) past) i)

    none_begun : (journal : Journal T) → queue_count journal ≤ second → begun burst first second journal ≡ None
    none_begun journal past = if_false (are_together first second journal) (Some (begun_of burst first second journal)) None (not_together first second journal past)

    -- a queue that no job entered never had work
    idle_known : (journal : Journal T) → queue_count journal ≤ second → idle (first, second) ≡ pair_known burst journal (first, second)
    idle_known journal past =
        λ i. record { first = first; second = second; begun = sym (none_begun journal past) i; greatest = sym (none_greatest journal past) i }

  idle_below : (burst second count : ℕ) (journal : Journal T) → queue_count journal ≤ second →
      lists_below (λ first. idle (first, second) ∷ []) count ≡ map (pair_known burst journal) (lists_below (λ first. (first, second) ∷ []) count)
  unfolding lists_below
  idle_below burst second zero journal past = refl
  idle_below burst second (suc count) journal past =
      (λ i. idle_below burst second count journal past i ++ idle_known burst count second journal past i ∷ [])
      ∙ sym (map-append (pair_known burst journal) (lists_below (λ first. (first, second) ∷ []) count) ((count, second) ∷ []))

  known_more : (burst count : ℕ) (journal : Journal T) → pairs_known burst count journal ++ map (pair_known burst journal) (names_with count) ≡ pairs_known burst (suc count) journal
  unfolding lists_below
  known_more burst count journal = sym (map-append (pair_known burst journal) (names_below count) (names_with count))

  -- the pairs with one more queue that no job entered
  pub queue_more : (burst second : ℕ) (journal : Journal T) (pairs new : List PairWalk) → queue_count journal ≤ second → pairs ≡ pairs_known burst second journal →
      new ≡ pairs ++ idle_with second → new ≡ pairs_known burst (second + 1) journal
  queue_more burst second journal pairs new past known puts =
      puts ∙ ((λ i. known i ++ idle_below burst second second journal past i)
      ∙ (known_more burst second journal ∙ ap (λ count. pairs_known burst count journal) (next second)))

  -- no pair is known before the first note
  pub none_known : (burst : ℕ) (journal : Journal T) → [] ≡ pairs_known burst 0 journal
  unfolding lists_below
  none_known burst journal = refl

  -- all pairs are those of one more note
  pub all_known : (burst count : ℕ) (note : Note T) (before : Journal T) (old new : List PairWalk) (read : ℕ) → old ≡ pairs_known burst count before → read ≡ length old →
      AreChanged (λ place was. pair_known burst (note ∷ before) (get_or (names_below count) place (0, 0))) (idle (0, 0)) old new read → new ≡ pairs_known burst count (note ∷ before)
  all_known burst count note before old new read known all changed =
      let names = names_below count in
      let many : length old ≡ length names = ap length known ∙ length-map names (pair_known burst before) in
      ext_get_or (idle (0, 0)) new (pairs_known burst count (note ∷ before)) (changed.sized ∙ (many ∙ sym (length-map names (pair_known burst (note ∷ before)))))
      (
      λ place less.
      let within : place < length old = omega (arith, less, changed.sized) in
      changed.changed place (omega (arith, within, all)) ∙ sym (get_or-map (pair_known burst (note ∷ before)) names place (0, 0) (idle (0, 0)) (omega (arith, within, many)))
      )

  -- the pair at a place that has not read the note
  pub known_at : (burst count place : ℕ) (before : Journal T) (pairs : List PairWalk) → pairs ≡ pairs_known burst count before → place < length pairs →
      get_or pairs place (idle (0, 0)) ≡ pair_known burst before (get_or (names_below count) place (0, 0))
  known_at burst count place before pairs known within =
      let names = names_below count in
      let many : length pairs ≡ length names = ap length known ∙ length-map names (pair_known burst before) in
      ap (λ (items : List PairWalk). get_or items place (idle (0, 0))) known ∙ get_or-map (pair_known burst before) names place (0, 0) (idle (0, 0)) (omega (arith, within, many))

-- the lists of the numbers below a count, each of whose items becomes a list
flat_below : {A B : Type 0} (each : ℕ → List A) (becomes : A → List B) (count : ℕ) → flat_map becomes (lists_below each count) ≡ lists_below (λ number. flat_map becomes (each number)) count
unfolding lists_below
flat_below each becomes zero = refl
flat_below each becomes (suc count) =
    flat_map-append becomes (lists_below each count) (each count) ∙ ap (λ items. items ++ flat_map becomes (each count)) (flat_below each becomes count)

module _ (burst core : ℕ) (journal : Journal ℕ) where
  abbrev told_of : ℕ × ℕ → List PairLag
  told_of names = one_of (pair_told burst core names.0 names.1 journal)

  told_with : (second : ℕ) → flat_map told_of (names_with second) ≡ pairs_with burst core second journal
  unfolding lists_below
  told_with second =
      flat_below (λ first. (first, second) ∷ []) told_of second ∙ (λ i. lists_below (λ first. append-nil (told_of (first, second)) i) second)

  -- the lags of all pairs that are known are those of the core
  pub told_all : flat_map (lags_of core) (pairs_known burst (queue_count journal) journal) ≡ core_pairs burst core journal
  unfolding lists_below
  told_all =
      flat_map-map (lags_of core) (pair_known burst journal) (names_below (queue_count journal))
      ∙ (flat_below names_with told_of (queue_count journal) ∙ (λ i. lists_below (λ second. told_with second i) (queue_count journal)))
