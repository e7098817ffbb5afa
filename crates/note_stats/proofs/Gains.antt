-- What a queue gained between two places is the difference of its charges there.
use Rattle.std.proofs.Common.{◌≡◌, ℕ, zero, suc, ◌+◌, ◌-◌, ◌<◌, ◌≤◌, min, ◌∷◌, [], ◌++◌, length, take, drop, ◌∙◌, ap, arith}
use Rattle.std.proofs.lemmas.List.{length-drop, take-append-drop}
use Rattle.base_words.specs.declared.note.Note.{Note}
use Rattle.base_words.specs.Journal.{Journal, at_place}
use Rattle.base_words.specs.Lag.{gained}
use Rattle.note_stats.specs.Places.{notes_from, gained_from, gained_between}
use Rattle.base_words.specs.Sums.{charges}

module _ {T : Type 0} where
  -- no more was read than there are places
  pub length-at_place : (place : ℕ) (journal : Journal T) → length (at_place place journal) ≤ place
  length-at_place place journal = simp length-drop (omega arith)

  -- a place past the end is the end
  pub same_place : (place to : ℕ) (journal : Journal T) → min to (length journal) ≤ place → place ≤ to → at_place place journal ≡ at_place to journal
  same_place place to journal past within =
      let same : length journal - place ≡ length journal - to = omega arith in ap (λ count. drop count journal) same

  gained_total : (burst queue : ℕ) (later earlier : Journal T) → gained burst queue later earlier + charges burst queue earlier ≡ charges burst queue (later ++ earlier)
  gained_total burst queue [] earlier = omega arith
  gained_total burst queue (note ∷ later) earlier = let was = gained_total burst queue later earlier in omega (arith, was)

  drop_drop : (more count : ℕ) (items : Journal T) → drop more (drop count items) ≡ drop (more + count) items
  drop_drop more zero items = let none : more ≡ more + 0 = omega arith in ap (λ count. drop count items) none
  drop_drop zero (suc count) items = let same : suc count ≡ 0 + suc count = omega arith in ap (λ count. drop count items) same
  drop_drop (suc more) (suc count) [] =
      let sum : suc (more + suc count) ≡ suc more + suc count = omega arith in ap (λ count. drop {A = Note T} count []) sum
  drop_drop (suc more) (suc count) (item ∷ items) =
      let sum : suc (suc more + count) ≡ suc more + suc count = omega arith in
      drop_drop (suc more) count items ∙ ap (λ count. drop count (item ∷ items)) sum

  -- an earlier place is the same place in what was read up to a later one
  earlier_place : (from to : ℕ) (journal : Journal T) → from < to → at_place from (at_place to journal) ≡ at_place from journal
  earlier_place from to journal less =
      let read : length (at_place to journal) ≡ length journal - (length journal - to) = length-drop (length journal - to) journal in
      let count : (length (at_place to journal) - from) + (length journal - to) ≡ length journal - from = omega arith in
      drop_drop (length (at_place to journal) - from) (length journal - to) journal ∙ ap (λ count. drop count journal) count

  -- no note stands between
  pub none_between : (burst queue from to : ℕ) (journal : Journal T) → to ≤ from → gained_between burst queue from to journal ≡ 0
  none_between burst queue from to journal past =
      let none : length (at_place to journal) - from ≡ 0 = omega (arith, length-at_place to journal) in
      ap (λ count. gained burst queue (take count (at_place to journal)) (at_place from (at_place to journal))) none

  -- it is what the charges grew by
  pub gained_is : (burst queue from to : ℕ) (journal : Journal T) → from < to →
      charges burst queue (at_place to journal) - charges burst queue (at_place from journal) ≡ gained_between burst queue from to journal
  gained_is burst queue from to journal less =
      let read = at_place to journal in
      let whole : notes_from from read ++ at_place from read ≡ read = take-append-drop (length read - from) read in
      let total : gained_from burst queue from read + charges burst queue (at_place from read) ≡ charges burst queue read =
      gained_total burst queue (notes_from from read) (at_place from read) ∙ ap (charges burst queue) whole in
      let there : charges burst queue (at_place from read) ≡ charges burst queue (at_place from journal) = ap (charges burst queue) (earlier_place from to journal less) in
      omega (arith, total, there)
