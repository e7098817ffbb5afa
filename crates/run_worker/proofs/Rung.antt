-- A worker rings for the notes of its steps.
use Rattle.run_worker.proofs.Names.{ap, AreRung, arith, BellsView, creations, drop, Entry, HasRung, is_opening, Journal, JournalView, length, List, no_shorter, refl, replicate, reverse, reverse-append, rung_along, rung_behind}
use Rattle.run_worker.proofs.Names.{rung_for, ServedView, StaysLinked, subst, sym, true, ℕ, [], ◌+◌, ◌++◌, ◌∙◌, ◌∷◌, ◌≡◌, ◌≤◌}
use Rattle.std.proofs.Math.Seq.{drop-append_seam}
use Rattle.std.proofs.lemmas.List.{length-reverse}
use Rattle.base_words.specs.declared.note.Note.TheVariants.{Created}
use Rattle.run_worker.proofs.Openings.{creations_behind}

-- a step of a worker, after the rings for its notes
pub are_rung : {J T : Type 0} (old new : ServedView J T) (before after : BellsView) → StaysLinked old.linked new.linked → AreRung old before →
    after.rings ≡ rung_for (drop (length old.linked.recorded.journal.notes) (reverse new.linked.recorded.journal.notes)) before.rings → AreRung new after
are_rung old new before after stays has rings =
    subst (λ cores. HasRung cores new.linked.recorded.journal.notes after.rings) (sym stays.seat.cores)
    (rung_behind old.linked.recorded.core.cores old.linked.recorded.journal.notes new.linked.recorded.journal.notes before.rings after.rings has stays.grows rings)

module _ {J T : Type 0} (old new : ServedView J T) (first journal : JournalView T) (count : ℕ) (was : first ≡ old.linked.recorded.journal) (is : journal ≡ new.linked.recorded.journal)
    (kept : length first.passed + count ≡ length first.notes) (stays : StaysLinked old.linked new.linked) where
  -- so many notes of the journal were there before the step
  since_start : length journal.passed + count ≡ length old.linked.recorded.journal.notes
  since_start =
      let passed : length journal.passed ≡ length first.passed = ap length (ap (λ journal. journal.passed) is ∙ (stays.seat.passed ∙ sym (ap (λ journal. journal.passed) was))) in
      let notes : length first.notes ≡ length old.linked.recorded.journal.notes = ap (λ journal. length journal.notes) was in
      omega (arith, passed, kept, notes)

  -- the notes behind those that were kept are the newer ones
  pub since_newer : drop (length journal.passed + count) (reverse journal.notes) ≡ reverse stays.grows.0
  since_newer =
      let before = old.linked.recorded.journal.notes in
      let newer = stays.grows.0 in
      ap (λ place. drop place (reverse journal.notes)) since_start
      ∙ (ap (λ journal. drop (length before) (reverse journal.notes)) is
      ∙ (ap (λ notes. drop (length before) (reverse notes)) stays.grows.1
      ∙ (ap (drop (length before)) (reverse-append newer before)
      ∙ (ap (λ place. drop place (reverse before ++ reverse newer)) (sym (length-reverse before)) ∙ drop-append_seam (reverse before) (reverse newer)))))

  pub since_within : length journal.passed + count ≤ length journal.notes
  since_within =
      let longer = no_shorter old.linked.recorded.journal.notes new.linked.recorded.journal.notes stays.grows in
      let now : length journal.notes ≡ length new.linked.recorded.journal.notes = ap (λ journal. length journal.notes) is in
      omega (arith, since_start, longer, now)

  -- the rings for the notes behind those that were kept before
  pub since_rung : (before after : BellsView) → AreRung old before → after.rings ≡ rung_for (drop (length journal.passed + count) (reverse journal.notes)) before.rings → AreRung new after
  since_rung before after has rings =
      are_rung old new before after stays has
      (rings
      ∙ (ap (λ place. rung_for (drop place (reverse journal.notes)) before.rings) since_start
      ∙ ap (λ journal. rung_for (drop (length old.linked.recorded.journal.notes) (reverse journal.notes)) before.rings) is))

module _ {T : Type 0} where
  -- a creation is for nobody
  opening_rung : (notes : Journal T) → is_opening notes ≡ true → (rung : List ℕ) → rung_for (reverse notes) rung ≡ rung
  opening_rung [] is rung = refl
  opening_rung (Created queue weight ∷ before) is rung =
      ap (λ notes. rung_for notes rung) (reverse-append (Created queue weight ∷ []) before)
      ∙ (rung_along (reverse before) (Created queue weight ∷ []) rung ∙ opening_rung before is rung)
  opening_rung (_ ∷ before) is rung = cc

-- a worker that was just opened has rung nobody
pub opened_rung : {J T : Type 0} (served : ServedView J T) (core cores : ℕ) (entries : List Entry) (bells : BellsView) (count : ℕ) → served.linked.recorded.journal.notes ≡ creations core entries →
    served.linked.recorded.core.cores ≡ cores → count ≡ cores + 1 → bells.rings ≡ replicate count 0 → AreRung served bells
opened_rung served core cores entries bells count are same counted none =
    none
    ∙ (ap (λ count. replicate count 0) (counted ∙ ap (λ cores. cores + 1) (sym same))
    ∙ (sym (opening_rung (creations core entries) (creations_behind core entries [] refl) (replicate (served.linked.recorded.core.cores + 1) 0))
    ∙ ap (λ notes. rung_for (reverse notes) (replicate (served.linked.recorded.core.cores + 1) 0)) (sym are)))
