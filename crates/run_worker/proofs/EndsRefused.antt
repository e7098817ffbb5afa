-- What small workers leave at their end that is refused: a core that closed by itself, notes that are kept, a board that is behind, another sink.
use Rattle.run_worker.proofs.Names.{ActsUnlessRefused, ap, arith, EndedView, HasEnded, inl, inr, IsBetweenTurns, JobId, Journal, KeepsOn, length, Meaning, Option, opened_beside, ServesToItsEnd, ShownView, Shows, sym, WorkerView, ℕ, [], ◌∙◌, ◌∷◌}
use Rattle.run_worker.proofs.Names.{◌≡◌}
use Rattle.base_words.specs.declared.note.Note.TheVariants.{CoreClosed, Pick, Start, Took, Yield}
use Rattle.base_words.specs.declared.order.Mode.TheVariants.{Return}
use Rattle.run_worker.proofs.ServesRefused.{always, has, never, silent, taker, twice, unasked}
use Rattle.run_worker.proofs.SmallWorkers.{SmallWorker, board_of, linked_of, one_note}
use Rattle.run_worker.proofs.Supplied.{hands_notes}

-- a core that closed and was given no order
abbrev closed_alone : Journal ℕ
closed_alone = CoreClosed Return ∷ []

-- its sink never refused
closes_by_itself : (sink : Journal ℕ) → ActsUnlessRefused never sink (linked_of closed_alone [] 1000).recorded → ⊥
closes_by_itself sink (inl (inl asked, _)) = cc
closes_by_itself sink (inl (inr (_, fits, few), _)) = omega (arith, few)
closes_by_itself sink (inr (taken, refused, _)) = refused

-- its sink refused when it had no note, and 1000 notes were free
closes_too_early : ActsUnlessRefused {S = Journal ℕ} (λ sink count. count ≡ 0) [] (linked_of closed_alone [] 1000).recorded → ⊥
closes_too_early (inl (inl asked, _)) = cc
closes_too_early (inl (inr (_, fits, few), _)) = omega (arith, few)
closes_too_early (inr (taken, refused, (inl asked, _))) = cc
closes_too_early (inr (taken, refused, (inr (_, fits, few), _))) = omega (arith, few)

-- a job of core 0, and a core whose turns have up to two polls, and that polled it once
abbrev job : JobId
job = record { from = 1; to = 0; number = 1 }

-- its turn is open
leaves_a_turn_open : IsBetweenTurns (record (opened_beside {J = ℕ} {T = ℕ} 0 1 1 9 2) { journal = record { notes = Yield job 5 ∷ Start job ∷ Pick 0 0 ∷ Took job 0 ∷ []; passed = []; room = 9 } }) → ⊥
leaves_a_turn_open between = cc

-- what comes back of a core with one note
abbrev ended_with : Journal ℕ → ShownView ℕ → EndedView ℕ ℕ (Journal ℕ)
ended_with passed shown = record { linked = linked_of one_note passed 1000; sink = passed; shown = shown }

-- the mark of a sink is the sink itself, and another one comes back
gives_another_sink : (worker : WorkerView ℕ ℕ ℕ ℕ ℕ) (ended : EndedView ℕ ℕ ℕ) → worker.sink ≡ 0 → ended.sink ≡ 1 → KeepsOn (λ sink. sink) worker ended → ⊥
gives_another_sink worker ended was is keeps = omega (arith, was, is, keeps.marked)

module _ (meaning : Meaning ℕ ℕ) (sleeps : ℕ → Option ℕ) (reads : ℕ → ℕ → ℕ → Type 0) (asked : ℕ → ℕ → JobId → ℕ → Type 0) where
  -- its note isn't passed on, and its sink never refused
  keeps_at_its_end : HasEnded meaning has never (ended_with [] (board_of one_note 1)) → ⊥
  keeps_at_its_end ended = elim ended.rest [ inl same ↦ cc | inr refused ↦ refused ]

  -- its board doesn't tell its last note
  ends_unpublished : (old : SmallWorker) → ServesToItsEnd meaning sleeps reads asked (taker never silent) old (ended_with one_note (board_of [] 1)) → ⊥
  ends_unpublished old ended = is_behind ended.shows
    where
      notes : one_note ≡ ended.last.linked.recorded.journal.notes
      notes = hands_notes (taker never silent) ended.last.linked (linked_of one_note one_note 1000) ended.last.sink one_note ended.hands

      is_behind : Shows ended.last.linked.recorded.journal.notes ended.last.shown (board_of [] 1) → ⊥
      is_behind (inl did) = let none : [] ≡ one_note = ap (λ (shown : ShownView ℕ). shown.notes) did ∙ sym notes in cc
      is_behind (inr (inl many, same)) = let few = ap (λ (shown : ShownView ℕ). shown.count) same in omega (arith, many, few)
      is_behind (inr (inr many, same)) = let few = ap (λ (notes : Journal ℕ). length notes) notes in omega (arith, many, few)

  -- its sink refused the note, and isn't asked once more
  ends_unasked : (old : SmallWorker) → ServesToItsEnd meaning sleeps reads asked (taker always twice) old (ended_with [] (board_of one_note 1)) → ⊥
  ends_unasked old ended = unasked ended.last.sink [] ended.hands.asked
