-- The steps of the publisher's seat: begin, put and end.
use Rattle.std.proofs.Common.{◌≡◌, ℕ, ◌==◌, suc, ◌+◌, ◌-◌, ◌<◌, ◌≤◌, true, List, ◌∷◌, set, get_or, refl, sym, ap, ◌∙◌, arith, subst, length-set}
use Rattle.std.specs.Prelude.{Some, is_some}
use prog.Atomic.{either}
use lib.ListN.{get_elem?}
use mathlib.Core.Option.{some, some-injective}
use Rattle.atomic_table.specs.Table.{State, Act, Valid, Allows, keeps, stepped, carried_after}
use Rattle.atomic_table.proofs.Lists.{exchanged}
use Rattle.note_journal.specs.Journals.{JournalView}
use Rattle.run_watch.specs.Closed.{told_after}
use Rattle.run_watch.specs.Growth.{Grows}
use Rattle.run_watch.specs.Rule.{IsBoard}
use Rattle.run_watch.specs.Tells.{Tells}
use Rattle.run_watch.specs.Told.{Begins, Puts, Ends}
use Rattle.run_watch.specs.Views.{Place, with_begun, with_row, with_done}
use Rattle.run_watch.specs.Words.{closed_in}
use Rattle.run_watch.specs.declared.board.Known.{Known}
use Rattle.run_watch.specs.declared.board.Published.{Published}
use Rattle.run_watch.specs.declared.board.Terms.{Terms}
use Rattle.run_watch.proofs.Closed.{told-before, told-now, told-within}
use Rattle.run_watch.proofs.Lists.{Grows-self}
use Rattle.run_watch.proofs.Stepping.{publisher_steps}

module _ (terms : Terms) (slots seat : ℕ) (me : Place) (go : me.0.publishes ≡ true) where
  abbrev p : Published
  p = me.0.published

  -- the words as the publisher knows them
  words_known : (s : State (JournalView ℕ) Known) (r : IsBoard terms s) → get_elem? s.views seat ≡ some me.0 → s.words ≡ p.begun ∷ p.done ∷ p.row
  words_known s r at = r.words ∙ ap (λ (q : Published). q.begun ∷ q.done ∷ q.row) (sym ((r.views seat me.0 at).publishes go).1)

  -- the number of the publication that first told of the closing
  at_first : (s : State (JournalView ℕ) Known) (r : IsBoard terms s) → get_elem? s.views seat ≡ some me.0 → (first : ℕ) → p.closed ≡ Some first → (0 < first) × (first ≤ p.done)
  at_first s r at = subst (λ (q : Published). (first : ℕ) → q.closed ≡ Some first → (0 < first) × (first ≤ q.done)) (sym ((r.views seat me.0 at).publishes go).1) r.closed_at

  pub begins : (count : ℕ) → p.done < count → Allows (IsBoard terms) slots seat me 0 (λ _. count) (λ _. Begins count me count)
  begins count ahead s r wide at _ = (
    with_begun me.0 count,
    keeps,
    tt,
    publisher_steps terms s r seat me.0 at go (record p { begun = count }) (set s.words 0 count) ahead (omega arith) (omega arith) (Grows-self p.notes) refl (λ same. absurd (omega arith))
        (λ number low. refl) (λ same. absurd (omega arith)) (at_first s r at) (ap (λ (words : List ℕ). set words 0 count) (words_known s r at)),
    refl,
  )

  puts_at : (place index word : ℕ) → place ≡ index → p.done < p.begun → Allows (IsBoard terms) slots seat me (suc (suc index)) (λ _. word) (λ _. Puts place word me word)
  puts_at place index word same ahead s r wide at _ = (
    with_row me.0 (set p.row index word),
    keeps,
    tt,
    publisher_steps terms s r seat me.0 at go (record p { row = set p.row index word }) (set s.words (suc (suc index)) word) ahead (omega arith) (omega arith) (Grows-self p.notes) (length-set p.row index word) (λ same. absurd (omega arith))
        (λ number low. refl) (λ same. absurd (omega arith)) (at_first s r at) (ap (λ (words : List ℕ). set words (suc (suc index)) word) (words_known s r at)),
    λ i. (with_row me.0 (set p.row (sym same i) word), me.1),
  )

  pub puts : (at place word : ℕ) → at ≡ 2 + place → p.done < p.begun → Allows (IsBoard terms) slots seat me at (λ _. word) (λ _. Puts (at - 2) word me word)
  puts at place word is ahead =
      let there : suc (suc place) ≡ at = omega arith in
      let back : at - 2 ≡ place = omega arith in
      subst (λ (k : ℕ). Allows (IsBoard terms) slots seat me k (λ _. word) (λ _. Puts (at - 2) word me word)) there (puts_at (at - 2) place word back ahead)

  -- the word of those done becomes `next`
  abbrev Goes : State (JournalView ℕ) Known → ℕ → JournalView ℕ → ℕ → ℕ → Type 0
  Goes s count journal found next =
      (view : Known) × (act : Act (JournalView ℕ)) × Valid s.homes me.1 act × IsBoard terms (stepped s 1 next seat me.1 view act) × Ends count (some journal) me found (view, carried_after me.1 act)

  pub ends : (old count : ℕ) (journal : JournalView ℕ) → me.0.knows ≡ true → p.done ≡ old → p.done < count → p.begun ≡ count → Grows p.notes journal.notes → Tells me.0.terms journal.notes p.row
      → (is_some p.closed ≡ true → closed_in p.row ≡ true)
      → Allows (IsBoard terms) slots seat me 1 (λ found. either (found == old) count found) (Ends count (some journal) me)
  ends old count journal knows done ahead begun grows tells stays s r wide at _ =
      let found : get_or s.words 1 0 ≡ p.done = ap (λ (words : List ℕ). get_or words 1 0) (words_known s r at) in
      exchanged (get_or s.words 1 0) old count (Goes s count journal (get_or s.words 1 0))
      (λ _. (
        with_done me.0 count journal.notes,
        keeps,
        tt,
        publisher_steps terms s r seat me.0 at go (record p { done = count; notes = journal.notes; closed = told_after p.closed count (closed_in p.row) }) (set s.words 1 count) (omega arith) (omega arith) (omega arith) grows refl
            (λ _. subst (λ t. Tells t journal.notes p.row) ((r.views seat me.0 at).terms_are knows) tells)
            (λ number low. told-before p.closed count number (closed_in p.row) (omega arith)) (λ _. told-now p.closed count (closed_in p.row) stays)
            (told-within p.closed count p.done (closed_in p.row) (omega arith) (at_first s r at)) (ap (λ (words : List ℕ). set words 1 count) (words_known s r at)),
        λ said is. ap (λ (j : JournalView ℕ). (with_done me.0 count j.notes, me.1)) (some-injective journal said is),
      ))
      (λ differs. absurd (differs (found ∙ done)))
