-- The table behind a step of the publisher, and behind a step of any seat that changes no word.
use Rattle.std.proofs.Common.{◌≡◌, ℕ, ◌<◌, ◌≤◌, true, List, ◌∷◌, length, set, get_or, sym, ap, ◌∙◌, arith, subst, ⊎_elim}
use Rattle.std.proofs.lemmas.List.{set-get_or}
use Rattle.std.specs.Prelude.{Some, is_some}
use lib.ListN.{get_elem?}
use mathlib.Core.Option.{some}
use Rattle.atomic_table.specs.Table.{State}
use Rattle.atomic_table.proofs.Lists.{at_set}
use Rattle.note_journal.specs.Journals.{JournalView}
use Rattle.run_watch.specs.Closed.{told_by}
use Rattle.run_watch.specs.Growth.{Grows}
use Rattle.run_watch.specs.Rule.{IsTold, IsBoard}
use Rattle.run_watch.specs.Tells.{Tells}
use Rattle.run_watch.specs.Words.{closed_in}
use Rattle.run_watch.specs.declared.board.Known.{Known}
use Rattle.run_watch.specs.declared.board.Looked.{Looked}
use Rattle.run_watch.specs.declared.board.Published.{Published}
use Rattle.run_watch.specs.declared.board.Terms.{Terms}
use Rattle.run_watch.proofs.Lists.{Grows-trans}

-- a publication is on the way afterwards, or is done that a look before it doesn't know: what a seat knows stays true
pub IsTold-later : (terms : Terms) (whole later : Published) (publisher seat : ℕ) (view : Known) (published : Published) → whole.done < later.begun → whole.done ≤ later.done → Grows whole.notes later.notes
    → ((count : ℕ) → count ≤ whole.done → told_by later.closed count ≡ told_by whole.closed count) → IsTold terms whole publisher seat view → (view.publishes ≡ true → (seat ≡ publisher) × (published ≡ later)) → IsTold terms later publisher seat (record view { published = published })
IsTold-later terms whole later publisher seat view published ahead more grows closes told knows = record {
  terms_are = told.terms_are;
  publishes = knows;
  at_done = let low = told.at_done in omega arith;
  reads = λ same. let low = told.at_done in absurd (omega arith);
  saw = Grows-trans view.looked.seen whole.notes later.notes told.saw grows;
  counted = let low = told.counted in omega arith;
  closed = told.closed ∙ sym (closes view.looked.count told.counted);
}

module _ (terms : Terms) (s : State (JournalView ℕ) Known) (r : IsBoard terms s) (seat : ℕ) (view : Known) (at : get_elem? s.views seat ≡ some view) where
  -- a step of the publisher, which changes words
  pub publisher_steps : view.publishes ≡ true → (later : Published) (words : List ℕ) → view.published.done < later.begun → view.published.done ≤ later.done → later.done ≤ later.begun
      → Grows view.published.notes later.notes → length later.row ≡ length view.published.row → (later.begun ≡ later.done → Tells terms later.notes later.row)
      → ((count : ℕ) → count ≤ view.published.done → told_by later.closed count ≡ told_by view.published.closed count) → (later.begun ≡ later.done → closed_in later.row ≡ is_some later.closed)
      → ((first : ℕ) → later.closed ≡ Some first → (0 < first) × (first ≤ later.done)) → words ≡ later.begun ∷ later.done ∷ later.row
      → IsBoard terms (record { words = words; homes = s.homes; views = set s.views seat (record view { published = later }) })
  publisher_steps go later words ahead more behind grows wide tells closes is at_first are =
      let told = (r.views seat view at).publishes go in
      let now : view.published ≡ r.whole = told.1 in
      let done : view.published.done ≡ r.whole.done = ap (λ (p : Published). p.done) now in
      let ahead' : r.whole.done < later.begun = omega arith in
      let more' : r.whole.done ≤ later.done = omega arith in
      let grows' : Grows r.whole.notes later.notes = subst (λ (p : Published). Grows p.notes later.notes) now grows in
      let closes' : (count : ℕ) → count ≤ r.whole.done → told_by later.closed count ≡ told_by r.whole.closed count =
      subst (λ (p : Published). (count : ℕ) → count ≤ p.done → told_by later.closed count ≡ told_by p.closed count) now closes in record {
        whole = later;
        publisher = r.publisher;
        words = are;
        wide = wide ∙ (ap (λ (p : Published). length p.row) now ∙ r.wide);
        behind = behind;
        tells = tells;
        closed = is;
        closed_at = at_first;
        views = λ id known here. ⊎_elim
            (λ mine. subst (IsTold terms later r.publisher id) mine.1
            (IsTold-later terms r.whole later r.publisher id view later ahead' more' grows' closes' (subst (λ (k : ℕ). IsTold terms r.whole r.publisher k view) (sym mine.0) (r.views seat view at))
            (λ _. (mine.0 ∙ told.0, λ i. later))))
            (λ other. IsTold-later terms r.whole later r.publisher id known known.published ahead' more' grows' closes' (r.views id known other.1)
            (λ also. absurd (other.0 (((r.views id known other.1).publishes also).0 ∙ sym told.0))))
            (at_set s.views seat id (record view { published = later }) known here);
      }

  -- a step that changes no word: the seat looks
  pub seat_looks : (word : ℕ) (looked : Looked) → IsTold terms r.whole r.publisher seat (record view { looked = looked })
      → IsBoard terms (record { words = set s.words word (get_or s.words word 0); homes = s.homes; views = set s.views seat (record view { looked = looked }) })
  seat_looks word looked told = record {
    whole = r.whole;
    publisher = r.publisher;
    words = set-get_or s.words word 0 ∙ r.words;
    wide = r.wide;
    behind = r.behind;
    tells = r.tells;
    closed = r.closed;
    closed_at = r.closed_at;
    views = λ id known here. ⊎_elim
        (λ mine. subst (IsTold terms r.whole r.publisher id) mine.1 (subst (λ (k : ℕ). IsTold terms r.whole r.publisher k (record view { looked = looked })) (sym mine.0) told))
        (λ other. r.views id known other.1)
        (at_set s.views seat id (record view { looked = looked }) known here);
  }
