-- What the publisher's seat learns of a watcher's.
use Rattle.std.proofs.Common.{◌≡◌, ℕ, ◌<◌, ◌≤◌, true, false, set, get_or, drop, refl, sym, arith, subst, ⊎_elim}
use Rattle.std.proofs.lemmas.List.{append-nil}
use Rattle.std.specs.Prelude.{Some}
use Rattle.atomic_table.specs.Seated.{TableId}
use lib.ListN.{get_elem?}
use mathlib.Core.Option.{some}
use Rattle.atomic_table.specs.Table.{Allows, Joins, keeps}
use Rattle.atomic_table.proofs.Lists.{at_set}
use Rattle.run_watch.specs.Closed.{told_by}
use Rattle.run_watch.specs.Ends.{name_of}
use Rattle.run_watch.specs.Growth.{Grows}
use Rattle.run_watch.specs.Rule.{IsBoard, IsTold}
use Rattle.run_watch.specs.Told.{Compares}
use Rattle.run_watch.specs.Views.{Place, beside, spent_view}
use Rattle.run_watch.specs.declared.board.Known.{Known}
use Rattle.run_watch.specs.declared.board.Published.{Published}
use Rattle.run_watch.specs.declared.board.Terms.{Terms}
use Rattle.run_watch.proofs.Closed.{told-never}
use Rattle.run_watch.proofs.Stepping.{seat_looks}

-- two tables by one name are one
pub same_table : (a b : TableId) → name_of a ≡ name_of b → a ≡ b
same_table a b e = λ i. record {
  words = get_or (e i) 0 0;
  slots = get_or (e i) 1 0;
  views_name = get_or (e i) 2 0;
  atom = get_or (e i) 3 0;
  block = get_or (e i) 4 0;
  offset = get_or (e i) 5 0;
  slot_names = drop 6 (e i);
}

false-true : false ≡ true → ⊥
false-true e = cc

module _ (terms : Terms) where
  spent-told : (whole : Published) (publisher seat : ℕ) → ((first : ℕ) → whole.closed ≡ Some first → (0 < first) × (first ≤ whole.done)) → IsTold terms whole publisher seat spent_view
  spent-told whole publisher seat at_first = record {
    terms_are = λ no. absurd (false-true no);
    publishes = λ no. absurd (false-true no);
    at_done = omega arith;
    reads = λ _. refl;
    saw = (whole.notes, sym (append-nil whole.notes));
    counted = omega arith;
    closed = told-never whole.closed whole.done at_first;
  }

  pub joins : (seat : ℕ) (view : Known) (other : ℕ) (watches : Known) → Joins (IsBoard terms) seat view other watches (beside view watches) spent_view
  joins seat view other watches s r at apart there =
      let told = r.views seat view at in
      let here : get_elem? s.views other ≡ some watches = ⊎_elim (λ mine. absurd (apart mine.0)) (λ also. also.1) (at_set s.views seat other (beside view watches) watches there) in
      let seen = r.views other watches here in record {
        whole = r.whole;
        publisher = r.publisher;
        words = r.words;
        wide = r.wide;
        behind = r.behind;
        tells = r.tells;
        closed = r.closed;
        closed_at = r.closed_at;
        views = λ id known found. ⊎_elim
            (λ spent. subst (IsTold terms r.whole r.publisher id) spent.1 (spent-told r.whole r.publisher id r.closed_at))
            (λ rest. ⊎_elim
            (λ mine. subst (IsTold terms r.whole r.publisher id) mine.1
            (subst (λ (k : ℕ). IsTold terms r.whole r.publisher k (beside view watches)) (sym mine.0)
            (record { terms_are = told.terms_are; publishes = told.publishes; at_done = seen.at_done; reads = seen.reads; saw = seen.saw; counted = seen.counted; closed = seen.closed })))
            (λ also. r.views id known also.1)
            (at_set s.views seat id (beside view watches) known rest.1))
            (at_set (set s.views seat (beside view watches)) other id spent_view known found);
      }

  pub compares : (slots seat : ℕ) (me : Place) → me.0.publishes ≡ true → Allows (IsBoard terms) slots seat me 0 (λ n. n) (Compares me)
  compares slots seat me go s r wide at _ =
      let told = r.views seat me.0 at in
      let now : r.whole ≡ me.0.published = sym (told.publishes go).1 in (
        me.0,
        keeps,
        tt,
        seat_looks terms s r seat me.0 at 0 me.0.looked told,
        record {
          same = refl;
          grows = subst (λ (p : Published). Grows me.0.looked.seen p.notes) now told.saw;
          counted = subst (λ (p : Published). me.0.looked.count ≤ p.done) now told.counted;
          closed = subst (λ (p : Published). me.0.looked.closed ≡ told_by p.closed me.0.looked.count) now told.closed;
        },
      )
