-- The table at the start.
use Rattle.std.proofs.Common.{◌≡◌, ℕ, zero, suc, ◌+◌, false, true, List, [], ◌∷◌, length, refl, sym, ap, ◌∙◌, arith, subst}
use Rattle.std.specs.Prelude.{Some, None, is_some}
use lib.ListN.{get_elem?}
use mathlib.Core.Option.{some, some-injective, some-ne-none}
use Rattle.atomic_table.specs.Table.{opening}
use Rattle.run_watch.specs.Tells.{Tells}
use Rattle.atomic_table.specs.Seated.{TableId}
use Rattle.run_watch.specs.Ends.{IsPublisher, IsWatcher}
use Rattle.run_watch.specs.Rule.{IsBoard, IsTold}
use Rattle.run_watch.specs.Views.{Place, first_view, watching}
use Rattle.run_watch.specs.Words.{closed_in, place_of, first_row}
use Rattle.run_watch.specs.declared.board.Known.{Known}
use Rattle.run_watch.specs.declared.board.Terms.{Terms}
use Rattle.run_watch.proofs.Closed.{row-closed}
use Rattle.run_watch.proofs.Lists.{Grows-self}
use Rattle.run_watch.proofs.First.{first_row-length, first_row-at, first-tells}

only_one : (one found : Known) (i : ℕ) → get_elem? (one ∷ []) i ≡ some found → (i ≡ 0) × (one ≡ found)
only_one one found zero e = (refl, some-injective one found e)
only_one one found (suc i) e = absurd (some-ne-none found (sym e))

false-true : false ≡ true → ⊥
false-true e = cc

none-some : (first : ℕ) → None ≡ Some first → ⊥
none-some first e = cc

-- the first row doesn't tell that the core closed by itself
first-closed : (places : ℕ) → closed_in (first_row places) ≡ false
first-closed places = row-closed (first_row places) false (first_row-at places 6 (omega arith))

pub starts : (terms : Terms) → IsBoard terms (opening (0 ∷ 0 ∷ first_row terms.places) [] (first_view terms))
starts terms = record {
  whole = (first_view terms).published;
  publisher = 0;
  words = refl;
  wide = first_row-length terms.places;
  behind = omega arith;
  tells = λ _. first-tells terms;
  closed = λ _. first-closed terms.places;
  closed_at = λ first is. absurd (none-some first is);
  views = λ seat view here. let one = only_one (first_view terms) view seat here in
      subst (IsTold terms (first_view terms).published 0 seat) one.1 (record {
        terms_are = λ _. refl;
        publishes = λ _. (one.0, refl);
        at_done = omega arith;
        reads = λ _. refl;
        saw = Grows-self [];
        counted = omega arith;
        closed = refl;
      });
}

module _ (seat_table table board : TableId) (me : Place) (terms : Terms) (row : List ℕ) (seated : seat_table ≡ board) (is : table ≡ board) (words : board.words ≡ 2 + length row) (rows : row ≡ first_row terms.places) where
  wide : length row ≡ place_of terms.places
  wide = ap (λ (l : List ℕ). length l) rows ∙ first_row-length terms.places

  width : table.words ≡ 2 + place_of terms.places
  width = ap (λ (t : TableId). t.words) is ∙ (words ∙ ap (λ (n : ℕ). 2 + n) wide)

  -- the publisher of a board that was just opened
  pub IsPublisher-first : me.0 ≡ first_view terms → IsPublisher seat_table table me terms row 0
  IsPublisher-first view = record {
    at_table = seated ∙ sym is;
    words = width;
    publishes = ap (λ (v : Known). v.publishes) view;
    knows = ap (λ (v : Known). v.knows) view;
    terms_are = ap (λ (v : Known). v.terms) view;
    row_is = ap (λ (v : Known). v.published.row) view ∙ sym rows;
    wide = wide;
    begun = ap (λ (v : Known). v.published.begun) view;
    done = ap (λ (v : Known). v.published.done) view;
    tells = λ was. absurd (false-true (sym (ap (λ (v : Known). is_some v.published.closed) view) ∙ was));
  }

  -- and its watcher
  pub IsWatcher-first : (next : List ℕ) → next ≡ row → me.0 ≡ watching (first_view terms) → IsWatcher seat_table table me terms row next 0
  IsWatcher-first next same view = record {
    at_table = seated ∙ sym is;
    words = width;
    knows = ap (λ (v : Known). v.knows) view;
    terms_are = ap (λ (v : Known). v.terms) view;
    wide = wide;
    next_wide = ap (λ (l : List ℕ). length l) same ∙ wide;
    tells = subst (λ (l : List ℕ). Tells terms me.0.looked.seen l) (sym rows) (subst (λ notes. Tells terms notes (first_row terms.places)) (sym (ap (λ (v : Known). v.looked.seen) view)) (first-tells terms));
    count_is = ap (λ (v : Known). v.looked.count) view;
    closed_is = ap (λ (v : Known). v.looked.closed) view ∙ sym (ap closed_in rows ∙ first-closed terms.places);
  }
