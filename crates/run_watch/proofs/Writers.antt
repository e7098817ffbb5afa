-- What the publisher's seat knows on its way through a publication.
use Rattle.std.proofs.Common.{◌≡◌, ℕ, ◌+◌, ◌-◌, ◌<◌, true, List, length, set, sym, ap, ◌∙◌, arith, subst}
use Rattle.std.specs.Prelude.{is_some}
use Rattle.atomic_table.specs.Seated.{TableId}
use Rattle.base_words.specs.Journal.{Journal}
use Rattle.run_watch.specs.Closed.{closed_by_itself, told_after}
use Rattle.run_watch.specs.Ends.{IsPublisher, IsWriting}
use Rattle.run_watch.specs.Told.{Puts}
use Rattle.run_watch.specs.Views.{Place, with_begun, with_row, with_done}
use Rattle.run_watch.specs.Words.{closed_in}
use Rattle.run_watch.specs.declared.board.Known.{Known}
use Rattle.run_watch.specs.declared.board.Terms.{Terms}

-- a seat that knows the row knows it
pub row-known : (view : Known) (row : List ℕ) → view.published.row ≡ row → view ≡ with_row view row
row-known view row is = ap (λ (r : List ℕ). with_row view r) is

-- behind a put
pub put-view : (old new : Place) (row after : List ℕ) (at place word : ℕ) → at ≡ 2 + place → Puts (at - 2) word old word new → old.0.published.row ≡ row → after ≡ set row place word
    → new.0 ≡ with_row old.0 after
put-view old new row after at place word is puts known put =
    let back : at - 2 ≡ place = omega arith in
    ap (λ (m : Place). m.0) puts ∙ ((λ i. with_row old.0 (set (known i) (back i) word)) ∙ ap (λ (r : List ℕ). with_row old.0 r) (sym put))

pub IsWriting-row : (seat_table later table : TableId) (old new : Place) (row after : List ℕ) → IsWriting seat_table table old row → later ≡ seat_table → new.0 ≡ with_row old.0 after → length after ≡ length row
    → IsWriting later table new after
IsWriting-row seat_table later table old new row after writing same view wide = record {
  at_table = same ∙ writing.at_table;
  words = writing.words ∙ ap (λ (n : ℕ). 2 + n) (sym wide);
  publishes = ap (λ (v : Known). v.publishes) view ∙ writing.publishes;
  row_is = ap (λ (v : Known). v.published.row) view;
  begun = subst (λ (v : Known). v.published.done < v.published.begun) (sym view) writing.begun;
}

pub IsPublisher-begun : (seat_table later table : TableId) (old new : Place) (terms : Terms) (row : List ℕ) (count next : ℕ) → IsPublisher seat_table table old terms row count → next ≡ count + 1 → later ≡ seat_table
    → new.0 ≡ with_begun old.0 next → IsWriting later table new row
IsPublisher-begun seat_table later table old new terms row count next is up same view = record {
  at_table = same ∙ is.at_table;
  words = is.words ∙ ap (λ (n : ℕ). 2 + n) (sym is.wide);
  publishes = ap (λ (v : Known). v.publishes) view ∙ is.publishes;
  row_is = ap (λ (v : Known). v.published.row) view ∙ is.row_is;
  begun = subst (λ (v : Known). v.published.done < v.published.begun) (sym view) (let done : old.0.published.done ≡ count = is.done in omega arith);
}

pub IsPublisher-done : (seat_table later table : TableId) (old new : Place) (terms : Terms) (row after : List ℕ) (count next : ℕ) (notes : Journal ℕ) → IsPublisher seat_table table old terms row count → later ≡ seat_table
    → new.0 ≡ with_done (with_row (with_begun old.0 next) after) next notes → length after ≡ length row
    → (is_some (told_after old.0.published.closed next (closed_in after)) ≡ true → closed_by_itself notes ≡ true) → IsPublisher later table new terms after next
IsPublisher-done seat_table later table old new terms row after count next notes is same view wide own = record {
  at_table = same ∙ is.at_table;
  words = is.words;
  publishes = ap (λ (v : Known). v.publishes) view ∙ is.publishes;
  knows = ap (λ (v : Known). v.knows) view ∙ is.knows;
  terms_are = ap (λ (v : Known). v.terms) view ∙ is.terms_are;
  row_is = ap (λ (v : Known). v.published.row) view;
  wide = wide ∙ is.wide;
  begun = ap (λ (v : Known). v.published.begun) view;
  done = ap (λ (v : Known). v.published.done) view;
  tells = subst (λ (v : Known). is_some v.published.closed ≡ true → closed_by_itself v.published.notes ≡ true) (sym view) own;
}
