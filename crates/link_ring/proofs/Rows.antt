-- Rows of a grid that ends, from the last one on, and the links of one row.
use Rattle.std.proofs.Common.{◌≡◌, ℕ, ◌+◌, ◌-◌, ◌<◌, ◌≤◌, List, arith, subst, ⊎_elim}
use Rattle.std.proofs.lemmas.Bool.{cases_eq}
use Rattle.base_words.specs.declared.order.Order.{Order}
use Rattle.base_words.specs.declared.order.Outcome.{Outcome}
use Rattle.link_ring.specs.Ends.{EndsView}
use Rattle.link_ring.specs.Grid.{IsGrid, IsClosing, AreFronts, AreOneLink, AreReunited, EndsLink, EndsRow}
use Rattle.link_ring.proofs.Closing.{fronts_same, fronts_fronts, link_of_front, last_out, last_in, row_out, row_in, closing_next, closing_first}

module _ {J T : Type 0} (fits : Order J → Outcome J T → Type 0) (cores : ℕ) where
  -- so many links of a row have ended
  pub record IsRowPart (s count : ℕ) (old new : List (EndsView J T)) : Type 0 where
    pub closing : (d : ℕ) → d + count ≡ cores → IsClosing cores s d new
    pub fronts : AreFronts old new
    pub links : (d : ℕ) → d < cores → cores ≤ d + count → AreOneLink fits old s d

  -- so many rows have ended
  pub record AreRowsPart (count : ℕ) (old new : List (EndsView J T)) : Type 0 where
    pub closing : (s : ℕ) → s + count ≡ cores + 1 → IsClosing cores s 0 new
    pub fronts : AreFronts old new
    pub links : (s d : ℕ) → s ≤ cores → d < cores → cores + 1 ≤ s + count → AreOneLink fits old s d

  pub row_begins : (s : ℕ) (all : List (EndsView J T)) → s ≤ cores → IsClosing cores (s + 1) 0 all → IsRowPart s 0 all all
  row_begins s all in_s closing = record {
    closing = λ d is. let last : cores ≡ d = omega arith in subst (λ (n : ℕ). IsClosing cores s n all) last (closing_next cores s all in_s closing);
    fronts = fronts_same all;
    links = λ d low far. absurd (omega arith);
  }

  pub row_goes_on : (s count : ℕ) (old all new : List (EndsView J T)) → s ≤ cores → count < cores → IsRowPart s count old all
      → EndsLink fits cores s (cores - 1 - count) all new → IsRowPart s (count + 1) old new
  row_goes_on s count old all new in_s low part ends =
      let closing : IsClosing cores s (cores - 1 - count + 1) all = part.closing (cores - 1 - count + 1) (omega arith) in
      record {
        closing = λ d is. let this : cores - 1 - count ≡ d = omega arith in subst (λ (n : ℕ). IsClosing cores s n new) this ends.closing;
        fronts = fronts_fronts old all new part.fronts ends.fronts;
        links = λ d in_d far.
            ⊎_elim
            (λ is. rw is
            (link_of_front fits old all s (cores - 1 - count) part.fronts (last_out cores s all (cores - 1 - count) in_s closing) (last_in cores s all (cores - 1 - count) closing) ends.link))
            (λ away. part.links d in_d (omega arith))
            (cases_eq d (cores - 1 - count));
      }

  pub row_ends : (s count : ℕ) (old new : List (EndsView J T)) → count ≡ cores → IsRowPart s count old new → EndsRow fits cores s old new
  row_ends s count old new whole part = record {
    closing = part.closing 0 (omega arith);
    fronts = part.fronts;
    links = λ core low. part.links core low (omega arith);
  }

  pub rows_begin : (all : List (EndsView J T)) → IsGrid cores all → AreRowsPart 0 all all
  rows_begin all grid = record {
    closing = λ s is. let last : cores + 1 ≡ s = omega arith in subst (λ (n : ℕ). IsClosing cores n 0 all) last (closing_first cores all grid);
    fronts = fronts_same all;
    links = λ s d in_s low far. absurd (omega arith);
  }

  pub rows_go_on : (count : ℕ) (old all new : List (EndsView J T)) → count < cores + 1 → AreRowsPart count old all
      → EndsRow fits cores (cores - count) all new → AreRowsPart (count + 1) old new
  rows_go_on count old all new low part ends =
      let closing : IsClosing cores (cores - count + 1) 0 all = part.closing (cores - count + 1) (omega arith) in
      record {
        closing = λ s is. let this : cores - count ≡ s = omega arith in subst (λ (n : ℕ). IsClosing cores n 0 new) this ends.closing;
        fronts = fronts_fronts old all new part.fronts ends.fronts;
        links = λ s d in_s in_d far.
            ⊎_elim
            (λ is. rw is
            (link_of_front fits old all (cores - count) d part.fronts (row_out cores (cores - count) all d in_d closing) (row_in cores (cores - count) all d in_d closing) (ends.links d in_d)))
            (λ away. part.links s d in_s in_d (omega arith))
            (cases_eq s (cores - count));
      }

  pub rows_end : (count : ℕ) (old new : List (EndsView J T)) → count ≡ cores + 1 → AreRowsPart count old new → AreReunited fits cores old
  rows_end count old new whole part sender core in_s in_d = part.links sender core in_s in_d (omega arith)
