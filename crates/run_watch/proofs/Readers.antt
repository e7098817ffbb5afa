-- What a watcher's seat knows on its way through a look.
use Rattle.std.proofs.Common.{◌≡◌, ◌≢◌, ℕ, zero, suc, ◌+◌, ◌<◌, ◌≤◌, List, [], ◌∷◌, ◌++◌, length, set, take, refl, sym, ap, ◌∙◌, arith, subst}
use Rattle.std.proofs.Math.Seq.{take-length}
use mathlib.Core.Logic.{dite}
use native.Mathlib.Decide.{ℕ_discrete}
use Rattle.atomic_table.specs.Seated.{TableId}
use Rattle.run_watch.specs.Ends.{IsWatcher}
use Rattle.run_watch.specs.Growth.{Grows}
use Rattle.run_watch.specs.Tells.{Tells}
use Rattle.run_watch.specs.Told.{Reads, Checks, Finds, Found, FoundNone}
use Rattle.run_watch.specs.Views.{Place, with_look, with_reads, watching}
use Rattle.run_watch.specs.Words.{closed_in, place_of}
use Rattle.run_watch.specs.declared.board.Known.{Known}
use Rattle.run_watch.specs.declared.board.Terms.{Terms}

pub take-set : (row : List ℕ) (index word : ℕ) → index < length row → take (suc index) (set row index word) ≡ take index row ++ word ∷ []
take-set [] index word within = absurd (omega arith)
take-set (x ∷ row) zero word within = refl
take-set (x ∷ row) (suc index) word within = ap (λ (l : List ℕ). x ∷ l) (take-set row index word (omega arith))

pub length-take : (row : List ℕ) (count : ℕ) → count ≤ length row → length (take count row) ≡ count
length-take row zero low = refl
length-take [] (suc count) low = absurd (omega arith)
length-take (x ∷ row) (suc count) low = ap suc (length-take row count (omega arith))

-- one more word is read
pub reads-on : (first old new : Place) (row after : List ℕ) (index next word : ℕ) → old.0 ≡ with_reads first.0 (take index row) → index < length row → Reads old word new → after ≡ set row index word → next ≡ index + 1
    → new.0 ≡ with_reads first.0 (take next after)
reads-on first old new row after index next word so_far within reads is up =
    let e : suc index ≡ next = omega arith in
    ap (λ (m : Place). m.0) reads
    ∙ (ap (λ (v : Known). with_reads v (v.looked.read ++ word ∷ [])) so_far
    ∙ ap (λ (l : List ℕ). with_reads first.0 l) (sym (take-set row index word within) ∙ (λ i. take (e i) (sym is i))))

module _ (first mid new : Place) (row : List ℕ) (at found : ℕ) (view : mid.0 ≡ with_reads (with_look first.0 at) row) (checks : Checks mid found new) where
  at-is : mid.0.looked.at ≡ at
  at-is = ap (λ (v : Known). v.looked.at) view

  -- a look that found one publication
  pub look-finds : length row ≡ place_of first.0.terms.places → found ≡ at → Found row at first.0 new.0
  look-finds wide same =
      let f : Finds mid new = checks.same (same ∙ sym at-is) in
      let seen : new.0.looked.seen ≡ f.notes = ap (λ (m : Place). m.0.looked.seen) f.seen in
      let longer : length row ≡ length f.row = wide ∙ sym (f.wide ∙ ap (λ (v : Known). place_of v.terms.places) view) in
      let read : row ≡ take (length row) f.row = sym (ap (λ (v : Known). v.looked.read) view) ∙ (f.reads ∙ ap (λ (v : Known). take (length v.looked.read) f.row) view) in
      let whole : f.row ≡ row = sym (read ∙ (ap (λ (n : ℕ). take n f.row) longer ∙ take-length f.row)) in record {
        grows = subst (λ notes. Grows first.0.looked.seen notes) (sym seen) (subst (λ (v : Known). Grows v.looked.seen f.notes) view f.grows);
        tells = subst (λ notes. Tells first.0.terms notes row) (sym seen) (subst (λ l. Tells first.0.terms f.notes l) whole (subst (λ (v : Known). Tells v.terms f.notes f.row) view f.tells));
        count_is = ap (λ (m : Place). m.0.looked.count) f.seen ∙ at-is;
        later = subst (λ (v : Known). v.looked.count ≤ v.looked.at) view f.later;
        closed_is = ap (λ (m : Place). m.0.looked.closed) f.seen ∙ ap (λ (v : Known). closed_in v.looked.read) view;
        told = λ was. f.told (ap (λ (v : Known). v.looked.closed) view ∙ was);
      }

  -- and one that didn't
  pub look-misses : found ≢ at → FoundNone first.0 new.0
  look-misses differs =
      let e : new ≡ mid = checks.other (λ same. differs (same ∙ at-is)) in record {
        seen = ap (λ (m : Place). m.0.looked.seen) e ∙ ap (λ (v : Known). v.looked.seen) view;
        count = ap (λ (m : Place). m.0.looked.count) e ∙ ap (λ (v : Known). v.looked.count) view;
        closed = ap (λ (m : Place). m.0.looked.closed) e ∙ ap (λ (v : Known). v.looked.closed) view;
      }

  -- a look leaves the rest as it was
  pub look-terms : new.0.terms ≡ first.0.terms
  look-terms = dite (ℕ_discrete found mid.0.looked.at) (λ same. ap (λ (m : Place). m.0.terms) (checks.same same).seen) (λ differs. ap (λ (m : Place). m.0.terms) (checks.other differs)) ∙ ap (λ (v : Known). v.terms) view

  pub look-knows : new.0.knows ≡ first.0.knows
  look-knows = dite (ℕ_discrete found mid.0.looked.at) (λ same. ap (λ (m : Place). m.0.knows) (checks.same same).seen) (λ differs. ap (λ (m : Place). m.0.knows) (checks.other differs)) ∙ ap (λ (v : Known). v.knows) view

-- a further watcher of the same board
pub IsWatcher-again : (seat_table later table again : TableId) (old new : Place) (terms : Terms) (row next row' next' : List ℕ) (count : ℕ) → IsWatcher seat_table table old terms row next count → later ≡ seat_table → again ≡ table → new.0 ≡ watching old.0
    → row' ≡ row → next' ≡ next → IsWatcher later again new terms row' next' count
IsWatcher-again seat_table later table again old new terms row next row' next' count is same also view rows nexts = record {
  at_table = same ∙ (is.at_table ∙ sym also);
  words = ap (λ (t : TableId). t.words) also ∙ is.words;
  knows = ap (λ (v : Known). v.knows) view ∙ is.knows;
  terms_are = ap (λ (v : Known). v.terms) view ∙ is.terms_are;
  wide = ap (λ (l : List ℕ). length l) rows ∙ is.wide;
  next_wide = ap (λ (l : List ℕ). length l) nexts ∙ is.next_wide;
  tells = subst (λ (l : List ℕ). Tells terms new.0.looked.seen l) (sym rows) (subst (λ notes. Tells terms notes row) (sym (ap (λ (v : Known). v.looked.seen) view)) is.tells);
  count_is = ap (λ (v : Known). v.looked.count) view ∙ is.count_is;
  closed_is = ap (λ (v : Known). v.looked.closed) view ∙ (is.closed_is ∙ sym (ap closed_in rows));
}
