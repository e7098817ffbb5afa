-- The steps of a watcher's seat: look, read and check, and how a seat is split.
use Rattle.std.proofs.Common.{◌≡◌, ℕ, suc, ◌+◌, ◌<◌, ◌≤◌, true, false, List, [], ◌∷◌, ◌++◌, length, set, get_or, take, refl, sym, ap, ◌∙◌, arith, subst, length-append, ⊎_elim}
use mathlib.Core.Logic.{dite}
use native.Mathlib.Decide.{ℕ_discrete}
use lib.ListN.{get_elem?}
use mathlib.Core.Option.{some}
use Rattle.atomic_table.specs.Table.{State, Act, Valid, Allows, Splits, keeps, stepped, carried_after}
use Rattle.atomic_table.proofs.Lists.{at_snoc, set_again}
use Rattle.note_journal.specs.Journals.{JournalView}
use Rattle.run_watch.specs.Closed.{told_by}
use Rattle.run_watch.specs.Rule.{IsBoard, IsTold}
use Rattle.run_watch.specs.Tells.{Tells}
use Rattle.run_watch.specs.Told.{Looks, Reads, Checks, Finds}
use Rattle.run_watch.specs.Views.{Place, with_look, with_reads, with_seen, watching}
use Rattle.run_watch.specs.Words.{closed_in, place_of}
use Rattle.run_watch.specs.declared.board.Known.{Known}
use Rattle.run_watch.specs.declared.board.Looked.{Looked}
use Rattle.run_watch.specs.declared.board.Terms.{Terms}
use Rattle.run_watch.proofs.Closed.{told-later, told-last, take-closed}
use Rattle.run_watch.proofs.Lists.{Grows-self, take-one_more}
use Rattle.run_watch.proofs.Stepping.{seat_looks}

true-not_false : false ≡ true → ⊥
true-not_false e = cc

module _ (terms : Terms) (slots seat : ℕ) (me : Place) where
  abbrev l : Looked
  l = me.0.looked

  pub looks : Allows (IsBoard terms) slots seat me 1 (λ n. n) (Looks me)
  looks s r wide at _ =
      let told = r.views seat me.0 at in
      let found : get_or s.words 1 0 ≡ r.whole.done = ap (λ (words : List ℕ). get_or words 1 0) r.words in (
        with_look me.0 (get_or s.words 1 0),
        keeps,
        tt,
        seat_looks terms s r seat me.0 at 1 (record l { at = get_or s.words 1 0; read = [] })
            (record { terms_are = told.terms_are; publishes = told.publishes; at_done = omega arith; reads = λ _. refl; saw = told.saw; counted = told.counted; closed = told.closed }),
        refl,
      )

  reads_at : (index : ℕ) → me.0.knows ≡ true → length l.read ≡ index → index < place_of me.0.terms.places → Allows (IsBoard terms) slots seat me (suc (suc index)) (λ n. n) (Reads me)
  reads_at index knows count within s r wide at _ =
      let told = r.views seat me.0 at in
      let word : ℕ = get_or s.words (suc (suc index)) 0 in
      let found : word ≡ get_or r.whole.row index 0 = ap (λ (words : List ℕ). get_or words (suc (suc index)) 0) r.words in
      let wide : length r.whole.row ≡ place_of me.0.terms.places = r.wide ∙ ap (λ (t : Terms). place_of t.places) (sym (told.terms_are knows)) in
      let longer : length (l.read ++ word ∷ []) ≡ suc index = omega (arith, length-append l.read (word ∷ [])) in (
        with_reads me.0 (l.read ++ word ∷ []),
        keeps,
        tt,
        seat_looks terms s r seat me.0 at (suc (suc index)) (record l { read = l.read ++ word ∷ [] }) (record {
          terms_are = told.terms_are;
          publishes = told.publishes;
          at_done = told.at_done;
          reads = λ same.
              let before : l.read ≡ take index r.whole.row = told.reads same ∙ ap (λ (n : ℕ). take n r.whole.row) count in
              ap (λ (front : List ℕ). front ++ word ∷ []) before ∙ (ap (λ (n : ℕ). take index r.whole.row ++ n ∷ []) found
              ∙ (sym (take-one_more r.whole.row index (omega arith)) ∙ ap (λ (n : ℕ). take n r.whole.row) (sym longer)));
          saw = told.saw;
          counted = told.counted;
          closed = told.closed;
        }),
        refl,
      )

  pub reads : (place index : ℕ) → me.0.knows ≡ true → place ≡ 2 + index → length l.read ≡ index → index < place_of me.0.terms.places → Allows (IsBoard terms) slots seat me place (λ n. n) (Reads me)
  reads place index knows is count within =
      let there : suc (suc index) ≡ place = omega arith in
      subst (λ (k : ℕ). Allows (IsBoard terms) slots seat me k (λ n. n) (Reads me)) there (reads_at index knows count within)

  abbrev Goes : State (JournalView ℕ) Known → Type 0
  Goes s =
      (view : Known) × (act : Act (JournalView ℕ)) × Valid s.homes me.1 act × IsBoard terms (stepped s 0 (get_or s.words 0 0) seat me.1 view act)
      × Checks me (get_or s.words 0 0) (view, carried_after me.1 act)

  pub checks : me.0.knows ≡ true → 6 < length l.read → Allows (IsBoard terms) slots seat me 0 (λ n. n) (Checks me)
  checks knows enough s r wide at _ =
      let told = r.views seat me.0 at in
      let found : get_or s.words 0 0 ≡ r.whole.begun = ap (λ (words : List ℕ). get_or words 0 0) r.words in
      dite (ℕ_discrete (get_or s.words 0 0) l.at)
      (λ same.
      let now : l.at ≡ r.whole.begun = sym same ∙ found in
      let low = told.at_done in
      let high = r.behind in
      let both : r.whole.begun ≡ r.whole.done = omega arith in
      let done : l.at ≡ r.whole.done = omega arith in
      let later : l.count ≤ l.at = let seen = told.counted in omega arith in
      let closed : closed_in l.read ≡ told_by r.whole.closed l.at =
      ap closed_in (told.reads now) ∙ (take-closed r.whole.row (length l.read) enough
      ∙ (r.closed both ∙ (sym (told-last r.whole.closed r.whole.done r.closed_at) ∙ ap (told_by r.whole.closed) (sym done)))) in
      let found_one : Finds me (with_seen me.0 r.whole.notes, me.1) = record {
        notes = r.whole.notes;
        row = r.whole.row;
        seen = refl;
        grows = told.saw;
        reads = told.reads now;
        wide = r.wide ∙ ap (λ (t : Terms). place_of t.places) (sym (told.terms_are knows));
        tells = subst (λ (t : Terms). Tells t r.whole.notes r.whole.row) (sym (told.terms_are knows)) (r.tells both);
        later = later;
        told = λ was. closed ∙ told-later r.whole.closed l.count l.at later (sym told.closed ∙ was);
      } in
      let step : Goes s = (
        with_seen me.0 r.whole.notes,
        keeps,
        tt,
        seat_looks terms s r seat me.0 at 0 (record l { seen = r.whole.notes; count = l.at; closed = closed_in l.read })
            (record { terms_are = told.terms_are; publishes = told.publishes; at_done = told.at_done; reads = told.reads; saw = Grows-self r.whole.notes; counted = told.at_done; closed = closed }),
        record { same = λ _. found_one; other = λ differs. absurd (differs same) },
      ) in
      step)
      (λ differs. (
        me.0,
        keeps,
        tt,
        seat_looks terms s r seat me.0 at 0 l told,
        record { same = λ same. absurd (differs same); other = λ _. refl },
      ))

  -- a further seat watches
  pub parts : Splits (IsBoard terms) seat me.0 me.0 (watching me.0)
  parts s r at =
      let told = r.views seat me.0 at in record {
        whole = r.whole;
        publisher = r.publisher;
        words = r.words;
        wide = r.wide;
        behind = r.behind;
        tells = r.tells;
        closed = r.closed;
        closed_at = r.closed_at;
        views = λ id known here. ⊎_elim
            (λ before. r.views id known (subst (λ (views : List Known). get_elem? views id ≡ some known) (set_again s.views seat me.0 at) before))
            (λ last. subst (IsTold terms r.whole r.publisher id) last
            (record { terms_are = told.terms_are; publishes = λ no. absurd (true-not_false no); at_done = told.at_done; reads = told.reads; saw = told.saw; counted = told.counted; closed = told.closed }))
            (at_snoc (set s.views seat me.0) (watching me.0) known id here);
      }
