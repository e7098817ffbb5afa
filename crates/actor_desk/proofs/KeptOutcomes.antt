-- What each change of the slab is to the entries.
use Rattle.std.proofs.Common.{◌≡◌, ℕ, ◌+◌, ◌≤◌, Bool, true, false, List, Option, None, Some, is_some, refl, sym, ap, ◌∙◌, inl, inr, arith}
use Rattle.std.specs.Prelude.{eqb}
use Rattle.std.proofs.lemmas.Bool.Decides.{eqb_tells}
use Rattle.slab.specs.Slab.{Slab, Updates, get, slab_len}
use Rattle.base_words.specs.declared.order.Outcome.{Outcome}
use Rattle.actor_desk.specs.Held.{one, at, tally, Removes, Becomes}
use Rattle.actor_desk.specs.Kept.{has_key, has_any, collected, entry_of, shown, AreKept}
use Rattle.actor_desk.specs.declared.entry.Entry.{Entry}
use Rattle.actor_desk.specs.declared.entry.Entry.TheVariants.{Pending, Collected}
use Rattle.actor_desk.specs.declared.entry.Mark.{Mark}
use Rattle.actor_desk.specs.declared.entry.Mark.TheVariants.{Waits, LetGo, Holds}
use Rattle.actor_desk.proofs.Marks.{none_tells, at-tally, tally-apart, mapped, at-shown, tally-shown}
use Rattle.actor_desk.proofs.Kept.{has_own_key, vacant-key}

-- One key of the slab changes. What no mark of it has stands for the same as before.
module _ {J T : Type 0} (kept later : Slab (Outcome J T)) (key : ℕ) (slot : Option (Outcome J T)) (updates : Updates kept later key slot) where
  pub same-entry : (mark : Mark) → has_key key mark ≡ false → entry_of later mark ≡ entry_of kept mark
  same-entry Waits away = refl
  same-entry LetGo away = refl
  same-entry (Holds other) away =
      elim (eqb_tells key other) [
        | inl same ↦ absurd (let e : true ≡ false = sym same.0 ∙ away in cc)
        | inr differs ↦ ap collected (updates.others other (λ e. differs.1 (sym e)))
      ]

  pub same-mapped : (marks : List (ℕ × Mark)) (n : ℕ) → tally marks (has_key key) ≡ 0 → mapped later (at marks n) ≡ mapped kept (at marks n)
  same-mapped marks n none = by_mark (at marks n) refl
    where
      by_mark : (found : Option Mark) → at marks n ≡ found → mapped later found ≡ mapped kept found
      by_mark None is = refl
      by_mark (Some mark) is =
          let low : one (has_key key mark) ≤ 0 = let e : one (has_key key mark) ≤ tally marks (has_key key) = at-tally marks n mark (has_key key) is in omega (arith, none) in
          ap Some (same-entry mark (none_tells (has_key key mark) low))

  pub same-tally : (marks : List (ℕ × Mark)) (test : Entry J T → Bool) → tally marks (has_key key) ≡ 0
      → tally marks (λ mark. test (entry_of later mark)) ≡ tally marks (λ mark. test (entry_of kept mark))
  same-tally marks test none =
      tally-apart marks (has_key key) (λ mark. test (entry_of later mark)) (λ mark. test (entry_of kept mark)) none (λ mark. λ away. ap test (same-entry mark away))

-- An outcome comes into the slab, and a mark that waited has its key.
module _ {J T : Type 0} (kept later : Slab (Outcome J T)) (marks new : List (ℕ × Mark)) (number key : ℕ) (outcome : Outcome J T)
    (k : AreKept kept marks) (vacant : get kept key ≡ None) (updates : Updates kept later key (Some outcome)) (becomes : Becomes marks new number Waits (Holds key)) where
  no_mark : tally marks (has_key key) ≡ 0
  no_mark = vacant-key kept marks k key vacant

  pub Becomes-kept : Becomes (shown kept marks) (shown later new) number Pending (Collected outcome)
  Becomes-kept = record {
    was = at-shown kept marks number ∙ ap (mapped kept) becomes.was;
    here = at-shown later new number ∙ (ap (mapped later) becomes.here ∙ ap (λ o. Some (collected o)) updates.changed);
    others = λ n. λ away.
        at-shown later new n
        ∙ (ap (mapped later) (becomes.others n away) ∙ (same-mapped kept later key (Some outcome) updates marks n no_mark ∙ sym (at-shown kept marks n)));
    tallies = λ test.
        let now : one (test (entry_of later (Holds key))) ≡ one (test (Collected outcome)) = ap (λ o. one (test (collected o))) updates.changed in
        let changes : one (test Pending) + tally new (λ mark. test (entry_of later mark)) ≡ one (test (entry_of later (Holds key))) + tally marks (λ mark. test (entry_of later mark)) =
        becomes.tallies (λ mark. test (entry_of later mark)) in
        omega (arith, tally-shown later new test, tally-shown kept marks test, same-tally kept later key (Some outcome) updates marks test no_mark);
  }

  pub AreKept-kept : slab_len later ≡ slab_len kept + 1 → AreKept later new
  AreKept-kept more = record {
    once = λ other. elim (eqb_tells other key) [
      | inl same ↦
          let e : 0 + tally new (has_key other) ≡ one (eqb other key) + tally marks (has_key other) = becomes.tallies (has_key other) in
          let own : one (eqb other key) ≡ 1 = ap one same.0 in
          let none : tally marks (has_key other) ≡ 0 = ap (λ n. tally marks (has_key n)) same.1 ∙ no_mark in
          let some : one (is_some (get later other)) ≡ 1 = ap (λ n. one (is_some (get later n))) same.1 ∙ ap (λ o. one (is_some o)) updates.changed in
          omega arith
      | inr differs ↦
          let e : 0 + tally new (has_key other) ≡ one (eqb other key) + tally marks (has_key other) = becomes.tallies (has_key other) in
          let away : one (eqb other key) ≡ 0 = ap one differs.0 in
          let same : one (is_some (get later other)) ≡ one (is_some (get kept other)) = ap (λ o. one (is_some o)) (updates.others other differs.1) in
          omega (arith, k.once other)
    ];
    count = let e : 0 + tally new has_any ≡ 1 + tally marks has_any = becomes.tallies has_any in omega (arith, k.count, more);
  }

-- A mark is taken out, and the outcome that has its key.
module _ {J T : Type 0} (kept later : Slab (Outcome J T)) (marks new : List (ℕ × Mark)) (number key : ℕ) (outcome : Outcome J T)
    (k : AreKept kept marks) (found : get kept key ≡ Some outcome) (updates : Updates kept later key None) (removes : Removes marks new number (Holds key)) where
  no_mark_left : tally new (has_key key) ≡ 0
  no_mark_left =
      let e : tally marks (has_key key) ≡ one (has_key key (Holds key)) + tally new (has_key key) = removes.tallies (has_key key) in
      let own : one (has_key key (Holds key)) ≡ 1 = ap one (has_own_key key) in
      let some : one (is_some (get kept key)) ≡ 1 = ap (λ o. one (is_some o)) found in
      let once : tally marks (has_key key) ≡ one (is_some (get kept key)) = k.once key in
      omega arith

  pub Removes-taken : Removes (shown kept marks) (shown later new) number (Collected outcome)
  Removes-taken = record {
    was = at-shown kept marks number ∙ (ap (mapped kept) removes.was ∙ ap (λ o. Some (collected o)) found);
    gone = at-shown later new number ∙ ap (mapped later) removes.gone;
    others = λ n. λ away.
        at-shown later new n
        ∙ (same-mapped kept later key None updates new n no_mark_left ∙ (ap (mapped kept) (removes.others n away) ∙ sym (at-shown kept marks n)));
    tallies = λ test.
        let was : one (test (entry_of kept (Holds key))) ≡ one (test (Collected outcome)) = ap (λ o. one (test (collected o))) found in
        let changes : tally marks (λ mark. test (entry_of kept mark)) ≡ one (test (entry_of kept (Holds key))) + tally new (λ mark. test (entry_of kept mark)) =
        removes.tallies (λ mark. test (entry_of kept mark)) in
        omega (arith, tally-shown later new test, tally-shown kept marks test, same-tally kept later key None updates new test no_mark_left);
  }
