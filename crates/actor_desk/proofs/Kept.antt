-- What is known of marks whose outcomes are kept, and what each change of the marks is to the entries.
use Rattle.std.proofs.Common.{◌≡◌, inl, inr, ℕ, ◌+◌, ◌<◌, ◌≤◌, true, false, List, Option, None, Some, is_some, refl, sym, ap, subst, ◌∙◌, arith}
use Rattle.std.proofs.lemmas.Bool.Decides.{eqb_tells}
use Rattle.slab.specs.Slab.{Slab, HasRoomFor, get, slab_len}
use Rattle.base_words.specs.declared.order.Outcome.{Outcome}
use Rattle.actor_desk.specs.Held.{one, at, tally, count_of, Adds, Removes, Becomes}
use Rattle.actor_desk.specs.Rolls.{IsAbove}
use Rattle.actor_desk.specs.Kept.{has_key, has_any, is_waiting, collected, entry_of, shown, AreKept, IsCollectedAt}
use Rattle.actor_desk.specs.declared.entry.Entry.{Entry}
use Rattle.actor_desk.specs.declared.entry.Entry.TheVariants.{Pending, Detached, Collected}
use Rattle.actor_desk.specs.declared.entry.Mark.{Mark}
use Rattle.actor_desk.specs.declared.entry.Mark.TheVariants.{Waits, LetGo, Holds}
use Rattle.actor_desk.proofs.Lanes.{option_cases}
use Rattle.actor_desk.proofs.Marks.{at-tally, tally-two, mapped, at-shown, tally-shown}

-- a key is its own
pub has_own_key : (key : ℕ) → has_key key (Holds key) ≡ true
has_own_key key = elim (eqb_tells key key) [ inl same ↦ same.0 | inr other ↦ absurd (other.1 refl) ]

-- what is found isn't nothing
pub not_both : {V : Type 0} (found : Option V) (value : V) → found ≡ Some value → found ≡ None → ⊥
not_both found value is none = cc

-- a mark doesn't both wait and have a key
apart : (mark : Mark) → one (has_any mark) + one (is_waiting mark) ≤ 1
apart Waits = omega arith
apart LetGo = omega arith
apart (Holds key) = omega arith

module _ {V : Type 0} (held new : List (ℕ × V)) (number : ℕ) (before was : V) (there : at held number ≡ Some was) where
  pub same_before : at held number ≡ Some before → before ≡ was
  same_before is = let e : Some before ≡ Some was = sym is ∙ there in cc

  -- what became another, or was taken out, is what stood there
  pub became : (after : V) → Becomes held new number before after → Becomes held new number was after
  became after becomes = subst (λ v. Becomes held new number v after) (same_before becomes.was) becomes

  pub taken_out : Removes held new number before → Removes held new number was
  taken_out removes = subst (λ v. Removes held new number v) (same_before removes.was) removes

module _ {J T : Type 0} (kept : Slab (Outcome J T)) (marks : List (ℕ × Mark)) (k : AreKept kept marks) where
  -- a key that a mark has is that of an outcome
  pub holds-kept : (n key : ℕ) → at marks n ≡ Some (Holds key) → (outcome : Outcome J T) × (get kept key ≡ Some outcome)
  holds-kept n key there =
      let counted : one (has_key key (Holds key)) ≤ tally marks (has_key key) = at-tally marks n (Holds key) (has_key key) there in
      let own : one (has_key key (Holds key)) ≡ 1 = ap one (has_own_key key) in
      let once : tally marks (has_key key) ≡ one (is_some (get kept key)) = k.once key in
      elim (option_cases (get kept key)) [
        | inl none ↦ let e : one (is_some (get kept key)) ≡ 0 = ap (λ o. one (is_some o)) none in absurd (omega arith)
        | inr some ↦ some
      ]

  -- a mark with a key stands for an outcome
  pub shows-collected : (n key : ℕ) → at marks n ≡ Some (Holds key) → (outcome : Outcome J T) × (at (shown kept marks) n ≡ Some (Collected outcome))
  shows-collected n key there =
      let found = holds-kept n key there in
      (found.0, at-shown kept marks n ∙ (ap (mapped kept) there ∙ ap (λ o. Some (collected o)) found.1))

  -- as many entries as marks
  pub count-shown : count_of (shown kept marks) ≡ count_of marks
  count-shown = tally-shown kept marks (λ entry. true)

  -- the mark of an entry, as a statement of what is found
  marked : (n : ℕ) (entry : Entry J T) (found : Option Mark) → at marks n ≡ found → at (shown kept marks) n ≡ Some entry → mapped kept found ≡ Some entry
  marked n entry found is shows = sym (ap (mapped kept) is) ∙ (sym (at-shown kept marks n) ∙ shows)

  -- a number above all entries is above all marks
  pub above-there : (number : ℕ) → IsAbove (shown kept marks) number → IsAbove marks number
  above-there number above n = by_mark (at marks n) refl
    where
      by_mark : (found : Option Mark) → at marks n ≡ found → is_some (at marks n) ≡ true → n < number
      by_mark None is some = absurd (let e : true ≡ false = sym some ∙ ap is_some is in cc)
      by_mark (Some mark) is some = above n (ap is_some (at-shown kept marks n) ∙ ap (λ f. is_some (mapped kept f)) is)

  pub waits-there : (n : ℕ) → at (shown kept marks) n ≡ Some Pending → at marks n ≡ Some Waits
  waits-there n shows = by_mark (at marks n) refl
    where
      by_mark : (found : Option Mark) → at marks n ≡ found → at marks n ≡ Some Waits
      by_mark None is = absurd (let e : mapped kept None ≡ Some Pending = marked n Pending None is shows in cc)
      by_mark (Some Waits) is = is
      by_mark (Some LetGo) is = absurd (let e : mapped kept (Some LetGo) ≡ Some Pending = marked n Pending (Some LetGo) is shows in cc)
      by_mark (Some (Holds key)) is = absurd (let found = shows-collected n key is in let e : Some (Collected found.0) ≡ Some Pending = sym found.1 ∙ shows in cc)

  pub let_go-there : (n : ℕ) → at (shown kept marks) n ≡ Some Detached → at marks n ≡ Some LetGo
  let_go-there n shows = by_mark (at marks n) refl
    where
      by_mark : (found : Option Mark) → at marks n ≡ found → at marks n ≡ Some LetGo
      by_mark None is = absurd (let e : mapped kept None ≡ Some Detached = marked n Detached None is shows in cc)
      by_mark (Some Waits) is = absurd (let e : mapped kept (Some Waits) ≡ Some Detached = marked n Detached (Some Waits) is shows in cc)
      by_mark (Some LetGo) is = is
      by_mark (Some (Holds key)) is = absurd (let found = shows-collected n key is in let e : Some (Collected found.0) ≡ Some Detached = sym found.1 ∙ shows in cc)

  pub holds-there : (n : ℕ) → IsCollectedAt (shown kept marks) n → (key : ℕ) × (at marks n ≡ Some (Holds key))
  holds-there n shows = by_mark (at marks n) refl
    where
      by_mark : (found : Option Mark) → at marks n ≡ found → (key : ℕ) × (at marks n ≡ Some (Holds key))
      by_mark None is = absurd (let e : mapped kept None ≡ Some (Collected shows.0) = marked n (Collected shows.0) None is shows.1 in cc)
      by_mark (Some Waits) is = absurd (let e : mapped kept (Some Waits) ≡ Some (Collected shows.0) = marked n (Collected shows.0) (Some Waits) is shows.1 in cc)
      by_mark (Some LetGo) is = absurd (let e : mapped kept (Some LetGo) ≡ Some (Collected shows.0) = marked n (Collected shows.0) (Some LetGo) is shows.1 in cc)
      by_mark (Some (Holds key)) is = (key, is)

  -- where a number waits there is room for its outcome
  pub room-kept : (n : ℕ) → at marks n ≡ Some Waits → count_of marks ≤ kept.capacity → HasRoomFor kept 1
  room-kept n there fits =
      let waiting : 1 ≤ tally marks is_waiting = at-tally marks n Waits is_waiting there in
      let two : tally marks has_any + tally marks is_waiting ≤ count_of marks = tally-two marks has_any is_waiting apart in
      let count : slab_len kept ≡ tally marks has_any = k.count in
      omega arith

  -- a vacant key is that of no mark
  pub vacant-key : (key : ℕ) → get kept key ≡ None → tally marks (has_key key) ≡ 0
  vacant-key key vacant =
      let e : one (is_some (get kept key)) ≡ 0 = ap (λ o. one (is_some o)) vacant in let once : tally marks (has_key key) ≡ one (is_some (get kept key)) = k.once key in omega arith

-- Marks change, and the slab doesn't.
module _ {J T : Type 0} (kept : Slab (Outcome J T)) (marks new : List (ℕ × Mark)) (number : ℕ) where
  pub Adds-shown : Adds marks new number Waits → Adds (shown kept marks) (shown kept new) number Pending
  Adds-shown adds = record {
    here = at-shown kept new number ∙ ap (mapped kept) adds.here;
    others = λ n. λ away. at-shown kept new n ∙ (ap (mapped kept) (adds.others n away) ∙ sym (at-shown kept marks n));
    tallies = λ test. omega (arith, tally-shown kept new test, tally-shown kept marks test, adds.tallies (λ mark. test (entry_of kept mark)));
  }

  pub AreKept-added : AreKept kept marks → Adds marks new number Waits → AreKept kept new
  AreKept-added k adds = record {
    once = λ key. let e : tally new (has_key key) ≡ 0 + tally marks (has_key key) = adds.tallies (has_key key) in omega (arith, k.once key);
    count = let e : tally new has_any ≡ 0 + tally marks has_any = adds.tallies has_any in omega (arith, k.count);
  }

  pub Becomes-shown : Becomes marks new number Waits LetGo → Becomes (shown kept marks) (shown kept new) number Pending Detached
  Becomes-shown becomes = record {
    was = at-shown kept marks number ∙ ap (mapped kept) becomes.was;
    here = at-shown kept new number ∙ ap (mapped kept) becomes.here;
    others = λ n. λ away. at-shown kept new n ∙ (ap (mapped kept) (becomes.others n away) ∙ sym (at-shown kept marks n));
    tallies = λ test. omega (arith, tally-shown kept new test, tally-shown kept marks test, becomes.tallies (λ mark. test (entry_of kept mark)));
  }

  pub AreKept-let_go : AreKept kept marks → Becomes marks new number Waits LetGo → AreKept kept new
  AreKept-let_go k becomes = record {
    once = λ key. let e : 0 + tally new (has_key key) ≡ 0 + tally marks (has_key key) = becomes.tallies (has_key key) in omega (arith, k.once key);
    count = let e : 0 + tally new has_any ≡ 0 + tally marks has_any = becomes.tallies has_any in omega (arith, k.count);
  }

  pub Removes-shown : Removes marks new number LetGo → Removes (shown kept marks) (shown kept new) number Detached
  Removes-shown removes = record {
    was = at-shown kept marks number ∙ ap (mapped kept) removes.was;
    gone = at-shown kept new number ∙ ap (mapped kept) removes.gone;
    others = λ n. λ away. at-shown kept new n ∙ (ap (mapped kept) (removes.others n away) ∙ sym (at-shown kept marks n));
    tallies = λ test. omega (arith, tally-shown kept new test, tally-shown kept marks test, removes.tallies (λ mark. test (entry_of kept mark)));
  }

  pub AreKept-forgotten : AreKept kept marks → Removes marks new number LetGo → AreKept kept new
  AreKept-forgotten k removes = record {
    once = λ key. let e : tally marks (has_key key) ≡ 0 + tally new (has_key key) = removes.tallies (has_key key) in omega (arith, k.once key);
    count = let e : tally marks has_any ≡ 0 + tally new has_any = removes.tallies has_any in omega (arith, k.count);
  }
