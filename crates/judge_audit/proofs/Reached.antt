-- Each number that is kept is that of a start, and where a start stands in order its number is above what is kept.
use Rattle.judge_audit.proofs.Names.{ap, AreReached, arith, Assembly, Bool, cases_lt, cond, EachNote, EnteredAsSent, false, get_or, HasReached, inl, inr, is_name, is_told, IsAcceptedInside, IsSome, JobId, Journal, KnowsOrder, last_started}
use Rattle.judge_audit.proofs.Names.{length, List, name_started, None, Note, Numbers, one_name, Option, or_cases, or_else, order_of, queue_asked, queue_of, Raises, refl, replicate, same_as_itself, same_name, Some, StandsInOrder}
use Rattle.judge_audit.proofs.Names.{StartsRight, subst, suc, sym, true, true≢false, zero, ℕ, [], ◌*◌, ◌+◌, ◌<◌, ◌||◌, ◌∙◌, ◌∷◌, ◌≡◌, ◌≤◌, ◌⊎◌}
use Rattle.base_words.specs.declared.note.Note.TheVariants.{Start, Took}

zeros : (count place default : ℕ) → place < length (replicate {A = ℕ} count 0) → ◌≡◌ {A = ℕ} (get_or (replicate count 0) place default) 0
zeros zero place default within = absurd (omega arith)
zeros (suc count) zero default within = refl
zeros (suc count) (suc place) default within = zeros count place default (omega arith)

-- what has only zeros has a zero at each place
pub zeros_of : (items : List ℕ) (count : ℕ) → items ≡ replicate count 0 → (place default : ℕ) → place < length items → get_or items place default ≡ 0
zeros_of items count same place default within =
    ap (λ (all : List ℕ). get_or all place default) same ∙ zeros count place default (subst (λ (all : List ℕ). place < length all) same within)

or_right : (one other : Bool) → other ≡ true → (one || other) ≡ true
or_right true other holds = refl
or_right false other holds = holds

or_left : (one other : Bool) → one ≡ true → (one || other) ≡ true
or_left true other holds = refl
or_left false other holds = absurd (true≢false (sym holds))

module _ (assembly : Assembly ℕ) where
  -- what was reached stays so
  pub reached_more : (sender queue number : ℕ) (note : Note ℕ) (before : Journal ℕ) → HasReached assembly sender queue number before →
      HasReached assembly sender queue number (note ∷ before)
  reached_more sender queue number note before reached = record {
    name = reached.name;
    started = or_right (is_name reached.name (name_started note)) (is_told name_started reached.name before) reached.started;
    from = reached.from;
    asked = reached.asked;
    at = reached.at;
  }

  -- after a start its number is reached
  pub next_reached : (old new : Numbers) (before : Journal ℕ) (name : JobId) (queue : ℕ) → AreReached assembly old before →
      Raises old new name.from queue name.number → length new.started ≡ length old.started → queue_asked (order_of name assembly) ≡ Some queue →
      AreReached assembly new (Start name ∷ before)
  next_reached old new before name queue reached raises rows asked sender other small more within = by_change (raises sender other small)
    where
      by_change :
          (last_started new sender other ≡ last_started old sender other) ⊎ ((sender ≡ name.from) × (other ≡ queue) × (last_started new sender other ≡ name.number)) →
          HasReached assembly sender other (last_started new sender other) (Start name ∷ before)
      by_change (inl same) =
          subst (λ (number : ℕ). HasReached assembly sender other number (Start name ∷ before)) (sym same)
          (reached_more sender other (last_started old sender other) (Start name) before (reached sender other small (omega arith) (omega arith)))
      by_change (inr now) = record {
        name = name;
        started = or_left (same_name name name) (is_told name_started name before) (same_as_itself name);
        from = sym now.0;
        asked = asked ∙ ap (λ (at : ℕ). Some at) (sym now.1);
        at = sym now.2;
      }

  -- what started has entered
  pub started_entered : (before : Journal ℕ) (name : JobId) → EachNote (StartsRight assembly) before → is_told name_started name before ≡ true →
      IsSome (queue_of name before)
  started_entered [] name right told = absurd (true≢false (sym told))
  started_entered (Start other ∷ before) name right told = by_told (or_cases (same_name name other) (is_told name_started name before) told) (started_entered before name right.1)
    where
      by_told : (same_name name other ≡ true) ⊎ (is_told name_started name before ≡ true) → (is_told name_started name before ≡ true → IsSome (queue_of name before)) →
          IsSome (queue_of name before)
      by_told (inl now) rest = subst (λ (it : JobId). IsSome (queue_of it before)) (sym (one_name name other now)) right.0.0.has_entered
      by_told (inr was) rest = rest was
  started_entered (Took other queue ∷ before) name right told = by_test (same_name name other) (started_entered before name right.1 told)
    where
      by_test : (test : Bool) → IsSome (queue_of name before) → IsSome (or_else (cond test (Some queue) None) (queue_of name before))
      by_test true was = refl
      by_test false was = was
  started_entered (note ∷ before) name right told = started_entered before name right.1 told

  -- what has entered is in the queue that it was sent to
  its_queue : (before : Journal ℕ) (name : JobId) (queue : ℕ) → EnteredAsSent assembly before → IsSome (queue_of name before) →
      queue_asked (order_of name assembly) ≡ Some queue → queue_of name before ≡ Some queue
  its_queue before name queue entered inside asked = by_queue (queue_of name before) refl inside
    where
      by_queue : (found : Option ℕ) → queue_of name before ≡ found → IsSome found → queue_of name before ≡ Some queue
      by_queue None at there = absurd (true≢false (sym there))
      by_queue (Some other) at there = at ∙ (sym (ap queue_asked (entered name other at)) ∙ asked)

  -- where a start stands in order its number is above what is kept
  pub must_be_above : (numbers : Numbers) (before : Journal ℕ) (name : JobId) (queue : ℕ) → KnowsOrder assembly numbers before →
      IsAcceptedInside assembly name before → StandsInOrder assembly (Start name) before → queue_asked (order_of name assembly) ≡ Some queue →
      name.from ≤ assembly.cores → 1 ≤ name.number → queue < 256 → last_started numbers name.from queue < name.number
  must_be_above numbers before name queue knows inside stands asked sender positive small =
      by_order (cases_lt (last_started numbers name.from queue) name.number)
    where
      by_order : (last_started numbers name.from queue < name.number) ⊎ (name.number ≤ last_started numbers name.from queue) →
          last_started numbers name.from queue < name.number
      by_order (inl above) = above
      by_order (inr below) =
          let within : name.from * 256 + queue < length numbers.started = omega (arith, knows.rows, sender, small) in
          let was = knows.reached name.from queue small (omega (arith, below, positive)) within in
          let mine = its_queue before name queue knows.entered inside.has_entered asked in
          let its = its_queue before was.name queue knows.entered (started_entered before was.name knows.starts was.started) was.asked in
          let less = stands was.name was.started was.from (its ∙ sym mine) in
          omega (arith, less, was.at, below)
