-- In a lawful journal who is out or parked has started, and who started had entered.
use Rattle.base_words.proofs.Words.{EachNote, false, false_from_ne_true, inl, inr, is_name, is_some, is_told, IsNextDelivered, JobId, jobs_out, Journal, MayFollow, MayStand, name_polled, name_settled, name_started, names_but_for, Note}
use Rattle.base_words.proofs.Words.{or_cases, or_else, or_left, or_right, parked, queue_of, same_name, Some, subst, sym, Terms, true, true≢false, ℕ, [], ◌∙◌, ◌∷◌, ◌≡◌}
use Rattle.base_words.specs.declared.note.Note.TheVariants.{Start, Resume}
use Rattle.base_words.proofs.JobsOut.{alone_out}
use Rattle.base_words.proofs.Known.{Known, known_of, queue_stays, first_in_line, not_old, parking_new}
use Rattle.base_words.proofs.Parks.{parked_parts, among-still_parked}
use Rattle.base_words.proofs.NameLemmas.{among, one_name, same_as_itself, among-with_last, among-names_but_for}

-- who is out or parked has started, and who started had entered
pub record Started {T : Type 0} (journal : Journal T) : Type 0 where
  pub out_started : (name : JobId) → among name (jobs_out journal) ≡ true → is_told name_started name journal ≡ true
  pub parked_started : (queue : ℕ) (name : JobId) → among name (parked queue journal) ≡ true → is_told name_started name journal ≡ true
  pub started_entered : (name : JobId) → is_told name_started name journal ≡ true → is_some (queue_of name journal) ≡ true

module _ {T : Type 0} (terms : Terms) (before : Journal T) (known : Known before) (started : Started before) where
  -- who is polled has started
  polled_started : (name : JobId) (note : Note T) → MayFollow terms note before → name_polled note ≡ Some name → is_told name_started name (note ∷ before) ≡ true
  polled_started name (Start other) law polled =
      let one : name ≡ other = cc in
      or_left (same_name name other) (is_told name_started name before) (rw one (same_as_itself other))
  polled_started name (Resume other) law polled =
      let one : other ≡ name = cc in
      subst (λ job. is_told name_started job before ≡ true) one law.3
  polled_started name _ law polled = cc

  -- who starts has entered
  starting_entered : (name : JobId) (note : Note T) → MayFollow terms note before → is_name name (name_started note) ≡ true → is_some (queue_of name before) ≡ true
  starting_entered name (Start other) law now =
      rw (one_name name other now) (known.line_inside law.0 other (first_in_line terms other law.0 before law.1)).entered
  starting_entered name _ law now = cc

  -- each note keeps all three
  started_after : (note : Note T) → MayFollow terms note before → Started (note ∷ before)
  started_after note law = record { out_started = out; parked_started = parks; started_entered = entered }
    where
      parks : (queue : ℕ) (name : JobId) → among name (parked queue (note ∷ before)) ≡ true → is_told name_started name (note ∷ before) ≡ true
      parks queue name there =
          or_right (is_name name (name_started note)) (is_told name_started name before)
          (
          elim (parked_parts queue note before name there) [
            | inl still ↦ started.parked_started queue name (among-still_parked queue note (parked queue before) name still).was
            | inr came ↦ started.out_started name (parking_new terms queue name note before law came).0
          ]
          )

      out : (name : JobId) → among name (jobs_out (note ∷ before)) ≡ true → is_told name_started name (note ∷ before) ≡ true
      out name there =
          elim (among-with_last name (names_but_for (or_else (name_settled note) (name_polled note)) (jobs_out before)) (name_polled note) there) [
            | inl was ↦
                let was_out = (among-names_but_for name (or_else (name_settled note) (name_polled note)) (jobs_out before) was).0 in
                or_right (is_name name (name_started note)) (is_told name_started name before) (started.out_started name was_out)
            | inr now ↦ polled_started name note law now
          ]

      stays_entered : (name : JobId) → is_some (queue_of name before) ≡ true → is_some (queue_of name (note ∷ before)) ≡ true
      stays_entered name was = rw (queue_stays terms name note before law (known.entered_old name was)) was

      entered : (name : JobId) → is_told name_started name (note ∷ before) ≡ true → is_some (queue_of name (note ∷ before)) ≡ true
      entered name told =
          elim (or_cases (is_name name (name_started note)) (is_told name_started name before) told) [
            | inl now ↦ stays_entered name (starting_entered name note law now)
            | inr was ↦ stays_entered name (started.started_entered name was)
          ]

-- they hold of each lawful journal
pub started_of : {T : Type 0} (terms : Terms) (journal : Journal T) → EachNote (MayStand terms) journal → Started journal
started_of terms [] notes = record {
  out_started = λ name there. absurd (true≢false (sym there));
  parked_started = λ queue name there. absurd (true≢false (sym there));
  started_entered = λ name told. absurd (true≢false (sym told));
}
started_of terms (note ∷ before) notes =
    started_after terms before (known_of terms before notes.1) (started_of terms before notes.1) note notes.0.may_follow

-- a start tells that its job has started
pub is_told-start : {T : Type 0} (name : JobId) (before : Journal T) → is_told name_started name (Start name ∷ before) ≡ true
is_told-start name before = or_left (same_name name name) (is_told name_started name before) (same_as_itself name)

-- and of no other job
pub is_told-start_elsewhere : {T : Type 0} (name other : JobId) (before : Journal T) → same_name other name ≡ false →
    is_told name_started other (Start name ∷ before) ≡ is_told name_started other before
is_told-start_elsewhere name other before apart = rw apart

-- a job that is delivered now has not started
pub is_told-delivered : {T : Type 0} (terms : Terms) (name : JobId) (before : Journal T) → EachNote (MayStand terms) before →
    IsNextDelivered terms name before → is_told name_started name before ≡ false
is_told-delivered terms name before notes next = false_from_ne_true (is_told name_started name before) not_started
  where
    not_started : is_told name_started name before ≡ true → ⊥
    not_started told =
        let entered = (started_of terms before notes).started_entered name told in
        let old = (known_of terms before notes).entered_old name entered in
        true≢false (sym (same_as_itself name) ∙ not_old terms name name before next old)

-- a job whose poll is settled has started
pub is_told-alone : {T : Type 0} (terms : Terms) (name : JobId) (before : Journal T) → EachNote (MayStand terms) before →
    jobs_out before ≡ name ∷ [] → is_told name_started name before ≡ true
is_told-alone terms name before notes alone = (started_of terms before notes).out_started name (alone_out name before alone)
