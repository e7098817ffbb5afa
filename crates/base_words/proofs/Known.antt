-- What is known of each job by the journal: who stands in a line, is parked or is out is inside, and is one of these; and who entered or ended was delivered.
use Rattle.base_words.proofs.Words.{ap, arith, Bool, cond, delivered_names, EachNote, eq-eqb, eqb-true, false, false_from_ne_true, if_from, inl, inr, is_name, is_number, is_some, is_told, IsNextDelivered, IsTurnOf, JobId, jobs_out, Journal}
use Rattle.base_words.proofs.Words.{length, line, MayFollow, MayStand, name_delivered, name_ended, name_joining, name_leaving, name_parked, name_parking, name_polled, name_settled, names_but_for, None, Note, Option, or_cases, or_else}
use Rattle.base_words.proofs.Words.{parked, queue_entered, queue_of, refl, same_name, same_Some, Some, still_parked, subst, sym, Terms, true, true≢false, unparked, with_last, ℕ, [], ◌==◌, ◌∙◌, ◌∷◌, ◌≡◌, ◌≤◌, ◌⊎◌}
use Rattle.base_words.specs.declared.note.Note.TheVariants.{Took, Back, Start, Resume, Yield, Park, Stayed, Done, Returned}
use Rattle.base_words.proofs.NameLemmas.{among, one_name, same_as_itself, names_but-other, among-with_last, among-with_all, among-names_but_for}
use Rattle.base_words.proofs.Parks.{parked_parts, among-still_parked, among-unparked, still_not_unparked}
use Rattle.base_words.proofs.Told.{grows, one_longer}
use Rattle.base_words.proofs.JobsOut.{alone_out, nobody_at_turn}

-- the job was delivered before
abbrev pub IsOld : {T : Type 0} → JobId → Journal T → Type 0
IsOld name journal = name.number ≤ length (delivered_names name.from journal)

-- the job is inside: it entered, and has not ended
pub record IsInside {T : Type 0} (name : JobId) (journal : Journal T) : Type 0 where
  pub entered : is_some (queue_of name journal) ≡ true
  pub going_on : is_told name_ended name journal ≡ false

-- what a lawful journal tells of its jobs
pub record Known {T : Type 0} (journal : Journal T) : Type 0 where
  pub line_queue : (queue : ℕ) (name : JobId) → among name (line queue journal) ≡ true → queue_of name journal ≡ Some queue
  pub line_inside : (queue : ℕ) (name : JobId) → among name (line queue journal) ≡ true → IsInside name journal
  pub out_inside : (name : JobId) → among name (jobs_out journal) ≡ true → IsInside name journal
  pub entered_old : (name : JobId) → is_some (queue_of name journal) ≡ true → IsOld name journal
  pub ended_old : (name : JobId) → is_told name_ended name journal ≡ true → IsOld name journal
  pub parked_queue : (queue : ℕ) (name : JobId) → among name (parked queue journal) ≡ true → queue_of name journal ≡ Some queue
  pub parked_inside : (queue : ℕ) (name : JobId) → among name (parked queue journal) ≡ true → IsInside name journal
  -- nobody is two of out, in a line, and parked
  pub not_waiting : (queue : ℕ) (name : JobId) → among name (jobs_out journal) ≡ true → among name (line queue journal) ≡ true → ⊥
  pub out_not_parked : (queue : ℕ) (name : JobId) → among name (jobs_out journal) ≡ true → among name (parked queue journal) ≡ true → ⊥
  pub waiting_not_parked : (queue : ℕ) (name : JobId) → among name (line queue journal) ≡ true → among name (parked queue journal) ≡ true → ⊥

-- nobody waits in one line and is parked in another
pub line_not_parked : {T : Type 0} (journal : Journal T) → Known journal → (queue other : ℕ) (name : JobId) → among name (line queue journal) ≡ true → among name (parked other journal) ≡ true → ⊥
line_not_parked journal known queue other name waits parks =
    let one : queue ≡ other = same_Some queue other (sym (known.line_queue queue name waits) ∙ known.parked_queue other name parks) in
    known.waiting_not_parked other name (subst (λ its. among name (line its journal) ≡ true) one waits) parks

-- a job that was delivered stays delivered
pub still_old : {T : Type 0} (name : JobId) (note : Note T) (before : Journal T) → IsOld name before → IsOld name (note ∷ before)
still_old name note before old =
    omega (arith, grows (delivered_names name.from before) (name_delivered name.from note))

module _ {T : Type 0} (terms : Terms) where
  -- a job that is delivered now was not delivered before
  pub not_old : (name other : JobId) (before : Journal T) → IsNextDelivered terms other before → IsOld name before → same_name name other ≡ false
  not_old name other before next old = by_test (same_name name other) refl
    where
      by_test : (test : Bool) → same_name name other ≡ test → test ≡ false
      by_test false same = refl
      by_test true same =
          let one : name ≡ other = one_name name other same in
          let late : other.number ≤ length (delivered_names other.from before) = rw one at old in
          absurd (omega (arith, next.next))

  -- a job that was delivered does not enter again
  pub not_entering : (name : JobId) (note : Note T) (before : Journal T) → MayFollow terms note before → IsOld name before → queue_entered name note ≡ None
  not_entering name (Took other queue) before law old = rw (not_old name other before law.0 old)
  not_entering name _ before law old = refl

  -- what a note ends is neither inside and staying, nor out and staying
  pub not_ending : (name : JobId) (note : Note T) (before : Journal T) → MayFollow terms note before → IsOld name before →
      is_name name (name_leaving note) ≡ false → is_name name (name_ended note) ≡ false
  not_ending name (Back other reason) before law old stays = not_old name other before law.0 old
  not_ending name (Done other time value) before law old stays = stays
  not_ending name (Returned other reason) before law old stays = stays
  not_ending name _ before law old stays = refl

  -- a job is old from its delivery on
  pub next_old : (other : JobId) (before : Journal T) (more : Option JobId) → IsNextDelivered terms other before →
      more ≡ if_from other.from other other → other.number ≤ length (with_last (delivered_names other.from before) more)
  next_old other before more next says =
      rw
      says
      (omega (arith, next.next, one_longer (delivered_names other.from before) other (other.from == other.from) (eq-eqb other.from other.from refl)))

  -- who enters was delivered just now
  taking_old : (name : JobId) (note : Note T) (before : Journal T) → MayFollow terms note before → (queue : ℕ) → queue_entered name note ≡ Some queue →
      IsOld name (note ∷ before)
  taking_old name (Took other into) before law queue took = by_test (same_name name other) refl took
    where
      by_test : (test : Bool) → same_name name other ≡ test → cond test (Some into) None ≡ Some queue → IsOld name (Took other into ∷ before)
      by_test false same took = cc
      by_test true same took =
          subst (λ one. IsOld one (Took other into ∷ before)) (sym (one_name name other same)) (next_old other before _ law.0 refl)
  taking_old name _ before law queue took = cc

  -- the job of a turn stands in the line of its queue
  pub first_in_line : (name : JobId) (queue : ℕ) (before : Journal T) → IsTurnOf terms.burst name queue before → among name (line queue before) ≡ true
  first_in_line name queue before turn = rw (turn.first, same_as_itself name)

  -- who ends was delivered, before or just now
  ending_old : (name : JobId) (note : Note T) (before : Journal T) → MayFollow terms note before → Known before →
      is_name name (name_ended note) ≡ true → IsOld name (note ∷ before)
  ending_old name (Done other time value) before law known same =
      subst (λ one. IsOld one (Done other time value ∷ before)) (sym (one_name name other same))
      (still_old other (Done other time value) before (known.entered_old other (known.out_inside other (alone_out other before law)).entered))
  ending_old name (Returned other reason) before law known same =
      subst (λ one. IsOld one (Returned other reason ∷ before)) (sym (one_name name other same))
      (
      still_old other (Returned other reason) before
      (known.entered_old other (known.line_inside law.0 other (first_in_line other law.0 before law.1)).entered)
      )
  ending_old name (Back other reason) before law known same =
      subst (λ one. IsOld one (Back other reason ∷ before)) (sym (one_name name other same)) (next_old other before _ law.0 refl)
  ending_old name _ before law known same = cc

  -- the queue of a job that was delivered before stays
  pub queue_stays : (name : JobId) (note : Note T) (before : Journal T) → MayFollow terms note before → IsOld name before →
      queue_of name (note ∷ before) ≡ queue_of name before
  queue_stays name note before law old = rw (not_entering name note before law old)

  -- a job stays inside until a note ends it
  stays_inside : (name : JobId) (note : Note T) (before : Journal T) → MayFollow terms note before → Known before → IsInside name before →
      is_name name (name_ended note) ≡ false → IsInside name (note ∷ before)
  stays_inside name note before law known inside stays = record {
    entered = rw (queue_stays name note before law (known.entered_old name inside.entered)) inside.entered;
    going_on = rw (stays, inside.going_on);
  }

  -- whom a note leaves out, it does not end
  out_not_ending : (name : JobId) (note : Note T) (before : Journal T) → MayFollow terms note before → EachNote (MayStand terms) before →
      IsOld name before → among name (jobs_out before) ≡ true → is_name name (or_else (name_settled note) (name_polled note)) ≡ false →
      is_name name (name_ended note) ≡ false
  out_not_ending name (Back other reason) before law notes old there stays = not_old name other before law.0 old
  out_not_ending name (Done other time value) before law notes old there stays = stays
  out_not_ending name (Returned other reason) before law notes old there stays =
      absurd (true≢false (sym there ∙ ap (among name) (nobody_at_turn terms before notes other law.0 law.1)))
  out_not_ending name _ before law notes old there stays = refl

  -- a job of this queue that is inside after the note
  record Comes (queue : ℕ) (name : JobId) (note : Note T) (before : Journal T) : Type 0 where
    its_queue : queue_of name (note ∷ before) ≡ Some queue
    inside : IsInside name (note ∷ before)

  -- a job whose poll is settled is inside, unless it ends
  settling : (queue : ℕ) (name other : JobId) (note : Note T) (before : Journal T) → MayFollow terms note before → Known before →
      jobs_out before ≡ other ∷ [] → is_name other (name_ended note) ≡ false → cond (is_number queue (queue_of other before)) (Some other) None ≡ Some name →
      Comes queue name note before
  settling queue name other note before law known alone stays came = by_test (queue_of other before) refl came
    where
      by_test : (its : Option ℕ) → queue_of other before ≡ its → cond (is_number queue its) (Some other) None ≡ Some name → Comes queue name note before
      by_test None at came = cc
      by_test (Some into) at came = by_number (queue == into) refl came
        where
          by_number : (test : Bool) → (queue == into) ≡ test → cond test (Some other) None ≡ Some name → Comes queue name note before
          by_number false same came = cc
          by_number true same came =
              let one : other ≡ name = cc in
              let inside = known.out_inside other (alone_out other before alone) in
              subst (λ x. Comes queue x note before) one
              (
              record {
                its_queue = queue_stays other note before law (known.entered_old other inside.entered) ∙ at ∙ ap Some (sym (eqb-true queue into same));
                inside = stays_inside other note before law known inside stays;
              }
              )

  -- who comes to the tail of a line, is of its queue and inside
  coming : (queue : ℕ) (name : JobId) (note : Note T) (before : Journal T) → MayFollow terms note before → Known before →
      name_joining queue note before ≡ Some name → Comes queue name note before
  coming queue name (Took other into) before law known came = by_test (queue == into) refl came
    where
      not_ended : (test : Bool) → is_told name_ended other before ≡ test → test ≡ false
      not_ended false ending = refl
      not_ended true ending = absurd (omega (arith, law.0.next, known.ended_old other ending))

      by_test : (test : Bool) → (queue == into) ≡ test → cond test (Some other) None ≡ Some name → Comes queue name (Took other into) before
      by_test false same came = cc
      by_test true same came =
          let one : other ≡ name = cc in
          subst (λ x. Comes queue x (Took other into) before) one
          (
          record {
            its_queue = rw (same_as_itself other, eqb-true queue into same);
            inside = record { entered = rw (same_as_itself other); going_on = not_ended (is_told name_ended other before) refl };
          }
          )
  coming queue name (Yield other time) before law known came = settling queue name other (Yield other time) before law known law refl came
  coming queue name (Stayed other time) before law known came = settling queue name other (Stayed other time) before law known law.0 refl came
  coming queue name _ before law known came = cc

  -- who is parked now is of its queue and inside
  parking : (queue : ℕ) (name : JobId) (note : Note T) (before : Journal T) → MayFollow terms note before → Known before →
      name_parking queue note before ≡ Some name → Comes queue name note before
  parking queue name (Park other time) before law known came = settling queue name other (Park other time) before law known law.0 refl came
  parking queue name _ before law known came = cc

  -- who is polled is inside
  polling : (name : JobId) (note : Note T) (before : Journal T) → MayFollow terms note before → Known before →
      name_polled note ≡ Some name → IsInside name (note ∷ before)
  polling name (Start other) before law known same =
      let one : other ≡ name = cc in
      subst (λ x. IsInside x (Start other ∷ before)) one
      (stays_inside other (Start other) before law known (known.line_inside law.0 other (first_in_line other law.0 before law.1)) refl)
  polling name (Resume other) before law known same =
      let one : other ≡ name = cc in
      subst (λ x. IsInside x (Resume other ∷ before)) one
      (stays_inside other (Resume other) before law known (known.line_inside law.0 other (first_in_line other law.0 before law.1)) refl)
  polling name _ before law known same = cc

  -- a parked job isn't ended
  parked_not_ending : (queue : ℕ) (name : JobId) (note : Note T) (before : Journal T) → MayFollow terms note before → Known before →
      among name (parked queue before) ≡ true → is_name name (name_ended note) ≡ false
  parked_not_ending queue name (Back other reason) before law known parks =
      not_old name other before law.0 (known.entered_old name (known.parked_inside queue name parks).entered)
  parked_not_ending queue name (Done other time value) before law known parks = false_from_ne_true _ not_out
    where
      not_out : same_name name other ≡ true → ⊥
      not_out same = known.out_not_parked queue other (alone_out other before law) (rw (one_name name other same) at parks)
  parked_not_ending queue name (Returned other reason) before law known parks = false_from_ne_true _ not_first
    where
      not_first : same_name name other ≡ true → ⊥
      not_first same = line_not_parked before known law.0 queue other (first_in_line other law.0 before law.1) (rw (one_name name other same) at parks)
  parked_not_ending queue name _ before law known parks = refl

  -- so it stays inside
  parked_stays : (queue : ℕ) (name : JobId) (note : Note T) (before : Journal T) → MayFollow terms note before → Known before →
      among name (parked queue before) ≡ true → Comes queue name note before
  parked_stays queue name note before law known parks =
      let inside = known.parked_inside queue name parks in
      record {
        its_queue = queue_stays name note before law (known.entered_old name inside.entered) ∙ known.parked_queue queue name parks;
        inside = stays_inside name note before law known inside (parked_not_ending queue name note before law known parks);
      }

  -- who comes to a line was not in it, nor parked, and was out only to be settled
  pub joining_new : (queue : ℕ) (name : JobId) (note : Note T) (before : Journal T) → MayFollow terms note before → Known before → name_joining queue note before ≡ Some name →
      IsInside name before → (among name (jobs_out before) ≡ true) × (is_name name (or_else (name_settled note) (name_polled note)) ≡ true)
  joining_new queue name (Took other into) before law known came inside = by_test (queue == into) came
    where
      by_test : (test : Bool) → cond test (Some other) None ≡ Some name → (among name (jobs_out before) ≡ true) × (false ≡ true)
      by_test false came = cc
      by_test true came =
          let one : other ≡ name = cc in
          let old = known.entered_old name inside.entered in
          absurd (true≢false (sym (rw one (same_as_itself name)) ∙ not_old name other before law.0 old))
  joining_new queue name (Yield other time) before law known came inside = by_test (is_number queue (queue_of other before)) came
    where
      by_test : (test : Bool) → cond test (Some other) None ≡ Some name → (among name (jobs_out before) ≡ true) × (same_name name other ≡ true)
      by_test false came = cc
      by_test true came = let one : name ≡ other = cc in (rw one (alone_out other before law), rw one (same_as_itself other))
  joining_new queue name (Stayed other time) before law known came inside = by_test (is_number queue (queue_of other before)) came
    where
      by_test : (test : Bool) → cond test (Some other) None ≡ Some name → (among name (jobs_out before) ≡ true) × (same_name name other ≡ true)
      by_test false came = cc
      by_test true came = let one : name ≡ other = cc in (rw one (alone_out other before law.0), rw one (same_as_itself other))
  joining_new queue name _ before law known came inside = cc

  -- who is parked now was out, and is settled
  pub parking_new : (queue : ℕ) (name : JobId) (note : Note T) (before : Journal T) → MayFollow terms note before → name_parking queue note before ≡ Some name →
      (among name (jobs_out before) ≡ true) × (is_name name (or_else (name_settled note) (name_polled note)) ≡ true)
  parking_new queue name (Park other time) before law came = by_test (is_number queue (queue_of other before)) came
    where
      by_test : (test : Bool) → cond test (Some other) None ≡ Some name → (among name (jobs_out before) ≡ true) × (same_name name other ≡ true)
      by_test false came = cc
      by_test true came = let one : name ≡ other = cc in (rw one (alone_out other before law.0), rw one (same_as_itself other))
  parking_new queue name _ before law came = cc

  -- who is parked now was not parked before, so as many stay parked
  pub parked-kept : (queue : ℕ) (note : Note T) (before : Journal T) → MayFollow terms note before → Known before →
      names_but_for (name_parked note) (still_parked queue note (parked queue before)) ≡ still_parked queue note (parked queue before)
  parked-kept queue (Park name time) before law known =
      names_but-other name (parked queue before) (false_from_ne_true _ (λ parks. known.out_not_parked queue name (alone_out name before law.0) parks))
  parked-kept queue _ before law known = refl

  -- who is polled was the first of a line, which it leaves
  polled_first : (name : JobId) (note : Note T) (before : Journal T) → MayFollow terms note before → name_polled note ≡ Some name →
      ((queue : ℕ) × (among name (line queue before) ≡ true)) × (is_name name (name_leaving note) ≡ true)
  polled_first name (Start other) before law polled =
      let one : name ≡ other = cc in
      ((law.0, rw one (first_in_line other law.0 before law.1)), rw one (same_as_itself other))
  polled_first name (Resume other) before law polled =
      let one : name ≡ other = cc in
      ((law.0, rw one (first_in_line other law.0 before law.1)), rw one (same_as_itself other))
  polled_first name _ before law polled = cc

  -- a note that polls a job brings nobody to a line, parks nobody, and ends no park
  record PollsAlone (queue : ℕ) (name : JobId) (note : Note T) (before : Journal T) : Type 0 where
    joins : name_joining queue note before ≡ Some name → ⊥
    parks : name_parking queue note before ≡ Some name → ⊥
    wakes : among name (unparked queue note (parked queue before)) ≡ true → ⊥

  polls_alone : (queue : ℕ) (name : JobId) (note : Note T) (before : Journal T) → name_polled note ≡ Some name → PollsAlone queue name note before
  polls_alone queue name (Start other) before polled = record { joins = λ came. cc; parks = λ came. cc; wakes = λ woken. true≢false (sym woken) }
  polls_alone queue name (Resume other) before polled = record { joins = λ came. cc; parks = λ came. cc; wakes = λ woken. true≢false (sym woken) }
  polls_alone queue name _ before polled = cc

  -- a note that parks a job brings nobody to a line, and ends no park
  record ParksAlone (queue : ℕ) (name : JobId) (note : Note T) (before : Journal T) : Type 0 where
    joins : name_joining queue note before ≡ Some name → ⊥
    wakes : among name (unparked queue note (parked queue before)) ≡ true → ⊥

  parks_alone : (queue : ℕ) (name : JobId) (note : Note T) (before : Journal T) → name_parking queue note before ≡ Some name → ParksAlone queue name note before
  parks_alone queue name (Park other time) before came = record { joins = λ came. cc; wakes = λ woken. true≢false (sym woken) }
  parks_alone queue name _ before came = cc

  module _ (note : Note T) (before : Journal T) (law : MayFollow terms note before) (notes : EachNote (MayStand terms) before) (known : Known before) where
    -- who stands in a line after the note waited there and stayed, came to its tail, or was parked until now
    pub line_parts : (queue : ℕ) (name : JobId) → among name (line queue (note ∷ before)) ≡ true →
        ((among name (line queue before) ≡ true) × (is_name name (name_leaving note) ≡ false)) ⊎
        ((name_joining queue note before ≡ Some name) ⊎ (among name (unparked queue note (parked queue before)) ≡ true))
    line_parts queue name there =
        elim (among-with_all name (with_last (names_but_for (name_leaving note) (line queue before)) (name_joining queue note before)) (unparked queue note (parked queue before)) there) [
          | inl sooner ↦
              elim (among-with_last name (names_but_for (name_leaving note) (line queue before)) (name_joining queue note before) sooner)
              [ inl was ↦ inl (among-names_but_for name (name_leaving note) (line queue before) was) | inr came ↦ inr (inl came) ]
          | inr woken ↦ inr (inr woken)
        ]

    -- who is out after the note was out and stays so, or is polled
    out_parts : (name : JobId) → among name (jobs_out (note ∷ before)) ≡ true →
        ((among name (jobs_out before) ≡ true) × (is_name name (or_else (name_settled note) (name_polled note)) ≡ false)) ⊎ (name_polled note ≡ Some name)
    out_parts name there =
        elim (among-with_last name (names_but_for (or_else (name_settled note) (name_polled note)) (jobs_out before)) (name_polled note) there)
        [ inl was ↦ inl (among-names_but_for name (or_else (name_settled note) (name_polled note)) (jobs_out before) was) | inr polled ↦ inr polled ]

    -- who is parked after the note is of its queue and inside
    parked_comes : (queue : ℕ) (name : JobId) → among name (parked queue (note ∷ before)) ≡ true → Comes queue name note before
    parked_comes queue name there =
        elim (parked_parts queue note before name there) [
          | inl still ↦ parked_stays queue name note before law known (among-still_parked queue note (parked queue before) name still).was
          | inr came ↦ parking queue name note before law known came
        ]

    -- who is out waits in no line
    out_or_waiting : (queue : ℕ) (name : JobId) → among name (jobs_out (note ∷ before)) ≡ true → among name (line queue (note ∷ before)) ≡ true → ⊥
    out_or_waiting queue name outside waits =
        elim (out_parts name outside) [
          | inl out ↦
              elim (line_parts queue name waits) [
                | inl was ↦ known.not_waiting queue name out.0 was.0
                | inr (inl came) ↦ true≢false (sym (joining_new queue name note before law known came (known.out_inside name out.0)).1 ∙ out.1)
                | inr (inr woken) ↦ known.out_not_parked queue name out.0 (among-unparked queue note (parked queue before) name woken)
              ]
          | inr polled ↦
              elim (line_parts queue name waits) [
                | inl was ↦ true≢false (sym (polled_first name note before law polled).1 ∙ was.1)
                | inr (inl came) ↦ (polls_alone queue name note before polled).joins came
                | inr (inr woken) ↦ (polls_alone queue name note before polled).wakes woken
              ]
        ]

    -- nor is it parked
    out_or_parked : (queue : ℕ) (name : JobId) → among name (jobs_out (note ∷ before)) ≡ true → among name (parked queue (note ∷ before)) ≡ true → ⊥
    out_or_parked queue name outside parks =
        elim (out_parts name outside) [
          | inl out ↦
              elim (parked_parts queue note before name parks) [
                | inl still ↦ known.out_not_parked queue name out.0 (among-still_parked queue note (parked queue before) name still).was
                | inr came ↦ true≢false (sym (parking_new queue name note before law came).1 ∙ out.1)
              ]
          | inr polled ↦
              elim (parked_parts queue note before name parks) [
                | inl still ↦
                    let first = (polled_first name note before law polled).0 in
                    line_not_parked before known first.0 queue name first.1 (among-still_parked queue note (parked queue before) name still).was
                | inr came ↦ (polls_alone queue name note before polled).parks came
              ]
        ]

    -- and who waits in a line isn't parked
    waiting_or_parked : (queue : ℕ) (name : JobId) → among name (line queue (note ∷ before)) ≡ true → among name (parked queue (note ∷ before)) ≡ true → ⊥
    waiting_or_parked queue name waits parks =
        elim (parked_parts queue note before name parks) [
          | inl still ↦
              let was_parked = (among-still_parked queue note (parked queue before) name still).was in
              elim (line_parts queue name waits) [
                | inl was ↦ known.waiting_not_parked queue name was.0 was_parked
                | inr (inl came) ↦ known.out_not_parked queue name (joining_new queue name note before law known came (known.parked_inside queue name was_parked)).0 was_parked
                | inr (inr woken) ↦ still_not_unparked queue note (parked queue before) name still woken
              ]
          | inr came ↦
              elim (line_parts queue name waits) [
                | inl was ↦ known.not_waiting queue name (parking_new queue name note before law came).0 was.0
                | inr (inl joins) ↦ (parks_alone queue name note before came).joins joins
                | inr (inr woken) ↦ (parks_alone queue name note before came).wakes woken
              ]
        ]

    -- who stands in a line after the note is of its queue and inside
    line_comes : (queue : ℕ) (name : JobId) → among name (line queue (note ∷ before)) ≡ true → Comes queue name note before
    line_comes queue name there =
        elim (line_parts queue name there) [
          | inl was ↦ stayed was
          | inr (inl came) ↦ coming queue name note before law known came
          | inr (inr woken) ↦ parked_stays queue name note before law known (among-unparked queue note (parked queue before) name woken)
        ]
      where
        stayed : (among name (line queue before) ≡ true) × (is_name name (name_leaving note) ≡ false) → Comes queue name note before
        stayed was =
            let inside = known.line_inside queue name was.0 in
            let old = known.entered_old name inside.entered in
            record {
              its_queue = queue_stays name note before law old ∙ known.line_queue queue name was.0;
              inside = stays_inside name note before law known inside (not_ending name note before law old was.1);
            }

    -- who is out after the note is inside
    out_comes : (name : JobId) → among name (jobs_out (note ∷ before)) ≡ true → IsInside name (note ∷ before)
    out_comes name there =
        elim (among-with_last name (names_but_for (or_else (name_settled note) (name_polled note)) (jobs_out before)) (name_polled note) there) [
          | inl was ↦ stayed (among-names_but_for name (or_else (name_settled note) (name_polled note)) (jobs_out before) was)
          | inr came ↦ polling name note before law known came
        ]
      where
        stayed : (among name (jobs_out before) ≡ true) × (is_name name (or_else (name_settled note) (name_polled note)) ≡ false) → IsInside name (note ∷ before)
        stayed was =
            let inside = known.out_inside name was.0 in
            let old = known.entered_old name inside.entered in
            stays_inside name note before law known inside (out_not_ending name note before law notes old was.0 was.1)

    -- who entered by then was delivered
    entered_comes : (name : JobId) → is_some (queue_of name (note ∷ before)) ≡ true → IsOld name (note ∷ before)
    entered_comes name there = by_entered (queue_entered name note) refl there
      where
        by_entered : (into : Option ℕ) → queue_entered name note ≡ into → is_some (or_else into (queue_of name before)) ≡ true → IsOld name (note ∷ before)
        by_entered None took there = still_old name note before (known.entered_old name there)
        by_entered (Some queue) took there = taking_old name note before law queue took

    -- who ended by then was delivered
    ended_comes : (name : JobId) → is_told name_ended name (note ∷ before) ≡ true → IsOld name (note ∷ before)
    ended_comes name there =
        elim (or_cases (is_name name (name_ended note)) (is_told name_ended name before) there)
        [ inl now ↦ ending_old name note before law known now | inr was ↦ still_old name note before (known.ended_old name was) ]

    -- each note keeps all of it
    stays_known : Known (note ∷ before)
    stays_known = record {
      line_queue = λ queue name there. (line_comes queue name there).its_queue;
      line_inside = λ queue name there. (line_comes queue name there).inside;
      out_inside = out_comes;
      entered_old = entered_comes;
      ended_old = ended_comes;
      parked_queue = λ queue name there. (parked_comes queue name there).its_queue;
      parked_inside = λ queue name there. (parked_comes queue name there).inside;
      not_waiting = out_or_waiting;
      out_not_parked = out_or_parked;
      waiting_not_parked = waiting_or_parked;
    }

  -- they hold of each lawful journal
  pub known_of : (journal : Journal T) → EachNote (MayStand terms) journal → Known journal
  known_of [] notes = record {
    line_queue = λ queue name there. absurd (true≢false (sym there));
    line_inside = λ queue name there. absurd (true≢false (sym there));
    out_inside = λ name there. absurd (true≢false (sym there));
    entered_old = λ name there. absurd (true≢false (sym there));
    ended_old = λ name there. absurd (true≢false (sym there));
    parked_queue = λ queue name there. absurd (true≢false (sym there));
    parked_inside = λ queue name there. absurd (true≢false (sym there));
    not_waiting = λ queue name outside waits. true≢false (sym outside);
    out_not_parked = λ queue name outside parks. true≢false (sym outside);
    waiting_not_parked = λ queue name waits parks. true≢false (sym waits);
  }
  known_of (note ∷ before) notes = stays_known note before notes.0.may_follow notes.1 (known_of before notes.1)
