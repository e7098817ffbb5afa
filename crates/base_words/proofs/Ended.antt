-- What was delivered entered, went back or was answered; and what entered waits in its line, is parked, is out, or has ended.
use Rattle.base_words.proofs.Words.{ap, Assembly, Bool, cond, delivered_names, EachNote, eq-eqb, false, inl, inr, is_command, is_name, is_some, is_told, IsAcceptedCommand, IsAcceptedJob, JobId, jobs_out, Journal, line, List, name_answered}
use Rattle.base_words.proofs.Words.{name_delivered, name_ended, name_joining, name_leaving, name_parked, name_parking, name_polled, name_settled, names_but, names_but_for, None, Note, Option, or_cases, or_else, or_left, or_right}
use Rattle.base_words.proofs.Words.{OutcomesRight, parked, queue_entered, queue_of, refl, same_name, Some, still_parked, subst, sym, true, true≢false, unparked, ℕ, [], ◌==◌, ◌∙◌, ◌∷◌, ◌≡◌, ◌⊎◌}
use Rattle.base_words.specs.declared.note.Note.TheVariants.{Took, Back, Answered, Start, Resume, Yield, Park, Stayed, Done, Returned}
use Rattle.base_words.proofs.NameLemmas.{among, one_name, same_as_itself, among-with_last, among-stays, among-comes, among-kept, among-all_stays, among-all_come}
use Rattle.base_words.proofs.Parks.{still_or_unparked}

-- a job waits in the line of its queue, is out, has ended, or is parked
abbrev pub IsSomewhere : {T : Type 0} → JobId → ℕ → Journal T → Type 0
IsSomewhere name queue journal =
    (among name (line queue journal) ≡ true) ⊎
    ((among name (jobs_out journal) ≡ true) ⊎ ((is_told name_ended name journal ≡ true) ⊎ (among name (parked queue journal) ≡ true)))

-- it entered, or ended, or was answered
abbrev pub IsMet : {T : Type 0} → JobId → Journal T → Type 0
IsMet name journal = (is_some (queue_of name journal) ≡ true) ⊎ ((is_told name_ended name journal ≡ true) ⊎ (is_told name_answered name journal ≡ true))

-- what was met stays met
met-stays : {T : Type 0} (name : JobId) (note : Note T) (before : Journal T) → IsMet name before → IsMet name (note ∷ before)
met-stays name note before (inl entered) = inl (still_some (queue_entered name note) (queue_of name before) entered)
  where
    still_some : (now was : Option ℕ) → is_some was ≡ true → is_some (or_else now was) ≡ true
    still_some None was there = there
    still_some (Some queue) was there = refl
met-stays name note before (inr (inl ended)) = inr (inl (or_right (is_name name (name_ended note)) (is_told name_ended name before) ended))
met-stays name note before (inr (inr answered)) = inr (inr (or_right (is_name name (name_answered note)) (is_told name_answered name before) answered))

-- what is delivered now is met
met_now : {T : Type 0} (name : JobId) (note : Note T) (before : Journal T) → name_delivered name.from note ≡ Some name → IsMet name (note ∷ before)
met_now name (Took other queue) before now = by_test (other.from == name.from) now
  where
    by_test : (test : Bool) → cond test (Some other) None ≡ Some name → IsMet name (Took other queue ∷ before)
    by_test false now = cc
    by_test true now = let one : other ≡ name = cc in inl (rw (← one, same_as_itself other))
met_now name (Back other reason) before now = by_test (other.from == name.from) now
  where
    by_test : (test : Bool) → cond test (Some other) None ≡ Some name → IsMet name (Back other reason ∷ before)
    by_test false now = cc
    by_test true now = let one : other ≡ name = cc in inr (inl (rw (← one, same_as_itself other)))
met_now name (Answered other answer) before now = by_test (other.from == name.from) now
  where
    by_test : (test : Bool) → cond test (Some other) None ≡ Some name → IsMet name (Answered other answer ∷ before)
    by_test false now = cc
    by_test true now = let one : other ≡ name = cc in inr (inr (rw (← one, same_as_itself other)))
met_now name _ before now = cc

-- each name that was delivered is met
pub delivered_met : {T : Type 0} (name : JobId) (journal : Journal T) → among name (delivered_names name.from journal) ≡ true → IsMet name journal
delivered_met name [] there = absurd (true≢false (sym there))
delivered_met name (note ∷ before) there =
    elim (among-with_last name (delivered_names name.from before) (name_delivered name.from note) there) [
      | inl was ↦ met-stays name note before (delivered_met name before was)
      | inr now ↦ met_now name note before now
    ]

-- who ended was accepted as a job
pub ended_job : {T : Type 0} (assembly : Assembly T) (name : JobId) (journal : Journal T) → EachNote (OutcomesRight assembly) journal →
    is_told name_ended name journal ≡ true → IsAcceptedJob name assembly
ended_job assembly name [] notes told = absurd (true≢false (sym told))
ended_job {T} assembly name (note ∷ before) notes told =
    elim (or_cases (is_name name (name_ended note)) (is_told name_ended name before) told)
    [ inl now ↦ by_note note notes.0 now | inr was ↦ ended_job assembly name before notes.1 was ]
  where
    by_note : (note : Note T) → OutcomesRight assembly note before → is_name name (name_ended note) ≡ true → IsAcceptedJob name assembly
    by_note (Done other time value) law now = subst (λ one. IsAcceptedJob one assembly) (sym (one_name name other now)) law.0
    by_note (Back other reason) law now = subst (λ one. IsAcceptedJob one assembly) (sym (one_name name other now)) law.0
    by_note (Returned other reason) law now = subst (λ one. IsAcceptedJob one assembly) (sym (one_name name other now)) law.0
    by_note _ law now = cc

-- what was answered was accepted as a command
pub answered_command : {T : Type 0} (assembly : Assembly T) (name : JobId) (journal : Journal T) → EachNote (OutcomesRight assembly) journal →
    is_told name_answered name journal ≡ true → IsAcceptedCommand name assembly
answered_command assembly name [] notes told = absurd (true≢false (sym told))
answered_command {T} assembly name (note ∷ before) notes told =
    elim (or_cases (is_name name (name_answered note)) (is_told name_answered name before) told)
    [ inl now ↦ by_note note notes.0 now | inr was ↦ answered_command assembly name before notes.1 was ]
  where
    by_note : (note : Note T) → OutcomesRight assembly note before → is_name name (name_answered note) ≡ true → IsAcceptedCommand name assembly
    by_note (Answered other answer) law now = subst (λ one. IsAcceptedCommand one assembly) (sym (one_name name other now)) law.0
    by_note _ law now = cc

-- no job is a command
pub not_both : {T : Type 0} (assembly : Assembly T) (name : JobId) → IsAcceptedJob name assembly → IsAcceptedCommand name assembly → ⊥
not_both assembly name job command = true≢false (sym command ∙ ap is_command job.1)

-- who leaves a line is out or has ended
leaves_line : {T : Type 0} (name : JobId) (note : Note T) (before : Journal T) → is_name name (name_leaving note) ≡ true →
    (among name (jobs_out (note ∷ before)) ≡ true) ⊎ (is_told name_ended name (note ∷ before) ≡ true)
leaves_line name (Start other) before goes = inl (rw (one_name name other goes) (among-comes other (names_but other (jobs_out before))))
leaves_line name (Resume other) before goes = inl (rw (one_name name other goes) (among-comes other (names_but other (jobs_out before))))
leaves_line name (Returned other reason) before goes = inr (or_left (same_name name other) (is_told name_ended name before) goes)
leaves_line name (Done other time value) before goes = inr (or_left (same_name name other) (is_told name_ended name before) goes)
leaves_line name _ before goes = cc

-- who is settled is in its line, is parked or has ended, and who is polled is out
settled_somewhere : {T : Type 0} (name : JobId) (queue : ℕ) (note : Note T) (before : Journal T) → queue_of name before ≡ Some queue →
    is_name name (or_else (name_settled note) (name_polled note)) ≡ true → IsSomewhere name queue (note ∷ before)
settled_somewhere name queue (Yield other time) before its now =
    inl
    (
    let one : name ≡ other = one_name name other now in
    let same : queue_of other before ≡ Some queue = rw one at its in
    rw (same, eq-eqb queue queue refl, one) (among-comes other (line queue before))
    )
settled_somewhere name queue (Stayed other time) before its now =
    inl
    (
    let one : name ≡ other = one_name name other now in
    let same : queue_of other before ≡ Some queue = rw one at its in
    rw (same, eq-eqb queue queue refl, one) (among-comes other (line queue before))
    )
settled_somewhere name queue (Park other time) before its now =
    inr
    (
    inr
    (
    inr
    (
    let one : name ≡ other = one_name name other now in
    let same : queue_of other before ≡ Some queue = rw one at its in
    rw (same, eq-eqb queue queue refl, one) (among-comes other (names_but other (parked queue before)))
    )
    )
    )
settled_somewhere name queue (Done other time value) before its now = inr (inr (inl (or_left (same_name name other) (is_told name_ended name before) now)))
settled_somewhere name queue (Start other) before its now = inr (inl (rw (one_name name other now) (among-comes other (names_but other (jobs_out before)))))
settled_somewhere name queue (Resume other) before its now = inr (inl (rw (one_name name other now) (among-comes other (names_but other (jobs_out before)))))
settled_somewhere name queue _ before its now = cc

-- who is parked now is settled
parked_settled : {T : Type 0} (name : JobId) (note : Note T) → is_name name (name_parked note) ≡ true → is_name name (or_else (name_settled note) (name_polled note)) ≡ true
parked_settled name (Park other time) now = now
parked_settled name _ now = cc

-- who doesn't go stays
kept_but_for : (name : JobId) (gone : Option JobId) (names : List JobId) → among name names ≡ true → is_name name gone ≡ false → among name (names_but_for gone names) ≡ true
kept_but_for name None names there stays = there
kept_but_for name (Some gone) names there stays = among-kept name gone names there stays

-- who was somewhere still is
somewhere-stays : {T : Type 0} (name : JobId) (queue : ℕ) (note : Note T) (before : Journal T) → queue_of name before ≡ Some queue →
    IsSomewhere name queue before → IsSomewhere name queue (note ∷ before)
somewhere-stays name queue note before its (inl waits) = by_test (is_name name (name_leaving note)) refl
  where
    by_test : (test : Bool) → is_name name (name_leaving note) ≡ test → IsSomewhere name queue (note ∷ before)
    by_test true goes = elim (leaves_line name note before goes) [ inl out ↦ inr (inl out) | inr ended ↦ inr (inr (inl ended)) ]
    by_test false stays =
        inl
        (
        among-all_stays name _ (unparked queue note (parked queue before))
        (
        among-stays name (names_but_for (name_leaving note) (line queue before)) (name_joining queue note before)
        (kept_but_for name (name_leaving note) (line queue before) waits stays)
        )
        )
somewhere-stays name queue note before its (inr (inl outside)) = by_test (is_name name (or_else (name_settled note) (name_polled note))) refl
  where
    by_test : (test : Bool) → is_name name (or_else (name_settled note) (name_polled note)) ≡ test → IsSomewhere name queue (note ∷ before)
    by_test true now = settled_somewhere name queue note before its now
    by_test false stays =
        inr
        (
        inl
        (
        among-stays name (names_but_for (or_else (name_settled note) (name_polled note)) (jobs_out before)) (name_polled note)
        (kept_but_for name (or_else (name_settled note) (name_polled note)) (jobs_out before) outside stays)
        )
        )
somewhere-stays name queue note before its (inr (inr (inl ended))) = inr (inr (inl (or_right (is_name name (name_ended note)) (is_told name_ended name before) ended)))
somewhere-stays name queue note before its (inr (inr (inr parks))) =
    elim (still_or_unparked queue note (parked queue before) name parks) [
      | inl still ↦ by_test still (is_name name (name_parked note)) refl
      | inr woken ↦ inl (among-all_come name _ (unparked queue note (parked queue before)) woken)
    ]
  where
    by_test : among name (still_parked queue note (parked queue before)) ≡ true → (test : Bool) → is_name name (name_parked note) ≡ test → IsSomewhere name queue (note ∷ before)
    by_test still true now = settled_somewhere name queue note before its (parked_settled name note now)
    by_test still false stays =
        inr
        (
        inr
        (
        inr
        (
        among-stays name (names_but_for (name_parked note) (still_parked queue note (parked queue before))) (name_parking queue note before)
        (kept_but_for name (name_parked note) (still_parked queue note (parked queue before)) still stays)
        )
        )
        )

-- who enters comes to the line of its queue
joins_line : {T : Type 0} (name : JobId) (queue : ℕ) (note : Note T) (before : Journal T) → queue_entered name note ≡ Some queue → name_joining queue note before ≡ Some name
joins_line name queue (Took other into) before enters = by_test (same_name name other) refl enters
  where
    by_test : (test : Bool) → same_name name other ≡ test → cond test (Some into) None ≡ Some queue → cond (queue == into) (Some other) None ≡ Some name
    by_test false same enters = cc
    by_test true same enters =
        let one : queue ≡ into = cc in
        rw (eq-eqb queue into one) (ap Some (sym (one_name name other same)))
joins_line name queue _ before enters = cc

-- who entered a queue waits in its line, is out, has ended, or is parked
pub entered_somewhere : {T : Type 0} (name : JobId) (queue : ℕ) (journal : Journal T) → queue_of name journal ≡ Some queue → IsSomewhere name queue journal
entered_somewhere name queue [] entered = cc
entered_somewhere {T} name queue (note ∷ before) entered = by_entered (queue_entered name note) refl entered (entered_somewhere name queue before)
  where
    by_entered : (into : Option ℕ) → queue_entered name note ≡ into → or_else into (queue_of name before) ≡ Some queue →
        (queue_of name before ≡ Some queue → IsSomewhere name queue before) → IsSomewhere name queue (note ∷ before)
    by_entered None now was rest = somewhere-stays name queue note before was (rest was)
    by_entered (Some into) now is rest =
        let joins : name_joining queue note before ≡ Some name = joins_line name queue note before (now ∙ is) in
        inl
        (
        among-all_stays name _ (unparked queue note (parked queue before))
        (rw joins (among-comes name (names_but_for (name_leaving note) (line queue before))))
        )
