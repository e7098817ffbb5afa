-- What a line leaves of a draft.
use Rattle.std.proofs.Common.{◌≡◌, ℕ, zero, suc, ◌+◌, ◌-◌, ◌*◌, ◌<◌, ◌≤◌, Bool, true, false, cond, ltb, List, [], ◌∷◌, ◌++◌, length, Option, Some, None, Result, Ok, inl, inr, ◌⊎◌, refl, sym, ap, ◌∙◌, arith, codes, length-append}
use Rattle.std.specs.Str.{bytes_eq}
use Rattle.std.proofs.lemmas.Bool.Decides.{nat_tests}
use Rattle.base_words.specs.declared.note.Note.{Note}
use Rattle.base_words.specs.Assembly.{Assembly}
use Rattle.base_words.specs.Journal.{Journal}
use Rattle.base_words.specs.Limits.{most_notes}
use Rattle.text_words.specs.Words.{words, first, others}
use Rattle.text_journal.specs.Fields.{number_in}
use Rattle.text_journal.specs.NoteWords.{note_of}
use Rattle.text_journal.proofs.Decimals.{number_in_read}
use Rattle.text_journal.proofs.Options.{either}
use Rattle.text_journal.specs.declared.draft.Part.{Part}
use Rattle.text_journal.specs.declared.draft.Part.TheVariants as part
use Rattle.text_journal.specs.declared.fault.JournalCause.{JournalCause}
use Rattle.text_journal.specs.Drafts.{Drafted, IsDraft, next_actor, raised, raised_to, with_form, form_of, with_size, size_of, with_note, with_actor, with_note_line, with_text, lines_left_of, lines_left, all_journals, assembly_of}

-- one actor more
pub raised_more : (actor count : ℕ) (draft : Drafted) → count < actor → raised (actor - count) draft ≡ raised (actor - (count + 1)) (next_actor draft)
raised_more actor count draft less =
    let next : actor - count ≡ suc (actor - (count + 1)) = omega arith in
    ap (λ more. raised more draft) next

-- what stays when actors are passed over
pub record IsRaised (count : ℕ) (old new : Drafted) : Type 0 where
  pub part : new.part ≡ old.part
  pub cores : new.cores ≡ old.cores
  pub cap : new.cap ≡ old.cap
  pub burst : new.burst ≡ old.burst
  pub earlier : length new.earlier ≡ length old.earlier + count

pub raised_is : (count : ℕ) (draft : Drafted) → IsRaised count draft (raised count draft)
raised_is zero draft = record { part = refl; cores = refl; cap = refl; burst = refl; earlier = omega arith }
raised_is (suc count) draft =
    let rest = raised_is count (next_actor draft) in
    let longer = rest.earlier in
    record { part = rest.part; cores = rest.cores; cap = rest.cap; burst = rest.burst; earlier = omega (arith, length-append draft.earlier (draft.notes ∷ [])) }

pub raised_notes : (count : ℕ) (draft : Drafted) → (raised (suc count) draft).notes ≡ []
raised_notes zero draft = refl
raised_notes (suc count) draft = raised_notes count (next_actor draft)

-- a choice of results that came to one
pub chosen_ok : {A : Type 0} (b : Bool) (found missed : Result A JournalCause) (a : A) → cond b found missed ≡ Ok a → ((b ≡ true) × (found ≡ Ok a)) ⊎ ((b ≡ false) × (missed ≡ Ok a))
chosen_ok true found missed a is = inl (refl, is)
chosen_ok false found missed a is = inr (refl, is)

-- a draft after a note
pub note_taken : (draft new : Drafted) (read : Option (Note ℕ)) → with_note draft read ≡ Ok new →
    (note : Note ℕ) × (read ≡ Some note) × (length draft.notes < most_notes) × (new ≡ record { part = draft.part; cores = draft.cores; cap = draft.cap; burst = draft.burst; earlier = draft.earlier; notes = note ∷ draft.notes })
note_taken draft new None is = cc
note_taken draft new (Some note) is =
    either (chosen_ok (ltb (length draft.notes) most_notes) _ _ new is)
    (λ h. let room : length draft.notes < most_notes = grind (arith, nat_tests, h.0) in (note, refl, room, cc))
    (λ h. cc)

pub actor_taken : (draft new : Drafted) (ws : List (List ℕ)) (read : Option ℕ) → with_actor draft ws read ≡ Ok new → (actor : ℕ) × (read ≡ Some actor) × (with_note (raised_to actor draft) (note_of actor draft.cores draft.burst ws) ≡ Ok new)
actor_taken draft new ws None is = cc
actor_taken draft new ws (Some actor) is = (actor, refl, is)

-- each line leaves room for one less
left_in : (draft : Drafted) (p : Part) → draft.part ≡ p → lines_left draft ≡ lines_left_of p draft
left_in draft p at = ap (λ q. lines_left_of q draft) at

left_after : (draft new : Drafted) (ws : List (List ℕ)) (actor count : ℕ) → draft.part ≡ part.Notes → with_note (raised count draft) (note_of actor draft.cores draft.burst ws) ≡ Ok new →
    (length (raised count draft).notes < most_notes) × (lines_left new ≡ (17 - (length draft.earlier + count)) * most_notes + 1 - (length (raised count draft).notes + 1))
left_after draft new ws actor count at taken =
    let one = note_taken (raised count draft) new (note_of actor draft.cores draft.burst ws) taken in
    let kept = raised_is count draft in
    let behind : Drafted = record { part = (raised count draft).part; cores = (raised count draft).cores; cap = (raised count draft).cap; burst = (raised count draft).burst; earlier = (raised count draft).earlier; notes = one.0 ∷ (raised count draft).notes } in
    let longer : suc (length (raised count draft).notes) ≡ length (raised count draft).notes + 1 = omega arith in (
      one.2,
      ap lines_left one.3 ∙ left_in behind part.Notes (kept.part ∙ at)
          ∙ ap (λ n. (17 - length (raised count draft).earlier) * most_notes + 1 - n) longer
          ∙ ap (λ n. (17 - n) * most_notes + 1 - (length (raised count draft).notes + 1)) kept.earlier,
    )

fewer_note : (draft new : Drafted) (ws : List (List ℕ)) (actor count : ℕ) → draft.part ≡ part.Notes → IsDraft draft → length draft.earlier + count ≤ draft.cores → with_note (raised count draft) (note_of actor draft.cores draft.burst ws) ≡ Ok new → lines_left new + 1 ≤ lines_left draft
fewer_note draft new ws actor zero at is within taken =
    let few = is.few in
    let after = left_after draft new ws actor zero at taken in
    let before = left_in draft part.Notes at in
    omega (arith, after.0, after.1, before)
fewer_note draft new ws actor (suc count) at is within taken =
    let few = is.few in
    let short = is.short in
    let after = left_after draft new ws actor (suc count) at taken in
    let before = left_in draft part.Notes at in
    let none = ap length (raised_notes count draft) in
    omega (arith, after.1, before, none)

fewer_form : (draft new : Drafted) (form : Option ℕ) → draft.part ≡ part.Form → with_form draft form ≡ Ok new → lines_left new + 1 ≤ lines_left draft
fewer_form draft new None at taken = cc
fewer_form draft new (Some form) at taken =
    let next : Drafted = record { part = part.Size; cores = draft.cores; cap = draft.cap; burst = form; earlier = draft.earlier; notes = draft.notes } in
    let is : next ≡ new = cc in
    let before = left_in draft part.Form at in
    let after = ap lines_left (sym is) in
    omega (arith, before, after)

fewer_size : (draft new : Drafted) (size : Option (ℕ × ℕ × ℕ)) → draft.part ≡ part.Size → with_size draft size ≡ Ok new → lines_left new + 1 ≤ lines_left draft
fewer_size draft new None at taken = cc
fewer_size draft new (Some size) at taken =
    let next : Drafted = record { part = part.Notes; cores = size.0; cap = size.1; burst = size.2; earlier = draft.earlier; notes = draft.notes } in
    let is : next ≡ new = cc in
    let before = left_in draft part.Size at in
    let after = ap lines_left (sym is) in
    omega (arith, before, after)

pub fewer_line : (draft new : Drafted) (line : List ℕ) → draft.part ≡ part.Notes → IsDraft draft → with_note_line draft line ≡ Ok new → lines_left new + 1 ≤ lines_left draft
fewer_line draft new line at is taken =
    either (chosen_ok (bytes_eq line (codes "end")) _ _ new taken)
    (λ h.
    let next : Drafted = record { part = part.After; cores = draft.cores; cap = draft.cap; burst = draft.burst; earlier = draft.earlier; notes = draft.notes } in
    let same : next ≡ new = cc in
    let few = is.few in
    let actors = is.actors in
    let short = is.short in
    let before = left_in draft part.Notes at in
    let after = ap lines_left (sym same) in
    omega (arith, before, after))
    (λ h.
    let one = actor_taken draft new (others (words line)) (number_in (length draft.earlier) draft.cores (first (words line))) h.1 in
    let few = is.few in
    let range = number_in_read (length draft.earlier) draft.cores (first (words line)) one.0 (omega arith) one.1 in
    let within : length draft.earlier + (one.0 - length draft.earlier) ≤ draft.cores = omega (arith, range.0, range.1) in
    fewer_note draft new (others (words line)) one.0 (one.0 - length draft.earlier) at is within one.2)

pub fewer_lines : (draft new : Drafted) (line : List ℕ) → IsDraft draft → with_text draft.part draft line ≡ Ok new → lines_left new + 1 ≤ lines_left draft
fewer_lines draft new line is taken = of_part draft.part refl taken
  where
    of_part : (p : Part) → draft.part ≡ p → with_text p draft line ≡ Ok new → lines_left new + 1 ≤ lines_left draft
    of_part part.Form at h = fewer_form draft new (form_of line) at h
    of_part part.Size at h = fewer_size draft new (size_of draft.burst (words line)) at h
    of_part part.Notes at h = fewer_line draft new line at is h
    of_part part.After at h = cc

-- however far a text is read
pub lines_left_most : (draft : Drafted) → lines_left draft ≤ 285212675
lines_left_most draft = of_part draft.part
  where
    of_part : (p : Part) → lines_left_of p draft ≤ 285212675
    of_part part.Form = omega arith
    of_part part.Size = omega arith
    of_part part.Notes = omega arith
    of_part part.After = omega arith

-- what is read of a line that isn't `end`
pub line_read : (draft passed : Drafted) (line : List ℕ) (actor : ℕ) (read : Option (Note ℕ)) → bytes_eq line (codes "end") ≡ false → number_in (length draft.earlier) draft.cores (first (words line)) ≡ Some actor →
    passed ≡ raised_to actor draft → read ≡ note_of actor draft.cores draft.burst (others (words line)) → with_note_line draft line ≡ with_note passed read
line_read draft passed line actor read other number is note_is =
    ap (λ b. cond b (Ok (record { part = part.After; cores = draft.cores; cap = draft.cap; burst = draft.burst; earlier = draft.earlier; notes = draft.notes })) (with_actor draft (others (words line)) (number_in (length draft.earlier) draft.cores (first (words line))))) other
    ∙ ap (with_actor draft (others (words line))) number
    ∙ ap (λ d. with_note d (note_of actor draft.cores draft.burst (others (words line)))) (sym is)
    ∙ ap (with_note passed) (sym note_is)

-- the journals of a draft that was passed through
pub assembled : (draft passed : Drafted) (cores places burst : ℕ) (journals : List (Journal ℕ)) (newest : Journal ℕ) → passed ≡ raised_to draft.cores draft → cores ≡ passed.cores → places ≡ passed.cap → burst ≡ passed.burst → journals ≡ passed.earlier ++ newest ∷ [] → newest ≡ passed.notes →
    ◌≡◌ {A = Assembly ℕ} (record { cores = cores; cap = places; burst = burst; journals = journals }) (assembly_of draft)
assembled draft passed cores places burst journals newest is cores_is cap_is burst_is journals_are newest_is =
    let kept = raised_is (draft.cores - length draft.earlier) draft in
    ap {B = Assembly ℕ} (λ n. record { cores = n; cap = places; burst = burst; journals = journals }) (cores_is ∙ ap (λ (d : Drafted). d.cores) is ∙ kept.cores)
    ∙ ap {B = Assembly ℕ} (λ n. record { cores = draft.cores; cap = n; burst = burst; journals = journals }) (cap_is ∙ ap (λ (d : Drafted). d.cap) is ∙ kept.cap)
    ∙ ap {B = Assembly ℕ} (λ n. record { cores = draft.cores; cap = draft.cap; burst = n; journals = journals }) (burst_is ∙ ap (λ (d : Drafted). d.burst) is ∙ kept.burst)
    ∙ ap {B = Assembly ℕ} (λ js. record { cores = draft.cores; cap = draft.cap; burst = draft.burst; journals = js }) (journals_are ∙ ap (λ j. passed.earlier ++ j ∷ []) newest_is ∙ ap all_journals is)

pub passed_count : (draft : Drafted) → length draft.earlier ≤ draft.cores → length (raised_to draft.cores draft).earlier ≡ draft.cores
passed_count draft actors = let kept = raised_is (draft.cores - length draft.earlier) draft in let longer = kept.earlier in omega arith
