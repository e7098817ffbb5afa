-- In a sound assembly a drained core has ended each accepted job once, and answered each accepted command once.
use Rattle.base_words.proofs.Words.{ap, arith, Assembly, Bool, EachEndedOnce, EachNote, false, is_name, is_told, IsDrained, IsSound, JobId, Journal, journal_of, name_answered, name_ended, Note, number_if, Option, or_parts, OutcomesRight}
use Rattle.base_words.proofs.Words.{refl, subst, sym, times_told, true, true≢false, ℕ, [], ◌+◌, ◌<◌, ◌||◌, ◌∷◌, ◌≡◌}
use Rattle.base_words.specs.declared.note.Note.TheVariants.{Back, Answered, Done, Returned}
use Rattle.base_words.proofs.NameLemmas.{one_name}

module _ {T : Type 0} (says : Note T → Option JobId) (name : JobId) where
  -- what isn't told is told no time
  never : (journal : Journal T) → is_told says name journal ≡ false → times_told says name journal ≡ 0
  never [] silent = refl
  never (note ∷ before) silent =
      let parts = or_parts (is_name name (says note)) (is_told says name before) silent in
      rw parts.0 (ap (λ count. count + 0) (never before parts.1))

  -- what is told, and by each note for the first time, is told once
  once : (journal : Journal T) → EachNote (λ note before. is_name name (says note) ≡ true → is_told says name before ≡ false) journal →
      is_told says name journal ≡ true → times_told says name journal ≡ 1
  once [] new told = absurd (true≢false (sym told))
  once (note ∷ before) new told = by_test (is_name name (says note)) refl told (once before new.1)
    where
      by_test : (test : Bool) → is_name name (says note) ≡ test → (test || is_told says name before) ≡ true →
          (is_told says name before ≡ true → times_told says name before ≡ 1) → times_told says name before + number_if test ≡ 1
      by_test true now told rest = ap (λ count. count + 1) (never before (new.0 now))
      by_test false other told rest = ap (λ count. count + 0) (rest told)

-- each note that ends a job is the first that does
ends_new : {T : Type 0} (assembly : Assembly T) (name : JobId) (journal : Journal T) → EachNote (OutcomesRight assembly) journal →
    EachNote (λ note before. is_name name (name_ended note) ≡ true → is_told name_ended name before ≡ false) journal
ends_new assembly name [] notes = tt
ends_new {T} assembly name (note ∷ before) notes = (by_note note notes.0, ends_new assembly name before notes.1)
  where
    by_note : (note : Note T) → OutcomesRight assembly note before → is_name name (name_ended note) ≡ true → is_told name_ended name before ≡ false
    by_note (Done other time value) law now = subst (λ one. is_told name_ended one before ≡ false) (sym (one_name name other now)) law.1
    by_note (Back other reason) law now = subst (λ one. is_told name_ended one before ≡ false) (sym (one_name name other now)) law.1
    by_note (Returned other reason) law now = subst (λ one. is_told name_ended one before ≡ false) (sym (one_name name other now)) law.1
    by_note _ law now = cc

-- each note that answers a command is the first that does
answers_new : {T : Type 0} (assembly : Assembly T) (name : JobId) (journal : Journal T) → EachNote (OutcomesRight assembly) journal →
    EachNote (λ note before. is_name name (name_answered note) ≡ true → is_told name_answered name before ≡ false) journal
answers_new assembly name [] notes = tt
answers_new {T} assembly name (note ∷ before) notes = (by_note note notes.0, answers_new assembly name before notes.1)
  where
    by_note : (note : Note T) → OutcomesRight assembly note before → is_name name (name_answered note) ≡ true → is_told name_answered name before ≡ false
    by_note (Answered other answer) law now = subst (λ one. is_told name_answered one before ≡ false) (sym (one_name name other now)) law.1
    by_note _ law now = cc

-- so a drained core has ended all, each once
pub drained_ends_all : {T : Type 0} (assembly : Assembly T) → IsSound assembly → (core : ℕ) → core < assembly.cores →
    IsDrained assembly.cores (journal_of core assembly) → EachEndedOnce assembly core
drained_ends_all assembly sound core within drained =
    let notes = sound.outcomes.notes core (omega arith) in
    let ended = sound.outcomes.all_ended core within drained in
    record {
      jobs = λ name to accepted. once name_ended name (journal_of core assembly) (ends_new assembly name _ notes) (ended.jobs name to accepted);
      commands = λ name to accepted. once name_answered name (journal_of core assembly) (answers_new assembly name _ notes) (ended.commands name to accepted);
    }
