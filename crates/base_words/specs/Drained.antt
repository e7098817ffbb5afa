-- What a drained core has done with all that was accepted for it.
use Rattle.std.specs.Prelude.{◌≡◌, ℕ, ◌+◌, ◌<◌, Option, [], ◌∷◌}
use Rattle.base_words.specs.declared.names.JobId.{JobId}
use Rattle.base_words.specs.declared.note.Note.{Note}
use Rattle.base_words.specs.Assembly.{Assembly, journal_of, IsAcceptedJob, IsAcceptedCommand}
use Rattle.base_words.specs.Clauses.{name_answered}
use Rattle.base_words.specs.Closing.{IsDrained}
use Rattle.base_words.specs.Filters.{name_ended}
use Rattle.base_words.specs.Journal.{Journal}
use Rattle.base_words.specs.Names.{is_name}
use Rattle.base_words.specs.Sound.{IsSound}
use Rattle.base_words.specs.Work.{number_if}

-- how many notes tell this name
abbrev pub times_told : {T : Type 0} → (Note T → Option JobId) → JobId → Journal T → ℕ
times_told says name [] = 0
times_told says name (note ∷ before) = times_told says name before + number_if (is_name name (says note))

-- each accepted job has exactly one Done, Back or Returned note, and each accepted command exactly one Answered note
pub record EachEndedOnce {T : Type 0} (assembly : Assembly T) (core : ℕ) : Type 0 where
  pub jobs : (name : JobId) → name.to ≡ core → IsAcceptedJob name assembly → times_told name_ended name (journal_of core assembly) ≡ 1
  pub commands : (name : JobId) → name.to ≡ core → IsAcceptedCommand name assembly → times_told name_answered name (journal_of core assembly) ≡ 1

-- in a sound assembly a drained core has ended all that was accepted for it, each once
abbrev pub DrainedEndsAll : Type 0
DrainedEndsAll =
    (assembly : Assembly ℕ) → IsSound assembly → (core : ℕ) → core < assembly.cores → IsDrained assembly.cores (journal_of core assembly) →
    EachEndedOnce assembly core
